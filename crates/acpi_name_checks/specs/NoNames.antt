-- Names in bodies that are declared nowhere (ACPI 6.5, 5.3).
use Rattle.std.specs.Prelude.{◌&&◌, ℕ, Bool, true, false, not, List, [], filter, map, slice_get, unwrap_or}
use Rattle.std.specs.Option.{option_map}
use Rattle.acpi_name.specs.Names.{NameParts}
use Rattle.acpi_name.specs.NameEqual.{name_eq}
use Rattle.acpi_tree.specs.Terms.{TermTrees}
use Rattle.acpi_conditions.specs.Entries.{Path, Entry, is_empty}
use Rattle.acpi_uses.specs.declared.role.Role.{Role}
use Rattle.acpi_uses.specs.declared.role.Role.TheVariants.{Call, Read, Write, Notify, Wait, Field}
use Rattle.acpi_uses.specs.Guards.{GuardedTree, guarded_of}
use Rattle.acpi_uses.specs.Roles.{resolve}
use Rattle.acpi_locals.specs.BodyNames.{BodyNameParts}
use Rattle.acpi_name_checks.specs.Firsts.{firsts_by}
use Rattle.acpi_name_checks.specs.Guarding.{is_guarded, shown_at}

-- the method's entry, the line, and the name
pub record NoNameParts : Type 0 where
  pub method : ℕ
  pub line : ℕ
  pub name : NameParts

-- an interpreter gives up where a name of this role is declared nowhere
abbrev pub is_needed : Role → Bool
is_needed Call = true
is_needed Read = true
is_needed Write = true
is_needed Notify = true
is_needed Wait = true
is_needed Field = true
is_needed _ = false

-- a name has no candidate and has to be found; what has no candidate means no method
abbrev pub is_unfound : BodyNameParts → Bool
is_unfound n = is_empty n.link.paths && is_needed (resolve false n.role)

-- .. and it isn't guarded at its line, from the method's path
abbrev pub is_lost : Path → List GuardedTree → BodyNameParts → Bool
is_lost s gs n = is_unfound n && not (is_guarded s (shown_at gs n.line) n.link.name)

abbrev pub no_name_of : BodyNameParts → NoNameParts
no_name_of n = record { method = n.method; line = n.line; name = n.link.name }

abbrev pub has_same_name : NoNameParts → NoNameParts → Bool
has_same_name x y = name_eq x.name y.name

-- of those with one name the first
abbrev pub lost_names : Path → List GuardedTree → List BodyNameParts → List NoNameParts
lost_names s gs ns = firsts_by has_same_name (map no_name_of (filter (is_lost s gs) ns))

-- of the body of the method whose entry has that number, in which these names stand
abbrev pub names_nowhere : List Entry → (number : ℕ) → TermTrees → List BodyNameParts
    → List NoNameParts
names_nowhere es number ts ns =
    unwrap_or (option_map (λ e. lost_names e.path (guarded_of [] ts) ns) (slice_get es number)) []
