-- The uses of names (ACPI 6.5, 5.3 and 20.2.5).
use Rattle.std.specs.Prelude.{◌≡◌, ◌+◌, ℕ, zero, suc, Bool, true, false, List, [], ◌∷◌, ◌++◌, length, map, Option, Some, None, slice_get, unwrap_or}
use Rattle.std.specs.List.{flat_map}
use Rattle.std.specs.Option.{option_map}
use Rattle.acpi_tree.specs.Terms.{TermTrees}
use Rattle.acpi_tree.specs.TermView.{terms_tree}
use Rattle.acpi_conditions.specs.Entries.{Path, Entry}
use Rattle.acpi_survey.specs.declared.machine_survey.Survey.{Survey}
use Rattle.acpi_entries.specs.EntryLinks.{LinkParts}
use Rattle.acpi_entries.specs.declared.body.BodyReading.{BodyReading}
use Rattle.acpi_entries.specs.declared.body.BodyReading.TheVariants.{Terms, Opaque}
use Rattle.acpi_entries.specs.declared.body.MethodBody.{MethodBody}
use Rattle.acpi_locals.specs.BodyNames.{BodyNameParts, names_of_body}
use Rattle.acpi_locals.specs.Callables.{AreCallables, any_is_callable, named_entries}
use Rattle.acpi_module_uses.specs.ModuleNames.{ModuleNameParts, names_of_table}
use Rattle.acpi_use_list.specs.UseRoles.{use_role}
use Rattle.acpi_use_list.specs.declared.roles.UseRole.{UseRole}
use Rattle.acpi_use_list.specs.declared.uses.Use.{Use}
use Rattle.acpi_use_list.specs.declared.uses.UseSite.{UseSite}
use Rattle.acpi_use_list.specs.declared.uses.UseSite.TheVariants.{Node, Line}

-- ---- a name

-- it means one path and no other
abbrev pub is_sure_at : List Path → (is_certain : Bool) → Bool
is_sure_at [] is_certain = true
is_sure_at (p ∷ []) is_certain = is_certain
is_sure_at (p ∷ q ∷ ps) is_certain = false

abbrev pub is_sure : LinkParts → Bool
is_sure l = is_sure_at l.paths l.is_certain

abbrev pub use_at : LinkParts → UseRole → UseSite → Option Path → Use
use_at l role site p =
    record { path = p; name = l.name; role = role; is_sure = is_sure l; site = site }

-- the paths, or none
abbrev pub some_or_none : List Path → List (Option Path)
some_or_none [] = None ∷ []
some_or_none (p ∷ ps) = map Some (p ∷ ps)

-- one for each path at which it may be found
abbrev pub uses_of_link : LinkParts → UseRole → UseSite → List Use
uses_of_link l role site = map (use_at l role site) (some_or_none l.paths)

-- ---- at module level

abbrev pub uses_of_module_name : ModuleNameParts → List Use
uses_of_module_name n = uses_of_link n.link (use_role n.is_method n.role) (Node n.place)

-- in the nodes of the table of that number
abbrev pub uses_of_table : Survey → (marks : List Bool) → (table : ℕ) → List Use
uses_of_table s marks table = flat_map uses_of_module_name (names_of_table s marks table)

-- of the tables below a number
abbrev pub uses_of_tables : Survey → (marks : List Bool) → (count : ℕ) → List Use
uses_of_tables s marks zero = []
uses_of_tables s marks (suc table) = uses_of_tables s marks table ++ uses_of_table s marks table

-- ---- in bodies

-- a line of the body of the method of that number
abbrev pub method_site : Survey → (method line : ℕ) → UseSite
method_site s method line = Line method
    (unwrap_or (option_map (λ (e : Entry). e.term.place) (slice_get s.reading.walk.entries method)) 0)
    line

-- by marks that say which entries mean a method
abbrev pub uses_of_name : Survey → (marks : List Bool) → BodyNameParts → List Use
uses_of_name s marks n =
    uses_of_link n.link (use_role (any_is_callable marks (named_entries s n)) n.role)
    (method_site s n.method n.line)

-- in the body of the entry of that number
abbrev pub uses_of_terms : Survey → (marks : List Bool) → (number : ℕ) → TermTrees → List Use
uses_of_terms s marks number ts =
    flat_map (uses_of_name s marks) (names_of_body s.reading.walk.entries number ts)

abbrev pub uses_of_reading : Survey → (marks : List Bool) → (number : ℕ) → BodyReading → List Use
uses_of_reading s marks number (Terms v) = uses_of_terms s marks number (terms_tree v.items)
uses_of_reading s marks number (Opaque reason place name) = []

abbrev pub uses_of_body : Survey → (marks : List Bool) → (number : ℕ) → Option MethodBody → List Use
uses_of_body s marks number None = []
uses_of_body s marks number (Some b) = uses_of_reading s marks number b.reading

-- of the entries from that number on
abbrev pub uses_of_bodies : Survey → (marks : List Bool) → (number : ℕ) → List (Option MethodBody)
    → List Use
uses_of_bodies s marks number [] = []
uses_of_bodies s marks number (b ∷ bs) =
    uses_of_body s marks number b ++ uses_of_bodies s marks (number + 1) bs

-- ---- all

-- those at module level, and then those in bodies; the marks say which entries mean a method
pub record AreUses (s : Survey) (bodies : List (Option MethodBody)) (uses : List Use) : Type 0 where
  pub marks : List Bool
  pub callables : AreCallables s marks
  pub is : uses ≡ uses_of_tables s marks (length s.tables.items) ++ uses_of_bodies s marks 0 bodies
