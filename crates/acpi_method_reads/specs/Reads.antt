-- Methods whose values calls read (ACPI 6.5, 5.3, 19.6.83 and 20.2.5.3).
use Rattle.std.specs.Prelude.{◌&&◌, ℕ, Bool, true, false, not, cond, List, [], ◌∷◌, Option, Some, None}
use Rattle.std.specs.List.{flat_map, list_any}
use Rattle.std.specs.Option.{option_and_then, option_map, option_to_list}
use Rattle.acpi_tree.specs.declared.op.Op.TheVariants as ops
use Rattle.acpi_tree.specs.Terms.{TermTree, TermTrees, apply}
use Rattle.acpi_conditions.specs.Entries.{Path, Entry}
use Rattle.acpi_survey.specs.Surveys.{numbers_at}
use Rattle.acpi_survey.specs.declared.machine_survey.Survey.{Survey}
use Rattle.acpi_entries.specs.EntryLinks.{LinkParts}
use Rattle.acpi_uses.specs.Roles.{reads_value}
use Rattle.acpi_uses.specs.Statements.{statements_of}
use Rattle.acpi_locals.specs.BodyNames.{BodyNameParts}
use Rattle.acpi_locals.specs.Callables.{any_is_callable, entry_object, is_method, named_entries}
use Rattle.acpi_module_uses.specs.ModuleNames.{ModuleNameParts, names_of_table}
use Rattle.acpi_method_reads.specs.declared.reads.MethodRead.{MethodRead}

-- ---- the method that a name means alone

abbrev pub only_one : {X : Type 0} → List X → Option X
only_one (x ∷ []) = Some x
only_one _ = None

-- the only path at which it may be found, where that is certain
abbrev pub only_path : LinkParts → Option Path
only_path l = cond l.is_certain (only_one l.paths) None

-- the only entry there, whatever its condition
abbrev pub only_entry : List Entry → LinkParts → Option ℕ
only_entry es l = option_and_then (λ p. only_one (numbers_at p es)) (only_path l)

abbrev pub if_method : Survey → ℕ → Option ℕ
if_method s number = cond (is_method (entry_object s number)) (Some number) None

abbrev pub method_meant : Survey → LinkParts → Option ℕ
method_meant s l = option_and_then (if_method s) (only_entry s.reading.walk.entries l)

-- what a call of it at a place reads
abbrev pub read_at : Survey → (place : ℕ) → LinkParts → List MethodRead
read_at s place l =
    option_to_list (option_map (λ m. record { place = place; method = m }) (method_meant s l))

abbrev pub read_if : Bool → Survey → (place : ℕ) → LinkParts → List MethodRead
read_if reads s place l = cond reads (read_at s place l) []

-- ---- in bodies

-- a name calls a method for its value; the marks say which entries mean a method
abbrev pub reads_by : Survey → (marks : List Bool) → BodyNameParts → Bool
reads_by s marks n =
    not n.is_local && reads_value (any_is_callable marks (named_entries s n)) n.role

abbrev pub reads_of_name : Survey → (marks : List Bool) → BodyNameParts → List MethodRead
reads_of_name s marks n = read_if (reads_by s marks n) s n.line n.link

-- of the names in a body, each at its line
abbrev pub reads_of_names : Survey → (marks : List Bool) → List BodyNameParts → List MethodRead
reads_of_names s marks ns = flat_map (reads_of_name s marks) ns

-- ---- at module level

abbrev pub reads_of_module_name : Survey → ModuleNameParts → List MethodRead
reads_of_module_name s n = read_if (reads_value n.is_method n.role) s n.place n.link

-- of the table of that number, each at the place of its node
abbrev pub reads_of_table : Survey → (marks : List Bool) → (table : ℕ) → List MethodRead
reads_of_table s marks table = flat_map (reads_of_module_name s) (names_of_table s marks table)

-- ---- Returns

-- DefReturn (20.2.5.3)
abbrev pub is_return : TermTree → Bool
is_return (apply ops.Return vs) = true
is_return _ = false

abbrev pub has_return : TermTrees → Bool
has_return ts = list_any is_return (statements_of ts)
