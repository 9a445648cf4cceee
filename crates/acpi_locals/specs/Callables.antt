-- Names that mean a method, through Aliases or not (ACPI 6.5, 5.3, 19.6.4 and 20.2.5).
use Rattle.std.specs.Prelude.{◌↔◌, ◌&&◌, ℕ, Bool, true, false, cond, nat_lt, IsTrue, List, [], ◌∷◌, length, Option, Some, None, slice_get, slice_index_or}
use Rattle.std.specs.List.{list_any}
use Rattle.acpi_space.specs.Laws.{Among}
use Rattle.acpi_tree.specs.Objects.{ObjectTree, method_object}
use Rattle.acpi_conditions.specs.Entries.{Path, Entry}
use Rattle.acpi_conditions.specs.Met.{numbers_beyond}
use Rattle.acpi_kinds.specs.Objects.{ObjectParts, constant, alias}
use Rattle.acpi_objects.specs.Declaring.{object_of}
use Rattle.acpi_ranges.specs.EntryParts.{part_declaring}
use Rattle.acpi_entries.specs.EntryLinks.{LinkParts, links_of_part}
use Rattle.acpi_survey.specs.declared.machine_survey.Survey.{Survey}
use Rattle.acpi_locals.specs.BodyNames.{BodyNameParts, last_path}
use Rattle.acpi_locals.specs.Leading.{LeadsTo}

-- ---- the entry of a number

abbrev pub entry_object : Survey → ℕ → ObjectParts
entry_object s n = object_of (part_declaring s.tables.items s.reading.walk.entries n) n

abbrev pub entry_links : Survey → ℕ → List LinkParts
entry_links s n =
    links_of_part s.reading.walk.entries s.reading.sources (slice_get s.reading.walk.entries n)
    (part_declaring s.tables.items s.reading.walk.entries n)

abbrev pub constant_is_method : ObjectTree → Bool
constant_is_method (method_object flags) = true
constant_is_method _ = false

abbrev pub is_method : ObjectParts → Bool
is_method (constant o) = constant_is_method o
is_method _ = false

abbrev pub declares_method : Survey → ℕ → Bool
declares_method s n =
    nat_lt n (length s.reading.walk.entries) && is_method (entry_object s n)

-- ---- Aliases

abbrev pub is_alias : ObjectParts → Bool
is_alias alias = true
is_alias _ = false

abbrev pub last_linked : List LinkParts → Option Path
last_linked [] = None
last_linked (l ∷ ls) = last_path l.paths

-- the last path at which the source of the Alias may be found
abbrev pub alias_path : Survey → ℕ → Option Path
alias_path s n = cond (is_alias (entry_object s n)) (last_linked (entry_links s n)) None

-- of all entries the numbers of those at a path that control may have met which came to an entry
abbrev pub numbers_seen : List Entry → Option Entry → Option Path → List ℕ
numbers_seen es (Some e) (Some p) = numbers_beyond e.way p 0 es
numbers_seen es _ _ = []

-- what the Alias may name: the entries at its last path that are seen from it; of another entry none
abbrev pub alias_entries : Survey → ℕ → List ℕ
alias_entries s n = numbers_seen s.reading.walk.entries (slice_get s.reading.walk.entries n)
    (alias_path s n)

-- The entry is a method; or it is an Alias, and leads to one, through others or not.
abbrev pub MeansMethod : Survey → ℕ → Type 0
MeansMethod s n = LeadsTo (alias_entries s) (declares_method s) n

-- these marks, by the numbers of entries, say which mean a method
abbrev pub AreCallables : Survey → List Bool → Type 0
AreCallables s marks =
    (n : ℕ) → IsTrue (slice_index_or marks n false) ↔ MeansMethod s n

-- by these marks one of the entries of these numbers means a method
abbrev pub any_is_callable : List Bool → List ℕ → Bool
any_is_callable marks ns = list_any (λ n. slice_index_or marks n false) ns

-- ---- names in bodies

-- the entries that a name in the body of a method may mean at the last path at which it may be found: none where a line
-- before declares that path
abbrev pub named_entries : Survey → BodyNameParts → List ℕ
named_entries s n = cond n.is_local [] (numbers_seen s.reading.walk.entries
    (slice_get s.reading.walk.entries n.method) (last_path n.link.paths))

-- one of them means a method
abbrev pub NamesMethod : Survey → BodyNameParts → Type 0
NamesMethod s n = (m : ℕ) × Among (named_entries s n) m × MeansMethod s m
