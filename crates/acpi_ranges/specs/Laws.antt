-- What stands in tables for their entries, and for the turns of the ways to these (ACPI 6.5, 5.3, 19.6 and 20.2.5).
use Rattle.std.specs.Prelude.{◌≡◌, ◌⊎◌, ℕ, false, List, [], drop, Some, ⊤}
use Rattle.std.specs.List.{AllByRecursion}
use Rattle.acpi_name.specs.Names.{NameParts}
use Rattle.acpi_tree.specs.Terms.{TermTree}
use Rattle.acpi_space.specs.Laws.{Among}
use Rattle.acpi_outline.specs.declared.form.PackedForm.TheVariants as forms
use Rattle.acpi_outline.specs.Nodes.{FixedTree, scope, if_so, while_so, NodeTree, plain, holds, closed, package_lost, name_lost, NodeTrees}
use Rattle.acpi_conditions.specs.Nodes.{Place, Term, Stop, Nodes, no_nodes, declares, opens, branch, stop}
use Rattle.acpi_conditions.specs.Entries.{Path, Turn, then_branch, else_branch, in_round, within, past, asks_nothing, Entry, Refusal}
use Rattle.acpi_survey.specs.Nodes.{term_at, plain_at, package_at, element_at, operands_of}
use Rattle.acpi_survey.specs.Reading.{Reading}
use Rattle.acpi_survey.specs.Predefined.{first_reading, predefined_count}
use Rattle.acpi_survey.specs.Surveys.{AreTables}
use Rattle.acpi_survey.specs.declared.machine_survey.SurveyedTable.{SurveyedTable}
use Rattle.acpi_ranges.specs.Lookup.{Found, node_found, element_found}
use Rattle.acpi_ranges.specs.EntryParts.{part_in}

-- what a part does by itself, whatever stands in it
abbrev pub node_does : Place → NodeTree → Nodes
node_does place (plain p) = plain_at place p no_nodes
node_does place (holds f ns) = package_at place f no_nodes no_nodes
node_does place (closed f content) = package_at place f no_nodes no_nodes
node_does place (package_lost forms.If why) = branch place no_nodes no_nodes no_nodes
node_does place (name_lost n form why) = declares (term_at place n false []) no_nodes no_nodes
node_does place _ = no_nodes

abbrev pub part_does : Place → Found → Nodes
part_does place (node_found to n) = node_does place n
part_does place (element_found to f offset e) = element_at place (operands_of f) e no_nodes

-- at the place of the tables stands a part that does this
abbrev pub Does : List SurveyedTable → Place → Nodes → Type 0
Does ts place ns =
    (part : Found) × (part_in ts place ≡ Some part) × (part_does place part ≡ ns)

-- at the place stands a package with these fixed arguments, and what stands in it is read
abbrev pub Holds : List SurveyedTable → Place → FixedTree → Type 0
Holds ts place f =
    (to : ℕ) × (ns : NodeTrees) × (part_in ts place ≡ Some (node_found to (holds f ns)))

-- the term of one of these entries stands at the place, and asks something
abbrev pub AsksAt : List Entry → Place → Type 0
AsksAt es place =
    (e : Entry) × Among es e × (e.term.place ≡ place) × (asks_nothing e.asks ≡ false)

-- The turn is one of these tables with these entries: into the first branch of an If, or past it, where an Else without
-- an If counts as one; into a While; into a term that asks something, or a Scope; past a stop.
abbrev pub IsTurnIn : List SurveyedTable → List Entry → Turn → Type 0
IsTurnIn ts es (then_branch place) = (v : TermTree) × Holds ts place (if_so v)
IsTurnIn ts es (else_branch place) = Does ts place (branch place no_nodes no_nodes no_nodes)
IsTurnIn ts es (in_round place) = (v : TermTree) × Holds ts place (while_so v)
IsTurnIn ts es (within place) = AsksAt es place ⊎ ((n : NameParts) × Holds ts place (scope n))
IsTurnIn ts es (past place) = (kind : Stop) × Does ts place (stop place kind no_nodes)

-- the entry's term is what a part of the tables declares, and the turns of its way are of these tables
pub record IsEntryIn (ts : List SurveyedTable) (es : List Entry) (e : Entry) : Type 0 where
  pub part : Does ts e.term.place (declares e.term no_nodes no_nodes)
  pub turns : AllByRecursion (IsTurnIn ts es) e.way

-- what the tables declare, in order: the entries behind the predefined ones
abbrev pub entries_of : Reading → List Entry
entries_of last = drop predefined_count last.walk.entries

-- So is each of them ..
abbrev pub EntriesHaveParts : Type 0
EntriesHaveParts =
    (depth : ℕ) (last : Reading) (ts : List SurveyedTable) → AreTables depth 0 first_reading ts last
    → (e : Entry) → Among (entries_of last) e → IsEntryIn ts (entries_of last) e

-- ---- from parts to entries

-- an entry has the term, or it is refused
abbrev pub HasEntryOrRefusal : Reading → Term → Type 0
HasEntryOrRefusal last t = ((e : Entry) × Among (entries_of last) e × (e.term ≡ t))
    ⊎ ((r : Refusal) × Among last.walk.refused r × (r.place ≡ t.place))

-- the Scope was entered, or is refused
abbrev pub IsEnteredOrRefused : Reading → Place → Type 0
IsEnteredOrRefused last place = ((p : Path) × Among last.opened (place, p))
    ⊎ ((r : Refusal) × Among last.walk.refused r × (r.place ≡ place))

abbrev pub IsRecorded : Reading → Nodes → Type 0
IsRecorded last (declares t inside rest) = HasEntryOrRefusal last t
IsRecorded last (opens place n inside rest) = IsEnteredOrRefused last place
IsRecorded last _ = ⊤

-- .. and what each part of the tables does is recorded so.
abbrev pub PartsAreRecorded : Type 0
PartsAreRecorded =
    (depth : ℕ) (last : Reading) (ts : List SurveyedTable) → AreTables depth 0 first_reading ts last
    → (place : Place) (part : Found) → part_in ts place ≡ Some part
    → IsRecorded last (part_does place part)

-- a Scope in which something is read was entered
abbrev pub ScopesAreEntered : Type 0
ScopesAreEntered =
    (depth : ℕ) (last : Reading) (ts : List SurveyedTable) → AreTables depth 0 first_reading ts last
    → (place : Place) (n : NameParts) → Holds ts place (scope n)
    → (p : Path) × Among last.opened (place, p)
