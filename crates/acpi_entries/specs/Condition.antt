-- The condition of an entry, as a list of literals (ACPI 6.5, 5.3, 19.6 and 20.2.5).
use Rattle.std.specs.Prelude.{◌==◌, ℕ, Bool, cond, List, [], ◌∷◌, ◌++◌, map, drop, Option, Some, None}
use Rattle.std.specs.Option.{option_and_then}
use Rattle.std.specs.List.{flat_map, find}
use Rattle.acpi_name.specs.Names.{NameParts}
use Rattle.acpi_name.specs.Paths.{parent_of}
use Rattle.acpi_tree.specs.Terms.{TermTree}
use Rattle.acpi_outline.specs.Nodes.{NodeTree, holds, if_so, while_so}
use Rattle.acpi_conditions.specs.Entries.{Path, Turn, then_branch, else_branch, in_round, within, past, Entry}
use Rattle.acpi_ranges.specs.Lookup.{Found, node_found, element_found}
use Rattle.acpi_ranges.specs.Sites.{site_of}
use Rattle.acpi_ranges.specs.EntryParts.{part_in}
use Rattle.acpi_survey.specs.Predefined.{predefined_count}
use Rattle.acpi_ranges.specs.declared.sites.Site.{Site}
use Rattle.acpi_survey.specs.declared.machine_survey.SurveyedTable.{SurveyedTable}

-- One thing that has to be so: an If took its first branch, or it didn't; a While went into its body; by their
-- predicates, which may be lost. A stop wasn't come to; a scope stands at a path; nothing stands there; a name is
-- found.
pub data LiteralParts : Type 0 where
  if_taken : Option TermTree → LiteralParts
  if_missed : Option TermTree → LiteralParts
  while_taken : Option TermTree → LiteralParts
  stop_missed : LiteralParts
  has : Path → LiteralParts
  free : Path → LiteralParts
  needs : NameParts → LiteralParts

-- a literal, and where the If, the While, the stop or the term that asks stands
pub record PlacedParts : Type 0 where
  pub site : Site
  pub literal : LiteralParts

abbrev pub literal_at : ℕ → LiteralParts → PlacedParts
literal_at place l = record { site = site_of place; literal = l }

-- ---- what a term asks

abbrev pub asked_if : Bool → ℕ → LiteralParts → List PlacedParts
asked_if b place l = cond b (literal_at place l ∷ []) []

abbrev pub asked : Entry → List PlacedParts
asked e = asked_if e.asks.has e.term.place (has (parent_of e.path))
    ++ asked_if e.asks.no e.term.place (free e.path)
    ++ map (λ n. literal_at e.term.place (needs n)) e.asks.needs

-- the entry of a table, and the target of a Scope that was entered, at a place
abbrev pub entry_at : List Entry → ℕ → Option Entry
entry_at es place = find (λ e. e.term.place == place) (drop predefined_count es)

abbrev pub asked_by : Option Entry → List PlacedParts
asked_by None = []
asked_by (Some e) = asked e

abbrev pub asked_within : ℕ → Option (ℕ × Path) → Option Entry → List PlacedParts
asked_within place None e = asked_by e
asked_within place (Some o) e = literal_at place (has o.1) ∷ []

-- ---- turns

-- the predicate of an If or a While
abbrev pub node_predicate : NodeTree → Option TermTree
node_predicate (holds (if_so v) ns) = Some v
node_predicate (holds (while_so v) ns) = Some v
node_predicate _ = None

abbrev pub predicate_of : Found → Option TermTree
predicate_of (node_found to n) = node_predicate n
predicate_of (element_found to f offset e) = None

abbrev pub predicate_at : List SurveyedTable → ℕ → Option TermTree
predicate_at ts place = option_and_then predicate_of (part_in ts place)

-- what a turn of control says, by the tables, the Scopes that were entered, and the entries
abbrev pub turn_literals : List SurveyedTable → List (ℕ × Path) → List Entry → Turn
    → List PlacedParts
turn_literals ts opened es (then_branch place) =
    literal_at place (if_taken (predicate_at ts place)) ∷ []
turn_literals ts opened es (else_branch place) =
    literal_at place (if_missed (predicate_at ts place)) ∷ []
turn_literals ts opened es (in_round place) =
    literal_at place (while_taken (predicate_at ts place)) ∷ []
turn_literals ts opened es (within place) =
    asked_within place (find (λ o. o.0 == place) opened) (entry_at es place)
turn_literals ts opened es (past place) = literal_at place stop_missed ∷ []

-- for each turn on the way to the entry what it says, and then what the entry asks
abbrev pub condition : List SurveyedTable → List (ℕ × Path) → List Entry → Entry → List PlacedParts
condition ts opened es e = flat_map (turn_literals ts opened es) e.way ++ asked e
