-- The ways by which control comes to the nodes of a table, as the nodes alone say (ACPI 6.5, 19.6 and 20.2.5). A way has
-- each turn of the way of an entry that stands there; what it has more, as `within` a Scope that asks nothing or `past`
-- a stop of which no entry knows, are turns of no entry, so they decide nothing.
use Rattle.std.specs.Prelude.{ℕ, cond, List, [], ◌∷◌, ◌++◌, map, Option, Some, None}
use Rattle.std.specs.Option.{option_map, option_to_list}
use Rattle.std.specs.List.{filter}
use Rattle.acpi_tree.specs.declared.op.Op.{Op}
use Rattle.acpi_tree.specs.declared.op.Op.TheVariants as ops
use Rattle.acpi_tree.specs.Terms.{apply}
use Rattle.acpi_outline.specs.Nodes.{PlainTree, term, FixedTree, if_so, otherwise, while_so, NodeTree, plain, holds, NodeTrees, no_more, lost, node}
use Rattle.acpi_conditions.specs.Nodes.{Place, Stop, returns, breaks, continues}
use Rattle.acpi_conditions.specs.Entries.{Path, Turn, then_branch, else_branch, in_round, within, past, StopAt}
use Rattle.acpi_conditions.specs.Survey.{leaves_table}
use Rattle.acpi_survey.specs.Survey.{place_in}
use Rattle.acpi_ranges.specs.Ranges.{Entered, scope_inside, is_if}

-- ---- stops

-- Return, Break and Continue (19.6)
abbrev pub operator_stop : Op → Option Stop
operator_stop ops.Return = Some returns
operator_stop ops.Break = Some breaks
operator_stop ops.Continue = Some continues
operator_stop _ = None

abbrev pub plain_stop : PlainTree → Option Stop
plain_stop (term (apply op vs)) = operator_stop op
plain_stop _ = None

abbrev pub stop_at : Place → Stop → StopAt
stop_at place kind = record { place = place; kind = kind }

-- behind a While only the Returns in it
abbrev pub stops_behind : FixedTree → List StopAt → List StopAt
stops_behind (while_so v) ss = filter (λ s. leaves_table s.kind) ss
stops_behind _ ss = ss

-- the stops that control has passed behind a node, and behind a list, of the table of that number
abbrev mutual
  pub stops_of : (table place : ℕ) → NodeTree → List StopAt
  stops_of table place (plain p) =
      option_to_list (option_map (stop_at (place_in table place)) (plain_stop p))
  stops_of table place (holds f ns) = stops_behind f (stops_in table ns)
  stops_of table place _ = []

  pub stops_in : (table : ℕ) → NodeTrees → List StopAt
  stops_in table no_more = []
  stops_in table (lost place why) = []
  stops_in table (node place n ns) = stops_of table place n ++ stops_in table ns

abbrev pub past_stops : List Turn → List StopAt → List Turn
past_stops way ss = way ++ map (λ s. past s.place) ss

-- ---- where a node stands

-- an If, and the way by which control comes to it
pub record IfBefore : Type 0 where
  pub place : Place
  pub way : List Turn

-- the scope, the way by which control comes there, and the If directly before it in its list
pub record Position : Type 0 where
  pub scope : Path
  pub way : List Turn
  pub before : Option IfBefore

-- the turn into a package that stands there
abbrev pub turn_into : Place → FixedTree → Turn
turn_into place (if_so v) = then_branch place
turn_into place otherwise = else_branch place
turn_into place (while_so v) = in_round place
turn_into place _ = within place

-- An Else belongs to the If before it: control comes to it by the way to that If, and turns there. Without an If it is
-- as behind one whose test isn't known.
abbrev pub way_into_else : Place → List Turn → Option IfBefore → List Turn
way_into_else place way None = way ++ else_branch place ∷ []
way_into_else place way (Some i) = i.way ++ else_branch i.place ∷ []

-- the way into a package that stands there
abbrev pub way_inside : Place → FixedTree → Position → List Turn
way_inside place otherwise at = way_into_else place at.way at.before
way_inside place f at = at.way ++ turn_into place f ∷ []

-- where the first node inside stands
abbrev pub position_inside : Entered → (table place : ℕ) → FixedTree → Position → Position
position_inside entered table place f at =
    record {
      scope = scope_inside entered place f at.scope;
      way = way_inside (place_in table place) f at;
      before = None;
    }

-- where the node behind stands
abbrev pub position_behind : (table place : ℕ) → NodeTree → Position → Position
position_behind table place n at =
    record at {
      way = past_stops at.way (stops_of table place n);
      before = cond (is_if n)
          (Some (record { place = place_in table place; way = at.way })) None;
    }

-- ---- all nodes

-- a node, its place in the code, the scope in which it stands, and the way by which control comes to it
pub record NodeAt : Type 0 where
  pub place : ℕ
  pub scope : Path
  pub way : List Turn
  pub node : NodeTree

-- the nodes inside a node, and those of a list, in byte order
abbrev mutual
  pub nodes_inside : Entered → (table place : ℕ) → Position → NodeTree → List NodeAt
  nodes_inside entered table place at (holds f ns) =
      nodes_from entered table (position_inside entered table place f at) ns
  nodes_inside entered table place at _ = []

  pub nodes_from : Entered → (table : ℕ) → Position → NodeTrees → List NodeAt
  nodes_from entered table at no_more = []
  nodes_from entered table at (lost place why) = []
  nodes_from entered table at (node place n ns) =
      record { place = place; scope = at.scope; way = at.way; node = n }
      ∷ nodes_inside entered table place at n
      ++ nodes_from entered table (position_behind table place n at) ns

-- where the first node of a table stands
abbrev pub at_front : Position
at_front = record { scope = []; way = []; before = None }
