-- How the code goes through the nodes of a table.
use Rattle.std.specs.Prelude.{ℕ, Bool, List, map}
use Rattle.std.specs.List.{flat_map}
use Rattle.acpi_outline.specs.Nodes.{NodeTree, NodeTrees}
use Rattle.acpi_outline.specs.View.{node_view}
use Rattle.acpi_conditions.specs.Turns.{turn_of}
use Rattle.acpi_conditions.specs.Views.{WayView}
use Rattle.acpi_conditions.specs.declared.turns.Turn.{Turn as TurnForm}
use Rattle.acpi_survey.specs.declared.machine_survey.Survey.{Survey}
use Rattle.acpi_ranges.specs.declared.index.PlaceIndex.{PlaceIndex}
use Rattle.acpi_ranges.specs.steps.Indexes.{index_entered, index_refusals}
use Rattle.acpi_module_uses.specs.Ways.{Position, NodeAt, nodes_from, nodes_inside}
use Rattle.acpi_module_uses.specs.ModuleNames.{ModuleNameParts, Setting, names_at}
use Rattle.acpi_module_uses.specs.declared.names.Lookup.{Lookup}
use Rattle.acpi_module_uses.specs.declared.names.Here.{Here}

-- by an index of what is entered and refused
abbrev pub setting_in : Survey → PlaceIndex → List Bool → (table : ℕ) → Setting
setting_in s x callables table =
    record {
      table = table;
      entries = s.reading.walk.entries;
      sources = s.reading.sources;
      entered = index_entered x table;
      refusals = index_refusals x;
      callables = callables;
    }

abbrev pub setting_by : Lookup → Setting
setting_by l = setting_in l.survey.now l.index.now l.callables.now l.table

abbrev pub here_view : Here → NodeAt
here_view h =
    record {
      place = h.place;
      scope = h.scope.now;
      way = map turn_of h.turns.now;
      node = node_view h.node.now;
    }

-- all entries, where control came by these turns
abbrev pub view_along : Survey → List TurnForm → WayView
view_along s turns = record { entries = s.reading.walk.entries; way = map turn_of turns }

-- the names in nodes of a list that stand there, and inside a node
abbrev pub names_from : Setting → Position → NodeTrees → List ModuleNameParts
names_from s at ns = flat_map (names_at s) (nodes_from s.entered s.table at ns)

abbrev pub names_inside : Setting → (place : ℕ) → Position → NodeTree → List ModuleNameParts
names_inside s place at n = flat_map (names_at s) (nodes_inside s.entered s.table place at n)
