-- Turns, ways and stops as the code keeps them (ACPI 6.5, 19.6 and 20.2.5).
use Rattle.std.specs.Prelude.{List, [], slice_index_or}
use Rattle.acpi_conditions.specs.Nodes.{Stop, returns, breaks, continues}
use Rattle.acpi_conditions.specs.Entries.{Turn, then_branch, else_branch, in_round, within, past}
use Rattle.acpi_conditions.specs.declared.turns.Turn.{Turn as TurnForm}
use Rattle.acpi_conditions.specs.declared.turns.Turn.TheVariants.{Then, Else, Round, Within, Past}
use Rattle.acpi_conditions.specs.declared.turns.Way.{Way}
use Rattle.acpi_conditions.specs.declared.stops.Stop.{Stop as StopForm}
use Rattle.acpi_conditions.specs.declared.stops.Stop.TheVariants.{Returns, Breaks, Continues}

abbrev pub turn_of : TurnForm → Turn
turn_of (Then place) = then_branch place
turn_of (Else place) = else_branch place
turn_of (Round place) = in_round place
turn_of (Within place) = within place
turn_of (Past place) = past place

-- the way of this number; the empty one, where none has it
abbrev pub way_of : List (List Turn) → Way → List Turn
way_of ways way = slice_index_or ways way.number []

abbrev pub stop_of : StopForm → Stop
stop_of Returns = returns
stop_of Breaks = breaks
stop_of Continues = continues
