-- Ways and stops as the code keeps them.
use Rattle.std.specs.Prelude.{List, map, take, Option, Some, None}
use Rattle.acpi_conditions.specs.Entries.{Path, StopAt}
use Rattle.acpi_conditions.specs.Turns.{stop_of, turn_of}
use Rattle.acpi_conditions.specs.declared.stops.StopAt.{StopAt as StopForm}
use Rattle.acpi_conditions.specs.declared.turns.Turn.{Turn as TurnForm}
use Rattle.acpi_conditions.specs.declared.turns.Turn.TheVariants.{Past}
use Rattle.acpi_module_uses.specs.Ways.{IfBefore, Position}
use Rattle.acpi_module_uses.specs.declared.ways.IfBefore.{IfBefore as IfForm}

abbrev pub stop_view : StopForm → StopAt
stop_view s = record { place = s.place; kind = stop_of s.kind }

abbrev pub stop_views : List StopForm → List StopAt
stop_views ss = map stop_view ss

-- the turns past stops
abbrev pub turns_past : List StopForm → List TurnForm
turns_past ss = map (λ s. Past s.place) ss

-- an If to which control comes by the first of the turns, so many
abbrev pub before_view : List TurnForm → Option IfForm → Option IfBefore
before_view turns None = None
before_view turns (Some i) =
    Some (record { place = i.place; way = map turn_of (take i.turns turns) })

abbrev pub position_of : Path → List TurnForm → Option IfForm → Position
position_of s turns before =
    record { scope = s; way = map turn_of turns; before = before_view turns before }
