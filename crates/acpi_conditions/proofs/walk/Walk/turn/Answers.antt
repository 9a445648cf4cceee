use Rattle.std.proofs.Common.{ap, ◌∙◌}
use Rattle.acpi_conditions.specs.Walk.{Walk}
use Rattle.acpi_conditions.specs.Turns.{turn_of}
use Rattle.acpi_conditions.specs.steps.Moves.{with_turn}
use Rattle.acpi_conditions.proofs.KeptWalks.{turn_same}
use Rattle.acpi_conditions.proofs.walk.Walk.turn.Goals as goal

pub returns : goal.returns
returns c =
    turn_same c.self.inside c.self.invariant c.turn.new.self c.in_ok-self-inside.field-0 (turn_of c.args.turn) c.in_ok-self-inside.ensures.ok c.in_ok-self-inside.ensures.number
    ∙ ap (λ (w : Walk). with_turn (turn_of c.args.turn) w) c.self.view_is
