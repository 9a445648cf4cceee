use Rattle.std.proofs.Common.{ap, ◌∙◌}
use Rattle.acpi_conditions.specs.Walk.{Walk}
use Rattle.acpi_conditions.specs.steps.Moves.{with_loop}
use Rattle.acpi_conditions.proofs.KeptWalks.{loop_kept, loop_same}
use Rattle.acpi_conditions.proofs.walk.Walk.enter_loop.Goals as goal

pub invariant_of-self : goal.invariant_of-self
invariant_of-self c = loop_kept c.self.inside c.self.invariant c.enter_loop.new.self c.enter_loop.ensures

pub returns : goal.returns
returns c = loop_same c.self.inside c.self.invariant c.enter_loop.new.self c.enter_loop.ensures ∙ ap (λ (w : Walk). with_loop w) c.self.view_is
