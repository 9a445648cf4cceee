use Rattle.std.proofs.Common.{sym, ◌∙◌}
use Rattle.acpi_space.proofs.WalkSteps.{entered}
use Rattle.acpi_space.proofs.walk.advance.Goals as goal

pub returns-in-Enter : goal.returns-in-Enter
returns-in-Enter c =
    sym c.loop-step.invariant
    ∙ entered c.loop-step.path c.push.new.self c.loop-step.steps.items c.pop.new.self.items c.push-in-Enter.new.self.items c.in-Some.step c.in-Enter.seg c.in-Enter.number
    c.in-Some.ensures.items c.in-Enter.is c.in_ok-push-in-Enter.ensures.ok c.in_ok-push-in-Enter-2.ensures.items
