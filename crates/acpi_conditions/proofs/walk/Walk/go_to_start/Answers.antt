use Rattle.std.proofs.Common.{ap, ◌∙◌}
use Rattle.acpi_conditions.specs.Walk.{Walk}
use Rattle.acpi_conditions.specs.steps.Moves.{at_start}
use Rattle.acpi_conditions.proofs.WalkPackages.{start_kept, start_same}
use Rattle.acpi_conditions.proofs.walk.Walk.go_to_start.Goals as goal

pub invariant_of-self : goal.invariant_of-self
invariant_of-self c = start_kept c.self.inside c.self.invariant c.come_out.new.self c.come_out.ensures c.clear.new.self c.clear.ensures.items

pub returns : goal.returns
returns c = start_same c.self.inside c.self.invariant c.come_out.new.self c.come_out.ensures c.clear.new.self c.clear.ensures.items ∙ ap (λ (w : Walk). at_start w) c.self.view_is
