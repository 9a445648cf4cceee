use Rattle.acpi_conditions.proofs.KeptWalks.{no_if}
use Rattle.acpi_conditions.proofs.walk.Walk.pass.Goals as goal

pub invariant_of-self : goal.invariant_of-self
invariant_of-self c = no_if c.self.inside c.self.invariant
