use Rattle.acpi_name_checks.proofs.Standing.{keeps_some}
use Rattle.acpi_name_checks.proofs.guards.Guards.keep.Goals as goal

pub invariant_of-self : goal.invariant_of-self
invariant_of-self c = record { stands = keeps_some _ _ _ _ _ _ c.args.self.now.stands c.args.count _ c.requires c.truncate.ensures.items }
