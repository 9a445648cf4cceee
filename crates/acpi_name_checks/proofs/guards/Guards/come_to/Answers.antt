use Rattle.acpi_name_checks.proofs.Standing.{comes_to_line}
use Rattle.acpi_name_checks.proofs.guards.Guards.come_to.Goals as goal

pub invariant_of-self : goal.invariant_of-self
invariant_of-self c = record { stands = comes_to_line _ _ _ _ _ _ c.args.self.now.stands c.args.statement c.requires }
