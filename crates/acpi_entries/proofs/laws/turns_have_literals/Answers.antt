use Rattle.acpi_entries.proofs.TurnLiterals.{turns_have_literals}
use Rattle.acpi_entries.proofs.laws.turns_have_literals.Goals as goal

pub returns : goal.returns
returns c = turns_have_literals
