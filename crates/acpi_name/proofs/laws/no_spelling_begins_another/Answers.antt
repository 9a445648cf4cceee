use Rattle.acpi_name.proofs.NameAgain.{one_spelling}
use Rattle.acpi_name.proofs.laws.no_spelling_begins_another.Goals as goal

pub returns : goal.returns
returns c = one_spelling
