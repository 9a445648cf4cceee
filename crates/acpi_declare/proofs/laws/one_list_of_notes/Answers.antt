use Rattle.acpi_declare.proofs.Refusals.{one_list_of_notes}
use Rattle.acpi_declare.proofs.laws.one_list_of_notes.Goals as goal

pub returns : goal.returns
returns c = one_list_of_notes
