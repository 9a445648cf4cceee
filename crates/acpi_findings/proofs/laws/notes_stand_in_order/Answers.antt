use Rattle.acpi_findings.proofs.NotesOrder.{notes_in_order}
use Rattle.acpi_findings.proofs.laws.notes_stand_in_order.Goals as goal

pub returns : goal.returns
returns c = notes_in_order
