use Rattle.acpi_survey.proofs.EntryOrder.{all_tile}
use Rattle.acpi_survey.proofs.entry_laws.tables_tile.Goals as goal

pub returns : goal.returns
returns c = all_tile
