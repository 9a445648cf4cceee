use Rattle.acpi_conservative.proofs.FileTables.{strict_file_is_cut}
use Rattle.acpi_conservative.proofs.laws.strict_file_is_cut_alike.Goals as goal

pub returns : goal.returns
returns c = strict_file_is_cut
