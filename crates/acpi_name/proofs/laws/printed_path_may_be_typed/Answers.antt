use Rattle.acpi_name.proofs.PathTexts.{printed_text}
use Rattle.acpi_name.proofs.laws.printed_path_may_be_typed.Goals as goal

pub returns : goal.returns
returns c = printed_text
