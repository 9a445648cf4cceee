use Rattle.acpi_resources.proofs.EisaLaws.{one_number}
use Rattle.acpi_resources.proofs.laws.eisa_ids_have_one_number.Goals as goal

pub returns : goal.returns
returns c = λ m n lm ln is_m is_n e. one_number m n lm ln e
