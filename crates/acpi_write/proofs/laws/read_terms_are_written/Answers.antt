use Rattle.acpi_write.proofs.TermsShorter as shorter
use Rattle.acpi_write.proofs.laws.read_terms_are_written.Goals as goal

pub returns : goal.returns
returns c = shorter.read_terms_are_written
