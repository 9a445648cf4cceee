use Rattle.acpi_write.proofs.TermsWritten.{terms_written}
use Rattle.acpi_write.proofs.laws.terms_are_spelled.Goals as goal

pub returns : goal.returns
returns c = terms_written
