use Rattle.acpi_rewrite.proofs.OneRewriting.{one_rewriting}
use Rattle.acpi_rewrite.proofs.rewriting_laws.one_rewriting.Goals as goal

pub returns : goal.returns
returns c = one_rewriting
