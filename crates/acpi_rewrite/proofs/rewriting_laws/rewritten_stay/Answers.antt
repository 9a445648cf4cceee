use Rattle.acpi_rewrite.proofs.Rewritten.{stays}
use Rattle.acpi_rewrite.proofs.rewriting_laws.rewritten_stay.Goals as goal

pub returns : goal.returns
returns c = λ depth tables new below h. stays depth tables new below h
