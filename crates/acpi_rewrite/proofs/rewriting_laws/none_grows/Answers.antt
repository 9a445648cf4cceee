use Rattle.acpi_rewrite.proofs.Rewritten.{none_grows}
use Rattle.acpi_rewrite.proofs.rewriting_laws.none_grows.Goals as goal

pub returns : goal.returns
returns c = λ depth tables new below h. none_grows depth tables new below h
