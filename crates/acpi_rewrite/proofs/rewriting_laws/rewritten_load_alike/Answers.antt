use Rattle.acpi_rewrite.proofs.Rewritten.{load_alike}
use Rattle.acpi_rewrite.proofs.rewriting_laws.rewritten_load_alike.Goals as goal

pub returns : goal.returns
returns c = λ depth tables new m below h. load_alike depth tables new below h m
