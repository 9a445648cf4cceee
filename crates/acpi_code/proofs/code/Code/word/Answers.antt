-- What a wrong body leaves open is named here: its refusal then names it, and needs no second search.
use Rattle.std.proofs.Common.{rules}
use Rattle.acpi_code.specs.steps.Reading.{number_at}
use Rattle.acpi_code.proofs.code.Code.word.Goals as goal

pub returns : goal.returns
unfolding number_at
returns c = search rules
