-- What a wrong body leaves open is named here: its refusal then names it, and needs no second search.
use Rattle.std.proofs.Common.{rules}
use Rattle.acpi_code.specs.steps.Reading.{length_in}
use Rattle.acpi_code.proofs.code.Code.pkg_length.Goals as goal

pub returns-in-Err-ReservedBits : goal.returns-in-Err-ReservedBits
unfolding length_in
returns-in-Err-ReservedBits c = search rules
