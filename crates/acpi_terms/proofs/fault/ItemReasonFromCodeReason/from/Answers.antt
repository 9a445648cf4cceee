-- What a wrong body leaves open is named here: its refusal then names it, and needs no second search.
use Rattle.std.proofs.Common.{rules}
use Rattle.acpi_terms.proofs.fault.ItemReasonFromCodeReason.from.Goals as goal

pub returns-in-Cut : goal.returns-in-Cut
returns-in-Cut c = search rules
