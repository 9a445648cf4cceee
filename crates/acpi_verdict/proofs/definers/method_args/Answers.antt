-- What a wrong body leaves open is named here: its refusal then names it, and needs no second search.
use Rattle.std.proofs.Common.{rules}
use Rattle.acpi_verdict.proofs.definers.method_args.Goals as goal

pub returns-in_default : goal.returns-in_default
returns-in_default c = search rules
