use Rattle.std.proofs.Common.{◌≡◌, ◌++◌, replicate}
use Rattle.acpi_name.proofs.writing.put_prefix.Given as goal

abbrev pub invariant-loop : goal.invariant-loop
invariant-loop l = l.bytes.items ≡ l.initial.bytes.items ++ replicate l.counter 94
