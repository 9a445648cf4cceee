use Rattle.std.proofs.Common.{◌≡◌, ◌++◌, take, reverse}
use Rattle.acpi_write.proofs.writer.put_reversed.Given as goal

abbrev pub invariant-loop-i : goal.invariant-loop-i
invariant-loop-i l = take l.i l.bytes ++ reverse l.reversed.items ≡ l.bytes ++ reverse l.initial.reversed.items
