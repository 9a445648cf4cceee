use Rattle.std.proofs.Common.{◌≡◌, take}
use Rattle.acpi_table.specs.Tables.{sum_of}
use Rattle.acpi_table.proofs.sums.byte_sum.Given as goal

-- the total of the bytes so far
abbrev pub invariant-loop-byte : goal.invariant-loop-byte
invariant-loop-byte l = l.total ≡ sum_of (take l.byte-index l.bytes)
