use Rattle.std.proofs.Common.{◌≡◌, ◌-◌, ◌++◌}
use Rattle.acpins_io.specs.Dump.{bytes_at, row_bytes}
use Rattle.acpins_io.proofs.dump.put_row.Given as goal

abbrev pub invariant-loop-i : goal.invariant-loop-i
invariant-loop-i l = l.bytes.items ++ bytes_at (16 - l._i) l.rest ≡ l.fn.bytes.items ++ row_bytes l.line
