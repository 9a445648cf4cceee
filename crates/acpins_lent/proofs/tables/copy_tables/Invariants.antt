use Rattle.std.proofs.Common.{◌≡◌, take}
use Rattle.acpins_lent.specs.Lent.{bytes_of}
use Rattle.acpins_lent.proofs.tables.copy_tables.Given as goal

abbrev pub invariant-loop-table : goal.invariant-loop-table
invariant-loop-table l = l.copies.items ≡ bytes_of (take l.table-index l.tables)
