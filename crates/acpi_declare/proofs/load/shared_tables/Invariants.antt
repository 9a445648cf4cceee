use Rattle.std.proofs.Common.{◌≡◌, map, take}
use Rattle.acpi_declare.proofs.load.shared_tables.Given as goal

abbrev pub invariant-loop-table : goal.invariant-loop-table
invariant-loop-table l = l.copies.items ≡ map (λ b. b.now) (take l.table-index l.tables)
