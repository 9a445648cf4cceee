use Rattle.std.proofs.Common.{◌-◌, vec_len}
use Rattle.acpi_table.proofs.StreamLaws.{SoFar}
use Rattle.acpi_table.proofs.streams.fill.Given as goal

abbrev pub decreases-loop-table : goal.decreases-loop-table
decreases-loop-table g l = l.target - vec_len l.table

abbrev pub invariant-loop-table : goal.invariant-loop-table
invariant-loop-table g l =
    SoFar (g.S.Source.coming l.fn.source) (g.S.Source.coming l.source) (g.S.Source.failures l.fn.source) (g.S.Source.failures l.source)
    l.fn.table.items l.table.items (vec_len l.table) l.target
