use Rattle.std.proofs.Common.{◌≡◌, drop}
use Rattle.acpi_counts.proofs.Listed.{listed_at}
use Rattle.acpi_counts.proofs.Counts.get.Given as goal

abbrev pub invariant-loop-listed : goal.invariant-loop-listed
invariant-loop-listed l = listed_at (drop l.listed-index l.listed-items) l.path ≡ listed_at l.listed-items l.path
