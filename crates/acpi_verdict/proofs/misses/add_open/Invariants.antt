use Rattle.std.proofs.Common.{◌≡◌, map}
use Rattle.std.specs.Vec.Iter.{into_iter_items}
use Rattle.acpi_verdict.specs.steps.Misses.{with_opens, open_pair}
use Rattle.acpi_verdict.proofs.misses.add_open.Given as goal

abbrev pub invariant-loop-miss : goal.invariant-loop-miss
invariant-loop-miss l = with_opens l.awaited (map open_pair (into_iter_items l.miss-iterator)) ≡ with_opens l.initial.awaited (map open_pair (into_iter_items l.initial.miss-iterator))
