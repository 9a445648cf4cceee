use Rattle.std.proofs.Common.{◌-◌, length}
use Rattle.acpins_records.specs.steps.Runs.{RunTo}
use Rattle.acpins_records.proofs.tree.run_end.Given as goal

abbrev pub invariant-loop-next : goal.invariant-loop-next
invariant-loop-next l = RunTo l.paths l.k l.next

abbrev pub decreases-loop-next : goal.decreases-loop-next
decreases-loop-next l = length l.paths - l.next
