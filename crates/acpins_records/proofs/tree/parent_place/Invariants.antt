use Rattle.std.proofs.Common.{◌≤◌}
use Rattle.acpins_records.proofs.tree.parent_place.Given as goal

abbrev pub invariant-loop-near : goal.invariant-loop-near
invariant-loop-near l = l.near ≤ l.k

abbrev pub decreases-loop-near : goal.decreases-loop-near
decreases-loop-near l = l.near
