use Rattle.std.proofs.Common.{◌-◌, ◌≤◌, length}
use Rattle.acpins_records.proofs.Places.{AreBefore, AreBehind}
use Rattle.acpins_records.proofs.targets.place_of.Given as goal

abbrev pub invariant-loop-low : goal.invariant-loop-low
invariant-loop-low l = record {
  within : l.high ≤ length l.paths;
  before : AreBefore l.paths l.segs l.low;
  behind : AreBehind l.paths l.segs l.high;
}

abbrev pub decreases-loop-low : goal.decreases-loop-low
decreases-loop-low l = l.high - l.low
