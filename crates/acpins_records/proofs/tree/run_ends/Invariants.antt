use Rattle.std.proofs.Common.{◌≡◌, ◌<◌, ◌≤◌, ℕ, length, get_or}
use Rattle.acpins_records.specs.steps.Runs.{RunsTo}
use Rattle.acpins_records.proofs.tree.run_ends.Given as goal

abbrev pub invariant-loop-k : goal.invariant-loop-k
invariant-loop-k l = length l.ends.items ≡ l.k

abbrev pub invariant-loop-k-2 : goal.invariant-loop-k-2
invariant-loop-k-2 l = record {
  count : length l.ends.items ≡ length l.paths;
  later : (j : ℕ) → l.k ≤ j → j < length l.paths → RunsTo l.paths j (get_or l.ends.items j 0);
}
