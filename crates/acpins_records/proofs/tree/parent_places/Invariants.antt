use Rattle.std.proofs.Common.{◌≡◌, ◌<◌, ℕ, length, get_or}
use Rattle.acpins_records.specs.Tree.{IsParent}
use Rattle.acpins_records.proofs.tree.parent_places.Given as goal

abbrev pub invariant-loop-k : goal.invariant-loop-k
invariant-loop-k l = record {
  count : length l.parents.items ≡ l.k;
  parents : (j : ℕ) → j < l.k → IsParent l.paths j (get_or l.parents.items j 0);
}
