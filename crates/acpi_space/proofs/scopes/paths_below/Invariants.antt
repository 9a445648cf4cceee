use Rattle.std.proofs.Common.{◌≡◌, ◌+◌, ◌-◌, ◌≤◌, ◌++◌, [], ◌∷◌, map, length, take}
use Rattle.acpi_space.specs.Search.{beginnings}
use Rattle.acpi_space.proofs.scopes.paths_below.Given as goal

abbrev pub invariant-loop-depth : goal.invariant-loop-depth
invariant-loop-depth l = record {
  within : l.depth ≤ length l.scope + 1;
  above : l.outer ≤ l.depth;
  items : l.paths.items ≡ map (λ q. q ++ l.seg ∷ []) (take (length l.scope + 1 - l.depth) (beginnings l.scope));
}

abbrev pub decreases-loop-depth : goal.decreases-loop-depth
decreases-loop-depth l = l.depth
