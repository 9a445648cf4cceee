use Rattle.std.proofs.Common.{◌≡◌, ◌++◌, [], ◌∷◌, map, length, ◌≤◌}
use Rattle.std.specs.Prelude.{IsTrue}
use Rattle.acpi_space.specs.Spaces.{is_defined}
use Rattle.acpi_space.specs.steps.Within.{passing}
use Rattle.acpi_space.proofs.scopes.paths_among.Given as goal

abbrev pub invariant-loop-inner : goal.invariant-loop-inner
invariant-loop-inner g l = record {
  left : l.paths.items ++ map (λ q. q ++ l.seg ∷ []) (passing (λ q. is_defined (g.T.Space.contents l.among) (q ++ l.seg ∷ [])) l.outer l.inner)
      ≡ map (λ q. q ++ l.seg ∷ []) (passing (λ q. is_defined (g.T.Space.contents l.among) (q ++ l.seg ∷ [])) l.outer l.scope);
  here : IsTrue (is_defined (g.T.Space.contents l.among) (l.inner ++ l.seg ∷ []));
  inside : l.outer ≤ length l.inner;
}

abbrev pub decreases-loop-inner : goal.decreases-loop-inner
decreases-loop-inner g l = length l.inner
