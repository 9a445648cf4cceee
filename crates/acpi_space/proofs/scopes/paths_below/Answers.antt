use Rattle.std.proofs.Common.{◌≡◌, ◌++◌, [], ◌∷◌, ◌∙◌, map, length, take, ap, arith, ◌+◌, ◌-◌}
use Rattle.acpi_space.specs.Search.{beginnings}
use Rattle.acpi_space.proofs.MissedPaths.{none_out, one_more_out}
use Rattle.acpi_space.proofs.scopes.paths_below.Goals as goal

pub loop-depth-init : goal.loop-depth-init
loop-depth-init c = record {
  within = omega (arith, c.len-depth.ensures.count);
  above = omega (arith, c.requires, c.len-depth.ensures.count);
  items = c.new-paths.ensures.items ∙ none_out (λ q. q ++ c.args.seg ∷ []) c.args.scope.now _ (ap (λ n. n + 1) c.len-depth.ensures.count);
}

pub loop-depth-preserved : goal.loop-depth-preserved
loop-depth-preserved c = record {
  within = omega arith;
  above = omega arith;
  items = one_more_out (λ q. q ++ c.args.seg ∷ []) c.args.scope.now c.loop-depth.paths.items _ c.in_ok-path.path c.loop-depth.depth (c.loop-depth.depth - 1)
      c.loop-depth.invariant.items
      (c.in_ok-push-2.ensures.items ∙ ap (λ p. c.loop-depth.paths.items ++ p ∷ []) c.in_ok-push.ensures.ok)
      c.in_ok-path.ensures (omega arith) (omega arith);
}

pub returns : goal.returns
returns c =
    let at : c.loop-depth.depth ≡ c.args.outer = omega arith in
    c.loop-depth.invariant.items ∙ ap (λ n. map (λ q. q ++ c.args.seg ∷ []) (take (length c.args.scope.now + 1 - n) (beginnings c.args.scope.now))) at
