use Rattle.std.proofs.Common.{◌∙◌, ◌++◌, ◌∷◌, [], ap}
use Rattle.acpi_name_checks.proofs.Below.{ends_at_root, goes_on, shrinks}
use Rattle.acpi_name_checks.proofs.tried.below_scopes.Goals as goal

pub returns-then-is_none : goal.returns-then-is_none
returns-then-is_none c = ends_at_root c.args.seg c.args.scope.now c.loop-path.path c.push.new.self c.pop-outer.new.self c.loop-path.paths.items c.push-in-loop-path.new.self.items c.loop-path.invariant
    (c.in_ok-push.ensures.ok ∙ ap (λ p. p ++ c.args.seg ∷ []) c.in_ok-tried.ensures) c.in_ok-push-2.ensures.items c.pop-outer.result c.pop-outer.ensures.last c.pop-outer.ensures.parent c.is_none.result c.is_none.ensures c.if-is_none.true

pub loop-path-smaller : goal.loop-path-smaller
loop-path-smaller c = shrinks c.args.seg c.args.scope.now c.loop-path.path c.push.new.self c.pop-outer.new.self c.loop-path.paths.items c.push-in-loop-path.new.self.items c.loop-path.invariant
    (c.in_ok-push.ensures.ok ∙ ap (λ p. p ++ c.args.seg ∷ []) c.in_ok-tried.ensures) c.in_ok-push-2.ensures.items c.pop-outer.result c.pop-outer.ensures.last c.pop-outer.ensures.parent c.is_none.result c.is_none.ensures c.if-is_none.false

pub loop-path-preserved : goal.loop-path-preserved
loop-path-preserved c = goes_on c.args.seg c.args.scope.now c.loop-path.path c.push.new.self c.pop-outer.new.self c.loop-path.paths.items c.push-in-loop-path.new.self.items c.loop-path.invariant
    (c.in_ok-push.ensures.ok ∙ ap (λ p. p ++ c.args.seg ∷ []) c.in_ok-tried.ensures) c.in_ok-push-2.ensures.items c.pop-outer.result c.pop-outer.ensures.last c.pop-outer.ensures.parent c.is_none.result c.is_none.ensures c.if-is_none.false
