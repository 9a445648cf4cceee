use Rattle.std.proofs.Common.{◌++◌, [], ◌∷◌, ◌≤◌, length, arith}
use Rattle.acpi_space.specs.Spaces.{is_defined}
use Rattle.acpi_space.proofs.Beginnings.{found_within}
use Rattle.acpi_space.proofs.MissedPaths.{missed_none, missed_some}
use Rattle.acpi_space.proofs.wanted.first_missed.Goals as goal

pub overflow_add-result : goal.overflow_add-result
overflow_add-result g c =
    let w : c.in-Some.depth ≤ length c.args.scope.now = found_within (λ q. is_defined (g.S.Space.contents c.args.space.now) (q ++ c.args.seg ∷ [])) _ _ _ c.in_ok-nearest.ensures c.in-Some.is in
    omega (arith, c.len-len.ensures.count, c.len-len.ensures.small)

pub returns-in-Some-clause-within : goal.returns-in-Some-clause-within
returns-in-Some-clause-within g c =
    let w : c.in-Some.depth ≤ length c.args.scope.now = found_within (λ q. is_defined (g.S.Space.contents c.args.space.now) (q ++ c.args.seg ∷ [])) _ _ _ c.in_ok-nearest.ensures c.in-Some.is in
    omega arith

pub returns-in-None-clause-missed : goal.returns-in-None-clause-missed
returns-in-None-clause-missed g c = missed_none (λ q. is_defined (g.S.Space.contents c.args.space.now) (q ++ c.args.seg ∷ [])) c.args.scope.now _ c.in_ok-nearest.ensures c.in-None.is

pub returns-in-Some-clause-missed : goal.returns-in-Some-clause-missed
returns-in-Some-clause-missed g c = missed_some (λ q. is_defined (g.S.Space.contents c.args.space.now) (q ++ c.args.seg ∷ [])) c.args.scope.now _ _ c.in_ok-nearest.ensures c.in-Some.is
