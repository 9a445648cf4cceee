use Rattle.std.proofs.Common.{◌++◌, [], ◌∷◌}
use Rattle.acpi_space.specs.Spaces.{is_defined}
use Rattle.acpi_space.proofs.Beginnings.{found_within}
use Rattle.acpi_space.proofs.AmongPaths.{innermost_is, none_inside, none_at_all}
use Rattle.acpi_space.proofs.scopes.innermost.Goals as goal

pub beginning-requires : goal.beginning-requires
beginning-requires g c = found_within (λ q. is_defined (g.T.Space.contents c.args.among.now) (q ++ c.args.seg ∷ [])) _ _ _ c.in_ok-depth.ensures c.in-Some.is

pub returns-in_default : goal.returns-in_default
returns-in_default g c = none_at_all (λ q. is_defined (g.T.Space.contents c.args.among.now) (q ++ c.args.seg ∷ [])) c.args.outer c.args.scope.now _ c.in_ok-depth.ensures c.in_default.is

pub returns-then-depth-outer : goal.returns-then-depth-outer
returns-then-depth-outer g c =
    none_inside (λ q. is_defined (g.T.Space.contents c.args.among.now) (q ++ c.args.seg ∷ [])) c.args.outer c.args.scope.now _ c.in-Some.depth c.in_ok-depth.ensures c.in-Some.is
    c.if-depth-outer.true

pub returns : goal.returns
returns g c =
    innermost_is (λ q. is_defined (g.T.Space.contents c.args.among.now) (q ++ c.args.seg ∷ [])) c.args.outer c.args.scope.now _ c.in-Some.depth c.in_ok-beginning.field-0
    c.in_ok-depth.ensures c.in-Some.is c.if-depth-outer.false c.in_ok-beginning.ensures
