use Rattle.std.proofs.Common.{◌++◌, [], ◌∷◌, ◌∙◌, sym, length, ◌+◌, ◌-◌}
use Rattle.acpi_space.specs.Spaces.{is_defined}
use Rattle.acpi_space.specs.Search.{beginnings}
use Rattle.acpi_space.proofs.AmongPaths.{missed_among, none_skipped}
use Rattle.acpi_space.proofs.wanted.plain_misses.Goals as goal

pub returns : goal.returns
returns g c =
    missed_among c.below.result (λ v. v.items) (is_defined (g.S.Space.contents c.args.space.now)) (g.Q.Wanted.wanted c.args.wanted.now) c.args.seg c.args.scope.now
    (length c.args.scope.now + 1 - c.in_ok-outer.outer)
    c.in_ok-outer.ensures.missed c.below.ensures

pub returns-then-not-branch : goal.returns-then-not-branch
returns-then-not-branch g c =
    c.new.ensures.items ∙ sym (none_skipped (g.Q.Wanted.wanted c.args.wanted.now) (is_defined (g.S.Space.contents c.args.space.now)) (λ q. q ++ c.args.seg ∷ [])
    (beginnings c.args.scope.now) (sym c.in_ok-wants_below.ensures ∙ c.if-not-branch.true))
