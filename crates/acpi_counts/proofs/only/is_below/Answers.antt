use Rattle.std.proofs.Common.{sym, ap, ◌∙◌}
use Rattle.std.specs.Prelude.{nat_eq}
use Rattle.std.specs.Cmp.Lexicographic.{pointwise}
use Rattle.std.specs.List.{starts_with}
use Rattle.acpi_space.proofs.Comparisons.{same_bytes}
use Rattle.acpi_counts.proofs.OnePath.{is_below_one}
use Rattle.acpi_counts.proofs.only.is_below.Goals as goal

pub returns-then-eq : goal.returns-then-eq
returns-then-eq c =
    is_below_one c.args.scope.now c.args.path.now c.in-Some.above.now c.args.seg c.in-Some.last.now c.starts_with.result
    (sym c.segs.ensures.all ∙ c.in-Some.ensures.cases.0) (same_bytes _ _ (sym c.eq.ensures ∙ c.if-eq.true))
    (c.starts_with.ensures.value ∙ ap (λ s. starts_with (pointwise nat_eq) s c.in-Some.above.now) c.segs-then-eq.ensures.all)
