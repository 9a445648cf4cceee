use Rattle.std.proofs.Common.{◌≡◌, drop}
use Rattle.std.specs.Cmp.Lexicographic.{pointwise}
use Rattle.acpi_entries.specs.ConditionViews.{literal_view}
use Rattle.acpi_same.specs.steps.Equality.{literal_eq}
use Rattle.acpi_same.proofs.entries.are_same_literals.Given as goal

abbrev pub invariant-loop-i : goal.invariant-loop-i
invariant-loop-i l = pointwise (λ x y. literal_eq (literal_view x.literal) (literal_view y.literal)) l.one l.other ≡ pointwise (λ x y. literal_eq (literal_view x.literal) (literal_view y.literal)) (drop l.i l.one) (drop l.i l.other)
