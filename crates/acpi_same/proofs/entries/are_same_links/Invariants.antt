use Rattle.std.proofs.Common.{◌≡◌, drop}
use Rattle.std.specs.Cmp.Lexicographic.{pointwise}
use Rattle.acpi_entries.specs.ConditionViews.{link_view}
use Rattle.acpi_same.specs.steps.Equality.{link_eq}
use Rattle.acpi_same.proofs.entries.are_same_links.Given as goal

abbrev pub invariant-loop-i : goal.invariant-loop-i
invariant-loop-i l = pointwise (λ x y. link_eq (link_view x) (link_view y)) l.one l.other ≡ pointwise (λ x y. link_eq (link_view x) (link_view y)) (drop l.i l.one) (drop l.i l.other)
