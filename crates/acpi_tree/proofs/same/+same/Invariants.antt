use Rattle.std.proofs.Common.{◌≡◌, drop}
use Rattle.std.specs.Cmp.Lexicographic.{pointwise}
use Rattle.acpi_tree.specs.View.{elem_view}
use Rattle.acpi_tree.specs.steps.Equality.{elem_eq}
use Rattle.acpi_tree.proofs.same.+same.Given as goal

abbrev pub invariant-same_elems-loop-i : goal.invariant-same_elems-loop-i
invariant-same_elems-loop-i l = pointwise (λ x y. elem_eq (elem_view x) (elem_view y)) l.a l.b ≡ pointwise (λ x y. elem_eq (elem_view x) (elem_view y)) (drop l.i l.a) (drop l.i l.b)
