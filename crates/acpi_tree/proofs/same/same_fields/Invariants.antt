use Rattle.std.proofs.Common.{◌≡◌, drop}
use Rattle.std.specs.Cmp.Lexicographic.{pointwise}
use Rattle.acpi_tree.specs.View.{field_view}
use Rattle.acpi_tree.specs.steps.Equality.{field_eq}
use Rattle.acpi_tree.proofs.same.same_fields.Given as goal

abbrev pub invariant-loop-i : goal.invariant-loop-i
invariant-loop-i l = pointwise (λ x y. field_eq (field_view x) (field_view y)) l.a l.b ≡ pointwise (λ x y. field_eq (field_view x) (field_view y)) (drop l.i l.a) (drop l.i l.b)
