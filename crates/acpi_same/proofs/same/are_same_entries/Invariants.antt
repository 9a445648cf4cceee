use Rattle.std.proofs.Common.{◌≡◌, drop}
use Rattle.std.specs.Cmp.Lexicographic.{pointwise}
use Rattle.acpi_conditions.specs.ByPath.{lent_pair}
use Rattle.acpi_survey.specs.SurveyOrder.{IsInOrder}
use Rattle.acpi_same.specs.Same.{said}
use Rattle.acpi_same.specs.steps.Equality.{entry_eq}
use Rattle.acpi_same.proofs.same.are_same_entries.Given as goal

-- so far all entries are the same
abbrev pub invariant-loop-i : goal.invariant-loop-i
invariant-loop-i l = IsInOrder l.old.survey.now → IsInOrder l.new.survey.now
    → pointwise (λ x y. entry_eq (said l.old.survey.now l.old.bodies.now (lent_pair x)) (said l.new.survey.now l.new.bodies.now (lent_pair y))) l.old_order l.new_order
    ≡ pointwise (λ x y. entry_eq (said l.old.survey.now l.old.bodies.now (lent_pair x)) (said l.new.survey.now l.new.bodies.now (lent_pair y))) (drop l.i l.old_order) (drop l.i l.new_order)
