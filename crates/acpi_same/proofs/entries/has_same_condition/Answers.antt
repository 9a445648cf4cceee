use Rattle.std.proofs.Common.{◌∙◌, ap, ap₂, map}
use Rattle.std.specs.Cmp.Lexicographic.{pointwise}
use Rattle.acpi_entries.specs.ConditionViews.{literal_view}
use Rattle.acpi_entries.specs.declared.condition.PlacedLiteral.{PlacedLiteral}
use Rattle.acpi_same.specs.steps.Equality.{literal_eq}
use Rattle.acpi_same.proofs.Saying.{literals_are}
use Rattle.acpi_same.proofs.entries.has_same_condition.Goals as goal

pub returns : goal.returns
returns c = λ o n.
    let one = ap (map (λ (l : PlacedLiteral). literal_view l.literal)) c.deref.ensures.value ∙ literals_are _ _ (c.in_ok-condition_of.ensures o) in
    let other = ap (map (λ (l : PlacedLiteral). literal_view l.literal)) c.deref-2.ensures.value ∙ literals_are _ _ (c.in_ok-condition_of-2.ensures n) in
    c.are_same_literals.ensures ∙ ap₂ (pointwise literal_eq) one other
