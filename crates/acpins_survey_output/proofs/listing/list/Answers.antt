use Rattle.std.proofs.Common.{◌∙◌, List, ap, map, subst, sym}
use Rattle.std.specs.List.{All}
use Rattle.std.proofs.lemmas.Result.{IfOk-weaker}
use Rattle.acpi_condition_list.specs.ConditionLists.{IsCondition, condition_numbered}
use Rattle.acpi_condition_list.specs.declared.list.ConditionedEntry.{ConditionedEntry}
use Rattle.acpi_conditions.specs.ByPath.{AreByPath, lent_pair}
use Rattle.acpins_survey_output.specs.StepTexts.{step_text}
use Rattle.acpins_survey_output.proofs.AllLines.{listed}
use Rattle.acpins_survey_reasons.proofs.Ordering.{same_paths}
use Rattle.acpins_survey_output.proofs.listing.list.Goals as goal

pub returns : goal.returns
returns c = λ o.
    let s = c.args.survey.now in
    let order = c.in_ok-order.order.items in
    let paths = same_paths _ _ _ c.entries.ensures in
    let conditions = c.in_ok-conditions.conditions in
    let steps = conditions.steps.items in
    let literals = c.deref-3.ensures.value ∙ c.in_ok-literals.ensures o ∙ ap (map (step_text s)) c.deref-2.ensures.value in
    let asked = subst (λ (es : List ConditionedEntry). All (λ e. IsCondition s steps e.condition (condition_numbered s e.number)) es)
    (sym c.deref-4.ensures.value) (c.in_ok-conditions.ensures.conditions o) in
    IfOk-weaker c.into_bytes.result _ _ (λ bytes is. record {
      order = map lent_pair order;
      by_path = subst (λ ps. AreByPath ps (map lent_pair order)) paths c.in_ok-order.ensures;
      text_is = is ∙ listed s c.args.findings.now order c.deref.result.now conditions.entries.items c.deref-4.result.now c.problems.result.now c.notes.result.now
          c.new-text.result c.put_entries.new.text _ c.new-text.ensures c.deref.ensures.value c.deref-4.ensures.value c.in_ok-conditions.ensures.entries
          c.problems.ensures c.notes.ensures (c.in_ok-put_entries.ensures steps o literals asked) c.put_found.ensures;
    }) c.into_bytes.ensures
