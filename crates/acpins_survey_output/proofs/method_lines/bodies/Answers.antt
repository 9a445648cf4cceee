use Rattle.std.proofs.Common.{◌∙◌, ℕ, List, Option, map, subst}
use Rattle.std.proofs.lemmas.Result.{IfOk-weaker}
use Rattle.acpi_conditions.specs.Entries.{Path}
use Rattle.acpi_entries.specs.declared.body.MethodBody.{MethodBody}
use Rattle.acpi_conditions.specs.ByPath.{AreByPath, lent_pair}
use Rattle.acpins_survey_output.specs.Shown.{verdict_line}
use Rattle.acpins_survey_reasons.specs.Numbered.{IsBodyAt}
use Rattle.acpins_survey_reasons.proofs.Ordering.{same_paths}
use Rattle.acpins_survey_reasons.proofs.Zipping.{AreZipped}
use Rattle.acpins_survey_output.proofs.method_lines.bodies.Goals as goal

pub returns : goal.returns
returns c = λ o.
    let order = c.in_ok-order.order.items in
    let paths = same_paths _ _ _ c.entries.ensures in
    let new = c.put_methods.new.text in
    let is_body = λ (x : Path × ℕ) (b : Option MethodBody). IsBodyAt c.args.survey.now x.1 b in
    let lent = subst (λ xs. AreZipped {X = Path × ℕ} {Y = Option MethodBody} is_body verdict_line (map lent_pair xs) c.new-text.result new) c.deref.ensures.value
    (c.in_ok-put_methods.ensures o) in
    let zipped = subst (λ (t : List ℕ). AreZipped {X = Path × ℕ} {Y = Option MethodBody} is_body verdict_line (map lent_pair order) t new) c.new-text.ensures lent in
    IfOk-weaker c.into_bytes.result _ _ (λ bytes is. record {
      order = map lent_pair order;
      by_path = subst (λ ps. AreByPath ps (map lent_pair order)) paths c.in_ok-order.ensures;
      bodies = zipped.0;
      are_bodies = zipped.1;
      text_is = is ∙ zipped.2;
    }) c.into_bytes.ensures
