use Rattle.std.proofs.Common.{ℕ, Option}
use Rattle.acpi_conditions.specs.Entries.{Path}
use Rattle.acpi_entries.specs.declared.body.MethodBody.{MethodBody}
use Rattle.acpi_conditions.specs.ByPath.{lent_pair}
use Rattle.acpins_survey_output.specs.Shown.{verdict_line}
use Rattle.acpins_survey_reasons.specs.Numbered.{IsBodyAt}
use Rattle.acpins_survey_reasons.proofs.Zipping.{zip_more_viewed}
use Rattle.acpins_survey_output.proofs.method_lines.put_methods.Goals as goal

pub loop-numbered-preserved : goal.loop-numbered-preserved
loop-numbered-preserved c = λ o.
    zip_more_viewed lent_pair (λ (x : Path × ℕ) (b : Option MethodBody). IsBodyAt c.args.survey.now x.1 b) verdict_line c.args.order.now c.loop-numbered.numbered-index
    c.numbered-item.result c.args.text.now c.loop-numbered.text _ c.loop-numbered-test.true (c.loop-numbered.invariant o)
    (c.in_ok-body.body, c.in_ok-body.ensures o.tile, c.put_some_method.ensures) c.numbered-item.is
