use Rattle.std.proofs.Common.{◌∙◌, ◌++◌, ap}
use Rattle.std.proofs.lemmas.Result.{IfOk-weaker}
use Rattle.acpi_ranges.specs.steps.Indexes.{index_entered, index_refusals}
use Rattle.acpins_survey_output.specs.Maps.{map_by}
use Rattle.acpins_survey_output.proofs.Mapping.{map_is}
use Rattle.acpins_survey_output.proofs.ranges.map.Goals as goal

pub returns : goal.returns
returns c =
    let x = c.in_ok-index.index in
    IfOk-weaker c.into_bytes.result _ _ (λ bytes is. is ∙ c.in_ok-put_tables.ensures
    ∙ ap (λ t. t ++ map_by (index_entered x) (index_refusals x) 0 c.deref.result.now) c.new-text.ensures
    ∙ ap (λ ts. map_by (index_entered x) (index_refusals x) 0 ts) c.deref.ensures.value
    ∙ map_is x c.args.survey.now c.in_ok-index.ensures.paths c.in_ok-index.ensures.refused) c.into_bytes.ensures
