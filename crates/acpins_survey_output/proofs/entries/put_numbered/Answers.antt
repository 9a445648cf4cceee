use Rattle.std.proofs.Common.{◌∙◌, ap}
use Rattle.acpi_entries.specs.ConditionViews.{link_views, placed_views}
use Rattle.acpins_survey_reasons.specs.Numbered.{part_of}
use Rattle.acpins_survey_output.proofs.Lines.{entry_put}
use Rattle.acpins_survey_output.proofs.entries.put_numbered.Goals as goal

pub returns : goal.returns
returns c = λ o.
    let part = part_of c.args.survey.now c.args.number in
    let is = c.part_of-part.ensures o.tile in
    entry_put _ _ _ _ _ _ _ _ _ (c.object_kind-kind.ensures part is) (ap link_views c.deref.ensures.value ∙ c.in_ok-links.ensures o part is)
    (ap placed_views c.deref-2.ensures.value ∙ c.in_ok-condition.ensures o) c.put_entry.ensures
