use Rattle.std.proofs.Common.{◌∙◌, ap}
use Rattle.acpi_condition_list.specs.ConditionLists.{condition_numbered}
use Rattle.acpi_entries.specs.ConditionViews.{link_views}
use Rattle.acpins_survey_reasons.specs.Numbered.{part_of}
use Rattle.acpins_survey_output.proofs.Lines.{line_put}
use Rattle.acpins_survey_output.proofs.entries.put_conditioned.Goals as goal

pub returns : goal.returns
returns c = λ steps o same asked.
    let s = c.args.survey.now in
    let e = c.args.entry.now in
    let part = part_of s e.number in
    let condition = condition_numbered s e.number in
    let is = c.part_of-part.ensures o.tile in
    line_put e.path.now _ _ _ _ condition c.args.text.now c.put_declared.new.text c.put_condition_to.new.text c.put.new.self
    (c.object_kind-kind.ensures part is) (ap link_views c.deref.ensures.value ∙ c.in_ok-links.ensures o part is) c.put_declared.ensures
    (c.in_ok-put_condition_to.ensures s steps condition same asked) c.put.ensures
