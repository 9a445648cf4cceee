use Rattle.acpi_entries.specs.ConditionViews.{link_view}
use Rattle.acpins_survey_json.specs.JsonEntries.{link_value}
use Rattle.acpins_survey_json.proofs.JsonPutting.{array_put, element_put, values_mapped}
use Rattle.acpins_survey_json.proofs.entries.put_link_list.Goals as goal

pub loop-link-preserved : goal.loop-link-preserved
loop-link-preserved c =
    element_put (λ x. link_value (link_view x)) c.args.links.now c.loop-link.link-index c.link-item.result c.link-item.result c.loop-link.is_first c.loop-link.text
    c.put_element_start.new.text _ _ c.loop-link-test.true c.link-item.is c.put_element_start.ensures c.put_link.ensures c.loop-link.invariant

pub returns : goal.returns
returns c =
    rw (values_mapped link_value link_view c.args.links.now)
    (array_put (λ x. link_value (link_view x)) c.args.links.now c.loop-link.link-index c.loop-link.is_first c.args.text.now c.put.new.self c.loop-link.text _
    c.loop-link-test.false c.put.ensures c.loop-link.invariant c.put-2.ensures)
