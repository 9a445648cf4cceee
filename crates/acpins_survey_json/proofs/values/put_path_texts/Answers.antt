use Rattle.acpins_survey_json.specs.JsonValues.{path_value}
use Rattle.acpins_survey_json.proofs.JsonPutting.{array_put, element_put}
use Rattle.acpins_survey_json.proofs.values.put_path_texts.Goals as goal

pub loop-path-preserved : goal.loop-path-preserved
loop-path-preserved c =
    element_put path_value c.args.paths.now c.loop-path.path-index c.path-item.result c.path-item.result c.loop-path.is_first c.loop-path.text
    c.put_element_start.new.text _ _ c.loop-path-test.true c.path-item.is c.put_element_start.ensures c.put_path_text.ensures c.loop-path.invariant

pub returns : goal.returns
returns c =
    array_put path_value c.args.paths.now c.loop-path.path-index c.loop-path.is_first c.args.text.now c.put.new.self c.loop-path.text _
    c.loop-path-test.false c.put.ensures c.loop-path.invariant c.put-2.ensures
