use Rattle.acpi_name.specs.Text.{path_text}
use Rattle.acpins_survey_reasons.proofs.Separating.{all_put, one_more_behind, others}
use Rattle.acpins_survey_reasons.proofs.reasons.put_paths.Goals as goal

pub loop-path-preserved : goal.loop-path-preserved
loop-path-preserved c =
    one_more_behind c.args.between.now path_text (others c.args.paths.now) c.loop-path.path-index c.path-item.result c.path-item.result c.put_path.new.text c.loop-path.text _ _
    c.loop-path-test.true c.path-item.is c.loop-path.invariant c.put.ensures c.put_path-in-loop-path.ensures

pub returns-after-loop-path : goal.returns-after-loop-path
returns-after-loop-path c =
    all_put c.args.between.now path_text c.args.paths.now c.first-item.result c.loop-path.path-index c.args.text.now _ c.loop-path.text
    c.in-len1-up.len_at_least c.first-item.is c.loop-path-test.false c.put_path.ensures c.loop-path.invariant
