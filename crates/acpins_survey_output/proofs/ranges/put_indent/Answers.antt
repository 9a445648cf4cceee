use Rattle.acpins_survey_output.proofs.Mapping.{indent_more}
use Rattle.acpins_survey_output.proofs.ranges.put_indent.Goals as goal

pub loop-preserved : goal.loop-preserved
loop-preserved c = indent_more c.loop.counter c.args.text.now c.loop.text _ c.loop.invariant c.put.ensures
