use Rattle.acpins_survey_json.specs.JsonFound.{problem_value}
use Rattle.acpins_survey_json.proofs.JsonPutting.{line_more, lines_all}
use Rattle.acpins_survey_json.proofs.found.put_problems.Goals as goal

pub loop-problem-preserved : goal.loop-problem-preserved
loop-problem-preserved c =
    line_more problem_value c.args.problems.now c.loop-problem.problem-index c.problem-item.result c.problem-item.result c.loop-problem.is_first c.loop-problem.text
    c.put_line_start.new.text _ _ c.loop-problem-test.true c.problem-item.is c.put_line_start.ensures c.put_problem.ensures c.loop-problem.invariant

pub returns : goal.returns
returns c =
    lines_all problem_value c.args.problems.now c.loop-problem.problem-index c.loop-problem.is_first c.args.text.now c.put.new.self c.loop-problem.text _
    c.loop-problem-test.false c.put.ensures c.loop-problem.invariant c.put_lines_end.ensures
