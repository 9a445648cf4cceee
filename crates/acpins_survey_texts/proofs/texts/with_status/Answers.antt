use Rattle.std.proofs.Common.{◌≡◌, [], inl, inr}
use Rattle.acpins_survey_texts.proofs.Problems.{with_problem, without_problem}
use Rattle.acpins_survey_texts.proofs.texts.with_status.Goals.{then-has_problem, else-has_problem}
use Rattle.acpins_survey_texts.proofs.texts.with_status.Goals as goal

pub returns-clause-problems : goal.returns-clause-problems
returns-clause-problems c = elim c.if-has_problem.branch [
  | then-has_problem w ↦ with_problem c.has_problem.result c.if-has_problem.status (c.args.findings.now.problems.items ≡ []) c.has_problem.ensures
      w.if-has_problem.true w.status-is
  | else-has_problem w ↦ without_problem c.has_problem.result c.if-has_problem.status (c.args.findings.now.problems.items ≡ []) c.has_problem.ensures
      w.if-has_problem.false w.status-is
]

pub returns-clause-statuses : goal.returns-clause-statuses
returns-clause-statuses c =
    elim c.if-has_problem.branch [ then-has_problem w ↦ inr w.status-is | else-has_problem w ↦ inl w.status-is ]
