use Rattle.acpins_survey_texts.proofs.texts.second_output.Goals as goal

pub returns-clause-same : goal.returns-clause-same
returns-clause-same c = λ order. (c.in_ok-survey.survey, c.in_ok-survey.ensures.is, c.in_ok-output.ensures.same order c.in_ok-survey.ensures.in_order)
