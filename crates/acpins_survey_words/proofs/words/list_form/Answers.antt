use Rattle.std.proofs.Common.{codes}
use Rattle.std.proofs.lemmas.Result.{IfOk-weaker}
use Rattle.acpins_words.specs.Arguments.{alone, files_shape}
use Rattle.acpins_words.proofs.Adding.{rule_added, still_local}
use Rattle.acpins_survey_words.specs.Words.{bodies_rule}
use Rattle.acpins_survey_words.proofs.words.list_form.Goals as goal

pub returns-clause-app : goal.returns-clause-app
returns-clause-app c =
    IfOk-weaker c.arg.result _ _
    (λ command added. rule_added _ command _ (alone (files_shape (codes "list"))) bodies_rule added c.in_ok-over_files.ensures.app c.bodies.ensures.rule c.bodies.ensures.local)
    c.arg.ensures

pub returns-clause-local : goal.returns-clause-local
returns-clause-local c =
    IfOk-weaker c.arg.result _ _
    (λ command added. still_local _ command _ added c.in_ok-over_files.ensures.local c.bodies.ensures.local) c.arg.ensures
