use Rattle.std.proofs.lemmas.Result.{IfOk-weaker}
use Rattle.acpins_words.specs.Arguments.{alone, files_shape}
use Rattle.acpins_words.proofs.Adding.{rule_added, still_local}
use Rattle.acpins_survey_words.specs.Words.{verbose_rule}
use Rattle.acpins_survey_words.proofs.words.verbose_form.Goals as goal

pub returns-clause-app : goal.returns-clause-app
returns-clause-app c =
    IfOk-weaker c.arg.result _ _
    (λ command added. rule_added _ command _ (alone (files_shape c.args.name.now)) verbose_rule added c.in_ok-over_files.ensures.app c.verbose.ensures.rule c.verbose.ensures.local)
    c.arg.ensures

pub returns-clause-local : goal.returns-clause-local
returns-clause-local c =
    IfOk-weaker c.arg.result _ _
    (λ command added. still_local _ command _ added c.in_ok-over_files.ensures.local c.verbose.ensures.local) c.arg.ensures
