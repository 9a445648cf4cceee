use Rattle.std.proofs.Common.{codes}
use Rattle.std.proofs.lemmas.Result.{IfOk-weaker}
use Rattle.clap.specs.Simple.{with_rule}
use Rattle.acpins_words.specs.Arguments.{alone, files_shape}
use Rattle.acpins_words.proofs.Adding.{rule_added, still_local}
use Rattle.acpins_survey_words.specs.Words.{ignore_rule, verbose_rule}
use Rattle.acpins_survey_words.proofs.words.check_form.Goals as goal

pub returns-clause-app : goal.returns-clause-app
returns-clause-app c =
    let begun = alone (files_shape (codes "check")) in
    IfOk-weaker c.arg-2.result _ _
    (λ command added. rule_added _ command _ (with_rule begun verbose_rule) ignore_rule added
    (rule_added _ _ _ begun verbose_rule c.in_ok-arg.ensures c.in_ok-over_files.ensures.app c.verbose.ensures.rule c.verbose.ensures.local)
    c.ignore.ensures.rule c.ignore.ensures.local)
    c.arg-2.ensures

pub returns-clause-local : goal.returns-clause-local
returns-clause-local c =
    IfOk-weaker c.arg-2.result _ _
    (λ command added. still_local _ command _ added (still_local _ _ _ c.in_ok-arg.ensures c.in_ok-over_files.ensures.local c.verbose.ensures.local) c.ignore.ensures.local)
    c.arg-2.ensures
