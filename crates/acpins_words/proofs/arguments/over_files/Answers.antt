use Rattle.std.proofs.lemmas.Result.{IfOk-weaker}
use Rattle.clap.specs.Simple.{new_app, with_rule}
use Rattle.acpins_words.specs.Arguments.{hex_rule, depth_rule, file_rule}
use Rattle.acpins_words.proofs.Adding.{rule_added, still_local}
use Rattle.acpins_words.proofs.arguments.over_files.Goals as goal

pub returns-clause-app : goal.returns-clause-app
returns-clause-app c =
    let begun = with_rule (with_rule (new_app (c.args.name.now)) hex_rule) depth_rule in
    IfOk-weaker c.arg.result _ _
    (λ command added. rule_added _ command _ begun file_rule added c.in_ok-over_tables.ensures.app c.files.ensures.rule c.files.ensures.local)
    c.arg.ensures

pub returns-clause-local : goal.returns-clause-local
returns-clause-local c =
    IfOk-weaker c.arg.result _ _
    (λ command added. still_local _ command _ added c.in_ok-over_tables.ensures.local c.files.ensures.local) c.arg.ensures
