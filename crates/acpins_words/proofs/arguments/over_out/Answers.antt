use Rattle.std.proofs.lemmas.Result.{IfOk-weaker}
use Rattle.clap.specs.Simple.{new_app, with_rule}
use Rattle.acpins_words.specs.Arguments.{hex_rule, depth_rule, file_rule, out_rule}
use Rattle.acpins_words.proofs.Adding.{rule_added, still_local}
use Rattle.acpins_words.proofs.arguments.over_out.Goals as goal

pub returns-clause-app : goal.returns-clause-app
returns-clause-app c =
    let begun = with_rule (with_rule (new_app (c.args.name.now)) hex_rule) depth_rule in
    IfOk-weaker c.arg-2.result _ _
    (λ command added. rule_added _ command _ (with_rule begun out_rule) file_rule added
    (rule_added _ _ _ begun out_rule c.in_ok-arg.ensures c.in_ok-over_tables.ensures.app c.out.ensures.rule c.out.ensures.local) c.files.ensures.rule c.files.ensures.local)
    c.arg-2.ensures

pub returns-clause-local : goal.returns-clause-local
returns-clause-local c =
    IfOk-weaker c.arg-2.result _ _
    (λ command added. still_local _ command _ added (still_local _ _ _ c.in_ok-arg.ensures c.in_ok-over_tables.ensures.local c.out.ensures.local) c.files.ensures.local)
    c.arg-2.ensures
