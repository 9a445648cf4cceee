use Rattle.std.proofs.lemmas.Result.{IfOk-weaker}
use Rattle.clap.specs.Simple.{new_app, with_rule}
use Rattle.acpins_words.specs.Arguments.{hex_rule, depth_rule}
use Rattle.acpins_words.proofs.Adding.{rule_added, still_local}
use Rattle.acpins_words.proofs.arguments.over_tables.Goals as goal

pub returns-clause-app : goal.returns-clause-app
returns-clause-app c =
    let begun = new_app c.args.name.now in
    IfOk-weaker c.arg-2.result _ _
    (λ command added. rule_added _ command _ (with_rule begun hex_rule) depth_rule added
    (rule_added _ _ _ begun hex_rule c.in_ok-arg.ensures c.new.ensures.app c.hex.ensures.rule c.hex.ensures.local) c.depth.ensures.rule c.depth.ensures.local)
    c.arg-2.ensures

pub returns-clause-local : goal.returns-clause-local
returns-clause-local c =
    IfOk-weaker c.arg-2.result _ _
    (λ command added. still_local _ command _ added (still_local _ _ _ c.in_ok-arg.ensures c.new.ensures.local c.hex.ensures.local) c.depth.ensures.local) c.arg-2.ensures
