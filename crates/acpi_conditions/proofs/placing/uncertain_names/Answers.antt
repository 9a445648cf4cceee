use Rattle.std.proofs.Common.{◌++◌, ◌∷◌, [], cond, not, ap, ◌∙◌, arith}
use Rattle.acpi_conditions.specs.Known.{is_certain_name}
use Rattle.acpi_conditions.proofs.Placings.{ask_more, all_asked}
use Rattle.acpi_conditions.proofs.placing.uncertain_names.Goals as goal

pub loop-name-preserved : goal.loop-name-preserved
loop-name-preserved g c =
    let test = is_certain_name (g.S.Statuses.known c.args.known.now) c.args.scope.now in
    ask_more test c.args.names.now c.loop-name.asked.items c.ask.new.asked.items c.loop-name.name-index c.name-item.result (grind arith) c.name-item.is c.loop-name.invariant
    (c.in_ok-ask.ensures ∙ ap (λ b. c.loop-name.asked.items ++ cond b [] (c.name-item.result ∷ [])) (c.in_ok-found.ensures.certain ∙ ap test c.view.ensures.parts))

pub returns : goal.returns
returns g c =
    all_asked (λ n. not (is_certain_name (g.S.Statuses.known c.args.known.now) c.args.scope.now n)) c.args.names.now c.loop-name.asked.items c.loop-name.name-index (grind arith) c.loop-name.invariant
