use Rattle.std.proofs.Common.{◌∙◌, ap}
use Rattle.acpi_conditions.specs.declared.facts.Fact.{Fact}
use Rattle.acpi_conditions.specs.steps.Slots.{with_certain, kept_over, path_in}
use Rattle.acpi_conditions.specs.steps.Facts.{kept_in, paths_in}
use Rattle.acpi_conditions.proofs.FactLists.{fact_put, fact_same, fact_listed}
use Rattle.acpi_conditions.proofs.facts.put_fact.Goals as goal

pub returns-clause-kept : goal.returns-clause-kept
returns-clause-kept c =
    let f : Fact = record { slot = c.args.slot; is_scope = c.args.is_scope; before = c.certain-before.result } in
    fact_put c.args.slots.now c.set_certain.new.self c.args.facts.now.items c.push.new.self.items f c.requires.certain c.set_certain.ensures.numbered c.set_certain.ensures.paths c.requires.within c.certain-before.ensures
    (λ p. c.set_certain.ensures.certain p ∙ ap (λ q. kept_over (path_in (paths_in c.args.slots.now) c.args.slot) (with_certain q) (kept_in c.args.slots.now) p) c.raised.ensures) c.in_ok-push.ensures.items

pub returns-clause-same : goal.returns-clause-same
returns-clause-same c =
    let f : Fact = record { slot = c.args.slot; is_scope = c.args.is_scope; before = c.certain-before.result } in
    fact_same c.args.slots.now c.set_certain.new.self c.args.facts.now.items c.push.new.self.items f c.requires.certain c.set_certain.ensures.numbered c.set_certain.ensures.paths c.requires.within c.certain-before.ensures
    (λ p. c.set_certain.ensures.certain p ∙ ap (λ q. kept_over (path_in (paths_in c.args.slots.now) c.args.slot) (with_certain q) (kept_in c.args.slots.now) p) c.raised.ensures) c.in_ok-push.ensures.items

pub returns-clause-ok : goal.returns-clause-ok
returns-clause-ok c =
    let f : Fact = record { slot = c.args.slot; is_scope = c.args.is_scope; before = c.certain-before.result } in
    fact_listed c.args.slots.now c.set_certain.new.self c.args.facts.now.items c.push.new.self.items f c.requires.certain c.set_certain.ensures.numbered c.set_certain.ensures.paths c.requires.within c.certain-before.ensures
    (λ p. c.set_certain.ensures.certain p ∙ ap (λ q. kept_over (path_in (paths_in c.args.slots.now) c.args.slot) (with_certain q) (kept_in c.args.slots.now) p) c.raised.ensures) c.in_ok-push.ensures.items
