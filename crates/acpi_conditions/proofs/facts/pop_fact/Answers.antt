use Rattle.acpi_conditions.proofs.FactLists.{popped_within, fact_popped, sights_popped}
use Rattle.acpi_conditions.proofs.facts.pop_fact.Goals as goal

pub set_certain-requires-clause-within : goal.set_certain-requires-clause-within
set_certain-requires-clause-within c = popped_within c.args.slots.now c.args.facts.now.items c.pop.new.self.items c.in-Some.fact c.requires c.in-Some.ensures.items

pub returns-in-Some-clause-kept : goal.returns-in-Some-clause-kept
returns-in-Some-clause-kept c =
    fact_popped c.args.slots.now c.args.facts.now.items c.pop.new.self.items c.in-Some.fact c.requires c.in-Some.ensures.items c.set_certain.new.self c.set_certain.ensures.numbered c.set_certain.ensures.paths c.set_certain.ensures.certain

pub returns-in-Some-clause-same : goal.returns-in-Some-clause-same
returns-in-Some-clause-same c =
    sights_popped c.args.slots.now c.args.facts.now.items c.pop.new.self.items c.in-Some.fact c.requires c.in-Some.ensures.items c.set_certain.new.self c.set_certain.ensures.numbered c.set_certain.ensures.paths c.set_certain.ensures.certain
