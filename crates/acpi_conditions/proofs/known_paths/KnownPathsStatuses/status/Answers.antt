use Rattle.std.proofs.Common.{◌∙◌, sym, ap}
use Rattle.acpi_conditions.specs.KnownLists.{KnownLists}
use Rattle.acpi_conditions.proofs.KeptLists.{possible_in_loop, possible_scope_in_loop, possible_outside, possible_scope_outside}
use Rattle.acpi_conditions.proofs.known_paths.KnownPathsStatuses.status.Goals as goal

pub returns-then-self-clause-possible : goal.returns-then-self-clause-possible
returns-then-self-clause-possible c = possible_in_loop c.args.self.now c.args.path.now (sym (ap (λ (k : KnownLists). k.in_loop) c.self.view_is) ∙ c.if-self.true)

pub returns-then-self-clause-possible_scope : goal.returns-then-self-clause-possible_scope
returns-then-self-clause-possible_scope c = possible_scope_in_loop c.args.self.now c.args.path.now (sym (ap (λ (k : KnownLists). k.in_loop) c.self.view_is) ∙ c.if-self.true)

pub returns-clause-possible : goal.returns-clause-possible
returns-clause-possible c =
    c.seen_of-possible.ensures.something
    ∙ possible_outside c.args.self.now c.args.path.now c.deref.result.now c.at-here.result.sights.now (c.deref.ensures.value ∙ ap (λ (k : KnownLists). k.hidden) c.self.view_is) c.at-here.ensures.sights (sym (ap (λ (k : KnownLists). k.in_loop) c.self.view_is) ∙ c.if-self.false)

pub returns-clause-possible_scope : goal.returns-clause-possible_scope
returns-clause-possible_scope c =
    c.seen_of-possible.ensures.scope
    ∙ possible_scope_outside c.args.self.now c.args.path.now c.deref.result.now c.at-here.result.sights.now (c.deref.ensures.value ∙ ap (λ (k : KnownLists). k.hidden) c.self.view_is) c.at-here.ensures.sights (sym (ap (λ (k : KnownLists). k.in_loop) c.self.view_is) ∙ c.if-self.false)
