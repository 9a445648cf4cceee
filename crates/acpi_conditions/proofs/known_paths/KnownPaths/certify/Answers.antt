use Rattle.std.proofs.Common.{List, ◌∷◌, refl, ap, ap₂, ◌∙◌}
use Rattle.std.proofs.lemmas.Result.{on_ok_weaker, on_err_weaker}
use Rattle.acpi_conditions.specs.Entries.{Path}
use Rattle.acpi_conditions.specs.Known.{Certain}
use Rattle.acpi_conditions.specs.KnownLists.{KnownLists}
use Rattle.acpi_conditions.specs.declared.known_paths.KnownPaths.TheInside.{Inside}
use Rattle.acpi_conditions.specs.steps.Facts.{paths_in}
use Rattle.acpi_conditions.proofs.KeptSlots.{path_within, path_got, on_err}
use Rattle.acpi_conditions.proofs.FactLists.{listed_reached}
use Rattle.acpi_conditions.proofs.KeptLists.{reached_kept, reached_lists, fact_kept, lists_are}
use Rattle.acpi_conditions.proofs.known_paths.KnownPaths.certify.Goals as goal

pub invariant_of-self : goal.invariant_of-self
invariant_of-self c = reached_kept c.self.inside c.reach.new.self c.self.invariant c.in_err-slot.ensures.numbered c.in_err-slot.ensures.same c.in_err-slot.ensures.paths

pub returns-in_err-slot-clause-err : goal.returns-in_err-slot-clause-err
returns-in_err-slot-clause-err c =
    on_err c.from_residual.result _ (reached_lists c.self.inside c.reach.new.self c.self.invariant c.in_err-slot.ensures.numbered c.in_err-slot.ensures.same c.in_err-slot.ensures.paths ∙ c.self.view_is)

pub put_fact-requires-clause-certain : goal.put_fact-requires-clause-certain
put_fact-requires-clause-certain c = (reached_kept c.self.inside c.reach.new.self c.self.invariant c.in_ok-slot.ensures.numbered c.in_ok-slot.ensures.same c.in_ok-slot.ensures.paths).certain

pub put_fact-requires-clause-within : goal.put_fact-requires-clause-within
put_fact-requires-clause-within c = path_within c.reach.new.self.slots.items c.in_ok-slot.slot c.args.path.now c.in_ok-slot.ensures.number

pub invariant_of-self-2 : goal.invariant_of-self-2
invariant_of-self-2 c =
    let mid : Inside = record c.self.inside { slots = c.reach.new.self } in
    fact_kept mid (record mid { slots = c.put_fact.new.slots; facts = c.put_fact.new.facts })
    (reached_kept c.self.inside c.reach.new.self c.self.invariant c.in_ok-slot.ensures.numbered c.in_ok-slot.ensures.same c.in_ok-slot.ensures.paths)
    c.put_fact.ensures.kept c.put_fact.ensures.same c.put_fact.ensures.paths refl refl

pub returns-clause-ok : goal.returns-clause-ok
returns-clause-ok c =
    let now : Inside = record c.self.inside { slots = c.put_fact.new.slots; facts = c.put_fact.new.facts } in
    on_ok_weaker c.put_fact.result
    (λ e. lists_are c.self.inside now c.self.inside.entries.items _ c.self.inside.hidden.items c.self.inside.in_loop refl
    (e ∙ ap₂ (λ (q : Path) (cs : List Certain). record { path = q; is_scope = c.args.is_scope } ∷ cs) (path_got (paths_in c.reach.new.self) c.in_ok-slot.slot c.args.path.now c.in_ok-slot.ensures.number)
    (listed_reached c.self.inside.slots c.reach.new.self c.self.inside.facts.items c.self.invariant.certain c.in_ok-slot.ensures.numbered c.in_ok-slot.ensures.same c.in_ok-slot.ensures.paths)) refl refl
    ∙ ap (λ (k : KnownLists). record k { certain = record { path = c.args.path.now; is_scope = c.args.is_scope } ∷ k.certain }) c.self.view_is) c.put_fact.ensures.ok

pub returns-clause-err : goal.returns-clause-err
returns-clause-err c =
    let now : Inside = record c.self.inside { slots = c.put_fact.new.slots; facts = c.put_fact.new.facts } in
    on_err_weaker c.put_fact.result
    (λ e. lists_are c.self.inside now c.self.inside.entries.items _ c.self.inside.hidden.items c.self.inside.in_loop refl
    (e ∙ listed_reached c.self.inside.slots c.reach.new.self c.self.inside.facts.items c.self.invariant.certain c.in_ok-slot.ensures.numbered c.in_ok-slot.ensures.same c.in_ok-slot.ensures.paths) refl refl
    ∙ c.self.view_is) c.put_fact.ensures.err
