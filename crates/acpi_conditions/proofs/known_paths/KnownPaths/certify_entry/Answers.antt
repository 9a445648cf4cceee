use Rattle.std.proofs.Common.{◌≡◌, List, ◌++◌, Option, Some, None, slice_get, refl, sym, ap, ◌∙◌}
use Rattle.std.specs.Option.{option_map, option_copied}
use Rattle.std.proofs.lemmas.Result.{on_ok_weaker}
use Rattle.acpi_conditions.specs.Entries.{Path}
use Rattle.acpi_conditions.specs.Known.{Certain}
use Rattle.acpi_conditions.specs.KnownLists.{KnownLists}
use Rattle.acpi_conditions.specs.declared.known_paths.KnownPaths.TheInside.{Inside}
use Rattle.acpi_conditions.specs.steps.Facts.{paths_in, certain_by}
use Rattle.acpi_conditions.specs.steps.Settled.{certain_there}
use Rattle.acpi_conditions.proofs.KeptSlots.{path_within}
use Rattle.acpi_conditions.proofs.KeptLists.{slot_there, no_slot_there, certified, lists_are}
use Rattle.acpi_conditions.proofs.WayTrees.{got_at}
use Rattle.acpi_conditions.proofs.known_paths.KnownPaths.certify_entry.Goals as goal

pub put_fact-requires-clause-within : goal.put_fact-requires-clause-within
put_fact-requires-clause-within c =
    let at : slice_get c.self.inside.entry_slots.items c.args.number ≡ Some c.in-Some.slot.now =
    sym (got_at c.deref.result.now c.self.inside.entry_slots.items c.args.number c.get.result c.get.ensures.lookup c.deref.ensures.value) ∙ ap option_copied c.in-Some.is in
    let there = slot_there (paths_in c.self.inside.slots) c.self.inside.entry_slots.items c.self.inside.entries.items c.args.number c.in-Some.slot.now c.self.invariant.numbers at in
    path_within c.self.inside.slots.slots.items c.in-Some.slot.now there.0 there.1.1

pub returns-in-Some-clause-ok : goal.returns-in-Some-clause-ok
returns-in-Some-clause-ok c =
    let at : slice_get c.self.inside.entry_slots.items c.args.number ≡ Some c.in-Some.slot.now =
    sym (got_at c.deref.result.now c.self.inside.entry_slots.items c.args.number c.get.result c.get.ensures.lookup c.deref.ensures.value) ∙ ap option_copied c.in-Some.is in
    let there = slot_there (paths_in c.self.inside.slots) c.self.inside.entry_slots.items c.self.inside.entries.items c.args.number c.in-Some.slot.now c.self.invariant.numbers at in
    let now : Inside = record c.self.inside { slots = c.put_fact.new.slots; facts = c.put_fact.new.facts } in
    let listed = certified (paths_in c.self.inside.slots) c.args.presence (option_map (λ e. e.path) (slice_get c.self.inside.entries.items c.args.number)) c.in-Some.slot.now c.is_a_scope.result there.0 there.1.0 there.1.1 c.is_a_scope.ensures
    (sym c.is_something.ensures ∙ c.if-not-is_something.false) in
    on_ok_weaker c.put_fact.result
    (λ e. lists_are c.self.inside now c.self.inside.entries.items _ c.self.inside.hidden.items c.self.inside.in_loop refl
    (e ∙ ap (λ (l : List Certain). l ++ certain_by c.self.inside.slots c.self.inside.facts.items) listed) refl refl
    ∙ ap (λ (k : KnownLists). record k { certain = certain_there c.args.presence (option_map (λ e. e.path) (slice_get k.entries c.args.number)) ++ k.certain }) c.self.view_is) c.put_fact.ensures.ok

pub returns-in-None-clause-ok : goal.returns-in-None-clause-ok
returns-in-None-clause-ok c =
    let at : slice_get c.self.inside.entry_slots.items c.args.number ≡ None =
    sym (got_at c.deref.result.now c.self.inside.entry_slots.items c.args.number c.get.result c.get.ensures.lookup c.deref.ensures.value) ∙ ap option_copied c.in-None.is in
    let none : slice_get c.args.self.now.entries c.args.number ≡ None =
    ap (λ (k : KnownLists). slice_get k.entries c.args.number) (sym c.self.view_is) ∙ no_slot_there (paths_in c.self.inside.slots) c.self.inside.entry_slots.items c.self.inside.entries.items c.args.number c.self.invariant.numbers at in
    sym (ap (λ (o : Option Path). record c.args.self.now { certain = certain_there c.args.presence o ++ c.args.self.now.certain }) (ap (option_map (λ e. e.path)) none))
