use Rattle.std.proofs.Common.{[], ◌∷◌, ◌++◌, refl, ap, ◌∙◌}
use Rattle.acpi_conditions.specs.KnownLists.{KnownLists}
use Rattle.acpi_conditions.specs.declared.known_paths.KnownPaths.TheInside.{Inside}
use Rattle.acpi_conditions.proofs.KeptSlots.{on_err}
use Rattle.acpi_conditions.proofs.KeptLists.{reached_kept, reached_lists, same_kept, same_lists, same_count, taken_back, entry_kept, entry_lists}
use Rattle.acpi_conditions.proofs.known_paths.KnownPaths.put.Goals as goal

pub invariant_of-self : goal.invariant_of-self
invariant_of-self c = reached_kept c.self.inside c.reach.new.self c.self.invariant c.in_err-slot.ensures.numbered c.in_err-slot.ensures.same c.in_err-slot.ensures.paths

pub returns-in_err-slot-clause-err : goal.returns-in_err-slot-clause-err
returns-in_err-slot-clause-err c =
    on_err c.from_residual.result _ (reached_lists c.self.inside c.reach.new.self c.self.invariant c.in_err-slot.ensures.numbered c.in_err-slot.ensures.same c.in_err-slot.ensures.paths ∙ c.self.view_is)

pub invariant_of-self-in_err-push : goal.invariant_of-self-in_err-push
invariant_of-self-in_err-push c =
    let mid : Inside = record c.self.inside { slots = c.reach.new.self } in
    same_kept mid (record mid { entry_slots = c.push.new.self })
    (reached_kept c.self.inside c.reach.new.self c.self.invariant c.in_ok-slot.ensures.numbered c.in_ok-slot.ensures.same c.in_ok-slot.ensures.paths) c.in_ok-slot.ensures.numbered (λ p. refl) refl refl refl c.in_err-push.ensures.items

pub returns-in_err-push-clause-err : goal.returns-in_err-push-clause-err
returns-in_err-push-clause-err c =
    on_err _ _ (reached_lists c.self.inside c.reach.new.self c.self.invariant c.in_ok-slot.ensures.numbered c.in_ok-slot.ensures.same c.in_ok-slot.ensures.paths ∙ c.self.view_is)

pub invariant_of-self-in-Err : goal.invariant_of-self-in-Err
invariant_of-self-in-Err c =
    let mid : Inside = record c.self.inside { slots = c.reach.new.self } in
    same_kept mid (record mid { slots = c.put_entry.new.slots; entries = c.put_entry.new.entries; entry_slots = c.truncate.new.self })
    (reached_kept c.self.inside c.reach.new.self c.self.invariant c.in_ok-slot.ensures.numbered c.in_ok-slot.ensures.same c.in_ok-slot.ensures.paths)
    c.in-Err.ensures.numbered c.in-Err.ensures.err c.in-Err.ensures.paths refl c.in-Err.ensures.err_entries
    (taken_back c.self.inside.entry_slots.items c.push.new.self.items c.truncate.new.self.items c.in_ok-slot.slot c.len-number.result c.in_ok-push.ensures.items
    (c.len-number.ensures ∙ c.self.inside.entries.ok.0 ∙ same_count c.self.inside c.self.invariant) c.truncate.ensures.items)

pub returns-in-Err-clause-err : goal.returns-in-Err-clause-err
returns-in-Err-clause-err c =
    let mid : Inside = record c.self.inside { slots = c.reach.new.self } in
    same_lists mid (record mid { slots = c.put_entry.new.slots; entries = c.put_entry.new.entries; entry_slots = c.truncate.new.self }) c.in-Err.ensures.paths refl c.in-Err.ensures.err_entries refl refl
    ∙ reached_lists c.self.inside c.reach.new.self c.self.invariant c.in_ok-slot.ensures.numbered c.in_ok-slot.ensures.same c.in_ok-slot.ensures.paths ∙ c.self.view_is

pub invariant_of-self-in-Ok : goal.invariant_of-self-in-Ok
invariant_of-self-in-Ok c =
    let mid : Inside = record c.self.inside { slots = c.reach.new.self } in
    entry_kept mid (record mid { slots = c.put_entry.new.slots; entries = c.put_entry.new.entries; entry_slots = c.push.new.self }) c.in_ok-slot.slot c.args.entry
    (reached_kept c.self.inside c.reach.new.self c.self.invariant c.in_ok-slot.ensures.numbered c.in_ok-slot.ensures.same c.in_ok-slot.ensures.paths)
    c.in-Ok.ensures.numbered c.in-Ok.ensures.paths c.in-Ok.ensures.ok c.in-Ok.ensures.entries c.in_ok-slot.ensures.number c.in_ok-push.ensures.items refl

pub returns-in-Ok-clause-ok : goal.returns-in-Ok-clause-ok
returns-in-Ok-clause-ok c =
    let mid : Inside = record c.self.inside { slots = c.reach.new.self } in
    entry_lists mid (record mid { slots = c.put_entry.new.slots; entries = c.put_entry.new.entries; entry_slots = c.push.new.self }) c.in_ok-slot.slot c.args.entry
    (reached_kept c.self.inside c.reach.new.self c.self.invariant c.in_ok-slot.ensures.numbered c.in_ok-slot.ensures.same c.in_ok-slot.ensures.paths)
    c.in-Ok.ensures.numbered c.in-Ok.ensures.paths c.in-Ok.ensures.ok c.in-Ok.ensures.entries c.in_ok-slot.ensures.number c.in_ok-push.ensures.items refl refl refl
    ∙ ap (λ (k : KnownLists). record k { entries = k.entries ++ c.args.entry ∷ [] }) (reached_lists c.self.inside c.reach.new.self c.self.invariant c.in_ok-slot.ensures.numbered c.in_ok-slot.ensures.same c.in_ok-slot.ensures.paths ∙ c.self.view_is)
