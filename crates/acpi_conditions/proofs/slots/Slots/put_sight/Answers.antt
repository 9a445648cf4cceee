use Rattle.std.proofs.Common.{◌≡◌, Some, slice_get, refl}
use Rattle.acpi_conditions.specs.declared.slots.Slot.{Slot}
use Rattle.acpi_conditions.specs.steps.Slots.{paths_of, path_in, with_sight}
use Rattle.acpi_conditions.proofs.KeptSlots.{found_at, number_there, kept_set, numbered_still, paths_kept, kept_still, sight_put, sights_stay, on_err}
use Rattle.acpi_conditions.proofs.slots.Slots.put_sight.Goals as goal

pub returns-clause-numbered : goal.returns-clause-numbered
returns-clause-numbered c =
    let now : Slot = record c.index_mut-slot.result.now { sights = c.push.new.self } in
    numbered_still c.args.self.now.numbers c.args.self.now.slots.items c.args.number c.index_mut-slot.result.now now c.requires.numbered c.index_mut-slot.ensures.value refl

pub returns-clause-paths : goal.returns-clause-paths
returns-clause-paths c =
    let now : Slot = record c.index_mut-slot.result.now { sights = c.push.new.self } in
    paths_kept c.args.self.now.slots.items c.args.number c.index_mut-slot.result.now now c.index_mut-slot.ensures.value refl

pub returns-clause-ok : goal.returns-clause-ok
returns-clause-ok c = λ p.
    let there : slice_get c.args.self.now.slots.items c.args.number ≡ Some c.index_mut-slot.result.now = found_at c.args.self.now.slots.items c.args.number c.index_mut-slot.result.now c.requires.within c.index_mut-slot.ensures.value in
    let now : Slot = record c.index_mut-slot.result.now { sights = c.push.new.self } in
    kept_set c.args.self.now.numbers c.args.self.now.slots.items (path_in (paths_of c.args.self.now.slots.items) c.args.number) c.args.number c.index_mut-slot.result.now now c.requires.numbered
    (number_there c.args.self.now.numbers c.args.self.now.slots.items c.requires.numbered c.args.number c.requires.within) there (with_sight c.args.sight) (sight_put c.index_mut-slot.result.now now c.args.sight c.in_ok-push.ensures.items refl) p

pub returns-in_err-push-clause-numbered : goal.returns-in_err-push-clause-numbered
returns-in_err-push-clause-numbered c =
    let now : Slot = record c.index_mut-slot.result.now { sights = c.push.new.self } in
    numbered_still c.args.self.now.numbers c.args.self.now.slots.items c.args.number c.index_mut-slot.result.now now c.requires.numbered c.index_mut-slot.ensures.value refl

pub returns-in_err-push-clause-paths : goal.returns-in_err-push-clause-paths
returns-in_err-push-clause-paths c =
    let now : Slot = record c.index_mut-slot.result.now { sights = c.push.new.self } in
    paths_kept c.args.self.now.slots.items c.args.number c.index_mut-slot.result.now now c.index_mut-slot.ensures.value refl

pub returns-in_err-push-clause-err : goal.returns-in_err-push-clause-err
returns-in_err-push-clause-err c = on_err c.from_residual.result _ (λ p.
    let there : slice_get c.args.self.now.slots.items c.args.number ≡ Some c.index_mut-slot.result.now = found_at c.args.self.now.slots.items c.args.number c.index_mut-slot.result.now c.requires.within c.index_mut-slot.ensures.value in
    let now : Slot = record c.index_mut-slot.result.now { sights = c.push.new.self } in
    kept_still c.args.self.now.numbers c.args.self.now.slots.items (path_in (paths_of c.args.self.now.slots.items) c.args.number) c.args.number c.index_mut-slot.result.now now c.requires.numbered
    (number_there c.args.self.now.numbers c.args.self.now.slots.items c.requires.numbered c.args.number c.requires.within) there (sights_stay c.index_mut-slot.result.now now c.in_err-push.ensures.items refl) p)
