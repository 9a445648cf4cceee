use Rattle.std.proofs.Common.{◌≡◌, Some, slice_get, refl}
use Rattle.acpi_conditions.specs.declared.slots.Slot.{Slot}
use Rattle.acpi_conditions.specs.steps.Slots.{paths_of, path_in, with_certain}
use Rattle.acpi_conditions.proofs.KeptSlots.{found_at, number_there, kept_set, numbered_still, paths_kept}
use Rattle.acpi_conditions.proofs.slots.Slots.set_certain.Goals as goal

pub returns-clause-numbered : goal.returns-clause-numbered
returns-clause-numbered c =
    let now : Slot = record c.index_mut-slot.result.now { certain = c.args.certain } in
    numbered_still c.args.self.now.numbers c.args.self.now.slots.items c.args.number c.index_mut-slot.result.now now c.requires.numbered c.index_mut-slot.ensures.value refl

pub returns-clause-paths : goal.returns-clause-paths
returns-clause-paths c =
    let now : Slot = record c.index_mut-slot.result.now { certain = c.args.certain } in
    paths_kept c.args.self.now.slots.items c.args.number c.index_mut-slot.result.now now c.index_mut-slot.ensures.value refl

pub returns-clause-certain : goal.returns-clause-certain
returns-clause-certain c = λ p.
    let there : slice_get c.args.self.now.slots.items c.args.number ≡ Some c.index_mut-slot.result.now = found_at c.args.self.now.slots.items c.args.number c.index_mut-slot.result.now c.requires.within c.index_mut-slot.ensures.value in
    let now : Slot = record c.index_mut-slot.result.now { certain = c.args.certain } in
    kept_set c.args.self.now.numbers c.args.self.now.slots.items (path_in (paths_of c.args.self.now.slots.items) c.args.number) c.args.number c.index_mut-slot.result.now now c.requires.numbered
    (number_there c.args.self.now.numbers c.args.self.now.slots.items c.requires.numbered c.args.number c.requires.within) there (with_certain c.args.certain) refl p
