use Rattle.std.proofs.Common.{◌≡◌, Some, slice_get, sym, ap}
use Rattle.acpi_conditions.specs.steps.Slots.{Here, paths_of, path_in}
use Rattle.acpi_conditions.proofs.KeptSlots.{found_at, number_there, kept_here}
use Rattle.acpi_conditions.proofs.slots.Slots.certain.Goals as goal

pub returns : goal.returns
returns c =
    let there : slice_get c.args.self.now.slots.items c.args.number ≡ Some c.index-slot.result.now = found_at c.args.self.now.slots.items c.args.number c.index-slot.result.now c.requires.within c.index-slot.ensures in
    ap (λ (x : Here). x.certain) (sym (kept_here c.args.self.now.numbers c.args.self.now.slots.items (path_in (paths_of c.args.self.now.slots.items) c.args.number) c.args.number c.index-slot.result.now c.index-slot.result.now c.requires.numbered
    (number_there c.args.self.now.numbers c.args.self.now.slots.items c.requires.numbered c.args.number c.requires.within) there))
