use Rattle.std.proofs.Common.{List, sym, subst}
use Rattle.acpi_conditions.specs.declared.slots.Slot.{Slot}
use Rattle.acpi_conditions.specs.steps.Slots.{paths_of, IsNumbered}
use Rattle.acpi_conditions.proofs.KeptSlots.{none_numbered}
use Rattle.acpi_conditions.proofs.slots.Slots.new.Goals as goal

pub returns-clause-numbered : goal.returns-clause-numbered
returns-clause-numbered c = subst (λ (l : List Slot). IsNumbered c.new.result (paths_of l)) (sym c.new-2.ensures.items) (none_numbered c.new.result c.new.ensures)
