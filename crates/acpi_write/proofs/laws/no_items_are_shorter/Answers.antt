use Rattle.acpi_write.proofs.ItemsShorter.{items_are_shortest, items_are_typed}
use Rattle.acpi_write.proofs.laws.no_items_are_shorter.Goals as goal

pub returns-clause-within : goal.returns-clause-within
returns-clause-within c = items_are_shortest

pub returns-clause-typed : goal.returns-clause-typed
returns-clause-typed c = items_are_typed
