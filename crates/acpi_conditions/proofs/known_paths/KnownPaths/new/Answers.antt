use Rattle.std.proofs.Common.{false}
use Rattle.acpi_conditions.proofs.KeptLists.{nothing_kept_yet}
use Rattle.acpi_conditions.proofs.known_paths.KnownPaths.new.Goals as goal

pub invariant_of-result : goal.invariant_of-result
invariant_of-result c =
    nothing_kept_yet (record { slots = c.new.result; entries = c.new-2.result; entry_slots = c.new-3.result; facts = c.new-4.result; hidden = c.new-5.result; in_loop = false }) c.new.ensures.numbered c.new.ensures.empty
    c.new-4.ensures.items c.new-2.ensures.items c.new-3.ensures.items
