use Rattle.std.proofs.Common.{◌≡◌, ◌++◌}
use Rattle.std.specs.Vec.Iter.{into_iter_items}
use Rattle.acpi_use_list.proofs.local_list.put_locals.Given as goal

-- the objects so far, and those that are left
abbrev pub invariant-each : goal.invariant-each
invariant-each l =
    l.found.items ++ into_iter_items l.object-iterator ≡ l.initial.found.items ++ into_iter_items l.initial.object-iterator
