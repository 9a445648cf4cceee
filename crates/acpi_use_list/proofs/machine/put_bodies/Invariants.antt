use Rattle.std.proofs.Common.{◌≡◌, ◌++◌, drop}
use Rattle.acpi_use_list.specs.Uses.{uses_of_bodies}
use Rattle.acpi_use_list.proofs.machine.put_bodies.Given as goal

-- the uses in the bodies so far, and in those that are left
abbrev pub invariant-each : goal.invariant-each
invariant-each l =
    l.found.items ++ uses_of_bodies l.survey l.callables l.number (drop l.number l.bodies)
    ≡ l.initial.found.items ++ uses_of_bodies l.survey l.callables 0 l.bodies
