use Rattle.std.proofs.Common.{◌≡◌, ◌++◌, drop}
use Rattle.acpi_locals.specs.LocalViews.{local_views}
use Rattle.acpi_use_list.specs.LocalLists.{locals_of_bodies}
use Rattle.acpi_use_list.proofs.local_list.locals_of_machine.Given as goal

-- the objects of the bodies so far, and of those that are left
abbrev pub invariant-each : goal.invariant-each
invariant-each l =
    local_views l.found.items ++ locals_of_bodies l.survey l.number (drop l.number l.bodies) ≡ locals_of_bodies l.survey 0 l.bodies
