use Rattle.std.proofs.Common.{◌≡◌, ◌++◌, drop, flat_map}
use Rattle.acpi_locals.specs.LocalViews.{name_views}
use Rattle.acpi_use_list.specs.Uses.{uses_of_name}
use Rattle.acpi_use_list.proofs.machine.put_terms.Given as goal

abbrev pub invariant-each : goal.invariant-each
invariant-each l =
    l.found.items ++ flat_map (uses_of_name l.survey l.callables) (name_views (drop l.name-index l.name-items))
    ≡ l.initial.found.items ++ flat_map (uses_of_name l.survey l.callables) (name_views l.name-items)
