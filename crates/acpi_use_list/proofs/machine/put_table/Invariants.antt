use Rattle.std.proofs.Common.{◌≡◌, ◌++◌, drop, flat_map}
use Rattle.acpi_module_uses.specs.NameViews.{name_views}
use Rattle.acpi_use_list.specs.Uses.{uses_of_module_name}
use Rattle.acpi_use_list.proofs.machine.put_table.Given as goal

abbrev pub invariant-each : goal.invariant-each
invariant-each l =
    l.found.items ++ flat_map uses_of_module_name (name_views (drop l.name-index l.name-items))
    ≡ l.initial.found.items ++ flat_map uses_of_module_name (name_views l.name-items)
