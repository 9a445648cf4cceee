-- Names at module level as the code keeps them.
use Rattle.std.specs.Prelude.{List, map}
use Rattle.acpi_entries.specs.ConditionViews.{link_view}
use Rattle.acpi_module_uses.specs.declared.names.ModuleName.{ModuleName}
use Rattle.acpi_module_uses.specs.ModuleNames.{ModuleNameParts}

abbrev pub name_view : ModuleName → ModuleNameParts
name_view n =
    record { link = link_view n.link; role = n.role; is_method = n.is_method; place = n.place }

abbrev pub name_views : List ModuleName → List ModuleNameParts
name_views ns = map name_view ns
