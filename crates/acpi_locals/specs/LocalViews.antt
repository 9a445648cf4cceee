-- Objects and names of bodies, as the code keeps them.
use Rattle.std.specs.Prelude.{List, map}
use Rattle.acpi_kinds.specs.Views.{kind_view}
use Rattle.acpi_entries.specs.ConditionViews.{link_view, link_views}
use Rattle.acpi_locals.specs.declared.locals.LocalObject.{LocalObject}
use Rattle.acpi_locals.specs.declared.body_names.BodyName.{BodyName}
use Rattle.acpi_locals.specs.LocalObjects.{LocalParts}
use Rattle.acpi_locals.specs.BodyNames.{BodyNameParts}

abbrev pub local_view : LocalObject → LocalParts
local_view l =
    record {
      path = l.path;
      object = kind_view l.object;
      links = link_views l.links.items;
      method = l.method;
      line = l.line;
    }

abbrev pub local_views : List LocalObject → List LocalParts
local_views ls = map local_view ls

abbrev pub name_view : BodyName → BodyNameParts
name_view n =
    record {
      link = link_view n.link;
      is_local = n.is_local;
      role = n.role;
      method = n.method;
      line = n.line;
    }

abbrev pub name_views : List BodyName → List BodyNameParts
name_views ns = map name_view ns
