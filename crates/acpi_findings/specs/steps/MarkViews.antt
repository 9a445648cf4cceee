-- The calls and loads as the code keeps them.
use Rattle.std.specs.Prelude.{List, map, Option, Some, None}
use Rattle.std.specs.Borrow.{Bor}
use Rattle.acpi_name.specs.Names.{NameParts}
use Rattle.acpi_findings.specs.Marks.{MarkTree, PlacedMark, called, load}
use Rattle.acpi_findings.specs.declared.marks.CalledName.{CalledName}

abbrev pub mark_of : Option (Bor NameParts) → MarkTree
mark_of None = load
mark_of (Some n) = called n.now

abbrev pub mark_view : CalledName → PlacedMark
mark_view m = (m.place, mark_of m.name)

abbrev pub mark_views : List CalledName → List PlacedMark
mark_views ms = map mark_view ms
