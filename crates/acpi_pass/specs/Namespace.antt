-- A namespace: the object at each path (ACPI 6.5, 5.3).
use Rattle.std.specs.Prelude.{◌≡◌, List, Some, IsTrue}
use Rattle.std.specs.Option.{option_map}
use Rattle.std.specs.FinMap.{get}
use Rattle.acpi_name.specs.Names.{Segment}
use Rattle.acpi_space.specs.Spaces.{PathMap}
use Rattle.acpi_space.specs.Lookups.{Lookup}
use Rattle.acpi_tree.specs.Objects.{ObjectTree, object_view, opens_scope}
use Rattle.acpi_tree.specs.declared.object.Object.{Object}

abbrev pub Namespace : Type 0
Namespace = Lookup ObjectTree

-- the namespace that a map of objects holds
abbrev pub namespace_of : PathMap Object → Namespace
namespace_of m p = option_map object_view (get m p)

-- an object that may have others below it stands there
abbrev pub IsOpen : Namespace → List Segment → Type 0
IsOpen objects p = (o : ObjectTree) × (objects p ≡ Some o) × IsTrue (opens_scope o)
