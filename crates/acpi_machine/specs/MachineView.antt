-- What a `Machine` holds.
use Rattle.std.specs.Prelude.{◌≡◌, ℕ, List, map}
use Rattle.std.specs.FinMap.{FinMap, from_entries, get}
use Rattle.std.specs.BTreeMap.{BTreeMap}
use Rattle.acpi_name.specs.Names.{Segment}
use Rattle.acpi_name.specs.Paths.{path_cmp}
use Rattle.acpi_space.specs.Spaces.{PathMap}
use Rattle.acpi_space.specs.Lookups.{Lookup}
use Rattle.acpi_tree.specs.declared.object.Object.{Object}
use Rattle.acpi_declare.specs.Namespace.{Namespace, namespace_of}
use Rattle.acpi_declare.specs.Links.{Links, links_at}
use Rattle.acpi_pass.specs.declared.link_map.LinkMap.{LinkMap}
use Rattle.acpi_body.specs.declared.body.Body.{Body}
use Rattle.acpi_body.specs.Bodies.{BodyTree, body_view}
use Rattle.acpi_order.specs.Machines.{Machine, IsMachine}
use Rattle.acpi_machine.specs.declared.machine.Machine as code

abbrev pub objects_in : {S : Type 0} → code.Machine S → S
objects_in m = m.objects

abbrev pub links_in : {S : Type 0} → code.Machine S → LinkMap
links_in m = m.links

abbrev pub bodies_in : {S : Type 0} → code.Machine S → BTreeMap (List Segment) Body
bodies_in m = m.bodies

-- the bodies that a map holds
abbrev pub body_map : BTreeMap (List Segment) Body → FinMap path_cmp BodyTree
body_map m = from_entries (map (λ e. (e.0, body_view e.1)) m.entries)

abbrev pub bodies_of : BTreeMap (List Segment) Body → Lookup BodyTree
bodies_of m = get (body_map m)

-- the machine, by what a space holds
abbrev pub machine_of : {S : Type 0} → (S → PathMap Object) → code.Machine S → Machine
machine_of contents m =
    record {
      objects = namespace_of (contents m.objects);
      links = links_at m.links;
      bodies = bodies_of m.bodies;
    }

-- a machine of these objects and links, to which the tables load
abbrev pub HasMachine : ℕ → List (List ℕ) → Namespace → Lookup Links → Type 0
HasMachine depth tables objects links =
    (m : Machine) × IsMachine depth tables m × (m.objects ≡ objects) × (m.links ≡ links)
