-- What tables load to: objects, links and bodies (ACPI 6.5, 5.3).
use Rattle.std.specs.Prelude.{◌≡◌, ℕ, List}
use Rattle.acpi_space.specs.Lookups.{Lookup}
use Rattle.acpi_declare.specs.Namespace.{Namespace}
use Rattle.acpi_declare.specs.Predefined.{predefined}
use Rattle.acpi_declare.specs.Listing.{Placement}
use Rattle.acpi_declare.specs.Links.{Links, links_of, all_pending}
use Rattle.acpi_declare.specs.Loads.{AreListings, objects_after}
use Rattle.acpi_body.specs.Bodies.{BodyTree}
use Rattle.acpi_order.specs.Bodies.{all_methods, AreBodies, bodies_at}

pub record Machine : Type 0 where
  pub objects : Namespace
  pub links : Lookup Links
  pub bodies : Lookup BodyTree

-- The tables load to the machine: they declare its objects, one table after another; then the links are searched and
-- the bodies are read, over all of these objects.
pub record IsMachine (depth : ℕ) (tables : List (List ℕ)) (m : Machine) : Type 0 where
  pub placements : List (List Placement)
  pub listings : AreListings depth 0 predefined tables placements
  pub objects_are : m.objects ≡ objects_after predefined placements
  pub links_are : m.links ≡ links_of m.objects (all_pending placements)
  pub trees : List BodyTree
  pub read : AreBodies depth m.objects (all_methods placements) trees
  pub bodies_are : m.bodies ≡ bodies_at (all_methods placements) trees
