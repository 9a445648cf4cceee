-- What tables load to, of whose bodies that of one method alone is read (ACPI 6.5, 5.3 and 20.2.5.2).
use Rattle.std.specs.Prelude.{◌≡◌, ◌≢◌, ℕ, List, None}
use Rattle.acpi_name.specs.Names.{Segment}
use Rattle.acpi_order.specs.Machines.{Machine, IsMachine}

-- the objects and links are those of the machine to which the tables load, and so is the body at the path; no other
-- path has one
pub record IsMachineAt (depth : ℕ) (tables : List (List ℕ)) (path : List Segment)
    (m : Machine) : Type 0 where
  pub whole : Machine
  pub loads : IsMachine depth tables whole
  pub objects_are : m.objects ≡ whole.objects
  pub links_are : m.links ≡ whole.links
  pub body_is : m.bodies path ≡ whole.bodies path
  pub others : (q : List Segment) → q ≢ path → m.bodies q ≡ None
