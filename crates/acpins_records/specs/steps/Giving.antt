-- A body that is given, or none.
use Rattle.std.specs.Prelude.{◌≡◌, ℕ, List, Option, Some, None}
use Rattle.acpi_name.specs.Names.{Segment}
use Rattle.acpi_order.specs.Machines.{Machine, IsMachine}
use Rattle.acpins_records.specs.declared.body.Given.{Given}
use Rattle.acpins_records.specs.Bodies.{IsBodyAt}

abbrev pub BodyOrNone : ℕ → List (List ℕ) → List Segment → Option Given → Type 0
BodyOrNone depth tables path (Some g) = IsBodyAt depth tables path g.record g.text.items
BodyOrNone depth tables path None =
    (machine : Machine) × IsMachine depth tables machine × (machine.bodies path ≡ None)
