-- Why the method that tables declare at a path has no reading, or that it has one (ACPI 6.5, 5.3 and 20.2.5).
use Rattle.std.specs.Prelude.{◌≡◌, ◌≢◌, ◌⊎◌, ℕ, List, Option, None}
use Rattle.acpi_name.specs.Names.{Segment}
use Rattle.acpi_space.specs.Laws.{Among}
use Rattle.acpi_declare.specs.Namespace.{Namespace}
use Rattle.acpi_declare.specs.Predefined.{predefined}
use Rattle.acpi_declare.specs.Listing.{Placement}
use Rattle.acpi_declare.specs.Loads.{AreListings, objects_after}
use Rattle.acpi_values.specs.declared.fault.BodyFault.{BodyFault}
use Rattle.acpi_body.specs.Reasons.{IsReason}
use Rattle.acpi_order.specs.Bodies.{Method, all_methods, grammar_of}

-- one of the methods stands at the path, and this is told of its body; or none does, and nothing is told
abbrev pub IsReasonAt : ℕ → Namespace → List Method → List Segment → Option BodyFault → Type 0
IsReasonAt depth objects ms p w =
    ((m : Method) × Among ms m × (m.path ≡ p) × IsReason (grammar_of objects m) m.path depth m.code w)
    ⊎ (((m : Method) → Among ms m → m.path ≢ p) × (w ≡ None))

-- what is told of the method that the tables declare at the path, over all their objects
pub record IsExplained (depth : ℕ) (tables : List (List ℕ)) (p : List Segment)
    (w : Option BodyFault) : Type 0 where
  pub placements : List (List Placement)
  pub listings : AreListings depth 0 predefined tables placements
  pub reason : IsReasonAt depth (objects_after predefined placements) (all_methods placements) p w
