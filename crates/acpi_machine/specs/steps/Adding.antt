-- Bodies, one method after another.
use Rattle.std.specs.Prelude.{◌≡◌, ℕ, List, [], ◌∷◌}
use Rattle.acpi_space.specs.Lookups.{Lookup, nothing, singleton, union}
use Rattle.acpi_pass.specs.declared.keep.Keep.{Keep}
use Rattle.acpi_declare.specs.Keeping.{AreKeptNotes}
use Rattle.acpi_declare.specs.Loads.{IsLoad}
use Rattle.acpi_declare.specs.Namespace.{Namespace}
use Rattle.acpi_declare.specs.Notes.{Notes}
use Rattle.acpi_body.specs.Bodies.{BodyTree}
use Rattle.acpi_order.specs.Bodies.{Method, IsBody}
use Rattle.acpi_order.specs.Machines.{Machine}
use Rattle.acpi_order.specs.steps.Noted.{all_noted}

-- each method's body goes over what is there
abbrev pub AddsBodies : ℕ → Namespace → List Method → Lookup BodyTree → Lookup BodyTree → Type 0
AddsBodies depth objects [] before now = now ≡ before
AddsBodies depth objects (m ∷ ms) before now = (b : BodyTree) × IsBody depth objects m b
    × AddsBodies depth objects ms (union (singleton m.path b) before) now

-- the objects and links to which the tables load, and the bodies of the methods whose notes are kept
pub record HasBodies (keep : Keep) (depth : ℕ) (tables : List (List ℕ)) (m : Machine) : Type 0 where
  pub loads : IsLoad depth tables m.objects m.links
  pub notes : List Notes
  pub kept : AreKeptNotes depth tables keep notes
  pub bodies : AddsBodies depth m.objects (all_noted notes) nothing m.bodies
