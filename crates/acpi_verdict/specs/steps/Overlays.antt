-- An SSDT that is declared over a DSDT.
use Rattle.std.specs.Prelude.{◌≡◌, ◌↔◌, ℕ, List, [], ◌∷◌, Some}
use Rattle.acpi_name.specs.Names.{Segment}
use Rattle.acpi_space.specs.Laws.{Among}
use Rattle.acpi_space.specs.Spaces.{PathMap}
use Rattle.acpi_tree.specs.Objects.{ObjectTree}
use Rattle.acpi_tree.specs.declared.object.Object.{Object}
use Rattle.acpi_declare.specs.declared.fault.LoadFault.{LoadFault}
use Rattle.acpi_declare.specs.declared.fault.LoadFault.TheVariants.{At, Memory}
use Rattle.acpi_declare.specs.Declaring.{State, state_of}
use Rattle.acpi_declare.specs.Links.{pending_links}
use Rattle.acpi_declare.specs.Listing.{objects_of}
use Rattle.acpi_declare.specs.Notes.{notes_on}
use Rattle.acpi_order.specs.Independent.{AreSingleListings}
use Rattle.acpi_order.specs.Misses.{Listing, objects_of_first, objects_of_both}
use Rattle.acpi_verdict.specs.declared.overlay.SsdtOverlay.{SsdtOverlay}

-- a refusal, of the table of that number
abbrev pub renumbered : ℕ → LoadFault → LoadFault
renumbered number (At table reason) = At number reason
renumbered number Memory = Memory

-- what is declared, and the paths that the SSDT declares
pub record OverlayTree : Type 0 where
  pub state : State
  pub defined : List (List Segment)

abbrev pub overlay_view : {O : Type 0} → (O → PathMap Object) → SsdtOverlay O → OverlayTree
overlay_view contents l = record { state = state_of contents l.declared; defined = l.defined.items }

-- the objects of both tables, and the links and notes of the SSDT
pub record IsOver (depth : ℕ) (dsdt ssdt : List ℕ) (s : State) : Type 0 where
  pub first : Listing
  pub t : Listing
  pub listings : AreSingleListings depth dsdt ssdt first t
  pub objects_are : s.objects ≡ objects_of_both first t
  pub links_are : s.links ≡ pending_links t
  pub notes_are : s.notes ≡ notes_on (objects_of_first first) t ∷ []

pub record IsOverlay (depth : ℕ) (dsdt ssdt : List ℕ) (l : OverlayTree) : Type 0 where
  pub over : IsOver depth dsdt ssdt l.state
  pub defined_are : (p : List Segment)
      → Among l.defined p ↔ ((o : ObjectTree) × (objects_of over.t p ≡ Some o))
