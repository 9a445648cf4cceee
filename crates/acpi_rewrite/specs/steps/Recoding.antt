-- Tables that are rewritten one after another.
use Rattle.std.specs.Prelude.{◌≡◌, ℕ, List, take}
use Rattle.acpi_tree.specs.Tree.{ItemTrees}
use Rattle.acpi_declare.specs.Namespace.{Namespace}
use Rattle.acpi_declare.specs.Predefined.{predefined}
use Rattle.acpi_declare.specs.Listing.{Placement, IsListing}
use Rattle.acpi_declare.specs.Loads.{AreListings, objects_after}
use Rattle.acpi_declare.specs.Notes.{Notes, all_notes}
use Rattle.acpi_declare.specs.Sites.{sites}
use Rattle.acpi_declare.specs.Tables.{IsTableOf}
use Rattle.acpi_order.specs.Bodies.{methods_of}
use Rattle.acpi_order.specs.steps.Noted.{noted}
use Rattle.acpi_rewrite.specs.Rewriting.{AreEachRewritten}

-- the bytes are a table of a load, with this listing, and its methods are noted
pub record IsNoted (depth : ℕ) (bytes : List ℕ) (placements : List Placement)
    (notes : Notes) : Type 0 where
  pub number : ℕ
  pub before : Namespace
  pub items : ItemTrees
  pub table : IsTableOf depth number bytes items
  pub listing : IsListing before (sites items) placements
  pub methods_are : noted notes ≡ methods_of placements

-- the first tables of a load, of which this is noted, are rewritten
pub record IsRewrittenTo (depth : ℕ) (tables : List (List ℕ)) (notes : List Notes)
    (objects : Namespace) (done : ℕ) (rewritten : List (List ℕ)) : Type 0 where
  pub placements : List (List Placement)
  pub listings : AreListings depth 0 predefined tables placements
  pub notes_are : notes ≡ all_notes predefined placements
  pub objects_are : objects ≡ objects_after predefined placements
  pub each : AreEachRewritten depth objects (take done placements) (take done tables) rewritten
