-- Laws of listings and loads.
use Rattle.std.specs.Prelude.{◌≡◌, ℕ, List}
use Rattle.acpi_space.specs.Lookups.{Lookup}
use Rattle.acpi_pass.specs.Namespace.{Namespace}
use Rattle.acpi_pass.specs.Sites.{Site}
use Rattle.acpi_pass.specs.Listing.{Placement, IsListing}
use Rattle.acpi_pass.specs.Links.{Links}
use Rattle.acpi_pass.specs.Notes.{Notes}
use Rattle.acpi_declare.specs.Loads.{IsLoad, AreNotes}

abbrev pub OneListing : Type 0
OneListing = (objects : Namespace) (xs : List Site) (es fs : List Placement)
    → IsListing objects xs es → IsListing objects xs fs → es ≡ fs

abbrev pub OneLoad : Type 0
OneLoad = (depth : ℕ) (tables : List (List ℕ)) (objects objects' : Namespace)
    (links links' : Lookup Links)
    → IsLoad depth tables objects links → IsLoad depth tables objects' links'
    → (objects ≡ objects') × (links ≡ links')

abbrev pub OneListOfNotes : Type 0
OneListOfNotes = (depth : ℕ) (tables : List (List ℕ)) (notes notes' : List Notes)
    → AreNotes depth tables notes → AreNotes depth tables notes' → notes ≡ notes'
