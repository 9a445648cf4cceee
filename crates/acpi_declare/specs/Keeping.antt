-- What a load keeps of what its tables note (ACPI 6.5, 5.3 and 20.2.5.2).
use Rattle.std.specs.Prelude.{◌≡◌, ℕ, List}
use Rattle.acpi_pass.specs.declared.keep.Keep.{Keep}
use Rattle.acpi_pass.specs.Listing.{Placement}
use Rattle.acpi_pass.specs.Notes.{Notes, all_notes}
use Rattle.acpi_pass.specs.Kept.{all_kept}
use Rattle.acpi_pass.specs.Predefined.{predefined}
use Rattle.acpi_declare.specs.Loads.{AreListings}

-- the notes are what is kept of those of the tables
pub record AreKeptNotes (depth : ℕ) (tables : List (List ℕ)) (keep : Keep)
    (notes : List Notes) : Type 0 where
  pub placements : List (List Placement)
  pub listings : AreListings depth 0 predefined tables placements
  pub notes_are : notes ≡ all_kept keep (all_notes predefined placements)
