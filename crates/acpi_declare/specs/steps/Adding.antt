-- A load after one more table, and a load that keeps less than all notes.
use Rattle.std.specs.Prelude.{◌≡◌, ℕ, List, ◌++◌}
use Rattle.acpi_space.specs.Lookups.{union}
use Rattle.acpi_tree.specs.Tree.{ItemTrees}
use Rattle.acpi_pass.specs.declared.keep.Keep.{Keep}
use Rattle.acpi_declare.specs.Declaring.{State, HasTables}
use Rattle.acpi_pass.specs.Kept.{kept_of, all_kept}
use Rattle.acpi_pass.specs.Sites.{sites}
use Rattle.acpi_pass.specs.Listing.{Placement, objects_of, IsListing}
use Rattle.acpi_pass.specs.Links.{pending_links}
use Rattle.acpi_pass.specs.Notes.{Notes, notes_on}
use Rattle.acpi_declare.specs.Tables.{IsTableOf}

-- a table's listing goes over what is there, and so much of its notes is kept
pub record AddsTable (keep : Keep) (depth number : ℕ) (bytes : List ℕ)
    (before now : State) : Type 0 where
  pub is : ItemTrees
  pub table : IsTableOf depth number bytes is
  pub placements : List Placement
  pub listing : IsListing before.objects (sites is) placements
  pub objects_are : now.objects ≡ union before.objects (objects_of placements)
  pub links_are : now.links ≡ before.links ++ pending_links placements
  pub notes_are : now.notes ≡ before.notes ++ kept_of keep (notes_on before.objects placements)

abbrev pub with_notes : State → List Notes → State
with_notes t notes = record { objects = t.objects; links = t.links; notes = notes }

-- what the listings of these tables give, but for notes that are not kept
pub record HasKept (keep : Keep) (depth : ℕ) (tables : List (List ℕ)) (now : State) : Type 0 where
  pub notes : List Notes
  pub all : HasTables depth tables (with_notes now notes)
  pub kept : now.notes ≡ all_kept keep notes
