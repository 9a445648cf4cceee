-- What tables declare, one after another, before the links are searched (ACPI 6.5, 5.3).
use Rattle.std.specs.Prelude.{◌≡◌, ℕ, List, [], ◌∷◌, ◌++◌, map}
use Rattle.acpi_space.specs.Spaces.{PathMap}
use Rattle.acpi_space.specs.Lookups.{union}
use Rattle.acpi_tree.specs.declared.object.Object.{Object}
use Rattle.acpi_declare.specs.declared.declaring.Declaring as code
use Rattle.acpi_pass.specs.declared.notes.TableNotes.{TableNotes}
use Rattle.acpi_pass.specs.Namespace.{Namespace, namespace_of}
use Rattle.acpi_pass.specs.Predefined.{predefined}
use Rattle.acpi_pass.specs.Listing.{Placement, objects_of}
use Rattle.acpi_pass.specs.Links.{PendingLink, all_pending, pending_links}
use Rattle.acpi_pass.specs.Notes.{Notes, notes_of, notes_on, all_notes}
use Rattle.acpi_pass.specs.Pending.{all_pending_of}
use Rattle.acpi_declare.specs.Loads.{AreListings, objects_after}

pub record State : Type 0 where
  pub objects : Namespace
  pub links : List PendingLink
  pub notes : List Notes

-- what the listings of these tables give
pub record HasTables (depth : ℕ) (tables : List (List ℕ)) (now : State) : Type 0 where
  pub placements : List (List Placement)
  pub listings : AreListings depth 0 predefined tables placements
  pub objects_are : now.objects ≡ objects_after predefined placements
  pub links_are : now.links ≡ all_pending placements
  pub notes_are : now.notes ≡ all_notes predefined placements

-- what the listing of one more table gives over those of these tables: the objects of all, and the links and the notes
-- of that table alone
pub record HasTableOver (depth : ℕ) (tables : List (List ℕ)) (before : List (List Placement))
    (bytes : List ℕ) (now : State) : Type 0 where
  pub placements : List Placement
  pub listings : AreListings depth 0 predefined (tables ++ bytes ∷ []) (before ++ placements ∷ [])
  pub objects_are : now.objects ≡ union (objects_after predefined before) (objects_of placements)
  pub links_are : now.links ≡ pending_links placements
  pub notes_are : now.notes ≡ notes_on (objects_after predefined before) placements ∷ []

-- ---- as the code keeps them

abbrev pub objects_so_far : {S : Type 0} → code.Declaring S → S
objects_so_far t = t.objects

abbrev pub notes_so_far : {S : Type 0} → code.Declaring S → List TableNotes
notes_so_far t = t.notes.items

-- what is declared so far, by what a space holds
abbrev pub state_of : {S : Type 0} → (S → PathMap Object) → code.Declaring S → State
state_of contents t =
    record {
      objects = namespace_of (contents t.objects);
      links = all_pending_of t.links.items;
      notes = map notes_of t.notes.items;
    }
