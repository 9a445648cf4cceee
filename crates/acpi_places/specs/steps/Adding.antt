-- The places of tables that are added one after another.
use Rattle.std.specs.Prelude.{◌≡◌, ℕ, List, take}
use Rattle.acpi_space.specs.Lookups.{Lookup, union}
use Rattle.acpi_tree.specs.Tree.{ItemTrees}
use Rattle.acpi_declare.specs.Listing.{Placement}
use Rattle.acpi_declare.specs.Notes.{Notes}
use Rattle.acpi_declare.specs.Tables.{code_of}
use Rattle.acpi_places.specs.declared.place.CodePlace.{CodePlace}
use Rattle.acpi_places.specs.Places.{SpellsItemsAt, AreAllPlaces, by_path, all_by_path}

-- the places of one more table stand behind those that are there
pub record AddsTable (number : ℕ) (bytes : List ℕ) (is : ItemTrees) (notes : Notes)
    (old new : Lookup CodePlace) : Type 0 where
  pub places : List CodePlace
  pub spelled : SpellsItemsAt number 36 is (code_of bytes) places
  pub added : new ≡ union old (by_path notes.methods places)

-- the places of the first tables
pub record AreFirstPlaces (tables : List (List ℕ)) (placements : List (List Placement)) (count : ℕ)
    (places : Lookup CodePlace) : Type 0 where
  pub codes : List (List CodePlace)
  pub are : AreAllPlaces 0 (take count tables) (take count placements) codes
  pub by_paths : places ≡ all_by_path (take count placements) codes
