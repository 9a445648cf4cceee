-- The objects and links of a list of tables, and what each table notes (ACPI 6.5, 5.3).
use Rattle.std.specs.Prelude.{◌≡◌, ℕ, suc, List, [], ◌∷◌, ⊤}
use Rattle.acpi_space.specs.Lookups.{Lookup, union}
use Rattle.acpi_tree.specs.Tree.{ItemTrees}
use Rattle.acpi_pass.specs.Namespace.{Namespace}
use Rattle.acpi_pass.specs.Predefined.{predefined}
use Rattle.acpi_pass.specs.Sites.{sites}
use Rattle.acpi_pass.specs.Listing.{Placement, objects_of, IsListing}
use Rattle.acpi_pass.specs.Links.{Links, links_of, all_pending}
use Rattle.acpi_pass.specs.Notes.{Notes, all_notes}
use Rattle.acpi_declare.specs.Tables.{IsTableOf}

-- each table has a listing over the objects before it
abbrev pub AreListings : ℕ → ℕ → Namespace → List (List ℕ) → List (List Placement) → Type 0
AreListings depth number objects [] [] = ⊤
AreListings depth number objects (b ∷ bs) (t ∷ ts) =
    ((is : ItemTrees) × IsTableOf depth number b is × IsListing objects (sites is) t)
    × AreListings depth (suc number) (union objects (objects_of t)) bs ts
AreListings depth number objects [] (t ∷ ts) = ⊥
AreListings depth number objects (b ∷ bs) [] = ⊥

-- the objects after some tables
abbrev pub objects_after : Namespace → List (List Placement) → Namespace
objects_after objects [] = objects
objects_after objects (t ∷ ts) = objects_after (union objects (objects_of t)) ts

-- the objects and links of the tables, without bodies
pub record IsLoad (depth : ℕ) (tables : List (List ℕ)) (objects : Namespace)
    (links : Lookup Links) : Type 0 where
  pub placements : List (List Placement)
  pub listings : AreListings depth 0 predefined tables placements
  pub objects_are : objects ≡ objects_after predefined placements
  pub links_are : links ≡ links_of objects (all_pending placements)

-- what each of the tables notes
pub record AreNotes (depth : ℕ) (tables : List (List ℕ)) (notes : List Notes) : Type 0 where
  pub placements : List (List Placement)
  pub listings : AreListings depth 0 predefined tables placements
  pub notes_are : notes ≡ all_notes predefined placements

abbrev pub HasNoLoad : ℕ → List (List ℕ) → Type 0
HasNoLoad depth tables =
    (placements : List (List Placement)) → AreListings depth 0 predefined tables placements → ⊥
