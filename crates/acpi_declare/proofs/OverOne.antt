-- One table laid over one other.
use Rattle.std.proofs.Common.{◌≡◌, ℕ, List, [], ◌∷◌, refl}
use Rattle.acpi_space.specs.Lookups.{union}
use Rattle.acpi_declare.specs.Declaring.{State, HasTables, HasTableOver}
use Rattle.acpi_pass.specs.Links.{pending_links}
use Rattle.acpi_pass.specs.Listing.{Placement, objects_of}
use Rattle.acpi_declare.specs.Loads.{AreListings}
use Rattle.acpi_pass.specs.Notes.{notes_on}
use Rattle.acpi_pass.specs.Predefined.{predefined}

-- the listings of the two, and what they give
pub record OverOne (depth : ℕ) (dsdt ssdt : List ℕ) (before : List (List Placement)) (now : State) : Type 0 where
  pub first : List Placement
  pub second : List Placement
  pub are : before ≡ first ∷ []
  pub listings : AreListings depth 0 predefined (dsdt ∷ ssdt ∷ []) (first ∷ second ∷ [])
  pub objects_are : now.objects ≡ union (union predefined (objects_of first)) (objects_of second)
  pub links_are : now.links ≡ pending_links second
  pub notes_are : now.notes ≡ notes_on (union predefined (objects_of first)) second ∷ []

pub over_one : (depth : ℕ) (dsdt ssdt : List ℕ) (one now : State) (so : HasTables depth (dsdt ∷ []) one)
    → HasTableOver depth (dsdt ∷ []) so.placements ssdt now → OverOne depth dsdt ssdt so.placements now
over_one depth dsdt ssdt one now so = by so.placements so.listings
  where
    by : (ts : List (List Placement)) → AreListings depth 0 predefined (dsdt ∷ []) ts → HasTableOver depth (dsdt ∷ []) ts ssdt now → OverOne depth dsdt ssdt ts now
    by [] h over = absurd h
    by (t ∷ []) h over = record {
      first = t;
      second = over.placements;
      are = refl;
      listings = over.listings;
      objects_are = over.objects_are;
      links_are = over.links_are;
      notes_are = over.notes_are;
    }
    by (t ∷ u ∷ us) h over = absurd h.1
