-- Laws of the places of methods' code.
use Rattle.std.specs.Prelude.{◌≡◌, ℕ, List, Some}
use Rattle.std.specs.List.{AllZip}
use Rattle.acpi_space.specs.Lookups.{Lookup}
use Rattle.acpi_declare.specs.Listing.{Placement}
use Rattle.acpi_declare.specs.Notes.{Method, methods}
use Rattle.acpi_places.specs.declared.place.CodePlace.{CodePlace}
use Rattle.acpi_places.specs.Places.{AreCodePlaces}

-- the tables alone say where their code stands
abbrev pub OneCodePlaces : Type 0
OneCodePlaces = (depth : ℕ) (tables : List (List ℕ)) (places places' : Lookup CodePlace)
    → AreCodePlaces depth tables places → AreCodePlaces depth tables places' → places ≡ places'

-- at the path of each method stands the place of its own code
abbrev pub IsPlaced : Lookup CodePlace → Method → CodePlace → Type 0
IsPlaced places m c = places m.path ≡ Some c

abbrev pub AreTablePlaced : Lookup CodePlace → List Placement → List CodePlace → Type 0
AreTablePlaced places t cs = AllZip (IsPlaced places) (methods t) cs

abbrev pub EachIsPlaced : Type 0
EachIsPlaced = (depth : ℕ) (tables : List (List ℕ)) (places : Lookup CodePlace)
    (h : AreCodePlaces depth tables places) → AllZip (AreTablePlaced places) h.placements h.codes
