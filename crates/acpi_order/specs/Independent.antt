-- When SSDTs are independent of each other over a DSDT (ACPI 6.5, 5.2.11 and 5.3).
use Rattle.std.specs.Prelude.{◌≡◌, ◌≢◌, ℕ, zero, suc, ◌%◌, nat_eq, Bool, false, List, [], ◌∷◌, Some, None, IsTrue}
use Rattle.std.specs.List.{AllByRecursion}
use Rattle.acpi_name.specs.Names.{Segment}
use Rattle.acpi_tree.specs.Objects.{ObjectTree, method_object}
use Rattle.acpi_declare.specs.Predefined.{predefined}
use Rattle.acpi_declare.specs.Listing.{objects_of}
use Rattle.acpi_declare.specs.Loads.{AreListings}
use Rattle.acpi_order.specs.Misses.{Listing, IsMiss, IsAwaited}

-- ---- places of a list

-- x stands at that place of the list
abbrev pub StandsAt : {X : Type 0} → List X → ℕ → X → Type 0
StandsAt [] k x = ⊥
StandsAt (y ∷ ys) zero x = y ≡ x
StandsAt (y ∷ ys) (suc k) x = StandsAt ys k x

-- R holds of what stands at any two different places
abbrev pub AllDifferent : {X : Type 0} → (X → X → Type 0) → List X → Type 0
AllDifferent {X} R xs = (i j : ℕ) (x y : X) → i ≢ j → StandsAt xs i x → StandsAt xs j y → R x y

-- ---- single loads

-- the listings of the DSDT and of the one SSDT over it
abbrev pub AreSingleListings : ℕ → List ℕ → List ℕ → Listing → Listing → Type 0
AreSingleListings depth dsdt ssdt first t =
    AreListings depth 0 predefined (dsdt ∷ ssdt ∷ []) (first ∷ t ∷ [])

abbrev pub LoadsAlone : ℕ → List ℕ → List ℕ → Type 0
LoadsAlone depth dsdt ssdt =
    (first : Listing) × (t : Listing) × AreSingleListings depth dsdt ssdt first t

-- ---- independence

-- a method of so many arguments (20.2.5.2)
abbrev pub is_method_of : ObjectTree → ℕ → Bool
is_method_of (method_object flags) args = nat_eq (flags % 8) args
is_method_of _ args = false

-- What the other table declares this one does not declare, and this one's load did not miss it; where this one's load
-- awaits a method there, it is one of as many arguments.
abbrev pub IsApart : ℕ → Listing → Listing → Listing → Type 0
IsApart depth first this other = (p : List Segment) (o : ObjectTree) → objects_of other p ≡ Some o
    → (objects_of this p ≡ None) × (IsMiss depth first this p → ⊥)
    × ((args : ℕ) → IsAwaited depth first this p args → IsTrue (is_method_of o args))

abbrev pub AreApart : ℕ → List ℕ → List ℕ → List ℕ → Type 0
AreApart depth dsdt this other = (first t u : Listing) → AreSingleListings depth dsdt this first t
    → AreSingleListings depth dsdt other first u → IsApart depth first t u

-- each SSDT loads alone over the DSDT, and any two are apart
pub record IsIndependent (depth : ℕ) (dsdt : List ℕ) (ssdts : List (List ℕ)) : Type 0 where
  pub alone : AllByRecursion (LoadsAlone depth dsdt) ssdts
  pub apart : AllDifferent (AreApart depth dsdt) ssdts
