-- The listings of a DSDT and one SSDT are one.
use Rattle.std.proofs.Common.{◌≡◌, ℕ, List, [], ◌∷◌}
use Rattle.acpi_declare.specs.Predefined.{predefined}
use Rattle.acpi_declare.proofs.Refusals.{same_listings}
use Rattle.acpi_order.specs.Misses.{Listing}
use Rattle.acpi_order.specs.Independent.{AreSingleListings}

abbrev single : Listing → List Listing
single t = t ∷ []

one_head : (t u : Listing) → single t ≡ single u → t ≡ u
one_head t u e = cc

abbrev two : Listing → Listing → List Listing
two t u = t ∷ u ∷ []

one_second : (first t u : Listing) → two first t ≡ two first u → t ≡ u
one_second first t u e = cc

-- the DSDT has one listing, whichever SSDT it is loaded with
pub same_first : (depth : ℕ) (dsdt b c : List ℕ) (first other t u : Listing) → AreSingleListings depth dsdt b first t → AreSingleListings depth dsdt c other u → first ≡ other
same_first depth dsdt b c first other t u h k = one_head first other (same_listings depth 0 predefined (dsdt ∷ []) (first ∷ []) (other ∷ []) (h.0, tt) (k.0, tt))

-- with the same first, an SSDT has one
pub same_second : (depth : ℕ) (dsdt b : List ℕ) (first t u : Listing) → AreSingleListings depth dsdt b first t → AreSingleListings depth dsdt b first u → t ≡ u
same_second depth dsdt b first t u h k = one_second first t u (same_listings depth 0 predefined (dsdt ∷ b ∷ []) (first ∷ t ∷ []) (first ∷ u ∷ []) h k)
