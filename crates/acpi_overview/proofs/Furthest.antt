-- What a place between the claims that begin up to an address and the others says of those that hold it.
use Rattle.std.proofs.Common.{◌≡◌, ◌≤◌, ◌<◌, ◌-◌, ◌⊎◌, inl, inr, ℕ, List, length, get_or, true, false, arith, sym, ◌∙◌, ap, subst}
use Rattle.std.specs.List.Sorted.{IsPartitionPoint}
use Rattle.std.proofs.Math.Dec.{leb}
use Rattle.std.proofs.lemmas.Bool.{leb-true, leb-false, cases_lt}
use Rattle.std.proofs.lemmas.List.{get_or_default}
use Rattle.acpi_overview.specs.Claims.{Holds, IsFree, IsFurthest}
use Rattle.acpi_overview.specs.steps.ClaimOrder.{AreFurthest}
use Rattle.acpi_overview.specs.declared.claims.Claim.{Claim}
use Rattle.std.specs.List.{Contains}

module _ (claims : List Claim) (address count : ℕ)
    (parted : IsPartitionPoint (λ (c : Claim). leb c.from address ≡ true) (λ (c : Claim). leb c.from address ≡ false) claims count)
  where
    -- a claim that holds the address stands before the place
    before : (c : Claim) (at : Contains claims c) → Holds c address → at.0 < count
    before c at holds = by (cases_lt at.0 count)
      where
        by : (at.0 < count) ⊎ (count ≤ at.0) → at.0 < count
        by (inl less) = less
        by (inr past) =
            let behind : leb (get_or claims at.0 c).from address ≡ false = parted.1 at.0 c past at.1 in
            let later : leb c.from address ≡ false = subst (λ (one : Claim). leb one.from address ≡ false) at.2 behind in
            absurd (omega (arith, leb-false c.from address later))

    pub free_at_none : count ≡ 0 → IsFree claims address
    free_at_none none c at holds = absurd (omega (arith, before c at holds))

    module _ (furthest : List ℕ) (are : AreFurthest claims furthest) (some : count ≡ 0 → ⊥) (within : count ≤ length claims)
        (place : ℕ) (is_place : place ≡ get_or furthest (count - 1) place) (x : Claim) (is : x ≡ get_or claims place x) where
      first : place ≡ get_or furthest (count - 1) 0
      first = is_place ∙ get_or_default furthest (count - 1) place 0 (omega (arith, are.0))

      below : place < count
      below = let least : get_or furthest (count - 1) 0 ≤ count - 1 = (are.1 (count - 1) (omega arith)).0 in omega (arith, first)

      begins : x.from ≤ address
      begins = leb-true x.from address (subst (λ (one : Claim). leb one.from address ≡ true) (sym is) (parted.0 place x (omega arith) below))

      reaches : (other : Claim) → Contains claims other → Holds other address → other.to ≤ x.to
      reaches other at holds =
          let last : (get_or claims at.0 x).to ≤ (get_or claims (get_or furthest (count - 1) 0) x).to =
          (are.1 (count - 1) (omega arith)).1 at.0 x (omega (arith, before other at holds)) in
          let one : get_or claims at.0 x ≡ other = get_or_default claims at.0 x other at.1 ∙ at.2 in
          let two : get_or claims (get_or furthest (count - 1) 0) x ≡ x = ap (λ i. get_or claims i x) (sym first) ∙ sym is in
          subst (λ (c : Claim). c.to ≤ x.to) one (subst (λ (c : Claim). (get_or claims at.0 x).to ≤ c.to) two last)

      pub furthest_found : address < x.to → IsFurthest claims address x
      furthest_found holds = ((place, omega (arith, below), sym is), (begins, holds), reaches)

      pub free_at_end : x.to ≤ address → IsFree claims address
      free_at_end ends c at holds = absurd (omega (arith, reaches c at holds))
