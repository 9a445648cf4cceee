-- The order of claims is that of their first addresses.
use Rattle.std.proofs.Common.{◌≡◌, ◌≤◌, ℕ, List, false, arith}
use Rattle.std.specs.Ordering.{nat_cmp, ordering_then, is_lt}
use Rattle.std.specs.List.Sorted.{IsSorted, IsNonDecreasingBy}
use Rattle.std.specs.declared.cmp.Ordering.{Ordering}
use Rattle.std.proofs.lemmas.Bool.Decides.{nat_tests}
use Rattle.std.proofs.lemmas.List.Sorted.{IsNonDecreasingBy-from_all_adjacent}
use Rattle.acpi_overview.specs.declared.claims.Claim.{Claim}

abbrev pub claim_cmp : Claim → Claim → Ordering
claim_cmp a b = ordering_then (nat_cmp a.from b.from) (ordering_then (nat_cmp a.to b.to) (nat_cmp a.container b.container))

first_le : (a b : ℕ) (o : Ordering) → is_lt (ordering_then (nat_cmp a b) o) ≡ false → b ≤ a
first_le a b o h = grind (arith, nat_tests)

pub in_order : (claims : List Claim) → IsSorted claim_cmp claims → IsNonDecreasingBy (λ c. c.from) claims
in_order claims up =
    IsNonDecreasingBy-from_all_adjacent (λ (c : Claim). c.from) claims
    (λ k d below. first_le _ _ _ (up k d (omega arith) below))
