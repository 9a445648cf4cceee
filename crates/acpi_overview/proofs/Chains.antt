-- Chains of claims grow at their ends.
use Rattle.std.proofs.Common.{◌<◌, ℕ, List, [], ◌∷◌, ◌++◌, refl, subst}
use Rattle.acpi_overview.specs.Claims.{IsChain, IsFurthest}
use Rattle.acpi_overview.specs.declared.claims.Claim.{Claim}

pub chain_more : (claims : List Claim) (from end : ℕ) (chain : List Claim) (to : ℕ) (c : Claim)
    → IsChain claims from end chain to → to < end → IsFurthest claims to c
    → IsChain claims from end (chain ++ c ∷ []) c.to
chain_more claims from end [] to c at below furthest =
    (subst (λ n. n < end) at below, subst (λ n. IsFurthest claims n c) at furthest, refl)
chain_more claims from end (x ∷ chain) to c at below furthest =
    (at.0, at.1, chain_more claims x.to end chain to c at.2 below furthest)
