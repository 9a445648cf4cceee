use Rattle.std.proofs.Common.{◌++◌, ◌∷◌, [], refl}
use Rattle.acpi_overview.proofs.Chains.{chain_more}
use Rattle.acpi_overview.proofs.claims.KindClaims.cover.Goals as goal

pub steps-preserved : goal.steps-preserved
steps-preserved c = (
  c.steps.invariant.0 ++ c.in-Some.claim ∷ [],
  rw c.in_ok-name.ensures.to (chain_more _ _ _ _ _ _ c.steps.invariant.1 c.steps-test.true c.in-Some.ensures),
  c.in_ok-name.ensures.named c.steps.invariant.0 c.in-Some.claim refl c.steps.invariant.2,
)
