use Rattle.std.proofs.Common.{◌-◌, List}
use Rattle.acpi_overview.specs.Claims.{IsChain, IsNamed}
use Rattle.acpi_overview.specs.declared.claims.Claim.{Claim}
use Rattle.acpi_overview.proofs.claims.KindClaims.cover.Given as goal

abbrev pub invariant-steps : goal.invariant-steps
invariant-steps l =
    (chain : List Claim) × IsChain l.self l.from l.to chain l.cover.to × IsNamed chain l.cover

abbrev pub decreases-steps : goal.decreases-steps
decreases-steps l = l.to - l.cover.to
