use Rattle.acpi_overview.proofs.ClaimOrder.{in_order}
use Rattle.acpi_overview.proofs.claims.KindClaims.new.Goals as goal

pub invariant_of-result : goal.invariant_of-result
invariant_of-result c = (in_order _ c.sort_unstable.ensures.sorted, rw (← c.deref.ensures.value) c.in_ok-furthest.ensures)
