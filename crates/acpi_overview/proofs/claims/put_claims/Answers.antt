use Rattle.acpi_overview.proofs.Claiming.{claims_next}
use Rattle.acpi_overview.specs.declared.resources.AddressKind.TheVariants as kinds
use Rattle.acpi_overview.proofs.claims.put_claims.Goals as goal

pub descriptors-preserved : goal.descriptors-preserved
descriptors-preserved c =
    let below = rw c.deref-descriptor-items.ensures.value at c.descriptors-test.true in
    let range = rw c.deref-descriptor-items.ensures.value at c.claimed_range.ensures in
    record {
      memory = claims_next kinds.Memory _ _ _ _ _ _ _ _ _ below c.descriptors.invariant.memory range c.in_ok-put_claim.ensures.memory;
      ports = claims_next kinds.Ports _ _ _ _ _ _ _ _ _ below c.descriptors.invariant.ports range c.in_ok-put_claim.ensures.ports;
    }
