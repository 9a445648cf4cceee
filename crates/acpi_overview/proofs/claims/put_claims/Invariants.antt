use Rattle.std.proofs.Common.{◌≡◌, ◌++◌, take}
use Rattle.acpi_overview.specs.Claims.{claims_in}
use Rattle.acpi_overview.specs.declared.resources.AddressKind.TheVariants as kinds
use Rattle.acpi_overview.proofs.claims.put_claims.Given as goal

abbrev pub invariant-descriptors : goal.invariant-descriptors
invariant-descriptors l = record {
  memory : l.memory.items ≡ l.initial.memory.items ++ claims_in kinds.Memory l.is_bridge l.number (take l.descriptor-index l.template.descriptors.items);
  ports : l.ports.items ≡ l.initial.ports.items ++ claims_in kinds.Ports l.is_bridge l.number (take l.descriptor-index l.template.descriptors.items);
}
