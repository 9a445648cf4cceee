use Rattle.std.proofs.Common.{◌≡◌}
use Rattle.acpi_overview.specs.Claims.{claims_upto}
use Rattle.acpi_overview.specs.declared.resources.AddressKind.TheVariants as kinds
use Rattle.acpi_overview.proofs.claims.Claims.new.Given as goal

abbrev pub invariant-containers : goal.invariant-containers
invariant-containers l = record {
  memory : l.memory.items ≡ claims_upto kinds.Memory l.containers l.resources l.number;
  ports : l.ports.items ≡ claims_upto kinds.Ports l.containers l.resources l.number;
}
