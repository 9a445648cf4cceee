use Rattle.acpi_declare.proofs.Refusals.{one_listing}
use Rattle.acpi_declare.proofs.laws.one_listing.Goals as goal

pub returns : goal.returns
returns c = one_listing
