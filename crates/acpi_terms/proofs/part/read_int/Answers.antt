use Rattle.acpi_terms.proofs.ReadParts.{int_found_law, int_only_law}
use Rattle.acpi_terms.proofs.part.read_int.Goals as goal

pub returns-clause-found : goal.returns-clause-found
returns-clause-found c = int_found_law c.args.bytes.now c.front_int.result c.front_int.ensures.exact c.front_int.ensures.used

pub returns-clause-only : goal.returns-clause-only
returns-clause-only c = int_only_law c.args.bytes.now c.front_int.result c.front_int.ensures.exact c.front_int.ensures.used
