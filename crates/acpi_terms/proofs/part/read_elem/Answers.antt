use Rattle.acpi_tree.specs.View.{field_view}
use Rattle.acpi_terms.proofs.ReadParts.{elem_found_law, elem_only_law, elem_faults_law}
use Rattle.acpi_terms.proofs.part.read_elem.Goals as goal

pub returns-clause-found : goal.returns-clause-found
returns-clause-found c = elem_found_law field_view c.args.bytes.now c.front_elem.result c.front_elem.ensures.exact c.front_elem.ensures.used

pub returns-clause-only : goal.returns-clause-only
returns-clause-only c = elem_only_law field_view c.args.bytes.now c.front_elem.result c.front_elem.ensures.exact c.front_elem.ensures.used

pub returns-clause-faults : goal.returns-clause-faults
returns-clause-faults c = elem_faults_law field_view c.args.bytes.now c.front_elem.result c.front_elem.ensures.exact
