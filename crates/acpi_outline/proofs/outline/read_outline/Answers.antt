use Rattle.acpi_outline.specs.View.{nodes_view}
use Rattle.acpi_outline.proofs.Answered.{found_law, only_law}
use Rattle.acpi_outline.proofs.outline.read_outline.Goals as goal

pub returns-clause-found : goal.returns-clause-found
returns-clause-found g c = rw (← c.get.ensures.number) (found_law nodes_view g.K.Known.rules c.args.known.now c.get.result c.args.code.now c.all_nodes.result c.all_nodes.ensures.exact)

pub returns-clause-only : goal.returns-clause-only
returns-clause-only g c = rw (← c.get.ensures.number) (only_law nodes_view g.K.Known.rules c.args.known.now c.get.result c.args.code.now c.all_nodes.result c.all_nodes.ensures.exact)
