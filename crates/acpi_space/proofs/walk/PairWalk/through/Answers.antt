use Rattle.acpi_space.proofs.Visits.{started}
use Rattle.acpi_space.proofs.walk.PairWalk.through.Goals as goal

pub returns-clause-all : goal.returns-clause-all
returns-clause-all g c = started c.args.nodes.now c.root.result c.new.result.items c.root.ensures c.new.ensures.items
