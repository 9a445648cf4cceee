use Rattle.acpi_conservative.proofs.FollowedTables.{strict_externals}
use Rattle.acpi_conservative.proofs.Bodies.{strict_bodies}
use Rattle.acpi_conservative.proofs.MachineBodies.{strict_machine_bodies}
use Rattle.acpi_conservative.proofs.laws.strict_bodies_are_read.Goals as goal

pub returns-clause-externals : goal.returns-clause-externals
returns-clause-externals c = strict_externals

pub returns-clause-bodies : goal.returns-clause-bodies
returns-clause-bodies c = strict_bodies

pub returns-clause-machine : goal.returns-clause-machine
returns-clause-machine c = strict_machine_bodies
