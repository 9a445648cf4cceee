use Rattle.acpi_conditions.proofs.Standing.{objects_stay, objects_stand_exactly}
use Rattle.acpi_conditions.proofs.CertainKept.{certain_is_not_declared}
use Rattle.acpi_conditions.proofs.laws.objects_stand_exactly.Goals as goal

pub returns-clause-stay : goal.returns-clause-stay
returns-clause-stay c = objects_stay

pub returns-clause-exact : goal.returns-clause-exact
returns-clause-exact c = objects_stand_exactly

pub returns-clause-certain : goal.returns-clause-certain
returns-clause-certain c = certain_is_not_declared
