use Rattle.acpi_conservative.proofs.NothingLost.{strict_read_is_items}
use Rattle.acpi_conservative.proofs.NoProblem.{strict_has_no_problem, strict_has_no_note}
use Rattle.acpi_conservative.proofs.laws.strict_read_is_whole.Goals as goal

pub returns-clause-items : goal.returns-clause-items
returns-clause-items c = strict_read_is_items

pub returns-clause-problems : goal.returns-clause-problems
returns-clause-problems c = strict_has_no_problem

pub returns-clause-notes : goal.returns-clause-notes
returns-clause-notes c = strict_has_no_note
