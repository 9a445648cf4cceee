use Rattle.acpi_survey.proofs.RunEntries.{entries_stand_exactly, objects_are_entries}
use Rattle.acpi_survey.proofs.run_laws.entries_stand_exactly.Goals as goal

pub returns-clause-exact : goal.returns-clause-exact
returns-clause-exact c = entries_stand_exactly

pub returns-clause-objects : goal.returns-clause-objects
returns-clause-objects c = objects_are_entries
