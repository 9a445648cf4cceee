use Rattle.acpi_conditions.proofs.Tables.{survey_is_exact, made_is_entry, unconditional_is_made, known_stays_true}
use Rattle.acpi_conditions.proofs.Chosen.{runs_exist}
use Rattle.acpi_conditions.proofs.laws.survey_is_sound.Goals as goal

pub returns-clause-exact : goal.returns-clause-exact
returns-clause-exact c = survey_is_exact

pub returns-clause-entries : goal.returns-clause-entries
returns-clause-entries c = made_is_entry

pub returns-clause-unconditional : goal.returns-clause-unconditional
returns-clause-unconditional c = unconditional_is_made

pub returns-clause-known : goal.returns-clause-known
returns-clause-known c = known_stays_true

pub returns-clause-runs : goal.returns-clause-runs
returns-clause-runs c = runs_exist
