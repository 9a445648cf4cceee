-- The status of a failure.
use Rattle.std.specs.Prelude.{ℕ}
use Rattle.acpins_survey_run.specs.declared.failure.PrintFault.{PrintFault}
use Rattle.acpins_survey_run.specs.declared.failure.PrintFault.TheVariants as faults
use Rattle.acpins_survey_run.specs.declared.failure.Failure.{Failure}
use Rattle.acpins_survey_run.specs.declared.failure.Failure.TheVariants as failures

-- 2 for arguments and paths that are none, 1 for all else
abbrev pub status_of : Failure → ℕ
status_of (failures.WrongArguments text) = 2
status_of (failures.BadPath word) = 2
status_of _ = 1

-- why a run fails where nothing is made of tables
abbrev pub failure_of_printing : PrintFault → Failure
failure_of_printing faults.NoSuchPath = failures.NoSuchPath
failure_of_printing faults.Memory = failures.Memory
