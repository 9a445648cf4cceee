-- The status of a failure, and what a run tells where its tables have no load (docs/COMMAND.md).
use Rattle.std.specs.Prelude.{ℕ}
use Rattle.acpi_declare.specs.declared.fault.LoadFault.{LoadFault}
use Rattle.acpi_declare.specs.declared.fault.LoadFault.TheVariants.{At, Memory}
use Rattle.acpi_declare.specs.declared.fault.LoadReason.TheVariants as reasons
use Rattle.acpins_output.specs.FaultTexts.{place_in_table}
use Rattle.acpins_words.specs.declared.fault.WordsFault.{WordsFault}
use Rattle.acpins_words.specs.declared.fault.WordsFault.TheVariants as words
use Rattle.acpins_run.specs.declared.failure.Failure.{Failure}
use Rattle.acpins_run.specs.declared.failure.Failure.TheVariants as failures

-- what a run tells of a load's refusal
abbrev pub failure_of : LoadFault → Failure
failure_of Memory = failures.Memory
failure_of (At table (reasons.Item reason place)) =
    failures.Item table reason (place_in_table place)
failure_of (At table reason) = failures.Load table reason

-- .. and of words that ask for nothing
abbrev pub failure_of_words : WordsFault → Failure
failure_of_words words.Wrong = failures.WrongWords
failure_of_words words.Memory = failures.Memory

-- 2 for words and paths that are none, 1 for all else
abbrev pub status_of : Failure → ℕ
status_of failures.WrongWords = 2
status_of failures.BadPath = 2
status_of _ = 1
