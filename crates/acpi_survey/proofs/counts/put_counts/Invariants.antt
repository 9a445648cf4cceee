use Rattle.std.proofs.Common.{◌≡◌, ◌++◌, drop}
use Rattle.acpi_survey.specs.Counts.{counts_numbered}
use Rattle.acpi_survey.proofs.counts.put_counts.Given as goal

abbrev pub invariant-each : goal.invariant-each
invariant-each l = l.found.items ++ counts_numbered l.counts (drop l.number-index l.numbers) ≡ l.initial.found.items ++ counts_numbered l.counts l.numbers
