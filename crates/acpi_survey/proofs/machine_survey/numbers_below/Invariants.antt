use Rattle.std.proofs.Common.{◌≡◌, ◌++◌, [], map, drop}
use Rattle.acpi_conditions.specs.EntryForms.{entry_view}
use Rattle.acpi_survey.specs.Surveys.{numbers_below}
use Rattle.acpi_survey.proofs.machine_survey.numbers_below.Given as goal

-- those of the entries so far, and those of the rest, are all
abbrev pub invariant-each : goal.invariant-each
invariant-each l = l.found.items ++ numbers_below l.path l.number (map (entry_view []) (drop l.number l.entries)) ≡ numbers_below l.path 0 (map (entry_view []) l.entries)
