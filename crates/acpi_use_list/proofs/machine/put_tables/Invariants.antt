use Rattle.std.proofs.Common.{◌≡◌, ◌++◌}
use Rattle.acpi_survey.specs.SurveyOrder.{IsInOrder}
use Rattle.acpi_use_list.specs.Uses.{uses_of_tables}
use Rattle.acpi_use_list.proofs.machine.put_tables.Given as goal

abbrev pub invariant-each : goal.invariant-each
invariant-each l = IsInOrder l.survey
    → l.found.items ≡ l.initial.found.items ++ uses_of_tables l.survey l.callables l.table
