use Rattle.std.proofs.Common.{◌≡◌, length}
use Rattle.acpi_survey.specs.SurveyOrder.{IsInOrder}
use Rattle.acpi_locals.specs.Callables.{entry_object, is_method}
use Rattle.acpi_locals.specs.steps.AliasPaths.{each_below}
use Rattle.acpi_locals.proofs.callables.method_marks.Given as goal

abbrev pub invariant-each : goal.invariant-each
invariant-each l = record {
  size : length l.marks.items ≡ l.number;
  marks : IsInOrder l.survey → l.marks.items ≡ each_below (λ n. is_method (entry_object l.survey n)) l.number;
}
