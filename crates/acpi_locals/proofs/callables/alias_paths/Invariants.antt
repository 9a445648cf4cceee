use Rattle.std.proofs.Common.{◌≡◌, length}
use Rattle.acpi_survey.specs.SurveyOrder.{IsInOrder}
use Rattle.acpi_locals.specs.Callables.{alias_path}
use Rattle.acpi_locals.specs.steps.AliasPaths.{each_below}
use Rattle.acpi_locals.proofs.callables.alias_paths.Given as goal

abbrev pub invariant-each : goal.invariant-each
invariant-each l = record {
  size : length l.paths.items ≡ l.number;
  paths : IsInOrder l.survey → l.paths.items ≡ each_below (alias_path l.survey) l.number;
}
