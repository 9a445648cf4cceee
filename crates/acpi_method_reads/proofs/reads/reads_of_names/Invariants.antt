use Rattle.std.proofs.Common.{◌≡◌, ◌++◌, drop, flat_map}
use Rattle.acpi_survey.specs.SurveyOrder.{IsInOrder}
use Rattle.acpi_locals.specs.LocalViews.{name_views}
use Rattle.acpi_method_reads.specs.Reads.{reads_of_name}
use Rattle.acpi_method_reads.proofs.reads.reads_of_names.Given as goal

abbrev pub invariant-each : goal.invariant-each
invariant-each l = IsInOrder l.survey
    → l.reads.items ++ flat_map (reads_of_name l.survey l.callables) (name_views (drop l.name-index l.names))
    ≡ flat_map (reads_of_name l.survey l.callables) (name_views l.names)
