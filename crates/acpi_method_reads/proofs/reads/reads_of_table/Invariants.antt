use Rattle.std.proofs.Common.{◌≡◌, ◌++◌, drop, flat_map}
use Rattle.acpi_survey.specs.SurveyOrder.{IsInOrder}
use Rattle.acpi_module_uses.specs.NameViews.{name_views}
use Rattle.acpi_method_reads.specs.Reads.{reads_of_module_name}
use Rattle.acpi_method_reads.proofs.reads.reads_of_table.Given as goal

abbrev pub invariant-each : goal.invariant-each
invariant-each l = IsInOrder l.survey
    → l.reads.items ++ flat_map (reads_of_module_name l.survey) (name_views (drop l.name-index l.name-items))
    ≡ flat_map (reads_of_module_name l.survey) (name_views l.name-items)
