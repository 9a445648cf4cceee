use Rattle.std.proofs.Common.{◌≡◌, ◌++◌, map, drop}
use Rattle.acpi_survey.specs.SurveyOrder.{IsInOrder}
use Rattle.acpi_uses.specs.UseViews.{uses_view}
use Rattle.acpi_module_uses.specs.ModuleNames.{name_at}
use Rattle.acpi_module_uses.specs.NameViews.{name_views}
use Rattle.acpi_module_uses.specs.steps.Steps.{here_view, setting_by}
use Rattle.acpi_module_uses.proofs.names.put_names.Given as goal

abbrev pub invariant-each : goal.invariant-each
invariant-each l =
    IsInOrder l.lookup.survey.now
    → name_views l.found.items ++ map (name_at (setting_by l.lookup) (here_view l.here)) (uses_view (drop l.used-index l.used-items))
    ≡ name_views l.initial.found.items ++ map (name_at (setting_by l.lookup) (here_view l.here)) (uses_view l.used-items)
