use Rattle.std.proofs.Common.{◌≡◌, ◌++◌, drop, None}
use Rattle.acpi_outline.specs.View.{end_view, placed_views, put_before}
use Rattle.acpi_survey.specs.SurveyOrder.{IsInOrder}
use Rattle.acpi_module_uses.specs.Ways.{stops_in}
use Rattle.acpi_module_uses.specs.NameViews.{name_views}
use Rattle.acpi_module_uses.specs.steps.WayViews.{position_of, stop_views, turns_past}
use Rattle.acpi_module_uses.specs.steps.Steps.{names_from, setting_by}
use Rattle.acpi_module_uses.proofs.nodes.NodeWalk.+nodes.Given as goal

abbrev pub invariant-put_list-each : goal.invariant-put_list-each
invariant-put_list-each l = record {
  names : IsInOrder l.lookup.survey.now
      → name_views l.self.found.items
      ++ names_from (setting_by l.lookup) (position_of l.scope l.self.turns.items l.before) (put_before (placed_views (drop l.placed-index l.nodes)) (end_view l.fn._lost))
      ≡ name_views l.initial.self.found.items
      ++ names_from (setting_by l.lookup) (position_of l.scope l.initial.self.turns.items None) (put_before (placed_views l.nodes) (end_view l.fn._lost));
  turns : l.self.turns.items ≡ l.initial.self.turns.items ++ turns_past l.stops.items;
  stops : stop_views l.stops.items ++ stops_in l.lookup.table (put_before (placed_views (drop l.placed-index l.nodes)) (end_view l.fn._lost))
      ≡ stops_in l.lookup.table (put_before (placed_views l.nodes) (end_view l.fn._lost));
}
