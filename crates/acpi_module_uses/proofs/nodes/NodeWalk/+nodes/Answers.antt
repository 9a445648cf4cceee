use Rattle.std.proofs.Common.{◌∙◌}
use Rattle.acpi_outline.specs.View.{node_view}
use Rattle.acpi_module_uses.specs.steps.WayViews.{position_of}
use Rattle.acpi_module_uses.specs.steps.Steps.{setting_by}
use Rattle.acpi_module_uses.proofs.Walking.{behind_is, list_step, names_step, stops_more, turns_more}
use Rattle.acpi_module_uses.proofs.nodes.NodeWalk.+nodes.Goals as goal

pub put_list-each-preserved : goal.put_list-each-preserved
put_list-each-preserved t c =
    let table = c.args.lookup.now.table in
    let s = setting_by c.args.lookup.now in
    let p = c.placed-item.result in
    let n = node_view p.node in
    let scope = c.args.scope.now in
    let turns = c.each.self.turns.items in
    let now = c.put_node.new.self.turns.items in
    let a = position_of scope turns c.each.before in
    let b = position_of scope now c.if_before-next.result in
    let first = list_step c.args.nodes.now c.each.placed-index p c.args._lost c.each-test.true c.placed-item.is in
    let behind = behind_is table p.place n scope turns now c.each.before c.if_before-next.result c.place_in-place.result c.len.result c.in_ok-passed.passed.items
    c.in_ok-passed.ensures.stops c.in_ok-passed.ensures.turns c.if_before-next.ensures c.place_in-place.ensures (c.len.ensures ∙ c.each.self.turns.ok.0) in
    record {
      names = λ order. names_step s a b p.place n _ _ _ _ _ first (c.each.invariant.names order) (c.in_ok-passed.ensures.names order) behind;
      turns = turns_more _ _ _ _ _ _ c.each.invariant.turns c.in_ok-passed.ensures.turns c.in_ok-append.ensures.items;
      stops = stops_more table p.place n _ _ _ _ _ _ first c.each.invariant.stops c.in_ok-passed.ensures.stops c.in_ok-append.ensures.items;
    }
