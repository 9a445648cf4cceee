use Rattle.std.proofs.Common.{◌≡◌, ◌∙◌, List, refl, map, ap, sym, subst}
use Rattle.acpi_condition_list.specs.ConditionLists.{IsWay, source_literal}
use Rattle.acpi_condition_list.specs.declared.sources.LiteralSource.{LiteralSource}
use Rattle.acpi_condition_list.proofs.Ways.{conditions_more, pairs_more}
use Rattle.acpi_condition_list.proofs.list.conditions_of.Goals as goal

pub each-preserved : goal.each-preserved
each-preserved c =
    let s = c.args.survey.now in
    let new = c.come_to_all.new.self.steps.items in
    let more = c.in_ok-come_to_all.ensures.grown in
    let last = c.in_ok-come_to_all.field-0 in
    record {
      entries = pairs_more c.each.entries.items c.push.new.self.items _ c.args.order.now c.each.numbered-index c.numbered-item.result c.each-test.true c.numbered-item.is refl
          c.in_ok-push.ensures.items c.each.invariant.entries;
      conditions = λ o. conditions_more s c.each.list.steps.items more.0 new c.each.entries.items c.push.new.self.items _ more.1 c.in_ok-push.ensures.items (c.each.invariant.conditions o)
          (record {
            from = c.deref.result.now;
            way = c.in_ok-come_to_all.ensures.way;
            literals_are = ap (map (source_literal s)) c.deref.ensures.value ∙ c.in_ok-sources_of.ensures o;
          });
    }
