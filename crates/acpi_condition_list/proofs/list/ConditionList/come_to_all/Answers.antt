use Rattle.std.proofs.Common.{◌≡◌, ◌∙◌, ◌++◌, [], take, List, append-nil, append_assoc, ap, sym, subst}
use Rattle.acpi_condition_list.specs.declared.list.ConditionStep.{ConditionStep}
use Rattle.acpi_condition_list.specs.ConditionLists.{IsWay, nothing}
use Rattle.acpi_condition_list.proofs.Ways.{way_more, way_stays}
use Rattle.acpi_condition_list.proofs.list.ConditionList.come_to_all.Goals as goal

pub each-init : goal.each-init
each-init c = record { grown = ([], sym (append-nil _)); way = nothing }

pub each-preserved : goal.each-preserved
each-preserved c =
    let i = c.each.source-index in
    let sources = c.args.sources.now in
    let before = c.each.invariant.grown in
    let more = c.in_ok-come_to.ensures.grown in
    let kept = subst (λ (steps : List ConditionStep). IsWay steps c.each.before (take i sources)) (sym more.1) (way_stays more.0 c.each.invariant.way) in
    record {
      grown = (before.0 ++ more.0, more.1 ∙ ap (λ steps. steps ++ more.0) before.1 ∙ append_assoc _ before.0 more.0);
      way = way_more c.come_to.new.self.steps.items c.each.before sources i c.in_ok-come_to.field-0 _ c.each-test.true c.in_ok-come_to.ensures.number kept;
    }
