use Rattle.std.proofs.Common.{◌∙◌}
use Rattle.acpi_space.proofs.Visits.{visited_value, visited_none, visited_fewer_left}
use Rattle.acpi_space.proofs.walk.PairWalk.next.Goals as goal

pub returns-in-Some-value-clause-given : goal.returns-in-Some-value-clause-given
returns-in-Some-value-clause-given g c =
    c.loop-number.invariant.1
    ∙ visited_value c.loop-number.self c.enter.new.self c.in_ok-number.field-0 c.in-Some.number c.push_children.new.steps.items c.value.result c.in-Some-value.value
    c.loop-number.invariant.0 c.enter.ensures.nodes c.in_ok-number.ensures.none c.in_ok-number.ensures.next c.in-Some.is c.in_ok-push_children.ensures c.value.ensures c.in-Some-value.is

pub loop-number-smaller : goal.loop-number-smaller
loop-number-smaller g c =
    visited_fewer_left c.loop-number.self c.enter.new.self c.in_ok-number.field-0 c.in-Some.number c.push_children.new.steps.items
    c.loop-number.invariant.0 c.enter.ensures.nodes c.in_ok-number.ensures.none c.in_ok-number.ensures.next c.in-Some.is c.in_ok-push_children.ensures

pub loop-number-preserved : goal.loop-number-preserved
loop-number-preserved g c =
    visited_none c.args.self.now c.loop-number.self c.enter.new.self c.in_ok-number.field-0 c.in-Some.number c.push_children.new.steps.items c.value.result
    c.loop-number.invariant c.enter.ensures.nodes c.in_ok-number.ensures.none c.in_ok-number.ensures.next c.in-Some.is c.in_ok-push_children.ensures c.value.ensures c.in_default-value.is
