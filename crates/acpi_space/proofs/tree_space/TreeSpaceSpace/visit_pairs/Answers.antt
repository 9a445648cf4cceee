use Rattle.std.proofs.Common.{arith}
use Rattle.acpi_space.proofs.Visits.{shown_more, shown_all}
use Rattle.acpi_space.proofs.tree_space.TreeSpaceSpace.visit_pairs.Goals as goal

pub loop-walk-preserved : goal.loop-walk-preserved
loop-walk-preserved g c =
    shown_more g.T.Visitor.was_shown _ c.loop-walk.walk c.next.new.self _ c.loop-walk.visitor c.visit.new.self c.in_ok-value.field-0 c.in-Some.value c.path.result.now
    c.loop-walk.invariant c.in_ok-value.ensures.tree c.in_ok-value.ensures.given c.in-Some.is c.path.ensures c.in_ok-visit.ensures

pub returns : goal.returns
returns g c =
    shown_all g.T.Visitor.was_shown _ c.loop-walk.walk c.next.new.self _ c.loop-walk.visitor c.in_ok-value.field-0 c.args.self.now c.deref.result.now c.self.inside.nodes.items
    c.loop-walk.invariant c.in_ok-value.ensures.given c.in_default.is c.through-walk.ensures.all c.deref.ensures.value c.self.invariant.0 c.self.view_is

-- What a wrong body leaves open is named too: its refusal then names it, and needs no second search.
pub loop-walk-smaller : goal.loop-walk-smaller
loop-walk-smaller g c = grind arith
