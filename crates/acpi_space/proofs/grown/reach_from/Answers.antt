use Rattle.acpi_space.proofs.Growth.{grown_again}
use Rattle.acpi_space.proofs.Walks.{step_reached, step_absent}
use Rattle.acpi_space.proofs.Trails.{trail_grown, trail_extended}
use Rattle.acpi_space.proofs.Tree.{child_within}
use Rattle.acpi_space.proofs.NodeWrites.{on_err}
use Rattle.acpi_space.proofs.grown.reach_from.Goals as goal

pub returns-in_err-next-clause-absent : goal.returns-in_err-next-clause-absent
returns-in_err-next-clause-absent g c =
    on_err _ c.from_residual.result
    (step_absent c.args.nodes.now.items c.loop-seg.nodes.items c.args.path.now c.args.from c.loop-seg.seg-index c.loop-seg.number c.seg-item.result c.loop-seg.invariant.grown
    c.loop-seg.invariant.reached c.loop-seg-test.true c.seg-item.is c.in_err-next.ensures.absent)

pub loop-seg-preserved : goal.loop-seg-preserved
loop-seg-preserved g c = record {
  grown = grown_again c.args.nodes.now.items c.loop-seg.nodes.items c.step.new.nodes.items c.loop-seg.invariant.grown c.in_ok-next.ensures.grown;
  reached = step_reached c.loop-seg.nodes.items c.step.new.nodes.items c.args.path.now c.args.from c.loop-seg.seg-index c.loop-seg.number c.in_ok-next.next c.seg-item.result c.in_ok-next.ensures.grown
      c.loop-seg.invariant.reached c.loop-seg-test.true c.seg-item.is c.in_ok-next.ensures.child;
  within = (child_within c.step.new.nodes.items c.loop-seg.number c.in_ok-next.next c.seg-item.result c.in_ok-next.ensures.grown.tree c.in_ok-next.ensures.child).1;
  trail = trail_extended c.step.new.nodes.items 0 c.loop-seg.trail.items c.extend.new.trail.items c.loop-seg.number c.seg-item.result c.in_ok-next.next
      (trail_grown c.loop-seg.nodes.items c.step.new.nodes.items 0 c.loop-seg.trail.items c.in_ok-next.ensures.grown c.loop-seg.invariant.trail) c.in_ok-next.ensures.child c.extend.ensures;
}

pub returns-in_err-next-clause-trail : goal.returns-in_err-next-clause-trail
returns-in_err-next-clause-trail g c = trail_grown c.loop-seg.nodes.items c.step.new.nodes.items 0 c.loop-seg.trail.items c.in_err-next.ensures.grown c.loop-seg.invariant.trail
