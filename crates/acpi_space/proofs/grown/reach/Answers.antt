use Rattle.std.proofs.Common.{sym, subst}
use Rattle.acpi_space.specs.steps.Trail.{IsTrail}
use Rattle.acpi_space.proofs.Trails.{trail_grown, trail_cut, fork_here, reached_within, reached_on, absent_on}
use Rattle.acpi_space.proofs.grown.reach.Goals as goal

pub returns-in_err-root-clause-trail : goal.returns-in_err-root-clause-trail
returns-in_err-root-clause-trail g c = trail_grown c.args.nodes.now.items c.root.new.nodes.items 0 c.args.trail.now.items c.in_err-root.ensures.grown c.requires.trail

pub reach_from-requires-clause-within : goal.reach_from-requires-clause-within
reach_from-requires-clause-within g c =
    reached_within c.root.new.nodes.items 0 c.follow-at.result.number _ c.in_ok-root.ensures.grown.tree c.in_ok-root.ensures.ok
    (fork_here c.root.new.nodes.items c.args.trail.now.items c.deref.result.now c.args.path.now c.follow-at.result
    (trail_grown c.args.nodes.now.items c.root.new.nodes.items 0 c.args.trail.now.items c.in_ok-root.ensures.grown c.requires.trail) c.deref.ensures.value c.follow-at.ensures.fork)

pub reach_from-requires-clause-trail : goal.reach_from-requires-clause-trail
reach_from-requires-clause-trail g c =
    subst (IsTrail c.root.new.nodes.items 0) (sym c.truncate.ensures.items)
    (trail_cut c.root.new.nodes.items 0 c.follow-at.result.depth c.args.trail.now.items
    (trail_grown c.args.nodes.now.items c.root.new.nodes.items 0 c.args.trail.now.items c.in_ok-root.ensures.grown c.requires.trail))

pub returns-clause-reached : goal.returns-clause-reached
returns-clause-reached g c =
    reached_on c.args.nodes.now.items c.root.new.nodes.items c.reach_from.new.nodes.items c.args.path.now c.follow-at.result.depth c.follow-at.result.number c.reach_from.result
    (fork_here c.root.new.nodes.items c.args.trail.now.items c.deref.result.now c.args.path.now c.follow-at.result
    (trail_grown c.args.nodes.now.items c.root.new.nodes.items 0 c.args.trail.now.items c.in_ok-root.ensures.grown c.requires.trail) c.deref.ensures.value c.follow-at.ensures.fork)
    c.reach_from.ensures.grown c.reach_from.ensures.reached

pub returns-clause-absent : goal.returns-clause-absent
returns-clause-absent g c =
    absent_on c.args.nodes.now.items c.root.new.nodes.items c.reach_from.new.nodes.items c.args.path.now c.follow-at.result.depth c.follow-at.result.number c.reach_from.result
    (fork_here c.root.new.nodes.items c.args.trail.now.items c.deref.result.now c.args.path.now c.follow-at.result
    (trail_grown c.args.nodes.now.items c.root.new.nodes.items 0 c.args.trail.now.items c.in_ok-root.ensures.grown c.requires.trail) c.deref.ensures.value c.follow-at.ensures.fork)
    c.in_ok-root.ensures.grown c.reach_from.ensures.absent
