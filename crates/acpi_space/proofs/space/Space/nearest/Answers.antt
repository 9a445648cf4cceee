use Rattle.acpi_space.proofs.Climbing.{walk_found, walk_on_popped, walk_ended_popped, found_by_get, walk_shrinks}
use Rattle.acpi_space.specs.Spaces.{is_defined}
use Rattle.acpi_space.proofs.space.Space.nearest.Goals as goal

pub returns-then-found : goal.returns-then-found
returns-then-found g c =
    walk_found (is_defined (g.Self.Space.contents c.args.self.now)) _ c.loop-path.path _ _ c.args.scope.now _ _ c.loop-path.invariant c.in_ok-push.ensures.ok c.pop.ensures.parent
    (found_by_get _ _ _ c.is_some-found.ensures c.get.ensures) c.if-found.true c.len.ensures.count

pub loop-path-preserved : goal.loop-path-preserved
loop-path-preserved g c =
    walk_on_popped (is_defined (g.Self.Space.contents c.args.self.now)) _ _ _ c.loop-path.path _ _ _ c.args.scope.now _ c.loop-path.invariant c.in_ok-push.ensures.ok c.pop.ensures.parent
    (found_by_get _ _ _ c.is_some-found.ensures c.get.ensures) c.if-found.false c.is_none.ensures c.if-is_none.false c.pop-in-loop-path.ensures.last c.pop-in-loop-path.ensures.parent

pub returns-then-is_none : goal.returns-then-is_none
returns-then-is_none g c =
    walk_ended_popped (is_defined (g.Self.Space.contents c.args.self.now)) _ _ _ c.loop-path.path _ _ c.args.scope.now _ c.loop-path.invariant c.in_ok-push.ensures.ok c.pop.ensures.parent
    (found_by_get _ _ _ c.is_some-found.ensures c.get.ensures) c.if-found.false c.is_none.ensures c.if-is_none.true c.pop-in-loop-path.ensures.last

pub loop-path-smaller : goal.loop-path-smaller
loop-path-smaller g c =
    walk_shrinks _ _ _ _ _ _ _ c.in_ok-push.ensures.ok c.pop.ensures.parent c.is_none.ensures c.if-is_none.false c.pop-in-loop-path.ensures.last c.pop-in-loop-path.ensures.parent
