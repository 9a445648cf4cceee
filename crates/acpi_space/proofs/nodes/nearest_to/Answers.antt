use Rattle.std.proofs.Common.{sym, ◌∙◌, ap, ◌+◌, drop, arith}
use Rattle.acpi_space.proofs.Nearest.{nearest_from, walk_stopped, walk_through, walked_on}
use Rattle.acpi_space.proofs.nodes.nearest_to.Goals as goal

pub returns-in-None : goal.returns-in-None
returns-in-None g c =
    c.nearer-found.ensures
    ∙ walk_stopped c.args.nodes.now c.loop-depth.number c.args.seg c.index-scope-depth.result c.loop-depth.depth c.args.scope.now c.loop-depth.found
    c.loop-depth-test.true c.index-scope-depth.is (sym c.child.ensures ∙ c.in-None.is) c.loop-depth.invariant

pub loop-depth-preserved : goal.loop-depth-preserved
loop-depth-preserved g c =
    ap (nearest_from c.args.nodes.now c.in-Some.next c.args.seg (c.loop-depth.depth + 1) (drop (c.loop-depth.depth + 1) c.args.scope.now)) c.nearer-found.ensures
    ∙ walked_on c.args.nodes.now c.loop-depth.number c.in-Some.next c.args.seg c.index-scope-depth.result c.loop-depth.depth c.args.scope.now c.loop-depth.found
    c.loop-depth-test.true c.index-scope-depth.is (sym c.child.ensures ∙ c.in-Some.is) c.loop-depth.invariant

pub returns : goal.returns
returns g c =
    c.nearer.ensures
    ∙ walk_through c.args.nodes.now c.loop-depth.number c.args.seg c.loop-depth.depth c.args.scope.now c.loop-depth.found
    (omega (arith, c.loop-depth-test.false, c.loop-depth.auto.depth-end)) c.loop-depth.invariant
