use Rattle.std.proofs.Common.{sym, ◌∙◌, arith}
use Rattle.acpi_space.proofs.Trails.{path_ended, parted, together}
use Rattle.acpi_space.proofs.trail.follow.Goals as goal

pub returns-in_default-clause-fork : goal.returns-in_default-clause-fork
returns-in_default-clause-fork c =
    parted c.args.trail.now c.args.path.now c.loop-depth.depth c.loop-depth.number c.loop-depth.invariant c.in-Some.mark.now c.index-path-depth.result
    c.in-Some.ensures.lookup.3.0 c.in-Some.ensures.lookup.1 c.loop-depth-test.true c.index-path-depth.is (sym c.eq.ensures ∙ c.if-eq.false)

pub loop-depth-preserved : goal.loop-depth-preserved
loop-depth-preserved c =
    together c.args.trail.now c.args.path.now c.loop-depth.depth c.loop-depth.number c.loop-depth.invariant c.in-Some.mark.now c.index-path-depth.result
    c.in-Some.ensures.lookup.3.0 c.in-Some.ensures.lookup.1 c.loop-depth-test.true c.index-path-depth.is (sym c.eq.ensures ∙ c.if-eq.true)

pub returns-clause-fork : goal.returns-clause-fork
returns-clause-fork c = path_ended c.args.trail.now c.args.path.now c.loop-depth.depth c.loop-depth.number c.loop-depth.invariant (omega arith)
