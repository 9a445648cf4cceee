use Rattle.std.proofs.Common.{sym, ◌∙◌, ap}
use Rattle.std.specs.FinMap as finite
use Rattle.acpi_space.specs.steps.Tree.{value_below}
use Rattle.acpi_space.proofs.Trails.{rest, value_at_fork}
use Rattle.acpi_space.proofs.Tree.{get-tree}
use Rattle.acpi_space.proofs.tree_space.TreeSpaceSpace.get.Goals as goal

pub returns : goal.returns
returns g c =
    c.value_at.ensures ∙ (λ i. value_below (c.deref-2.ensures.value i) c.follow-at.result.number (rest c.follow-at.result.depth c.segs-segs.result.now))
    ∙ value_at_fork c.self.inside.nodes.items c.self.inside.trail.items c.deref.result.now c.segs-segs.result.now c.follow-at.result c.self.invariant.1 c.deref.ensures.value c.follow-at.ensures.fork
    ∙ ap (value_below c.self.inside.nodes.items 0) c.segs-segs.ensures.all ∙ sym (get-tree c.self.inside.nodes.items c.args.path.now c.self.invariant.0)
    ∙ ap (λ m. finite.get m c.args.path.now) c.self.view_is
