use Rattle.std.proofs.Common.{◌∙◌, ap, length}
use Rattle.acpi_space.specs.steps.Tree.{pairs_below}
use Rattle.acpi_space.proofs.Ascending.{listed_tree}
use Rattle.acpi_space.proofs.Visits.{none_left, shown}
use Rattle.acpi_space.proofs.tree_space.TreeSpaceSpace.pairs.Goals as goal

pub returns : goal.returns
returns g c =
    listed_tree c.self.inside.nodes.items c.args.self.now (shown c.loop-walk.pairs.items) c.self.invariant.0 c.self.view_is
    (none_left (shown c.loop-walk.pairs.items) c.loop-walk.walk c.next.new.self c.in_ok-value.field-0 _ c.loop-walk.invariant.1 c.in_ok-value.ensures.given c.in_default.is
    ∙ c.through-walk.ensures.all
    ∙ ap (λ l. pairs_below (length l) l 0) c.deref.ensures.value)
