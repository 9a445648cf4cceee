use Rattle.std.proofs.Common.{sym, ◌∙◌, ap, is_some, ◌++◌, ◌∷◌, [], length, find}
use Rattle.std.specs.Option.{option_map}
use Rattle.acpi_space.specs.Search.{beginnings, nearest_scope}
use Rattle.acpi_space.specs.Spaces.{is_defined}
use Rattle.acpi_space.specs.steps.Tree.{value_below}
use Rattle.acpi_space.proofs.Tree.{get-tree}
use Rattle.acpi_space.proofs.tree_space.TreeSpaceSpace.nearest.Goals as goal

pub returns-clause-nearest : goal.returns-clause-nearest
returns-clause-nearest g c =
    c.nearest_to.ensures
    ∙ (λ i. option_map length (find (λ q. is_some (value_below (c.deref.ensures.value i) 0 (q ++ c.args.seg ∷ []))) (beginnings (c.segs.ensures.all i))))
    ∙ (λ i. option_map length (find (λ q. is_some (sym (get-tree c.self.inside.nodes.items (q ++ c.args.seg ∷ []) c.self.invariant.0) i)) (beginnings c.args.scope.now)))
    ∙ ap (λ m. option_map length (nearest_scope (is_defined m) c.args.scope.now c.args.seg)) c.self.view_is
