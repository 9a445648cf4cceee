use Rattle.std.proofs.Common.{◌≡◌, ◌∷◌, [], ◌++◌, Some, None, ap, ◌∙◌}
use Rattle.std.specs.BTreeMap as tree
use Rattle.std.specs.Global.{Vec}
use Rattle.acpi_name.specs.Paths.{path_cmp}
use Rattle.acpi_verdict.specs.declared.definers.Definer.{Definer}
use Rattle.acpi_verdict.proofs.Noted.{items_of, cond_twice, other_added}
use Rattle.acpi_verdict.proofs.definers.add_other.Goals.{in-Some, in-None}
use Rattle.acpi_verdict.proofs.definers.add_other.Goals as goal

pub returns : goal.returns
returns c =
    let old = c.args.others.now in
    let p = c.args.path in
    let was : c.match-remove.list.items ≡ items_of (tree.get path_cmp old p) = elim c.match-remove.branch [
      | in-Some w ↦ ap (λ (xs : Vec Definer). xs.items) w.list-is ∙ ap items_of w.in-Some.ensures.value
      | in-None w ↦ ap (λ (xs : Vec Definer). xs.items) w.list-is ∙ w.new-list.ensures.items ∙ ap items_of w.in-None.ensures.value
    ] in
    other_added old c.insert.new.self p c.args.definer c.push.new.self (c.in_ok-push.ensures.items ∙ ap (λ xs. xs ++ c.args.definer ∷ []) was)
    (λ q. c.in_ok-insert.ensures.updates.0 q ∙ cond_twice _ (Some c.push.new.self) (tree.get path_cmp old q) (tree.get path_cmp c.remove.new.self q) None (c.remove.ensures.updates.0 q))
