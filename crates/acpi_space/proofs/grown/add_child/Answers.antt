use Rattle.std.proofs.Common.{arith, ◌∙◌}
use Rattle.acpi_space.proofs.Growth.{padded_grown, grown_again, unlinked_padded, added_link, linked_grown}
use Rattle.acpi_space.proofs.grown.add_child.Goals as goal

pub returns-in_err-push_empty-clause-grown : goal.returns-in_err-push_empty-clause-grown
returns-in_err-push_empty-clause-grown g c =
    padded_grown c.args.nodes.now.items c.push_empty.new.nodes.items c.in_err-push_empty.ensures.padded (omega (arith, c.in_err-push_empty.ensures.err)) c.requires.tree

pub returns-in_err-link-clause-grown : goal.returns-in_err-link-clause-grown
returns-in_err-link-clause-grown g c =
    let first = padded_grown c.args.nodes.now.items c.push_empty.new.nodes.items c.in_ok-push_empty.ensures.padded (omega (arith, c.in_ok-push_empty.ensures.ok)) c.requires.tree in
    grown_again c.args.nodes.now.items c.push_empty.new.nodes.items c.link.new.nodes.items first
    (padded_grown c.push_empty.new.nodes.items c.link.new.nodes.items
    (unlinked_padded c.push_empty.new.nodes.items c.link.new.nodes.items c.args.number c.in_err-link.ensures.others c.in_err-link.ensures.value c.in_err-link.ensures.err)
    (omega (arith, c.in_err-link.ensures.len)) first.tree)

pub returns-clause-grown : goal.returns-clause-grown
returns-clause-grown g c =
    grown_again c.args.nodes.now.items c.push_empty.new.nodes.items c.link.new.nodes.items
    (padded_grown c.args.nodes.now.items c.push_empty.new.nodes.items c.in_ok-push_empty.ensures.padded (omega (arith, c.in_ok-push_empty.ensures.ok)) c.requires.tree)
    (linked_grown c.push_empty.new.nodes.items c.link.new.nodes.items c.args.number c.args.seg c.len-next.result
    (added_link c.args.nodes.now.items c.push_empty.new.nodes.items c.link.new.nodes.items c.args.number c.args.seg c.len-next.result
    c.requires.tree c.requires.within c.requires.free c.in_ok-push_empty.ensures.padded c.in_ok-push_empty.ensures.ok (c.len-next.ensures ∙ c.args.nodes.now.ok.0)
    c.in_ok-link.ensures.len c.in_ok-link.ensures.others c.in_ok-link.ensures.value c.in_ok-link.ensures.ordered c.in_ok-link.ensures.entries c.in_ok-link.ensures.child))
