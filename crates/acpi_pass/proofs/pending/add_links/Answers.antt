use Rattle.std.proofs.Common.{◌∙◌, ◌++◌, List, ap}
use Rattle.acpi_name.specs.Names.{Segment}
use Rattle.acpi_pass.specs.Pending.{all_pending_of, linked_paths, pending_from}
use Rattle.acpi_pass.proofs.LinkAnswers.{one_more_pending}
use Rattle.acpi_pass.proofs.pending.add_links.Goals as goal

pub returns : goal.returns
returns c =
    let before = c.args.links.now.items in
    ap all_pending_of c.in_ok-push.ensures.items
    ∙ one_more_pending before (record { paths = c.args.paths; scope = c.in_ok-copy.field-0; names = c.args.names })
    ∙ ap (λ (r : List Segment). all_pending_of before ++ pending_from r c.args.names.items (linked_paths r c.args.paths)) c.in_ok-copy.ensures
