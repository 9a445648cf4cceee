use Rattle.std.proofs.Common.{◌∙◌, ◌∷◌, [], ◌++◌, List, ap}
use Rattle.acpi_name.specs.Names.{Segment}
use Rattle.acpi_pass.specs.Pending.{all_pending_of, pending_for}
use Rattle.acpi_pass.proofs.pending.add_links_of.Goals as goal

pub returns : goal.returns
returns c =
    c.in_ok-add_links.ensures
    ∙ ap (λ (p : List Segment). all_pending_of c.args.links.now.items ++ pending_for p c.args.scope.now c.args.names.items ∷ []) c.in_ok-copy.ensures
