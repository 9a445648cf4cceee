use Rattle.std.proofs.Common.{◌≡◌, ◌∙◌, ap, sym, rules}
use Rattle.acpi_space.specs.Lookups.{union}
use Rattle.acpi_pass.specs.Pending.{linked_paths}
use Rattle.acpi_pass.specs.Links.{Links, answers, links_at}
use Rattle.acpi_pass.specs.Namespace.{namespace_of}
use Rattle.acpi_pass.specs.steps.View.{links_with}
use Rattle.acpi_pass.proofs.LinkAnswers.{same_answers}
use Rattle.acpi_pass.proofs.links.put_pending.Goals as goal

pub returns : goal.returns
returns g c =
    let objects = namespace_of (g.S.Space.contents c.args.objects.now) in
    let w = c.args.pending in
    let found : c.in_ok-new.field-0.value.items ≡ answers objects w.scope w.names.items = search rules in
    c.in_ok-put_links.ensures
    ∙ ap (λ (l : Links). union (links_at c.args.links.now) (links_with l (linked_paths w.scope w.paths))) found
    ∙ ap (union (links_at c.args.links.now)) (sym (same_answers objects w.scope w.names.items (linked_paths w.scope w.paths)))
