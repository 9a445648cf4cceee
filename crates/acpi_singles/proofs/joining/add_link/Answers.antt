use Rattle.std.proofs.Common.{◌≡◌, ◌∙◌, List, None, Some, ap, sym}
use Rattle.std.specs.Option.{option_map}
use Rattle.acpi_name.specs.Names.{Segment}
use Rattle.acpi_space.specs.Lookups.{singleton, union}
use Rattle.acpi_declare.specs.Links.{Links, links_at}
use Rattle.acpi_singles.proofs.JoinedValues.{put_last, same_or_other}
use Rattle.acpi_singles.proofs.joining.add_link.Goals as goal

pub returns-in-Some : goal.returns-in-Some
returns-in-Some c =
    let here : links_at c.args.links.now c.args.path ≡ Some c.in-Some.others.now = sym c.get.ensures ∙ ap (option_map (λ s. s.now)) c.in-Some.is in
    same_or_other (links_at c.args.links.now) c.args.path c.args.answers.now c.in-Some.others.now c.same_answers.result here c.same_answers.ensures

pub returns : goal.returns
returns c =
    let old = links_at c.args.links.now in
    let free : old c.args.path ≡ None = sym c.get.ensures ∙ ap (option_map (λ s. s.now)) c.in_default.is in
    put_last old (links_at c.insert.new.self) c.args.path c.args.answers.now free
    (c.in_ok-insert.ensures.ok
    ∙ ap (λ (q : List Segment). union old (singleton q c.in_ok-copy_answers.field-0.items)) c.path.view_is
    ∙ ap (λ (l : Links). union old (singleton c.args.path l)) c.in_ok-copy_answers.ensures)
