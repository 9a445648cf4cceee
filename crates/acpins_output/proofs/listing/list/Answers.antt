use Rattle.std.proofs.Common.{◌++◌, [], ap, ◌∙◌}
use Rattle.std.proofs.lemmas.Result.{IfOk-weaker}
use Rattle.acpi_text.specs.Lines.{listing_text}
use Rattle.acpi_declare.specs.Links.{links_at}
use Rattle.acpins_output.specs.steps.Lines.{objects_by_path}
use Rattle.acpins_output.specs.declared.listing.Lines.{Lines}
use Rattle.acpins_output.proofs.Printing.{no_line, prints}
use Rattle.acpins_output.proofs.listing.list.Goals as goal

pub returns : goal.returns
returns g c =
    let first : Lines = record { text = c.new.result; links = c.args.links } in
    IfOk-weaker c.into_bytes.result _ _
    (λ bytes is. prints _ _ _
    (is ∙ (c.in_ok-visit_pairs.ensures first [] (no_line first)).text
    ∙ ap (λ l. l ++ listing_text (objects_by_path (g.S.Space.contents c.args.objects.now)) (links_at c.args.links.now)) c.new.ensures)) c.into_bytes.ensures
