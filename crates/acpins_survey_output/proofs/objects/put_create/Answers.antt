use Rattle.std.proofs.Common.{◌∙◌, ◌++◌, ap, append_assoc, codes, sym}
use Rattle.acpi_tree.specs.TermView.{term_view}
use Rattle.acpi_text.specs.Terms.{width_text}
use Rattle.acpi_text.specs.Terms.{term_text}
use Rattle.acpi_text.proofs.Pieces.{next_said}
use Rattle.acpins_survey_output.proofs.objects.put_create.Goals as goal

pub returns : goal.returns
returns c =
    let word = codes "Create" ++ width_text c.args.width ++ codes "Field" in
    next_said c.args.text.now word (codes " index=" ++ term_text (term_view c.args.index.now)) _ _ (c.put.ensures ∙ ap (λ t. c.args.text.now ++ t) c.create_name.ensures) c.put_behind.ensures
    ∙ ap (λ t. c.args.text.now ++ t) (simp append_assoc)
