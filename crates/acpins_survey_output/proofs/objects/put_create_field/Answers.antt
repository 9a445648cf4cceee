use Rattle.std.proofs.Common.{◌++◌, codes}
use Rattle.acpi_tree.specs.TermView.{term_view}
use Rattle.acpi_text.specs.Terms.{term_text}
use Rattle.acpins_survey_output.proofs.Separating.{pair_said}
use Rattle.acpins_survey_output.proofs.objects.put_create_field.Goals as goal

pub returns : goal.returns
returns c =
    pair_said c.args.text.now (codes "CreateField index=" ++ term_text (term_view c.args.index.now)) (codes " bits=") (term_text (term_view c.args.bits.now)) _ _
    c.put_behind.ensures c.put_behind-2.ensures
