use Rattle.std.proofs.Common.{◌++◌, codes}
use Rattle.acpi_tree.specs.TermView.{term_view}
use Rattle.acpi_text.specs.Constants.{hex_digits}
use Rattle.acpi_text.specs.Terms.{term_text}
use Rattle.acpi_text.proofs.Pieces.{next_said}
use Rattle.acpins_survey_output.proofs.Separating.{pair_said}
use Rattle.acpins_survey_output.proofs.objects.put_region.Goals as goal

pub returns : goal.returns
returns c =
    let old = c.args.text.now in
    let word = codes "OperationRegion space=" in
    let digits = hex_digits 2 c.args.space in
    let offset = term_text (term_view c.args.offset.now) in
    pair_said old (word ++ digits ++ codes " offset=" ++ offset) (codes " length=") (term_text (term_view c.args.length.now)) _ _
    (pair_said old (word ++ digits) (codes " offset=") offset _ _
    (next_said old word digits _ _ c.put.ensures c.put_byte.ensures) c.put_behind.ensures) c.put_behind-2.ensures
