use Rattle.std.proofs.Common.{ℕ, ◌∙◌, ◌++◌, ap, codes, decimal}
use Rattle.acpi_tree.specs.TermView.{term_view}
use Rattle.acpi_text.specs.Constants.{hex_digits}
use Rattle.acpi_text.specs.Terms.{term_text}
use Rattle.acpi_text.proofs.Pieces.{next_said}
use Rattle.acpins_survey_output.proofs.Separating.{pair_said}
use Rattle.acpins_survey_output.proofs.objects.put_bank_field.Goals as goal

pub returns : goal.returns
returns c =
    let old = c.args.text.now in
    let offset = codes "BankField offset=" ++ decimal c.args.offset in
    let bits = offset ++ codes " bits=" ++ decimal c.args.bits in
    let flags = bits ++ codes " flags=" ++ hex_digits 2 c.args.flags in
    let bits_put = c.put_decimal-2.ensures ∙ ap (λ (n : ℕ). c.put-2.new.self ++ decimal n) c.from.ensures in
    pair_said old flags (codes " value=") (term_text (term_view c.args.value.now)) _ _
    (next_said old (bits ++ codes " flags=") (hex_digits 2 c.args.flags) _ _
    (next_said old bits (codes " flags=") _ _
    (next_said old (offset ++ codes " bits=") (decimal c.args.bits) _ _
    (next_said old offset (codes " bits=") _ _
    (next_said old (codes "BankField offset=") (decimal c.args.offset) _ _ c.put.ensures c.put_decimal.ensures)
    c.put-2.ensures)
    bits_put)
    c.put-3.ensures)
    c.put_byte.ensures)
    c.put_behind.ensures
