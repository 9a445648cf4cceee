use Rattle.std.proofs.Common.{◌≡◌, ◌⊎◌, ◌↔◌, IsTrue, take, length, min, ap, ◌∙◌, arith}
use Rattle.acpi_table.specs.Tables.{length_field}
use Rattle.acpi_pieces.specs.Tables.{IsDsdt, IsSsdt, IsOutOfPlace, code_in}
use Rattle.acpi_pieces.proofs.Judging.{code_range}
use Rattle.acpi_pieces.proofs.tables.read.Goals as goal

pub returns : goal.returns
returns c =
    let text : c.signature-signature.result ≡ take 4 c.args.bytes.now = c.signature-signature.ensures ∙ ap (take 4) c.deref.ensures in
    let l : c.length_field-length.result ≡ length_field c.args.bytes.now = c.length_field-length.ensures ∙ ap length_field c.deref-2.ensures in
    let block : IsDsdt c.args.bytes.now ⊎ IsSsdt c.args.bytes.now = grind arith in
    let end_is : c.min-end.result ≡ min (length_field c.args.bytes.now) (length c.args.bytes.now) = omega (arith, l, c.len.ensures.value, c.min-end.ensures) in
    let code : c.in_ok-slice.field-0 ≡ code_in c.args.bytes.now =
    c.in_ok-slice.ensures.ok ∙ code_range c.args.bytes.now c.min-end.result c.requires.length end_is in
    let out : IsTrue c.is_out_of_place.result ↔ IsOutOfPlace c.args.number c.args.bytes.now =
    c.is_out_of_place.ensures c.args.bytes.now text in
    (c.requires.length, block, code, grind arith, c.requires.sum, out, omega (arith, end_is, c.len-3.ensures.value))
