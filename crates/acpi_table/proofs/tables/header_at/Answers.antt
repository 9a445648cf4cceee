use Rattle.std.proofs.Common.{◌≡◌, ◌-◌, ◌∙◌, ap, drop, length, slice_index, arith}
use Rattle.std.proofs.lemmas.List.{take_all, length-drop}
use Rattle.byteorder.specs.Endian.{little_number}
use Rattle.acpi_table.proofs.tables.header_at.Goals as goal

pub returns : goal.returns
returns c =
    let b = c.args.bytes.now in
    let total : c.read_u32.result ≡ little_number 4 (drop 4 b) =
    c.read_u32.ensures ∙ ap (little_number 4) (take_all (length b - 4) (drop 4 b) (omega (arith, length-drop 4 b))) in
    let oem : c.read_u32-2.result ≡ little_number 4 (drop 24 b) =
    c.read_u32-2.ensures ∙ ap (little_number 4) (take_all (length b - 24) (drop 24 b) (omega (arith, length-drop 24 b))) in
    let creator : c.read_u32-3.result ≡ little_number 4 (drop 32 b) =
    c.read_u32-3.ensures ∙ ap (little_number 4) (take_all (length b - 32) (drop 32 b) (omega (arith, length-drop 32 b))) in
    λ i. record {
      signature = c.text_at.ensures i;
      length = total i;
      revision = slice_index b 8;
      checksum = slice_index b 9;
      oem_id = c.text_at-2.ensures i;
      oem_table_id = c.text_at-3.ensures i;
      oem_revision = oem i;
      creator_id = c.text_at-4.ensures i;
      creator_revision = creator i;
    }
