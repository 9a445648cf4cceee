use Rattle.std.proofs.Common.{◌≡◌, ◌+◌, ℕ, ◌∙◌, sym, ap, Some, arith}
use Rattle.acpi_tree.specs.View.{items_tree}
use Rattle.acpi_write.specs.CanonicalItems.{items_bytes}
use Rattle.acpi_write.proofs.Fronts.{put_alone}
use Rattle.acpi_write.proofs.Framed.{tabled}
use Rattle.acpi_write.proofs.ItemsWritten.{items_written}
use Rattle.acpi_write.proofs.writing.write_table.Goals as goal

pub returns-clause-table : goal.returns-clause-table
returns-clause-table c = (tabled c.args.header.now c.in_ok-header.ensures.widths (36 + c.len-length.result) c.checksum_for.result c.items.new.self c.into_bytes-bytes.result.items
    c.deref.result.now (omega arith) (omega arith) (c.into_bytes-bytes.ensures ∙ c.in_ok-header.ensures.put) c.deref.ensures.value c.checksum_for.ensures).table

pub returns-clause-header : goal.returns-clause-header
returns-clause-header c = (tabled c.args.header.now c.in_ok-header.ensures.widths (36 + c.len-length.result) c.checksum_for.result c.items.new.self c.into_bytes-bytes.result.items
    c.deref.result.now (omega arith) (omega arith) (c.into_bytes-bytes.ensures ∙ c.in_ok-header.ensures.put) c.deref.ensures.value c.checksum_for.ensures).header

pub returns-clause-code : goal.returns-clause-code
returns-clause-code c =
    let whole = tabled c.args.header.now c.in_ok-header.ensures.widths (36 + c.len-length.result) c.checksum_for.result c.items.new.self c.into_bytes-bytes.result.items
    c.deref.result.now (omega arith) (omega arith) (c.into_bytes-bytes.ensures ∙ c.in_ok-header.ensures.put) c.deref.ensures.value c.checksum_for.ensures in
    put_alone (items_bytes (items_tree c.args.items.now)) c.new-writer.result c.items.new.self c.new-writer.ensures c.in_ok-items.ensures.put ∙ ap Some (sym whole.behind)

pub returns-clause-spells : goal.returns-clause-spells
returns-clause-spells c =
    let whole = tabled c.args.header.now c.in_ok-header.ensures.widths (36 + c.len-length.result) c.checksum_for.result c.items.new.self c.into_bytes-bytes.result.items
    c.deref.result.now (omega arith) (omega arith) (c.into_bytes-bytes.ensures ∙ c.in_ok-header.ensures.put) c.deref.ensures.value c.checksum_for.ensures in
    items_written (items_tree c.args.items.now) _ c.in_ok-items.ensures.typed c.requires.fit
    (put_alone (items_bytes (items_tree c.args.items.now)) c.new-writer.result c.items.new.self c.new-writer.ensures c.in_ok-items.ensures.put ∙ ap Some (sym whole.behind))
