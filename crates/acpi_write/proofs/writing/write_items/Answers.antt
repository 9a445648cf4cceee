use Rattle.std.proofs.Common.{◌∙◌, sym, ap, Some}
use Rattle.acpi_tree.specs.View.{items_tree}
use Rattle.acpi_write.specs.CanonicalItems.{items_bytes}
use Rattle.acpi_write.proofs.Fronts.{put_alone}
use Rattle.acpi_write.proofs.ItemsWritten.{items_written}
use Rattle.acpi_write.proofs.writing.write_items.Goals as goal

pub returns-clause-ok : goal.returns-clause-ok
returns-clause-ok c = put_alone (items_bytes (items_tree c.args.items.now)) c.new-writer.result c.items.new.self c.new-writer.ensures c.in_ok-items.ensures.put ∙ ap Some (sym c.into_bytes.ensures)

pub returns-clause-spells : goal.returns-clause-spells
returns-clause-spells c =
    items_written (items_tree c.args.items.now) c.into_bytes.result.items c.in_ok-items.ensures.typed c.requires.fit
    (put_alone (items_bytes (items_tree c.args.items.now)) c.new-writer.result c.items.new.self c.new-writer.ensures c.in_ok-items.ensures.put ∙ ap Some (sym c.into_bytes.ensures))
