use Rattle.std.proofs.Common.{◌∙◌, ap, ap₂, subst, length}
use Rattle.acpi_tree.specs.View.{items_tree}
use Rattle.acpi_code.proofs.Fitting.{are_bytes}
use Rattle.acpi_terms.proofs.ReadItems.{fits_law, offsets_law}
use Rattle.acpi_terms.specs.steps.Cursor.{Gives}
use Rattle.acpi_terms.specs.steps.Reading.{item_at, items_with, items_at}
use Rattle.acpi_terms.proofs.item.all_items.Goals as goal

pub returns-clause-fits : goal.returns-clause-fits
returns-clause-fits c =
    let h : Gives (λ v. items_tree v.items) c.items.result (items_at c.args.depth c.args.code.now) =
    subst (Gives (λ v. items_tree v.items) c.items.result) (ap₂ (items_with (item_at c.args.depth)) (c.shared.ensures.ends ∙ ap length c.requires) (c.shared.ensures.bytes ∙ c.requires)) c.items.ensures in
    fits_law (λ v. items_tree v.items) c.args.depth c.args.code.now c.items.result (are_bytes c.args.code.now c.type_inv.code) h

pub returns-clause-offsets : goal.returns-clause-offsets
returns-clause-offsets c =
    let h : Gives (λ v. items_tree v.items) c.items.result (items_at c.args.depth c.args.code.now) =
    subst (Gives (λ v. items_tree v.items) c.items.result) (ap₂ (items_with (item_at c.args.depth)) (c.shared.ensures.ends ∙ ap length c.requires) (c.shared.ensures.bytes ∙ c.requires)) c.items.ensures in
    offsets_law (λ v. items_tree v.items) c.args.depth c.args.code.now c.items.result (are_bytes c.args.code.now c.type_inv.code) h
