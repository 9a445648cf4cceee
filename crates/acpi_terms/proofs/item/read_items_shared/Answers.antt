use Rattle.std.proofs.Common.{◌<◌, arith}
use Rattle.acpi_tree.specs.View.{items_tree}
use Rattle.acpi_terms.proofs.ReadItems.{found_law, only_law, faults_law, next_law, gives_as}
use Rattle.acpi_terms.specs.steps.Cursor.{Gives}
use Rattle.acpi_terms.specs.steps.Reading.{items_at}
use Rattle.acpi_terms.proofs.item.read_items_shared.Goals as goal

pub returns-clause-found : goal.returns-clause-found
returns-clause-found c =
    let h : Gives (λ v. items_tree v.items) c.all_items.result (items_at c.args.depth c.args.code.now) = gives_as (λ v. items_tree v.items) _ _ _ _ c.all_items.result c.get.ensures.number c.as_slice.ensures c.all_items.ensures.exact in
    found_law (λ v. items_tree v.items) c.args.depth c.args.code.now c.all_items.result h

pub returns-clause-only : goal.returns-clause-only
returns-clause-only c =
    let h : Gives (λ v. items_tree v.items) c.all_items.result (items_at c.args.depth c.args.code.now) = gives_as (λ v. items_tree v.items) _ _ _ _ c.all_items.result c.get.ensures.number c.as_slice.ensures c.all_items.ensures.exact in
    only_law (λ v. items_tree v.items) c.args.depth c.args.code.now c.all_items.result h

pub returns-clause-faults : goal.returns-clause-faults
returns-clause-faults c =
    let h : Gives (λ v. items_tree v.items) c.all_items.result (items_at c.args.depth c.args.code.now) = gives_as (λ v. items_tree v.items) _ _ _ _ c.all_items.result c.get.ensures.number c.as_slice.ensures c.all_items.ensures.exact in
    faults_law (λ v. items_tree v.items) c.args.depth c.args.code.now c.all_items.result h

pub returns-clause-next : goal.returns-clause-next
returns-clause-next c =
    let h : Gives (λ v. items_tree v.items) c.all_items.result (items_at c.args.depth c.args.code.now) = gives_as (λ v. items_tree v.items) _ _ _ _ c.all_items.result c.get.ensures.number c.as_slice.ensures c.all_items.ensures.exact in
    let some : 0 < c.args.depth = grind arith in
    next_law (λ v. items_tree v.items) c.args.depth c.args.code.now c.all_items.result some h
