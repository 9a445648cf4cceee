use Rattle.std.proofs.Common.{◌≤◌, ◌++◌, Ok, Err, refl, sym, ap, subst, ◌∙◌}
use Rattle.acpi_tree.specs.View.{item_view}
use Rattle.acpi_terms.specs.declared.fault.ItemFault.{ItemFault}
use Rattle.acpi_terms.specs.declared.item.NextItem.{NextItem}
use Rattle.acpi_terms.specs.steps.ScopeBlocks.{GivesNext}
use Rattle.acpi_places.specs.steps.Walking.{code_length, leaf_places}
use Rattle.acpi_places.proofs.Walked.{code_fits, next_leaf, next_opens, next_fault}
use Rattle.acpi_places.proofs.items.next.Goals as goal

pub add_place-requires : goal.add_place-requires
add_place-requires c =
    let r = c.requires.items in
    let old = c.args.code.now in
    let new = c.next_item.new.code in
    let g = subst (λ (x : NextItem). GivesNext c.args.level old new (Ok x)) c.in-Ok-Leaf.field-0-is c.in-Ok-Leaf.ensures in
    subst (λ n. code_length (item_view c.in-Ok-Leaf.item) ≤ n) (sym c.place.ensures) (code_fits c.args.table c.args.level old new r.0 c.requires.some r.1 c.in-Ok-Leaf.item g)

pub unreachable-requires : goal.unreachable-requires
unreachable-requires c =
    let r = c.requires.items in
    let old = c.args.code.now in
    let new = c.next_item.new.code in
    let g = subst (λ (x : ItemFault). GivesNext c.args.level old new (Err x)) c.in-Err-At.field-0-is c.in-Err-At.ensures in
    next_fault c.args.table c.args.level old new r.0 c.requires.some r.1 c.in-Err-At.field-0-0 c.in-Err-At.field-0-1 g

pub returns-in_ok-add_place-in-Ok-Leaf-clause-next : goal.returns-in_ok-add_place-in-Ok-Leaf-clause-next
returns-in_ok-add_place-in-Ok-Leaf-clause-next c = λ is h.
    let old = c.args.code.now in
    let new = c.next_item.new.code in
    let g = subst (λ (x : NextItem). GivesNext c.args.level old new (Ok x)) c.in-Ok-Leaf.field-0-is c.in-Ok-Leaf.ensures in
    let put = c.in_ok-add_place-in-Ok-Leaf.ensures in
    next_leaf c.args.table c.args.level old new is c.requires.some h c.in-Ok-Leaf.item g c.args.places.now.items c.add_place.new.places.items
    (put ∙ ap (λ n. c.args.places.now.items ++ leaf_places c.args.table n (item_view c.in-Ok-Leaf.item)) c.place.ensures)

pub returns-in-Ok-ScopeBlock-clause-next : goal.returns-in-Ok-ScopeBlock-clause-next
returns-in-Ok-ScopeBlock-clause-next c = λ is h.
    let old = c.args.code.now in
    let new = c.next_item.new.code in
    let g = subst (λ (x : NextItem). GivesNext c.args.level old new (Ok x)) c.in-Ok-ScopeBlock.field-0-is c.in-Ok-ScopeBlock.ensures in
    (next_opens c.args.table c.args.level old new is c.requires.some h c.in-Ok-ScopeBlock.block g, refl)
