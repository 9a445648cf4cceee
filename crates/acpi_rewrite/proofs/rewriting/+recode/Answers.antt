use Rattle.std.proofs.Common.{rules}
use Rattle.std.specs.Vec.Iter.{into_iter_items}
use Rattle.acpi_rewrite.proofs.Recoding.{next_item}
use Rattle.acpi_rewrite.proofs.rewriting.+recode.Goals as goal

pub recode_items-loop-item-preserved : goal.recode_items-loop-item-preserved
recode_items-loop-item-preserved t c =
    let i = c.loop-item.invariant in
    let next = next_item c.loop-item.items c.args.items.now c.loop-item.item-index c.item-item.result c.recode_item.new.item (into_iter_items c.loop-item.fresh)
    (into_iter_items c.recode_item.new.fresh) (into_iter_items c.args.fresh.now) (search rules) c.recode_item.ensures.alike c.recode_item.ensures.codes (i.1, i.2, i.3) in
    (search rules, next.0, next.1, next.2)
