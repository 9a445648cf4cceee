use Rattle.std.proofs.Common.{◌≡◌, ◌<◌, ◌≤◌, ◌*◌, ◌∙◌, reverse, ap, arith}
use Rattle.std.proofs.lemmas.List.{reverse-reverse}
use Rattle.acpi_tree.specs.View.{items_tree}
use Rattle.acpi_pass.specs.steps.Entering.{weights}
use Rattle.acpi_pass.proofs.Entered.{lighter_below, lighter_elsewhere}
use Rattle.acpi_pass.proofs.pass.Pass.+declare.Goals as goal

pub declare_items-declare_items-requires : goal.declare_items-declare_items-requires
declare_items-declare_items-requires g t c κs within =
    let whole : reverse c.reverse.new.self.items ≡ c.args.items.items = ap reverse c.reverse.ensures.items ∙ reverse-reverse c.args.items.items in
    let most : weights (items_tree (reverse c.loop-self.left.items)) ≤ weights (items_tree c.args.items.items) = rw (← whole) c.loop-self.invariant.3 in
    let left = lighter_below _ _ c.in_ok-enter_next.field-0 c.in-Below.items _ c.in-Below.is most c.in_ok-enter_next.ensures.left in
    let falls : 2 * weights (items_tree c.in-Below.items.items) < 2 * weights (items_tree c.args.items.items) = omega (arith, left.falls) in
    (rw (← c.decreases) falls, (within, (left.left.0, left.left.1)))

pub declare_items-declare_elsewhere-requires : goal.declare_items-declare_elsewhere-requires
declare_items-declare_elsewhere-requires g t c κs within =
    let whole : reverse c.reverse.new.self.items ≡ c.args.items.items = ap reverse c.reverse.ensures.items ∙ reverse-reverse c.args.items.items in
    let most : weights (items_tree (reverse c.loop-self.left.items)) ≤ weights (items_tree c.args.items.items) = rw (← whole) c.loop-self.invariant.3 in
    let left = lighter_elsewhere _ _ c.in_ok-enter_next.field-0 c.in-Elsewhere.other c.in-Elsewhere.items _ c.in-Elsewhere.is most c.in_ok-enter_next.ensures.left in
    (rw (← c.decreases) left.falls, (within, (left.left.0, left.left.1)))
