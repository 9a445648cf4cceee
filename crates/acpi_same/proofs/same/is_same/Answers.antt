use Rattle.std.proofs.Common.{sym, subst}
use Rattle.std.proofs.lemmas.Result.{IfOk-weaker}
use Rattle.acpi_entries.specs.SurveyBodies.{AreBodies}
use Rattle.acpi_same.proofs.Saying.{same_paths, tells}
use Rattle.acpi_same.proofs.Orders.{order_of}
use Rattle.acpi_same.proofs.same.is_same.Goals as goal

pub returns : goal.returns
returns c = λ o n.
    let old = c.args.old.now in
    let new = c.args.new.now in
    let by_old = order_of old _ _ _ (same_paths _ _ _ c.entries.ensures) c.in_ok-old_order.ensures c.deref-3.ensures.value in
    let by_new = order_of new _ _ _ (same_paths _ _ _ c.entries-2.ensures) c.in_ok-new_order.ensures c.deref-4.ensures.value in
    let old_bodies = subst (AreBodies old) (sym c.deref.ensures.value) (c.in_ok-old_bodies.ensures o.tile) in
    let new_bodies = subst (AreBodies new) (sym c.deref-2.ensures.value) (c.in_ok-new_bodies.ensures n.tile) in
    IfOk-weaker c.are_same_entries.result _ _
    (λ b is. tells old new c.deref.result.now c.deref-2.result.now c.deref-3.result.now c.deref-4.result.now by_old by_new old_bodies new_bodies b is)
    (c.are_same_entries.ensures o n)
