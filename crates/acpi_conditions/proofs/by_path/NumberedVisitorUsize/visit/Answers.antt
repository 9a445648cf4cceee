use Rattle.std.proofs.Common.{◌∙◌, ◌++◌, map, slice_get, sym, ap, append-nil}
use Rattle.std.proofs.lemmas.Option.{slice_get_past}
use Rattle.std.proofs.lemmas.Result.{on_ok_weaker}
use Rattle.acpi_conditions.specs.ByPath.{lent_pair}
use Rattle.acpi_conditions.specs.steps.SlotPairs.{pairs_in}
use Rattle.acpi_conditions.proofs.ByPath.{shown_more}
use Rattle.acpi_conditions.proofs.KeptSlots.{found_at}
use Rattle.acpi_conditions.proofs.by_path.NumberedVisitorUsize.visit.Goals as goal

pub returns-in-Some : goal.returns-in-Some
returns-in-Some c first pairs so =
    let number = c.args.number.now in
    let before = c.args.self.now.order.items in
    let slot = c.in-Some.slot.now in
    let lookup = c.in-Some.ensures.lookup in
    let there = sym (found_at c.args.self.now.slots.now number slot lookup.3.0 lookup.1) ∙ ap (λ xs. slice_get xs number) so.0 in
    on_ok_weaker c.put_sights.result
    (λ put. (
      so.0,
      shown_more first.slots.now pairs c.args._path.now number first.order.items before c.put_sights.new.order.items so.1
          (put ∙ ap (λ xs. map lent_pair before ++ map (λ x. (slot.path, x.number)) xs) c.deref.ensures.value ∙ ap (λ o. map lent_pair before ++ pairs_in o) there),
    ))
    c.put_sights.ensures

pub returns-in-None : goal.returns-in-None
returns-in-None c first pairs so =
    let number = c.args.number.now in
    let before = c.args.self.now.order.items in
    let there = sym (slice_get_past c.args.self.now.slots.now number c.in-None.ensures.lookup.3) ∙ ap (λ xs. slice_get xs number) so.0 in (
      so.0,
      shown_more first.slots.now pairs c.args._path.now number first.order.items before before so.1
          (sym (append-nil (map lent_pair before)) ∙ ap (λ o. map lent_pair before ++ pairs_in o) there),
    )
