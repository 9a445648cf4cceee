use Rattle.std.proofs.Common.{◌∙◌, ◌++◌, [], ℕ, List, map, refl, sym, ap, append-nil}
use Rattle.std.specs.FinMap.{entries}
use Rattle.std.specs.List.{flat_map}
use Rattle.acpi_conditions.specs.ByPath.{lent_pair}
use Rattle.acpi_conditions.specs.Entries.{Path}
use Rattle.acpi_conditions.specs.declared.by_path.Numbered.{Numbered}
use Rattle.acpi_conditions.specs.declared.slots.Slot.{Slot}
use Rattle.acpi_conditions.specs.steps.SlotPairs.{slot_pairs}
use Rattle.acpi_conditions.proofs.slots.Slots.numbered.Goals as goal

pub returns : goal.returns
returns c =
    let first : Numbered = record { slots = c.deref.result; order = c.new.result } in
    let told = entries c.args.self.now.numbers in
    let shown = c.in_ok-visit_pairs.ensures first [] (refl, sym (append-nil (map lent_pair c.new.result.items))) in
    shown.1
    ∙ ap (λ xs. map lent_pair xs ++ flat_map (λ (x : Path × ℕ). slot_pairs c.deref.result.now x.1) told) c.new.ensures.items
    ∙ ap (λ (slots : List Slot). flat_map (λ (x : Path × ℕ). slot_pairs slots x.1) told) c.deref.ensures.value
