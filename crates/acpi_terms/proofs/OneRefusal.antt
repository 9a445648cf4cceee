-- Of a code at most one reason at one place is true.
use Rattle.std.proofs.Common.{◌≡◌, ◌≤◌, ℕ, suc, List, [], ◌∷◌, length, Result, Ok, Err, refl, sym, ap, subst, ◌∙◌}
use Rattle.acpi_name.specs.Reading.{segment_at, segments_at, path_at, relative_at, name_at}
use Rattle.acpi_tree.specs.Tree.{ItemTrees}
use Rattle.acpi_code.proofs.Readings.{Judge}
use Rattle.acpi_code.specs.steps.Reading.{each_with, byte_at, name_in, opcode_at}
use Rattle.acpi_terms.specs.declared.fault.ItemReason.{ItemReason}
use Rattle.acpi_terms.specs.declared.fault.ItemReason.TheVariants.{NotData}
use Rattle.acpi_terms.specs.Faults.{reason_at, FailsItems, ShowsItems}
use Rattle.acpi_terms.specs.Laws.{OneRefusal, SpelledOrRefused, AliasIsNoData}
use Rattle.acpi_terms.specs.Spelling.{SpellsItems, items_height}
use Rattle.acpi_terms.specs.steps.Reading.{Fault, data_at, item_at, items_at}
use Rattle.acpi_terms.proofs.Items.{ItemsWithin, code_complete, code_judged, code_stops}

abbrev done : ItemTrees → Result ItemTrees Fault
done is = Ok is

abbrev stop : Fault → Result ItemTrees Fault
stop f = Err f

fault_is : (f g : Fault) → stop f ≡ stop g → f ≡ g
fault_is f g e = cc

never : (is : ItemTrees) (f : Fault) → done is ≡ stop f → ⊥
never is f e = cc

both : (why other : ItemReason) (place there : ℕ) → reason_at why place ≡ reason_at other there → (why ≡ other) × (place ≡ there)
both why other place there e = (ap (λ (f : Fault). f.reason) e, ap (λ (f : Fault). f.place) e)

pub one_refusal : OneRefusal
one_refusal depth code why other place there h k =
    both why other place there (fault_is (reason_at why place) (reason_at other there) (sym (code_stops depth code (reason_at why place) h) ∙ code_stops depth code (reason_at other there) k))

pub spelled_or_refused : SpelledOrRefused
spelled_or_refused depth code = (
  λ w is s le. never is (reason_at w.0 w.1) (sym (code_complete is depth code s le) ∙ code_stops depth code (reason_at w.0 w.1) w.2),
  λ none. by_reading none (items_at depth code) (code_judged depth code),
)
  where
    by_reading : ((is : ItemTrees) → SpellsItems is code → items_height is ≤ depth → ⊥) → (r : Result ItemTrees Fault) → Judge (λ is. ItemsWithin depth is code) (FailsItems depth (length code) code) r
        → (why : ItemReason) × (place : ℕ) × ShowsItems depth code why place
    by_reading none (Ok is) h = absurd (none is h.0 h.1)
    by_reading none (Err f) h = (f.reason, f.place, h)

abbrev alias_name : List ℕ
alias_name = 0x08 ∷ 0x5F ∷ 0x50 ∷ 0x52 ∷ 0x5F ∷ 0x06 ∷ []

alias_stops : (levels : ℕ) → items_at (suc (suc levels)) alias_name ≡ stop (reason_at NotData 5)
unfolding each_with byte_at name_in opcode_at data_at item_at segment_at segments_at path_at relative_at name_at
alias_stops levels = refl

pub alias_is_no_data : AliasIsNoData
alias_is_no_data levels why place = (
  λ h. both why NotData place 5 (fault_is (reason_at why place) (reason_at NotData 5) (sym (code_stops (suc (suc levels)) alias_name (reason_at why place) h) ∙ alias_stops levels)),
  λ e. shown (reason_at why place) (rw (e.0, e.1) refl),
)
  where
    shown : (f : Fault) → f ≡ reason_at NotData 5 → FailsItems (suc (suc levels)) 6 alias_name f
    shown f e = subst (FailsItems (suc (suc levels)) 6 alias_name) (sym e)
        (subst (Judge (λ is. ItemsWithin (suc (suc levels)) is alias_name) (FailsItems (suc (suc levels)) 6 alias_name)) (alias_stops levels) (code_judged (suc (suc levels)) alias_name))
