-- Why code can't be read, from what its reader promises.
use Rattle.std.proofs.Common.{◌≡◌, ℕ, List, ◌++◌, ◌≤◌, length, Result, Err, subst}
use Rattle.acpi_tree.specs.Tree.{ItemTrees}
use Rattle.acpi_terms.specs.declared.fault.ItemReason.{ItemReason}
use Rattle.acpi_terms.specs.declared.fault.ItemFault.{ItemFault}
use Rattle.acpi_terms.specs.declared.fault.ItemFault.TheVariants.{At}
use Rattle.acpi_terms.specs.Spelling.{SpellsItems, items_height}
use Rattle.acpi_terms.specs.Faults.{IsTrueFault, Refused, OrMemory, IsToldAt}
use Rattle.acpi_declare.specs.Refusals.{IsCodeFault}

abbrev pub failed : {X : Type 0} → ItemFault → Result X ItemFault
failed f = Err f

pub code_fault : {X : Type 0} (Is : ItemTrees → X → Type 0) (depth : ℕ) (code : List ℕ) (reason : ItemReason) (place : ℕ) (f : ItemFault) → f ≡ At reason place
    → ((is : ItemTrees) → SpellsItems is code → items_height is ≤ depth → OrMemory (failed {X = X} f) (Is is))
    → IsTrueFault depth code f
    → ((u w : List ℕ) (is : ItemTrees) (why : ItemReason) → code ≡ u ++ w → SpellsItems is u → items_height is ≤ depth → Refused why w 0
    → IsToldAt (failed {X = X} f) why (length u))
    → IsCodeFault depth code reason place
code_fault {X = X} Is depth code reason place f e only told next = record {
  none = λ is h k. subst (λ x. OrMemory (failed {X = X} x) (Is is)) e (only is h k);
  shown = subst (IsTrueFault depth code) e told;
  next = λ u w is why splits h k r. subst (λ x. IsToldAt (failed {X = X} x) why (length u)) e (next u w is why splits h k r);
}
