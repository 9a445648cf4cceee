-- What a reader that gives a reading ensures: the laws of readings, of its answer.
use Rattle.std.proofs.Common.{◌≡◌, ℕ, ◌≤◌, ◌<◌, true, List, ◌++◌, length, Result, Ok, Err, ap, sym, subst, ◌∙◌}
use Rattle.std.specs.Prelude.{IfOk, IfErr}
use Rattle.acpi_terms.specs.declared.fault.ItemReason.{ItemReason}
use Rattle.acpi_terms.specs.declared.fault.ItemFault.{ItemFault}
use Rattle.acpi_terms.specs.declared.fault.ItemFault.TheVariants as errors
use Rattle.acpi_tree.specs.Tree.{ItemTrees}
use Rattle.acpi_code.proofs.Readings.{Judge}
use Rattle.acpi_terms.proofs.Fitting.{items_are_fit}
use Rattle.acpi_code.proofs.Fitting.{AreBytes}
use Rattle.acpi_terms.proofs.Items.{code_complete, code_judged}
use Rattle.acpi_terms.proofs.Refusals.{next_told}
use Rattle.acpi_terms.proofs.ShortOffsets.{offsets_fit}
use Rattle.acpi_terms.specs.Faults.{FailsItems, IsTrueFault, Refused, IsToldAt, OrMemory}
use Rattle.acpi_terms.specs.Spelling.{SpellsItems, items_height}
use Rattle.acpi_terms.specs.steps.Cursor.{Gives}
use Rattle.acpi_terms.specs.steps.Reading.{Fault, items_at}
use Rattle.acpi_tree.specs.Fits.{items_fit}
use Rattle.acpi_tree.specs.Offsets.{OffsetsFit}

abbrev pub Judged : ℕ → List ℕ → Result ItemTrees Fault → Type 0
Judged depth code = Judge (λ is. SpellsItems is code × (items_height is ≤ depth)) (FailsItems depth (length code) code)

judged_as : (depth : ℕ) (code : List ℕ) (r : Result ItemTrees Fault) → items_at depth code ≡ r → Judged depth code r
judged_as depth code r e = subst (Judged depth code) e (code_judged depth code)

pub found_law : {V : Type 0} (view : V → ItemTrees) (depth : ℕ) (code : List ℕ) (result : Result V ItemFault) → Gives view result (items_at depth code)
    → IfOk result (λ v. SpellsItems (view v) code × (items_height (view v) ≤ depth))
found_law view depth code (Ok v) h = judged_as depth code (Ok (view v)) h
found_law view depth code (Err e) h = tt

read_so : {V : Type 0} (view : V → ItemTrees) (result : Result V ItemFault) (is : ItemTrees) → Gives view result (Ok is) → OrMemory result (λ v. view v ≡ is)
read_so view (Ok v) is h = cc
read_so view (Err errors.Memory) is h = tt
read_so view (Err (errors.At why place)) is h = absurd cc

pub only_law : {V : Type 0} (view : V → ItemTrees) (depth : ℕ) (code : List ℕ) (result : Result V ItemFault) → Gives view result (items_at depth code)
    → (is : ItemTrees) → SpellsItems is code → items_height is ≤ depth → OrMemory result (λ v. view v ≡ is)
only_law view depth code result h is s le = read_so view result is (subst (Gives view result) (code_complete is depth code s le) h)

pub faults_law : {V : Type 0} (view : V → ItemTrees) (depth : ℕ) (code : List ℕ) (result : Result V ItemFault) → Gives view result (items_at depth code) → IfErr result (λ e. IsTrueFault depth code e)
faults_law view depth code (Ok v) h = tt
faults_law view depth code (Err errors.Memory) h = tt
faults_law view depth code (Err (errors.At reason place)) h = judged_as depth code (Err (record { reason = reason; place = place })) h

abbrev stop : Fault → Result ItemTrees Fault
stop f = Err f

fault_is : (f g : Fault) → stop f ≡ stop g → f ≡ g
fault_is f g e = cc

refused_so : {V : Type 0} (view : V → ItemTrees) (result : Result V ItemFault) (why : ItemReason) (place : ℕ)
    → Gives view result (Err (record { reason = why; place = place })) → IsToldAt result why place
refused_so view (Ok v) why place h = absurd cc
refused_so view (Err errors.Memory) why place h = tt
refused_so view (Err (errors.At r p)) why place h =
    let same = fault_is (record { reason = why; place = place }) (record { reason = r; place = p }) h in
    (sym (ap (λ (f : Fault). f.reason) same), sym (ap (λ (f : Fault). f.place) same))

pub next_law : {V : Type 0} (view : V → ItemTrees) (depth : ℕ) (code : List ℕ) (result : Result V ItemFault) → 0 < depth → Gives view result (items_at depth code)
    → (u w : List ℕ) (is : ItemTrees) (why : ItemReason) → code ≡ u ++ w → SpellsItems is u → items_height is ≤ depth → Refused why w 0 → IsToldAt result why (length u)
next_law view depth code result some h u w is why whole s le refused =
    let e : items_at depth code ≡ Err (record { reason = why; place = length u }) = ap (items_at depth) whole ∙ next_told depth u w is why some s le refused in
    refused_so view result why (length u) (subst (Gives view result) e h)

pub fits_law : {V : Type 0} (view : V → ItemTrees) (depth : ℕ) (code : List ℕ) (result : Result V ItemFault) → AreBytes code → Gives view result (items_at depth code)
    → IfOk result (λ v. items_fit (view v) ≡ true)
fits_law view depth code (Ok v) bytes h = items_are_fit (view v) code (judged_as depth code (Ok (view v)) h).0 bytes
fits_law view depth code (Err e) bytes h = tt

pub offsets_law : {V : Type 0} (view : V → ItemTrees) (depth : ℕ) (code : List ℕ) (result : Result V ItemFault) → AreBytes code → Gives view result (items_at depth code)
    → length code ≤ 16777216 → IfOk result (λ v. OffsetsFit (view v))
offsets_law view depth code (Ok v) bytes h le = offsets_fit (view v) code (judged_as depth code (Ok (view v)) h).0 bytes le
offsets_law view depth code (Err e) bytes h le = tt

-- the same of an equal limit and equal code
pub gives_as : {V : Type 0} (view : V → ItemTrees) (d e : ℕ) (code bytes : List ℕ) (result : Result V ItemFault) → d ≡ e → code ≡ bytes
    → Gives view result (items_at d code) → Gives view result (items_at e bytes)
gives_as view d e code bytes result limit same h = subst (λ s. Gives view result (items_at e s)) same (subst (λ n. Gives view result (items_at n code)) limit h)
