-- What the readers of one part at the front of some bytes ensure.
use Rattle.std.proofs.Common.{◌≡◌, ℕ, ◌-◌, ◌≤◌, ◌<◌, List, ◌++◌, length, take, drop, Option, Some, None, Result, Ok, Err, refl, sym, ap, subst, ◌∙◌, arith}
use Rattle.std.proofs.lemmas.List.{length-append, length-drop}
use Rattle.std.proofs.Math.Seq.{take-append_seam, drop-append_seam}
use Rattle.std.specs.Prelude.{IfOk, IfErr, IfSome, option_map}
use Rattle.acpi_terms.specs.declared.fault.ItemFault.{ItemFault}
use Rattle.acpi_terms.specs.declared.fault.ItemFault.TheVariants as errors
use Rattle.acpi_tree.specs.declared.tree.Int.{Int}
use Rattle.acpi_tree.specs.Tree.{FieldTree}
use Rattle.acpi_code.specs.Spelling.{SpellsInt}
use Rattle.acpi_code.specs.Fields.{SpellsField}
use Rattle.acpi_code.specs.Faults.{FailsAs, FailsInt, FailsField}
use Rattle.acpi_code.specs.steps.Fields as codes
use Rattle.acpi_code.specs.steps.Reading.{with_fault}
use Rattle.acpi_code.proofs.Readings.{Judge, Front}
use Rattle.acpi_terms.specs.Faults.{OrMemory, IsTrueElementFault}
use Rattle.acpi_terms.specs.steps.Cursor.{Gives}
use Rattle.acpi_terms.specs.steps.Reading.{Fault, constant_fault, found, const_at, field_at, int_front}
use Rattle.acpi_terms.proofs.Constants.{const_complete, exact_const}
use Rattle.acpi_terms.proofs.Fields.{field_complete, exact_field}

-- what stands before the last bytes of a list
front_is : (bytes front : List ℕ) (used : ℕ) → used ≤ length bytes → bytes ≡ front ++ drop used bytes → front ≡ take used bytes
front_is bytes front used le whole =
    let size : length front ≡ used = omega (arith, ap length whole, length-append front (drop used bytes), length-drop used bytes, le) in
    sym (ap (take used) whole ∙ rw (sym size) (take-append_seam front (drop (length front) bytes)))

took_front : {A : Type 0} (Spells : A → List ℕ → Type 0) (bytes : List ℕ) (x : A) (used : ℕ) → used ≤ length bytes → Front Spells bytes (x, drop used bytes) → Spells x (take used bytes)
took_front Spells bytes x used le t = subst (Spells x) (front_is bytes t.front used le t.whole) t.spells

-- how many bytes were used
used_is : (bytes front rest : List ℕ) (used : ℕ) → used ≤ length bytes → bytes ≡ front ++ rest → drop used bytes ≡ rest → used ≡ length front
used_is bytes front rest used le whole back = omega (arith, ap length whole, length-append front rest, length-drop used bytes, ap length back, le)

-- what is behind the front
behind_is : (bytes front rest : List ℕ) → bytes ≡ front ++ rest → drop (length bytes - length rest) bytes ≡ rest
behind_is bytes front rest whole =
    let e : length bytes - length rest ≡ length front = omega (arith, ap length whole, length-append front rest) in
    rw e (ap (drop (length front)) whole ∙ drop-append_seam front rest)

-- ---- constants

abbrev IntFound : Type 0
IntFound = Int × List ℕ

abbrev some : {A : Type 0} → A → Option A
some x = Some x

abbrev nothing : {A : Type 0} → Option A
nothing = None

abbrev done : {A : Type 0} → A → Result A Fault
done x = Ok x

-- what was read is spelled at the front
int_read : (bytes : List ℕ) (x : IntFound) → const_at (length bytes) bytes ≡ Ok x → Front SpellsInt bytes x
int_read bytes x r = subst (Judge (Front SpellsInt bytes) (FailsAs constant_fault FailsInt (length bytes) bytes)) r (exact_const.judged (length bytes) bytes)

found_ok : (r : Result IntFound Fault) (x : IntFound) → some x ≡ found r → r ≡ Ok x
found_ok (Ok y) x e = let is : x ≡ y = cc in ap done (sym is)
found_ok (Err f) x e = absurd cc

pub int_found_law : (bytes : List ℕ) (result : Option (Int × ℕ)) → option_map (λ x. (x.0, drop x.1 bytes)) result ≡ int_front bytes
    → IfSome result (λ x. (0 < x.1) × (x.1 ≤ length bytes)) → IfSome result (λ x. SpellsInt x.0 (take x.1 bytes))
int_found_law bytes None e used = tt
int_found_law bytes (Some x) e used =
    let r : const_at (length bytes) bytes ≡ Ok (x.0, drop x.1 bytes) = found_ok (const_at (length bytes) bytes) (x.0, drop x.1 bytes) e in
    took_front SpellsInt bytes x.0 x.1 used.1 (int_read bytes (x.0, drop x.1 bytes) r)

pub int_only_law : (bytes : List ℕ) (result : Option (Int × ℕ)) → option_map (λ x. (x.0, drop x.1 bytes)) result ≡ int_front bytes
    → IfSome result (λ x. (0 < x.1) × (x.1 ≤ length bytes)) → (i : Int) (front rest : List ℕ) → SpellsInt i front → bytes ≡ front ++ rest → result ≡ Some (i, length front)
int_only_law bytes result e used i front rest s whole = by_result result e used
  where
    front_of : int_front bytes ≡ some (i, rest)
    front_of =
        let r : const_at (length bytes) bytes ≡ Ok (i, rest) = ap (const_at (length bytes)) whole ∙ const_complete i (length bytes) front rest s in
        rw r refl

    by_result : (result : Option (Int × ℕ)) → option_map (λ x. (x.0, drop x.1 bytes)) result ≡ int_front bytes → IfSome result (λ x. (0 < x.1) × (x.1 ≤ length bytes)) → result ≡ some (i, length front)
    by_result None e used = let no : nothing {A = IntFound} ≡ some (i, rest) = e ∙ front_of in absurd cc
    by_result (Some x) e used =
        let same : some (x.0, drop x.1 bytes) ≡ some (i, rest) = e ∙ front_of in
        let pair : (x.0, drop x.1 bytes) ≡ (i, rest) = cc in
        let int : x.0 ≡ i = ap (λ (y : Int × List ℕ). y.0) pair in
        let size : x.1 ≡ length front = used_is bytes front rest x.1 used.1 whole (ap (λ (y : Int × List ℕ). y.1) pair) in
        λ k. Some (int k, size k)

-- ---- field elements

abbrev FirstFails : List ℕ → Fault → Type 0
FirstFails bytes = FailsAs constant_fault FailsField (length bytes) bytes

elem_read : (bytes : List ℕ) (r : Result (FieldTree × List ℕ) Fault) → field_at (length bytes) bytes ≡ r → Judge (Front SpellsField bytes) (FirstFails bytes) r
elem_read bytes r e = subst (Judge (Front SpellsField bytes) (FirstFails bytes)) e (exact_field.judged (length bytes) bytes)

pub elem_found_law : {V : Type 0} (view : V → FieldTree) (bytes : List ℕ) (result : Result (V × ℕ) ItemFault) → Gives (λ x. (view x.0, drop x.1 bytes)) result (field_at (length bytes) bytes)
    → IfOk result (λ x. (0 < x.1) × (x.1 ≤ length bytes)) → IfOk result (λ x. SpellsField (view x.0) (take x.1 bytes))
elem_found_law view bytes (Ok x) h used = took_front SpellsField bytes (view x.0) x.1 used.1 (elem_read bytes (Ok (view x.0, drop x.1 bytes)) h)
elem_found_law view bytes (Err e) h used = tt

pub elem_only_law : {V : Type 0} (view : V → FieldTree) (bytes : List ℕ) (result : Result (V × ℕ) ItemFault) → Gives (λ x. (view x.0, drop x.1 bytes)) result (field_at (length bytes) bytes)
    → IfOk result (λ x. (0 < x.1) × (x.1 ≤ length bytes)) → (e : FieldTree) (front rest : List ℕ) → SpellsField e front → bytes ≡ front ++ rest
    → OrMemory result (λ x. (view x.0 ≡ e) × (x.1 ≡ length front))
elem_only_law view bytes (Ok x) h used e front rest s whole =
    let r : field_at (length bytes) bytes ≡ done (e, rest) = ap (field_at (length bytes)) whole ∙ field_complete e (length bytes) front rest s in
    let same : done (e, rest) ≡ done (view x.0, drop x.1 bytes) = sym r ∙ h in
    let pair : (e, rest) ≡ (view x.0, drop x.1 bytes) = cc in
    (sym (ap (λ (y : FieldTree × List ℕ). y.0) pair), used_is bytes front rest x.1 used.1 whole (sym (ap (λ (y : FieldTree × List ℕ). y.1) pair)))
elem_only_law view bytes (Err errors.Memory) h used e front rest s whole = tt
elem_only_law view bytes (Err (errors.At why place)) h used e front rest s whole =
    let r : field_at (length bytes) bytes ≡ done (e, rest) = ap (field_at (length bytes)) whole ∙ field_complete e (length bytes) front rest s in
    let no : done (e, rest) ≡ Err (record { reason = why; place = place }) = sym r ∙ h in
    cc

pub elem_faults_law : {V : Type 0} (view : V → FieldTree) (bytes : List ℕ) (result : Result (V × ℕ) ItemFault)
    → Gives (λ x. (view x.0, drop x.1 bytes)) result (field_at (length bytes) bytes) → IfErr result (λ e. IsTrueElementFault bytes e)
elem_faults_law view bytes (Ok x) h = tt
elem_faults_law view bytes (Err errors.Memory) h = tt
elem_faults_law view bytes (Err (errors.At why place)) h = elem_read bytes (Err (record { reason = why; place = place })) h

-- ---- by what is left behind them

pub int_exact : (bytes rest : List ℕ) (i : Int) → const_at (length bytes) bytes ≡ Ok (i, rest) → some (i, drop (length bytes - length rest) bytes) ≡ int_front bytes
int_exact bytes rest i h =
    let j = int_read bytes (i, rest) h in
    rw (h, behind_is bytes j.front rest j.whole) refl

pub elem_exact : (bytes rest : List ℕ) (x : FieldTree) → codes.field_at (length bytes) bytes ≡ Ok (x, rest) → field_at (length bytes) bytes ≡ Ok (x, drop (length bytes - length rest) bytes)
elem_exact bytes rest x h =
    let read : field_at (length bytes) bytes ≡ done (x, rest) = ap (with_fault constant_fault) h in
    let j : Front SpellsField bytes (x, rest) = elem_read bytes (Ok (x, rest)) read in
    rw (h, behind_is bytes j.front rest j.whole) refl
