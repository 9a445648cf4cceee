-- The elements of a field list: what is read stands for the bytes, and what stands for them is read.
use Rattle.std.proofs.Common.{◌≡◌, ℕ, zero, suc, ◌-◌, ◌+◌, ◌≤◌, ◌<◌, List, [], ◌∷◌, ◌++◌, length, Ok, Err, refl, ap, ◌∙◌, arith}
use Rattle.std.proofs.lemmas.List.{length-append}
use Rattle.acpi_tree.specs.Tree.{FieldTree}
use Rattle.acpi_code.specs.declared.fault.ConstantFault.{ConstantFault}
use Rattle.acpi_code.specs.Fields.{SpellsField}
use Rattle.acpi_code.specs.Faults.{FailsField}
use Rattle.acpi_code.specs.steps.Reading.{Reading}
use Rattle.acpi_code.specs.steps.Fields.{field_at}
use Rattle.acpi_code.proofs.Fields.{field_complete, field_long}
use Rattle.acpi_code.proofs.ExactFields.{exact_field}
use Rattle.acpi_code.proofs.Readings.{Judge, Front}
use Rattle.acpi_outline.specs.declared.fault.LostFault.{LostFault}
use Rattle.acpi_outline.specs.Nodes.{FieldNodes, no_more_fields, fields_lost, field_node}
use Rattle.acpi_outline.specs.Outline.{bits_behind, AreFields}
use Rattle.acpi_outline.specs.Tiling.{TilesFields}
use Rattle.acpi_outline.specs.Faults.{element_fault}
use Rattle.acpi_outline.specs.steps.Reading.{then_fields, fields_with, fields_at}

-- ---- what is read stands for the bytes

fields_with_are : (end n offset : ℕ) (bytes : List ℕ) → length bytes ≤ n → AreFields end offset (fields_with n end offset bytes) bytes
unfolding fields_with
fields_with_are end zero offset [] le = refl
fields_with_are end zero offset (b ∷ rest) le = absurd (omega arith)
fields_with_are end (suc n) offset [] le = refl
fields_with_are end (suc n) offset (b ∷ rest) le = by_read (field_at end (b ∷ rest)) (exact_field.judged end (b ∷ rest)) (λ offset bytes. fields_with_are end n offset bytes)
  where
    by_read : (q : Reading ConstantFault FieldTree) → Judge (Front SpellsField (b ∷ rest)) (FailsField end (b ∷ rest)) q
        → ((offset : ℕ) (bytes : List ℕ) → length bytes ≤ n → AreFields end offset (fields_with n end offset bytes) bytes)
        → AreFields end offset (then_fields (end - length (b ∷ rest)) offset q (λ x. fields_with n end (bits_behind offset x.0) x.1)) (b ∷ rest)
    by_read (Ok x) t go_on =
        let sizes : suc (length rest) ≡ length t.front + length x.1 = ap length t.whole ∙ length-append t.front x.1 in
        (t.front, x.1, refl, refl, t.spells, go_on (bits_behind offset x.0) x.1 (omega (arith, field_long x.0 t.front t.spells)), t.whole)
    by_read (Err f) bad go_on = (refl, omega arith, (f, bad, refl))

pub fields_are : (end : ℕ) (bytes : List ℕ) → AreFields end 0 (fields_at end bytes) bytes
fields_are end bytes = fields_with_are end (length bytes) 0 bytes (omega arith)

-- ---- turns

pub no_fields_left : (n end offset : ℕ) → fields_with n end offset [] ≡ no_more_fields
unfolding fields_with
no_fields_left zero end offset = refl
no_fields_left (suc n) end offset = refl

pub field_turn : (n end offset : ℕ) (bytes : List ℕ) (q : Reading ConstantFault FieldTree) → 0 < length bytes → length bytes ≤ n → field_at end bytes ≡ q
    → fields_with n end offset bytes ≡ then_fields (end - length bytes) offset q (λ x. fields_with (n - 1) end (bits_behind offset x.0) x.1)
unfolding fields_with
field_turn n end offset [] q some le e = absurd (omega arith)
field_turn zero end offset (b ∷ rest) q some le e = absurd (omega arith)
field_turn (suc n) end offset (b ∷ rest) q some le e = let less : suc n - 1 ≡ n = omega arith in rw (e, less) refl

-- ---- what stands for the bytes is read

abbrev found_field : FieldTree × List ℕ → Reading ConstantFault FieldTree
found_field x = Ok x

same_fields : (place place2 at offset : ℕ) (e : FieldTree) (es fs all : FieldNodes) → all ≡ field_node place2 offset e fs → place ≡ place2 → at ≡ offset → es ≡ fs → field_node place at e es ≡ all
same_fields place place2 at offset e es fs all is there starts behind = rw (is, there, starts, behind) refl

same_lost : (place place2 : ℕ) (why : LostFault) (f : ConstantFault) (all : FieldNodes) → all ≡ fields_lost place2 (element_fault f) → place ≡ place2 → why ≡ element_fault f → fields_lost place why ≡ all
same_lost place place2 why f all is there told = rw (is, there, told) refl

pub fields_again : (es : FieldNodes) (end offset : ℕ) (bytes : List ℕ) → AreFields end offset es bytes → (n : ℕ) → length bytes ≤ n → es ≡ fields_with n end offset bytes
fields_again no_more_fields end offset bytes h n le = rw (h, no_fields_left n end offset) refl
fields_again (fields_lost place why) end offset bytes (at, some, (f, bad, told)) n le =
    same_lost place (end - length bytes) why f _ (field_turn n end offset bytes (Err f) some le (exact_field.stops end bytes f bad)) at told
fields_again (field_node place o e es) end offset bytes (a, b, at, starts, spells, are, whole) n le =
    let sizes : length bytes ≡ length a + length b = ap length whole ∙ length-append a b in
    let some = field_long e a spells in
    let read : field_at end bytes ≡ found_field (e, b) = ap (field_at end) whole ∙ field_complete end e a b spells in
    let step = field_turn n end offset bytes (Ok (e, b)) (omega arith) le read in
    same_fields place (end - length bytes) o offset e es _ _ step at starts (fields_again es end (bits_behind offset e) b are (n - 1) (omega arith))

pub fields_tile : (es : FieldNodes) (end offset : ℕ) (bytes : List ℕ) → length bytes ≤ end → AreFields end offset es bytes → TilesFields (end - length bytes) end es
fields_tile no_more_fields end offset bytes fits h = let none : length bytes ≡ 0 = ap length h in omega arith
fields_tile (fields_lost place why) end offset bytes fits h = (h.0, omega (arith, h.1))
fields_tile (field_node place o e es) end offset bytes fits (a, b, at, starts, spells, are, whole) =
    let sizes : length bytes ≡ length a + length b = ap length whole ∙ length-append a b in
    let some = field_long e a spells in
    (end - length b, at, omega arith, omega arith, fields_tile es end (bits_behind offset e) b (omega arith) are)
