-- The readings of field elements find exactly what is spelled, and stop exactly where it fails.
use Rattle.std.proofs.Common.{◌≡◌, ℕ, zero, suc, ◌<◌, true, false, eqb, List, [], ◌∷◌, ◌++◌, length, slice_index, Result, Ok, Err, refl, sym, ap, subst, ◌∙◌, append_assoc, arith, inl, inr}
use Rattle.std.proofs.lemmas.Bool.{eqb-true, eqb-false}
use Rattle.acpi_name.specs.Names.{NameParts}
use Rattle.acpi_name.specs.Spelling.{SpellsName}
use Rattle.acpi_name.specs.Reading.{segment_at, name_at}
use Rattle.acpi_name.specs.declared.reading.NameFault.{NameFault}
use Rattle.acpi_name.specs.declared.reading.NameFault.TheVariants as names
use Rattle.acpi_name.proofs.NameAgain.{neq}
use Rattle.acpi_name.proofs.NameFaults.{name_cut}
use Rattle.acpi_table.specs.PkgLength.{SpellsPkgLength}
use Rattle.acpi_tree.specs.Tree.{FieldTree, unit, reserved, connect_name, connect_buffer}
use Rattle.acpi_code.specs.declared.fault.CodeReason.TheVariants.{Cut}
use Rattle.acpi_code.specs.declared.fault.CodeFault.{CodeFault}
use Rattle.acpi_code.specs.declared.fault.ConstantFault.{ConstantFault}
use Rattle.acpi_code.specs.declared.fault.ConstantFault.TheVariants.{Part}
use Rattle.acpi_code.specs.declared.opcode.Opcode.TheVariants as opcodes
use Rattle.acpi_code.specs.Opcodes.{BeginsWith}
use Rattle.acpi_code.specs.Spelling.{SpellsInt, SpellsSegment, Packs}
use Rattle.acpi_code.specs.Fields.{SpellsField, SpellsFields}
use Rattle.acpi_code.specs.Faults.{FailsAs, FailsBehind, FailsPkgLength, FailsPackage, FailsNumber, FailsSegment, FailsName, FailsInt, FailsUnit, FailsConnect, BeginsUnit, FailsField, FailsFields}
use Rattle.acpi_code.specs.steps.Reading.{fault_at, byte_at, length_in, name_in, segment_in}
use Rattle.acpi_code.specs.steps.Fields.{part, int_in, connect_buffer_at, connect_name_at, connect_at, unit_at, reserved_at, access_at, extended_at, field_at, fields_in}
use Rattle.acpi_code.proofs.Readings.{Judge, judge_bind, judge_into, judge_if, Front}
use Rattle.acpi_code.proofs.Lists.{fails_on}
use Rattle.acpi_code.proofs.Fields.{field_complete, field_long}
use Rattle.acpi_code.proofs.Exact.{Exact, ExactAll, as_judged, as_stops, exact_as, made_judged, behind_judged, turn_judged, turn_stops, exact_each, exact_length, package_judged, package_stops}
use Rattle.acpi_code.proofs.ExactParts.{exact_name, exact_segment, exact_int}

abbrev into : CodeFault → ConstantFault
into f = Part f

abbrev unread : Result (NameParts × List ℕ) NameFault
unread = Err names.Cut

-- ---- what was read is spelled, or it fails so

unit_judged : (end : ℕ) (bytes : List ℕ) → Judge (Front SpellsField bytes) (FailsUnit end bytes) (unit_at end bytes)
unfolding unit_at
unit_judged end bytes =
    turn_judged SpellsSegment (FailsAs into FailsSegment) (λ g. FailsAs into FailsPkgLength) (λ end bytes. part (segment_in end bytes)) (Front SpellsField bytes) end bytes _
    (exact_as SpellsSegment FailsSegment segment_in into exact_segment) (λ g t.
    judge_bind (Front SpellsPkgLength g.1) (Front SpellsField bytes) (FailsAs into FailsPkgLength end g.1) (part (length_in end g.1)) _
    (as_judged (Front SpellsPkgLength g.1) FailsPkgLength into end g.1 (length_in end g.1) (exact_length.judged end g.1)) (λ n u.
    record {
      front = t.front ++ u.front;
      spells = (t.front, u.front, t.spells, u.spells, refl);
      whole = t.whole ∙ ap (λ (l : List ℕ). t.front ++ l) u.whole ∙ sym (append_assoc t.front u.front n.1);
    }))

reserved_judged : (end : ℕ) (bytes rest : List ℕ) → bytes ≡ 0x00 ∷ rest → Judge (Front SpellsField bytes) (FailsBehind (0x00 ∷ []) (FailsAs into FailsPkgLength) end bytes) (reserved_at end rest)
unfolding reserved_at
reserved_judged end bytes rest is =
    behind_judged (λ e a. SpellsField e (0x00 ∷ a)) SpellsField (FailsAs into FailsPkgLength) (0x00 ∷ []) end bytes rest (reserved_at end rest) is (λ e a k. k)
    (made_judged SpellsPkgLength (λ e a. SpellsField e (0x00 ∷ a)) (FailsAs into FailsPkgLength end rest) (λ n. reserved n) rest (part (length_in end rest)) (λ n a k. (a, k, refl))
    (as_judged (Front SpellsPkgLength rest) FailsPkgLength into end rest (length_in end rest) (exact_length.judged end rest)))

-- so many bytes
short : (n end : ℕ) (bytes : List ℕ) → length bytes < n → FailsAs into (FailsNumber n) end bytes (Part (fault_at end [] Cut))
short n end bytes h = (fault_at end [] Cut, (h, refl), refl)

access_judged : (end : ℕ) (bytes rest : List ℕ) → bytes ≡ 0x01 ∷ rest → Judge (Front SpellsField bytes) (FailsBehind (0x01 ∷ []) (FailsAs into (FailsNumber 2)) end bytes) (access_at end rest)
unfolding access_at byte_at
access_judged end bytes [] is = ([], is, short 2 end [] (omega arith))
access_judged end bytes (k ∷ []) is = (k ∷ [], is, short 2 end (k ∷ []) (omega arith))
access_judged end bytes (k ∷ a ∷ rest) is = record { front = 0x01 ∷ k ∷ a ∷ []; spells = refl; whole = is }

extended_judged : (end : ℕ) (bytes rest : List ℕ) → bytes ≡ 0x03 ∷ rest → Judge (Front SpellsField bytes) (FailsBehind (0x03 ∷ []) (FailsAs into (FailsNumber 3)) end bytes) (extended_at end rest)
unfolding extended_at byte_at
extended_judged end bytes [] is = ([], is, short 3 end [] (omega arith))
extended_judged end bytes (k ∷ []) is = (k ∷ [], is, short 3 end (k ∷ []) (omega arith))
extended_judged end bytes (k ∷ a ∷ []) is = (k ∷ a ∷ [], is, short 3 end (k ∷ a ∷ []) (omega arith))
extended_judged end bytes (k ∷ a ∷ n ∷ rest) is = record { front = 0x03 ∷ k ∷ a ∷ n ∷ []; spells = refl; whole = is }

-- behind 02
abbrev SpellsConnect : FieldTree → List ℕ → Type 0
SpellsConnect e bytes = SpellsField e (0x02 ∷ bytes)

buffer_judged : (end : ℕ) (bytes rest : List ℕ) → bytes ≡ 0x11 ∷ rest → Judge (Front SpellsConnect bytes) (FailsBehind (0x11 ∷ []) (FailsPackage into FailsInt) end bytes) (connect_buffer_at end rest)
unfolding connect_buffer_at
buffer_judged end bytes rest is =
    behind_judged (λ e a. SpellsConnect e (0x11 ∷ a)) SpellsConnect (FailsPackage into FailsInt) (0x11 ∷ []) end bytes rest (connect_buffer_at end rest) is (λ e a k. k)
    (package_judged into FailsInt (Front (λ e a. SpellsConnect e (0x11 ∷ a)) rest) end rest _ (λ p g.
    judge_bind (Front SpellsInt p.content) (Front (λ e a. SpellsConnect e (0x11 ∷ a)) rest) (FailsInt p.end p.content) (int_in p.end p.content) _ (exact_int.judged p.end p.content) (λ size v.
    let packs : Packs (0x02 ∷ 0x11 ∷ []) p.content (0x02 ∷ 0x11 ∷ (g.len ++ p.content)) = record { len = g.len; spells_len = g.spells_len; whole = refl } in
    record {
      front = g.len ++ p.content;
      spells = (v.front, v.spells, subst (λ content. Packs (0x02 ∷ 0x11 ∷ []) content (0x02 ∷ 0x11 ∷ (g.len ++ p.content))) v.whole packs);
      whole = g.whole ∙ sym (append_assoc g.len p.content p.rest);
    })))

connect_name_judged : (end : ℕ) (bytes : List ℕ) → Judge (Front SpellsConnect bytes) (FailsAs into FailsName end bytes) (connect_name_at end bytes)
unfolding connect_name_at
connect_name_judged end bytes =
    made_judged SpellsName SpellsConnect (FailsAs into FailsName end bytes) (λ n. connect_name n) bytes (part (name_in end bytes)) (λ n a k. (a, k, refl))
    (as_judged (Front SpellsName bytes) FailsName into end bytes (name_in end bytes) (exact_name.judged end bytes))

first_byte : (b c : ℕ) (rest more : List ℕ) → b ∷ rest ≡ c ∷ more → b ≡ c
first_byte b c rest more e = ap (λ (l : List ℕ). slice_index l 0) e

cut_empty : name_at [] ≡ unread
unfolding name_at
cut_empty = refl

connect_judged : (end : ℕ) (bytes : List ℕ) → Judge (Front SpellsConnect bytes) (FailsConnect end bytes) (connect_at end bytes)
unfolding connect_at byte_at
connect_judged end [] = inr (no_buffer, (fault_at end [] Cut, inl (name_cut [] cut_empty, refl), refl))
  where
    no_buffer : BeginsWith opcodes.Buffer [] → ⊥
    no_buffer h = let e : [] ≡ 0x11 ∷ h.0 = h.1 in absurd cc
connect_judged end (b ∷ rest) =
    let Good = Front SpellsConnect (b ∷ rest) in
    let Bad = FailsConnect end (b ∷ rest) in
    judge_if Good Bad (eqb b 0x11) _ _
    (λ yes. judge_into Good Good (FailsBehind (0x11 ∷ []) (FailsPackage into FailsInt) end (b ∷ rest)) Bad (connect_buffer_at end rest) (λ x t. t) (λ f h. inl h)
    (buffer_judged end (b ∷ rest) rest (ap (λ k. k ∷ rest) (eqb-true b 0x11 yes))))
    (λ no. judge_into Good Good (FailsAs into FailsName end (b ∷ rest)) Bad (connect_name_at end (b ∷ rest)) (λ x t. t)
    (λ f h. inr (λ k. eqb-false b 0x11 no (first_byte b 0x11 rest k.0 k.1), h)) (connect_name_judged end (b ∷ rest)))

unit_first : (b : ℕ) (rest : List ℕ) → eqb b 0x00 ≡ false → eqb b 0x01 ≡ false → eqb b 0x02 ≡ false → eqb b 0x03 ≡ false → BeginsUnit (b ∷ rest)
unit_first b rest z0 z1 z2 z3 c more is =
    let same = first_byte b c rest more is in
    let n0 : b ≡ 0x00 → ⊥ = eqb-false b 0x00 z0 in
    let n1 : b ≡ 0x01 → ⊥ = eqb-false b 0x01 z1 in
    let n2 : b ≡ 0x02 → ⊥ = eqb-false b 0x02 z2 in
    let n3 : b ≡ 0x03 → ⊥ = eqb-false b 0x03 z3 in
    rw (sym same) (above b n0 n1 n2 n3)
  where
    above : (b : ℕ) → (b ≡ 0x00 → ⊥) → (b ≡ 0x01 → ⊥) → (b ≡ 0x02 → ⊥) → (b ≡ 0x03 → ⊥) → 0x03 < b
    above zero n0 n1 n2 n3 = absurd (n0 refl)
    above (suc zero) n0 n1 n2 n3 = absurd (n1 refl)
    above (suc (suc zero)) n0 n1 n2 n3 = absurd (n2 refl)
    above (suc (suc (suc zero))) n0 n1 n2 n3 = absurd (n3 refl)
    above (suc (suc (suc (suc b)))) n0 n1 n2 n3 = omega arith

field_judged : (end : ℕ) (bytes : List ℕ) → Judge (Front SpellsField bytes) (FailsField end bytes) (field_at end bytes)
unfolding field_at byte_at
field_judged end [] = inr (inr (inr (inr (λ b rest e. absurd cc, inl (fault_at end [] Cut, inl (refl, omega arith, refl), refl)))))
field_judged end (b ∷ rest) =
    let bytes = b ∷ rest in
    let Good = Front SpellsField bytes in
    let Bad = FailsField end bytes in
    let behind : (n : ℕ) → eqb b n ≡ true → bytes ≡ n ∷ rest = λ n e. ap (λ k. k ∷ rest) (eqb-true b n e) in
    judge_if Good Bad (eqb b 0x00) _ _ (λ e. judge_into Good Good (FailsBehind (0x00 ∷ []) (FailsAs into FailsPkgLength) end bytes) Bad (reserved_at end rest) (λ x t. t) (λ f h. inl h) (reserved_judged end bytes rest (behind 0x00 e)))
    (λ z0. judge_if Good Bad (eqb b 0x01) _ _ (λ e. judge_into Good Good (FailsBehind (0x01 ∷ []) (FailsAs into (FailsNumber 2)) end bytes) Bad (access_at end rest) (λ x t. t) (λ f h. inr (inl h)) (access_judged end bytes rest (behind 0x01 e)))
    (λ z1. judge_if Good Bad (eqb b 0x02) _ _
    (λ e. judge_into Good Good (FailsBehind (0x02 ∷ []) FailsConnect end bytes) Bad (connect_at end rest) (λ x t. t) (λ f h. inr (inr (inl h)))
    (behind_judged SpellsConnect SpellsField FailsConnect (0x02 ∷ []) end bytes rest (connect_at end rest) (behind 0x02 e) (λ x a k. k) (connect_judged end rest)))
    (λ z2. judge_if Good Bad (eqb b 0x03) _ _ (λ e. judge_into Good Good (FailsBehind (0x03 ∷ []) (FailsAs into (FailsNumber 3)) end bytes) Bad (extended_at end rest) (λ x t. t) (λ f h. inr (inr (inr (inl h)))) (extended_judged end bytes rest (behind 0x03 e)))
    (λ z3. judge_into Good Good (FailsUnit end bytes) Bad (unit_at end bytes) (λ x t. t) (λ f h. inr (inr (inr (inr (unit_first b rest z0 z1 z2 z3, h))))) (unit_judged end bytes)))))

-- ---- where it fails the reading stops

unit_stops : (end : ℕ) (bytes : List ℕ) (f : ConstantFault) → FailsUnit end bytes f → unit_at end bytes ≡ Err f
unfolding unit_at
unit_stops end bytes f h =
    turn_stops SpellsSegment (FailsAs into FailsSegment) (λ g. FailsAs into FailsPkgLength) (λ end bytes. part (segment_in end bytes)) end bytes _ f
    (exact_as SpellsSegment FailsSegment segment_in into exact_segment)
    (λ g b k. fails_on f (part (length_in end b)) (λ n. Ok (unit g n.0, n.1)) (as_stops FailsPkgLength into end b (length_in end b) f (exact_length.stops end b) k)) h

reserved_stops : (end : ℕ) (rest : List ℕ) (f : ConstantFault) → FailsAs into FailsPkgLength end rest f → field_at end (0x00 ∷ rest) ≡ Err f
unfolding field_at byte_at reserved_at
reserved_stops end rest f h = fails_on f (part (length_in end rest)) (λ n. Ok (reserved n.0, n.1)) (as_stops FailsPkgLength into end rest (length_in end rest) f (exact_length.stops end rest) h)

access_stops : (end : ℕ) (rest : List ℕ) (f : ConstantFault) → FailsAs into (FailsNumber 2) end rest f → field_at end (0x01 ∷ rest) ≡ Err f
unfolding field_at byte_at access_at
access_stops end [] f h = ap Err (sym (h.2 ∙ ap into h.1.1))
access_stops end (k ∷ []) f h = ap Err (sym (h.2 ∙ ap into h.1.1))
access_stops end (k ∷ a ∷ rest) f h = let short : length (k ∷ a ∷ rest) < 2 = h.1.0 in absurd (omega (arith, short))

extended_stops : (end : ℕ) (rest : List ℕ) (f : ConstantFault) → FailsAs into (FailsNumber 3) end rest f → field_at end (0x03 ∷ rest) ≡ Err f
unfolding field_at byte_at extended_at
extended_stops end [] f h = ap Err (sym (h.2 ∙ ap into h.1.1))
extended_stops end (k ∷ []) f h = ap Err (sym (h.2 ∙ ap into h.1.1))
extended_stops end (k ∷ a ∷ []) f h = ap Err (sym (h.2 ∙ ap into h.1.1))
extended_stops end (k ∷ a ∷ n ∷ rest) f h = let short : length (k ∷ a ∷ n ∷ rest) < 3 = h.1.0 in absurd (omega (arith, short))

buffer_stops : (end : ℕ) (rest : List ℕ) (f : ConstantFault) → FailsPackage into FailsInt end rest f → connect_at end (0x11 ∷ rest) ≡ Err f
unfolding connect_at byte_at connect_buffer_at
buffer_stops end rest f h = package_stops into FailsInt end rest _ f (λ p k. fails_on f (int_in p.end p.content) (λ size. Ok (connect_buffer size.0 size.1, p.rest)) (exact_int.stops p.end p.content f k)) h

name_stops : (end : ℕ) (bytes : List ℕ) (f : ConstantFault) → FailsAs into FailsName end bytes f → connect_name_at end bytes ≡ Err f
unfolding connect_name_at
name_stops end bytes f h = fails_on f (part (name_in end bytes)) (λ n. Ok (connect_name n.0, n.1)) (as_stops FailsName into end bytes (name_in end bytes) f (exact_name.stops end bytes) h)

no_buffer_stops : (end : ℕ) (bytes : List ℕ) (f : ConstantFault) → (BeginsWith opcodes.Buffer bytes → ⊥) → connect_name_at end bytes ≡ Err f → connect_at end bytes ≡ Err f
unfolding connect_at byte_at connect_name_at name_in name_at
no_buffer_stops end [] f none h = h
no_buffer_stops end (b ∷ rest) f none h =
    let other : eqb b 0x11 ≡ false = neq b 0x11 (λ e. none (rest, ap (λ k. k ∷ rest) e)) in
    rw other h

connect_stops : (end : ℕ) (bytes : List ℕ) (f : ConstantFault) → FailsConnect end bytes f → connect_at end bytes ≡ Err f
connect_stops end bytes f (inl h) = ap (connect_at end) h.1 ∙ buffer_stops end h.0 f h.2
connect_stops end bytes f (inr h) = no_buffer_stops end bytes f h.0 (name_stops end bytes f h.1)

behind_02 : (end : ℕ) (rest : List ℕ) (f : ConstantFault) → connect_at end rest ≡ Err f → field_at end (0x02 ∷ rest) ≡ Err f
unfolding field_at byte_at
behind_02 end rest f h = h

no_other_stops : (end : ℕ) (bytes : List ℕ) (f : ConstantFault) → BeginsUnit bytes → unit_at end bytes ≡ Err f → field_at end bytes ≡ Err f
unfolding field_at byte_at unit_at segment_in segment_at
no_other_stops end [] f first h = h
no_other_stops end (b ∷ rest) f first h =
    let high : 0x03 < b = first b rest refl in
    let n0 : eqb b 0x00 ≡ false = neq b 0x00 (λ e. absurd (omega (arith, e, high))) in
    let n1 : eqb b 0x01 ≡ false = neq b 0x01 (λ e. absurd (omega (arith, e, high))) in
    let n2 : eqb b 0x02 ≡ false = neq b 0x02 (λ e. absurd (omega (arith, e, high))) in
    let n3 : eqb b 0x03 ≡ false = neq b 0x03 (λ e. absurd (omega (arith, e, high))) in
    rw (n0, n1, n2, n3) h

field_stops : (end : ℕ) (bytes : List ℕ) (f : ConstantFault) → FailsField end bytes f → field_at end bytes ≡ Err f
field_stops end bytes f (inl h) = ap (field_at end) h.1 ∙ reserved_stops end h.0 f h.2
field_stops end bytes f (inr (inl h)) = ap (field_at end) h.1 ∙ access_stops end h.0 f h.2
field_stops end bytes f (inr (inr (inl h))) = ap (field_at end) h.1 ∙ behind_02 end h.0 f (connect_stops end h.0 f h.2)
field_stops end bytes f (inr (inr (inr (inl h)))) = ap (field_at end) h.1 ∙ extended_stops end h.0 f h.2
field_stops end bytes f (inr (inr (inr (inr h)))) = no_other_stops end bytes f h.0 (unit_stops end bytes f h.1)

-- ---- both

pub exact_field : Exact SpellsField FailsField field_at
exact_field = record { found = λ end e a rest h. field_complete end e a rest h; judged = field_judged; stops = field_stops }

pub exact_fields : ExactAll SpellsFields FailsFields fields_in
exact_fields = exact_each SpellsField FailsField field_at exact_field field_long
