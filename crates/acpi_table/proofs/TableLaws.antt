-- Laws of tables: what stands at the front is cut off, what is cut off is a table, and what a fault says.
use Rattle.std.proofs.Common.{◌≡◌, ℕ, ◌+◌, ◌≤◌, Bool, true, false, ltb, eqb, List, [], ◌++◌, length, take, drop, Result, Ok, Err, refl, sym, ap, subst, ◌∙◌, arith, inl, inr, eq-eqb}
use Rattle.std.proofs.lemmas.Bool.{ltb-false, ltb-true, le-ltb, eqb-true, lt-ltb, ne_eqb}
use Rattle.std.proofs.lemmas.List.{append-nil, length-append, length-take, length-drop, take-append-drop, take_at, drop_at, drop-append-le}
use Rattle.byteorder.specs.Endian.{little_number}
use Rattle.byteorder.specs.Numbers.{little_from-append}
use Rattle.acpi_table.proofs.Choices.{chosen, guard_ok}
use Rattle.acpi_table.specs.declared.tables.TableFault.{TableFault}
use Rattle.acpi_table.specs.declared.tables.TableFault.TheVariants.{Short, BadLength, TooLong, Cut, BadSum}
use Rattle.acpi_table.specs.Tables.{sum_of, length_field, IsTable, IsRefusedAs, table_at}

-- Length is told by the header's bytes alone.
pub length_field-append : (table rest : List ℕ) → 36 ≤ length table → length_field (table ++ rest) ≡ length_field table
length_field-append table rest h =
    let long : 4 ≤ length (drop 4 table) = omega (arith, length-drop 4 table) in
    ap (little_number 4) (drop-append-le 4 table rest (omega arith)) ∙ little_from-append 4 (drop 4 table) rest long

-- The table at the front is cut off.
pub table_again : (table rest : List ℕ) → IsTable table → table_at (table ++ rest) ≡ Ok (table, rest)
unfolding table_at
table_again table rest h =
    let size : length (table ++ rest) ≡ length table + length rest = length-append table rest in
    let field : length_field (table ++ rest) ≡ length table = length_field-append table rest h.has_header ∙ h.has_length in
    let not_short : ltb (length (table ++ rest)) 36 ≡ false = le-ltb _ _ (omega (arith, h.has_header)) in
    let not_bad : ltb (length table) 36 ≡ false = le-ltb _ _ h.has_header in
    let not_long : ltb 16777216 (length table) ≡ false = le-ltb _ _ h.within_limit in
    let not_cut : ltb (length (table ++ rest)) (length table) ≡ false = le-ltb _ _ (omega arith) in
    rw (not_short, field, not_bad, not_long, not_cut, take_at table rest (length table) refl, drop_at table rest (length table) refl, h.sums_to_zero) refl

-- The whole of a table's bytes is one table, with nothing after it.
pub whole_table : (bytes : List ℕ) → IsTable bytes → table_at bytes ≡ Ok (bytes, [])
whole_table bytes h = ap table_at (sym (append-nil bytes)) ∙ table_again bytes [] h

abbrev done : List ℕ × List ℕ → Result (List ℕ × List ℕ) TableFault
done x = Ok x

ok_is : (x y : List ℕ × List ℕ) → done x ≡ done y → x ≡ y
ok_is x y e = cc

abbrev failed : TableFault → Result (List ℕ × List ℕ) TableFault
failed fault = Err fault

fault_is : (d e : TableFault) → failed d ≡ failed e → d ≡ e
fault_is d e h = cc

-- What is cut off is a table, and the rest stands after it.
pub table_found : (bytes table rest : List ℕ) → table_at bytes ≡ Ok (table, rest) → IsTable table × (bytes ≡ table ++ rest)
unfolding table_at
table_found bytes table rest e =
    let n = length_field bytes in
    let a = guard_ok (ltb (length bytes) 36) Short _ (table, rest) e in
    let b = guard_ok (ltb n 36) BadLength _ (table, rest) a.1 in
    let c = guard_ok (ltb 16777216 n) TooLong _ (table, rest) b.1 in
    let d = guard_ok (ltb (length bytes) n) Cut _ (table, rest) c.1 in
    let is_long : 36 ≤ n = ltb-false _ _ b.0 in
    let is_within : n ≤ 16777216 = ltb-false _ _ c.0 in
    let is_there : n ≤ length bytes = ltb-false _ _ d.0 in
    elim (chosen (eqb (sum_of (take n bytes)) 0) (done (take n bytes, drop n bytes)) (failed BadSum) (done (table, rest)) d.1) [
      | inl t ↦
          let same = ok_is (take n bytes, drop n bytes) (table, rest) t.1 in
          let front : take n bytes ≡ table = ap (λ (x : List ℕ × List ℕ). x.0) same in
          let after : drop n bytes ≡ rest = ap (λ (x : List ℕ × List ℕ). x.1) same in
          let size : length (take n bytes) ≡ n = omega (arith, length-take n bytes) in
          let whole : bytes ≡ take n bytes ++ drop n bytes = sym (take-append-drop n bytes) in
          let field : length_field (take n bytes) ≡ n =
          sym (length_field-append (take n bytes) (drop n bytes) (omega arith)) ∙ ap length_field (sym whole) in
          let table_is : IsTable (take n bytes) = record {
            has_header = omega arith;
            within_limit = omega arith;
            has_length = field ∙ sym size;
            sums_to_zero = eqb-true _ _ t.0;
          } in
          (subst IsTable front table_is, whole ∙ ap (λ (x : List ℕ). x ++ drop n bytes) front ∙ ap (λ (x : List ℕ). table ++ x) after)
      | inr f ↦ absurd cc
    ]

-- What a fault says of the bytes.
pub table_refused : (bytes : List ℕ) (fault : TableFault) → table_at bytes ≡ Err fault → IsRefusedAs fault bytes
unfolding table_at
table_refused bytes fault e =
    let n = length_field bytes in
    let shown : (d : TableFault) → IsRefusedAs d bytes → failed d ≡ failed fault → IsRefusedAs fault bytes
    = λ d h is. subst (λ f. IsRefusedAs f bytes) (fault_is d fault is) h in
    elim (chosen (ltb (length bytes) 36) (failed Short) _ (failed fault) e) [
      | inl t ↦ shown Short (ltb-true _ _ t.0) t.1
      | inr a ↦
          elim (chosen (ltb n 36) (failed BadLength) _ (failed fault) a.1) [
            | inl t ↦ shown BadLength (ltb-false _ _ a.0, ltb-true _ _ t.0) t.1
            | inr b ↦
                elim (chosen (ltb 16777216 n) (failed TooLong) _ (failed fault) b.1) [
                  | inl t ↦ shown TooLong (ltb-false _ _ a.0, ltb-true _ _ t.0) t.1
                  | inr c ↦
                      elim (chosen (ltb (length bytes) n) (failed Cut) _ (failed fault) c.1) [
                        | inl t ↦ shown Cut (ltb-false _ _ a.0, ltb-false _ _ b.0, ltb-false _ _ c.0, ltb-true _ _ t.0) t.1
                        | inr d ↦
                            elim (chosen (eqb (sum_of (take n bytes)) 0) (done (take n bytes, drop n bytes)) (failed BadSum) (failed fault) d.1) [
                              | inl t ↦ absurd cc
                              | inr f ↦ shown BadSum (ltb-false _ _ b.0, ltb-false _ _ c.0, ltb-false _ _ d.0, λ is. absurd (is_false (eq-eqb _ _ is) f.0)) f.1
                            ]
                      ]
                ]
          ]
    ]
  where
    is_false : {b : Bool} → b ≡ true → b ≡ false → ⊥
    is_false t f = cc

-- Where a fault's condition holds, that fault is told.
pub table_refuses : (bytes : List ℕ) (fault : TableFault) → IsRefusedAs fault bytes → table_at bytes ≡ Err fault
unfolding table_at
table_refuses bytes Short h = rw (lt-ltb _ _ h) refl
table_refuses bytes BadLength h =
    let not_short : ltb (length bytes) 36 ≡ false = le-ltb _ _ h.0 in
    let bad : ltb (length_field bytes) 36 ≡ true = lt-ltb _ _ h.1 in
    rw (not_short, bad) refl
table_refuses bytes TooLong h =
    let not_short : ltb (length bytes) 36 ≡ false = le-ltb _ _ h.0 in
    let not_bad : ltb (length_field bytes) 36 ≡ false = le-ltb _ _ (omega (arith, h.1)) in
    let long : ltb 16777216 (length_field bytes) ≡ true = lt-ltb _ _ h.1 in
    rw (not_short, not_bad, long) refl
table_refuses bytes Cut h =
    let not_short : ltb (length bytes) 36 ≡ false = le-ltb _ _ h.0 in
    let not_bad : ltb (length_field bytes) 36 ≡ false = le-ltb _ _ h.1 in
    let not_long : ltb 16777216 (length_field bytes) ≡ false = le-ltb _ _ h.2 in
    let is_cut : ltb (length bytes) (length_field bytes) ≡ true = lt-ltb _ _ h.3 in
    rw (not_short, not_bad, not_long, is_cut) refl
table_refuses bytes BadSum h =
    let not_short : ltb (length bytes) 36 ≡ false = le-ltb _ _ (omega (arith, h.0, h.2)) in
    let not_bad : ltb (length_field bytes) 36 ≡ false = le-ltb _ _ h.0 in
    let not_long : ltb 16777216 (length_field bytes) ≡ false = le-ltb _ _ h.1 in
    let not_cut : ltb (length bytes) (length_field bytes) ≡ false = le-ltb _ _ h.2 in
    let sum : eqb (sum_of (take (length_field bytes) bytes)) 0 ≡ false = ne_eqb _ _ h.3 in
    rw (not_short, not_bad, not_long, not_cut, sum) refl
