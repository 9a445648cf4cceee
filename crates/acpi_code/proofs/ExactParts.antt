-- The readings of parts find exactly what is spelled, and stop exactly where it fails.
use Rattle.std.proofs.Common.{◌≡◌, ℕ, ◌≤◌, ◌<◌, Bool, true, false, cond, ltb, eqb, List, [], ◌∷◌, ◌++◌, length, take, drop, slice_index, Result, Ok, Err, refl, sym, ap, ◌∙◌, append_assoc, arith, inl, inr}
use Rattle.std.proofs.lemmas.Bool.{lt-ltb, le-ltb, ltb-false, ltb-true, eqb-true}
use Rattle.std.proofs.lemmas.List.{length-take, take-append-drop, take_at, drop_at}
use Rattle.std.proofs.lemmas.List.Folds.{length-prefix_len}
use Rattle.std.specs.List.{AllByRecursion, prefix_len}
use Rattle.byteorder.specs.Endian.{little_number}
use Rattle.byteorder.specs.Numbers.{little_from-append}
use Rattle.acpi_name.specs.Names.{NameParts, is_segment_front}
use Rattle.acpi_name.specs.Spelling.{SpellsName}
use Rattle.acpi_name.specs.Reading.{segment_at, name_at}
use Rattle.acpi_name.specs.declared.reading.NameFault.{NameFault}
use Rattle.acpi_name.specs.declared.reading.NameFault.TheVariants as names
use Rattle.acpi_name.proofs.NameAgain.{neq, name_long}
use Rattle.acpi_name.proofs.NameTook.{name_took, segment_took}
use Rattle.acpi_name.proofs.NameFaults.{name_cut, name_zero, name_many, cut_name}
use Rattle.acpi_name.proofs.NameTold.{fault_bad, fault_read}
use Rattle.acpi_tree.specs.declared.tree.Int.{Int}
use Rattle.acpi_tree.specs.declared.tree.Int.TheVariants.{Zero, One, Ones, Revision, Byte, Word, DWord, QWord}
use Rattle.acpi_code.specs.declared.opcode.ConstantForm.{ConstantForm}
use Rattle.acpi_code.specs.declared.opcode.ConstantForm.TheVariants as forms
use Rattle.acpi_code.specs.declared.opcode.Opcode.{Opcode}
use Rattle.acpi_code.specs.declared.opcode.Opcode.TheVariants as opcodes
use Rattle.acpi_code.specs.declared.fault.CodeReason.TheVariants.{Cut, BadString}
use Rattle.acpi_code.specs.declared.fault.CodeFault.{CodeFault}
use Rattle.acpi_code.specs.declared.fault.ConstantFault.{ConstantFault}
use Rattle.acpi_code.specs.declared.fault.ConstantFault.TheVariants.{Part}
use Rattle.acpi_code.specs.Opcodes.{opcode_bytes, is_name_start}
use Rattle.acpi_code.specs.Spelling.{SpellsByte, SpellsNumber, SpellsTermName, SpellsSegment, IsText, SpellsText, SpellsInt}
use Rattle.acpi_code.specs.Faults.{FailsAs, FailsBehind, FailsNumber, FailsName, FailsSegment, FailsText, number_size, FailsConstant, FailsInt}
use Rattle.acpi_code.specs.steps.Reading.{with_fault, fault_at, byte_at, number_at, or_name_fault, name_in, segment_in, opcode_at, constant_at, is_text, string_end, string_at}
use Rattle.acpi_code.specs.steps.Fields.{int_by, int_in}
use Rattle.acpi_code.proofs.Readings.{Judge, judge_into, judge_if, Front}
use Rattle.acpi_code.proofs.Lists.{fails_on}
use Rattle.acpi_code.proofs.Opcodes.{Opened}
use Rattle.acpi_code.proofs.Numbers.{byte_complete, number_complete}
use Rattle.acpi_code.proofs.Names.{name_in_complete, segment_in_complete, first_of}
use Rattle.acpi_code.proofs.Strings.{string_complete, all_text, no_text, above_text}
use Rattle.acpi_code.proofs.Constants.{int_complete, SpellsRest}
use Rattle.acpi_code.proofs.Exact.{Exact, as_judged, as_stops, made_judged, behind_judged, by_opcode_judged, by_opcode_stops, fails_behind}

-- ---- numbers

byte_judged : (end : ℕ) (bytes : List ℕ) → Judge (Front SpellsByte bytes) (FailsNumber 1 end bytes) (byte_at end bytes)
unfolding byte_at
byte_judged end [] = (omega arith, refl)
byte_judged end (b ∷ rest) = record { front = b ∷ []; spells = refl; whole = refl }

byte_stops : (end : ℕ) (bytes : List ℕ) (f : CodeFault) → FailsNumber 1 end bytes f → byte_at end bytes ≡ Err f
unfolding byte_at
byte_stops end [] f h = ap Err (sym h.1)
byte_stops end (b ∷ rest) f h = let short : length (b ∷ rest) < 1 = h.0 in absurd (omega arith)

pub exact_byte : Exact SpellsByte (FailsNumber 1) byte_at
exact_byte = record { found = λ end n a rest h. ap (λ (l : List ℕ). byte_at end (l ++ rest)) h ∙ byte_complete end n rest; judged = byte_judged; stops = byte_stops }

number_judged : (k end : ℕ) (bytes : List ℕ) → Judge (Front (SpellsNumber k) bytes) (FailsNumber k end bytes) (number_at k end bytes)
unfolding number_at
number_judged k end bytes =
    judge_if (Front (SpellsNumber k) bytes) (FailsNumber k end bytes) (ltb (length bytes) k) _ _ (λ short. (ltb-true _ _ short, refl))
    (λ enough.
    let long : k ≤ length bytes = ltb-false _ _ enough in
    let len : length (take k bytes) ≡ k = omega (arith, length-take k bytes) in
    let whole : bytes ≡ take k bytes ++ drop k bytes = sym (take-append-drop k bytes) in
    let same : little_number k (take k bytes) ≡ little_number k bytes = sym (little_from-append k (take k bytes) (drop k bytes) (omega arith)) ∙ ap (little_number k) (sym whole) in
    record { front = take k bytes; spells = (len, same); whole = whole })

number_stops : (k end : ℕ) (bytes : List ℕ) (f : CodeFault) → FailsNumber k end bytes f → number_at k end bytes ≡ Err f
unfolding number_at
number_stops k end bytes f h = rw (lt-ltb _ _ h.0) (ap Err (sym h.1))

pub exact_number : (k : ℕ) → Exact (SpellsNumber k) (FailsNumber k) (number_at k)
exact_number k = record { found = λ end n a rest h. number_complete k n end a rest h; judged = number_judged k; stops = number_stops k }

-- ---- names

name_judged : (end : ℕ) (bytes : List ℕ) → Judge (Front SpellsName bytes) (FailsName end bytes) (name_in end bytes)
unfolding name_in
name_judged end bytes = by_result (name_at bytes) refl
  where
    by_result : (r : Result (NameParts × List ℕ) NameFault) → name_at bytes ≡ r → Judge (Front SpellsName bytes) (FailsName end bytes) (or_name_fault end bytes r)
    by_result (Ok x) e = let t = name_took bytes x e in record { front = t.front; spells = t.spells; whole = t.whole }
    by_result (Err names.Cut) e = inl (name_cut bytes e, refl)
    by_result (Err names.BadChar) e = inr (inl ((fault_bad bytes names.BadChar e).0 refl), refl)
    by_result (Err names.ZeroCount) e = inr (inr (inl (name_zero bytes e)), refl)
    by_result (Err names.TooManyUps) e = inr (inr (inr (name_many bytes e)), refl)

name_stops : (end : ℕ) (bytes : List ℕ) (f : CodeFault) → FailsName end bytes f → name_in end bytes ≡ Err f
unfolding name_in
name_stops end bytes f (inl h) = rw (cut_name bytes h.0) (ap Err (sym h.1))
name_stops end bytes f (inr (inl bad, is)) = rw (fault_read bytes names.BadChar bad) (ap Err (sym is))
name_stops end bytes f (inr (inr (inl none), is)) = rw (fault_read bytes names.ZeroCount none) (ap Err (sym is))
name_stops end bytes f (inr (inr (inr many), is)) = rw (fault_read bytes names.TooManyUps many) (ap Err (sym is))

pub exact_name : Exact SpellsName FailsName name_in
exact_name = record { found = λ end n a rest h. name_in_complete end n a rest h; judged = name_judged; stops = name_stops }

-- a name in the place of a term
pub term_name_judged : (end : ℕ) (bytes rest : List ℕ) → Opened bytes (opcodes.Name, rest) → Judge (Front SpellsTermName bytes) (FailsName end bytes) (name_in end bytes)
term_name_judged end bytes rest o =
    judge_into (Front SpellsName bytes) (Front SpellsTermName bytes) (FailsName end bytes) (FailsName end bytes) (name_in end bytes)
    (λ x t.
    let first : slice_index t.front 0 ≡ slice_index o.front 0 =
    sym (first_of t.front x.1 (name_long x.0 t.front t.spells)) ∙ ap (λ (y : List ℕ). slice_index y 0) (sym t.whole ∙ o.whole) ∙ first_of o.front rest o.some in
    record { front = t.front; spells = (t.spells, ap is_name_start first ∙ o.told); whole = t.whole })
    (λ f h. h) (name_judged end bytes)

segment_judged : (end : ℕ) (bytes : List ℕ) → Judge (Front SpellsSegment bytes) (FailsSegment end bytes) (segment_in end bytes)
unfolding segment_in segment_at
segment_judged end bytes = by_tests (is_segment_front bytes) (ltb (length bytes) 4) refl refl
  where
    by_tests : (a b : Bool) → is_segment_front bytes ≡ a → ltb (length bytes) 4 ≡ b
        → Judge (Front SpellsSegment bytes) (FailsSegment end bytes) (or_name_fault end bytes (cond a (cond b (Err names.Cut) (Ok (take 4 bytes, drop 4 bytes))) (Err names.BadChar)))
    by_tests true true e d = inl (e, ltb-true _ _ d, refl)
    by_tests true false e d =
        let t = segment_took bytes (take 4 bytes, drop 4 bytes) (rw (e, d) refl) in
        record { front = take 4 bytes; spells = (t.0, refl); whole = t.1 }
    by_tests false b e d = inr (e, refl)

segment_stops : (end : ℕ) (bytes : List ℕ) (f : CodeFault) → FailsSegment end bytes f → segment_in end bytes ≡ Err f
unfolding segment_in segment_at
segment_stops end bytes f (inl h) = rw (h.0, lt-ltb _ _ h.1) (ap Err (sym h.2))
segment_stops end bytes f (inr h) = rw h.0 (ap Err (sym h.1))

pub exact_segment : Exact SpellsSegment FailsSegment segment_in
exact_segment = record { found = λ end s a rest h. ap (λ (l : List ℕ). segment_in end (l ++ rest)) h.1 ∙ segment_in_complete end s rest h.0; judged = segment_judged; stops = segment_stops }

-- ---- strings

text_judged : (end : ℕ) (bytes : List ℕ) → Judge (Front SpellsText bytes) (FailsText end bytes) (string_at end bytes)
unfolding string_at byte_at
text_judged end bytes = rw (length-prefix_len is_text bytes) (by_rest (drop (prefix_len is_text bytes) bytes) refl)
  where
    by_rest : (rest : List ℕ) → drop (prefix_len is_text bytes) bytes ≡ rest → Judge (Front SpellsText bytes) (FailsText end bytes) (string_end end (take (prefix_len is_text bytes) bytes) rest)
    by_rest [] e =
        let text = take (prefix_len is_text bytes) bytes in
        (text, [], all_text bytes, sym (take-append-drop (prefix_len is_text bytes) bytes) ∙ ap (λ (l : List ℕ). text ++ l) e, inl (refl, refl))
    by_rest (b ∷ rest) e =
        let text = take (prefix_len is_text bytes) bytes in
        let whole : bytes ≡ text ++ (b ∷ rest) = sym (take-append-drop (prefix_len is_text bytes) bytes) ∙ ap (λ (l : List ℕ). text ++ l) e in
        judge_if (Front SpellsText bytes) (FailsText end bytes) (eqb b 0) _ _
        (λ ends. record {
          front = text ++ 0 ∷ [];
          spells = (all_text bytes, refl);
          whole = whole ∙ ap (λ k. text ++ k ∷ rest) (eqb-true b 0 ends) ∙ sym (append_assoc text (0 ∷ []) rest);
        })
        (λ other. (text, b ∷ rest, all_text bytes, whole, inr ((b, rest, refl, above_text b (no_text bytes b rest e) other), refl)))

-- the characters at the front, where none follows
text_len : (text rest : List ℕ) → AllByRecursion IsText text → prefix_len is_text rest ≡ 0 → prefix_len is_text (text ++ rest) ≡ length text
text_len [] rest h none = none
text_len (b ∷ text) rest h none = rw (lt-ltb 0 b h.0.0, lt-ltb b 128 h.0.1, text_len text rest h.1 none) (omega arith)

no_more_text : (b : ℕ) (rest : List ℕ) → 127 < b → prefix_len is_text (b ∷ rest) ≡ 0
no_more_text b rest h =
    let low : ltb 0 b ≡ true = lt-ltb 0 b (omega arith) in
    let high : ltb b 128 ≡ false = le-ltb _ _ (omega arith) in
    rw (low, high) refl

string_is : (end : ℕ) (text rest : List ℕ) → AllByRecursion IsText text → prefix_len is_text rest ≡ 0 → string_at end (text ++ rest) ≡ string_end end text rest
unfolding string_at
string_is end text rest h none = rw (length-prefix_len is_text (text ++ rest), text_len text rest h none, take_at text rest (length text) refl, drop_at text rest (length text) refl) refl

no_text_end : (end : ℕ) (text : List ℕ) (b : ℕ) (rest : List ℕ) → 127 < b → string_end end text (b ∷ rest) ≡ Err (fault_at end (b ∷ rest) BadString)
unfolding byte_at
no_text_end end text b rest h = let other : eqb b 0 ≡ false = neq b 0 (λ e. absurd (omega (arith, e, h))) in rw other refl

cut_text_end : (end : ℕ) (text : List ℕ) → string_end end text [] ≡ Err (fault_at end [] Cut)
unfolding byte_at
cut_text_end end text = refl

text_stops : (end : ℕ) (bytes : List ℕ) (f : CodeFault) → FailsText end bytes f → string_at end bytes ≡ Err f
text_stops end bytes f (text, rest, all, whole, inl (none, is)) =
    ap (string_at end) (whole ∙ ap (λ (l : List ℕ). text ++ l) none) ∙ string_is end text [] all refl ∙ cut_text_end end text ∙ ap Err (sym is)
text_stops end bytes f (text, rest, all, whole, inr ((b, more, there, high), is)) =
    ap (string_at end) (whole ∙ ap (λ (l : List ℕ). text ++ l) there) ∙ string_is end text (b ∷ more) all (no_more_text b more high) ∙ no_text_end end text b more high
    ∙ ap (λ (l : List ℕ). Err (fault_at end l BadString)) (sym there) ∙ ap Err (sym is)

text_found : (end : ℕ) (text a rest : List ℕ) → SpellsText text a → string_at end (a ++ rest) ≡ Ok (text, rest)
text_found end text a rest h = ap (string_at end) (ap (λ (l : List ℕ). l ++ rest) h.1 ∙ append_assoc text (0 ∷ []) rest) ∙ string_complete end text rest h.0

pub exact_text : Exact SpellsText FailsText string_at
exact_text = record { found = text_found; judged = text_judged; stops = text_stops }

-- ---- constants

none_read : (Spells : Int → List ℕ → Type 0) (i : Int) (bytes : List ℕ) → Spells i [] → Front Spells bytes (i, bytes)
none_read Spells i bytes h = record { front = []; spells = h; whole = refl }

pub constant_judged : (form : ConstantForm) (end : ℕ) (bytes : List ℕ) → Judge (Front (SpellsRest form) bytes) (FailsNumber (number_size form) end bytes) (constant_at form end bytes)
constant_judged forms.Zero end bytes = none_read (SpellsRest forms.Zero) Zero bytes refl
constant_judged forms.One end bytes = none_read (SpellsRest forms.One) One bytes refl
constant_judged forms.Ones end bytes = none_read (SpellsRest forms.Ones) Ones bytes refl
constant_judged forms.Revision end bytes = none_read (SpellsRest forms.Revision) Revision bytes refl
constant_judged forms.Byte end bytes =
    made_judged SpellsByte (SpellsRest forms.Byte) (FailsNumber 1 end bytes) (λ n. Byte n) bytes (byte_at end bytes) (λ n a k. ap (λ (t : List ℕ). 10 ∷ t) k) (byte_judged end bytes)
constant_judged forms.Word end bytes =
    made_judged (SpellsNumber 2) (SpellsRest forms.Word) (FailsNumber 2 end bytes) (λ n. Word n) bytes (number_at 2 end bytes) (λ n a k. (a, k, refl)) (number_judged 2 end bytes)
constant_judged forms.DWord end bytes =
    made_judged (SpellsNumber 4) (SpellsRest forms.DWord) (FailsNumber 4 end bytes) (λ n. DWord n) bytes (number_at 4 end bytes) (λ n a k. (a, k, refl)) (number_judged 4 end bytes)
constant_judged forms.QWord end bytes =
    made_judged (SpellsNumber 8) (SpellsRest forms.QWord) (FailsNumber 8 end bytes) (λ n. QWord n) bytes (number_at 8 end bytes) (λ n a k. (a, k, refl)) (number_judged 8 end bytes)

pub constant_stops : (form : ConstantForm) (end : ℕ) (bytes : List ℕ) (f : CodeFault) → FailsNumber (number_size form) end bytes f → constant_at form end bytes ≡ Err f
constant_stops forms.Byte end bytes f h = fails_on f (byte_at end bytes) (λ x. Ok (Byte x.0, x.1)) (byte_stops end bytes f h)
constant_stops forms.Word end bytes f h = fails_on f (number_at 2 end bytes) (λ x. Ok (Word x.0, x.1)) (number_stops 2 end bytes f h)
constant_stops forms.DWord end bytes f h = fails_on f (number_at 4 end bytes) (λ x. Ok (DWord x.0, x.1)) (number_stops 4 end bytes f h)
constant_stops forms.QWord end bytes f h = fails_on f (number_at 8 end bytes) (λ x. Ok (QWord x.0, x.1)) (number_stops 8 end bytes f h)
constant_stops form end bytes f h = let never : length bytes < 0 = h.0 in absurd (omega (arith, never))

-- the constant whose opcode begins the bytes
pub whole_judged : {F : Type 0} (into : CodeFault → F) (form : ConstantForm) (end : ℕ) (bytes rest : List ℕ) → Opened bytes (opcodes.Constant form, rest)
    → Judge (Front SpellsInt bytes) (FailsBehind (opcode_bytes (opcodes.Constant form)) (FailsAs into (FailsNumber (number_size form))) end bytes) (with_fault into (constant_at form end rest))
whole_judged into form end bytes rest o =
    let op = opcode_bytes (opcodes.Constant form) in
    let is : bytes ≡ op ++ rest = o.whole ∙ ap (λ (t : List ℕ). t ++ rest) o.told.1 in
    behind_judged (SpellsRest form) SpellsInt (FailsAs into (FailsNumber (number_size form))) op end bytes rest (with_fault into (constant_at form end rest)) is (λ i a k. k)
    (as_judged (Front (SpellsRest form) rest) (FailsNumber (number_size form)) into end rest (constant_at form end rest) (constant_judged form end rest))

pub whole_stops : {F : Type 0} (into : CodeFault → F) (form : ConstantForm) (end : ℕ) (bytes rest : List ℕ) (f : F) → opcode_at end bytes ≡ Ok (opcodes.Constant form, rest)
    → FailsBehind (opcode_bytes (opcodes.Constant form)) (FailsAs into (FailsNumber (number_size form))) end bytes f → with_fault into (constant_at form end rest) ≡ Err f
whole_stops into form end bytes rest f read h =
    as_stops (FailsNumber (number_size form)) into end rest (constant_at form end rest) f (constant_stops form end rest)
    (fails_behind (FailsAs into (FailsNumber (number_size form))) (opcodes.Constant form) end bytes rest f refl read h)

int_by_judged : (end : ℕ) (o : Opcode) (bytes rest : List ℕ) → Opened bytes (o, rest) → Judge (Front SpellsInt bytes) (FailsConstant o end bytes) (int_by end bytes o rest)
int_by_judged end (opcodes.Constant form) bytes rest o = whole_judged (λ f. Part f) form end bytes rest o
int_by_judged end term bytes rest o = refl

int_by_stops : (end : ℕ) (o : Opcode) (bytes rest : List ℕ) (f : ConstantFault) → opcode_at end bytes ≡ Ok (o, rest) → FailsConstant o end bytes f → int_by end bytes o rest ≡ Err f
int_by_stops end (opcodes.Constant form) bytes rest f read h = whole_stops (λ f. Part f) form end bytes rest f read h
int_by_stops end term bytes rest f read h = ap Err (sym h)

int_judged : (end : ℕ) (bytes : List ℕ) → Judge (Front SpellsInt bytes) (FailsInt end bytes) (int_in end bytes)
unfolding int_in
int_judged end bytes = by_opcode_judged (λ f. Part f) FailsConstant (Front SpellsInt bytes) end bytes (λ x. int_by end bytes x.0 x.1) (λ x o. int_by_judged end x.0 bytes x.1 o)

int_stops : (end : ℕ) (bytes : List ℕ) (f : ConstantFault) → FailsInt end bytes f → int_in end bytes ≡ Err f
unfolding int_in
int_stops end bytes f h = by_opcode_stops (λ f. Part f) FailsConstant end bytes (λ x. int_by end bytes x.0 x.1) f (λ o rest read k. int_by_stops end o bytes rest f read k) h

pub exact_int : Exact SpellsInt FailsInt int_in
exact_int = record { found = λ end i a rest h. int_complete i end a rest h; judged = int_judged; stops = int_stops }
