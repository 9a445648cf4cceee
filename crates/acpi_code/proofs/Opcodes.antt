-- What begins with which bytes.
use Rattle.std.proofs.Common.{◌≡◌, ℕ, zero, suc, ◌+◌, ◌-◌, ◌<◌, Bool, true, false, cond, eqb, ltb, ◌&&◌, ◌⊎◌, Option, Some, None, List, [], ◌∷◌, ◌++◌, length, slice_index, Ok, refl, sym, ap, subst, ◌∙◌, arith, inl, inr}
use Rattle.std.proofs.lemmas.Bool.{eqb-true, ltb-true, lt-ltb}
use Rattle.std.specs.List.{list_all}
use Rattle.acpi_name.proofs.NameAgain.{and_true, neq}
use Rattle.acpi_tree.specs.declared.op.Op.{Op}
use Rattle.acpi_tree.specs.declared.op.Op.TheVariants as operators
use Rattle.acpi_tree.specs.declared.tree.Width.{Width}
use Rattle.acpi_tree.specs.declared.tree.Width.TheVariants as widths
use Rattle.acpi_code.specs.declared.opcode.ConstantForm.TheVariants as forms
use Rattle.acpi_code.specs.declared.opcode.Opcode.{Opcode}
use Rattle.acpi_code.specs.declared.opcode.Opcode.TheVariants as opcodes
use Rattle.acpi_code.specs.Opcodes.{is_name_start, width_bytes, operator_bytes, opcode_bytes, BeginsTerm, BeginsWith}
use Rattle.acpi_code.specs.Laws.{OneOpcodeBegins}
use Rattle.acpi_code.specs.steps.Opcodes.{fixed_opcodes, are_same, opcode_with, plain_opcode_of, extended_opcode_of, extended_opcode, first_opcode, is_spelled, FindsWhatBegins}
use Rattle.acpi_code.specs.Faults.{FailsOpcode}
use Rattle.acpi_code.specs.steps.Reading.{byte_at, extended_opcode_at, opcode_at}
use Rattle.acpi_code.proofs.Readings.{Judge, judge_if}

-- ---- what is spelled is read

operator_opens : (end : ℕ) (op : Op) (more : List ℕ) → opcode_at end (operator_bytes op ++ more) ≡ Ok (opcodes.Operator op, more)
unfolding opcode_at byte_at
operator_opens end operators.Store more = refl
operator_opens end _ more = refl

width_opens : (end : ℕ) (w : Width) (more : List ℕ) → opcode_at end (width_bytes w ++ more) ≡ Ok (opcodes.Create w, more)
unfolding opcode_at byte_at
width_opens end widths.DWord more = refl
width_opens end widths.Word more = refl
width_opens end widths.Byte more = refl
width_opens end widths.Bit more = refl
width_opens end widths.QWord more = refl

local_opens : (end n : ℕ) (more : List ℕ) → ltb n 8 ≡ true → opcode_at end ((n + 0x60) ∷ more) ≡ Ok (opcodes.Local n, more)
unfolding opcode_at byte_at
local_opens end zero more h = refl
local_opens end (suc zero) more h = refl
local_opens end (suc (suc zero)) more h = refl
local_opens end (suc (suc (suc zero))) more h = refl
local_opens end (suc (suc (suc (suc zero)))) more h = refl
local_opens end (suc (suc (suc (suc (suc zero))))) more h = refl
local_opens end (suc (suc (suc (suc (suc (suc zero)))))) more h = refl
local_opens end (suc (suc (suc (suc (suc (suc (suc zero))))))) more h = refl
local_opens end (suc (suc (suc (suc (suc (suc (suc (suc n)))))))) more h = let le : suc (suc (suc (suc (suc (suc (suc (suc n))))))) < 8 = ltb-true _ _ h in absurd (omega arith)

arg_opens : (end n : ℕ) (more : List ℕ) → ltb n 7 ≡ true → opcode_at end ((n + 0x68) ∷ more) ≡ Ok (opcodes.Arg n, more)
unfolding opcode_at byte_at
arg_opens end zero more h = refl
arg_opens end (suc zero) more h = refl
arg_opens end (suc (suc zero)) more h = refl
arg_opens end (suc (suc (suc zero))) more h = refl
arg_opens end (suc (suc (suc (suc zero)))) more h = refl
arg_opens end (suc (suc (suc (suc (suc zero))))) more h = refl
arg_opens end (suc (suc (suc (suc (suc (suc zero)))))) more h = refl
arg_opens end (suc (suc (suc (suc (suc (suc (suc n))))))) more h = let le : suc (suc (suc (suc (suc (suc (suc n)))))) < 7 = ltb-true _ _ h in absurd (omega arith)

pub opens : (end : ℕ) (opcode : Opcode) (more : List ℕ) → is_spelled opcode ≡ true → opcode_at end (opcode_bytes opcode ++ more) ≡ Ok (opcode, more)
unfolding opcode_at byte_at
opens end opcodes.Name more h = absurd cc
opens end opcodes.Nothing more h = absurd cc
opens end (opcodes.Create w) more h = width_opens end w more
opens end (opcodes.Operator op) more h = operator_opens end op more
opens end (opcodes.Local n) more h = local_opens end n more h
opens end (opcodes.Arg n) more h = arg_opens end n more h
opens end (opcodes.Constant forms.Zero) more h = refl
opens end (opcodes.Constant _) more h = refl
opens end _ more h = refl

-- a name in the place of a term
pub opens_name : (end b : ℕ) (more : List ℕ) → is_name_start b ≡ true → opcode_at end (b ∷ more) ≡ Ok (opcodes.Name, more)
unfolding opcode_at byte_at
opens_name end b more h = rw (plain, h) refl
  where
    plain : eqb b 0x5B ≡ false
    plain = neq b 0x5B (λ e. let never : is_name_start 0x5B ≡ true = subst (λ k. is_name_start k ≡ true) e h in absurd cc)

-- ---- what is read is spelled

same_is : (bs cs : List ℕ) → are_same bs cs ≡ true → bs ≡ cs
same_is [] [] h = refl
same_is (b ∷ bs) (c ∷ cs) h =
    let both = and_true (are_same bs cs) (eqb b c) h in
    rw (eqb-true b c both.1) (ap (λ (t : List ℕ). c ∷ t) (same_is bs cs both.0))
same_is [] (c ∷ cs) h = absurd cc
same_is (b ∷ bs) [] h = absurd cc

-- what the bytes of what begins there are
abbrev pub Told : Opcode → List ℕ → Type 0
Told opcodes.Name front = is_name_start (slice_index front 0) ≡ true
Told opcodes.Nothing front = Unit {0}
Told opcode front = (is_spelled opcode ≡ true) × (front ≡ opcode_bytes opcode)

told_of : (opcode : Opcode) (front : List ℕ) → is_spelled opcode ≡ true → front ≡ opcode_bytes opcode → Told opcode front
told_of opcodes.Name front spelled is = absurd cc
told_of opcodes.Nothing front spelled is = tt
told_of opcode front spelled is = (spelled, is)

told_with : (os : List Opcode) (front : List ℕ) → list_all is_spelled os ≡ true → Told (opcode_with front os) front
told_with [] front all = tt
told_with (o ∷ os) front all =
    let both = and_true (is_spelled o) (list_all is_spelled os) all in
    by_test both.0 (told_with os front both.1) (are_same front (opcode_bytes o)) refl
  where
    by_test : is_spelled o ≡ true → Told (opcode_with front os) front → (t : Bool) → are_same front (opcode_bytes o) ≡ t → Told (cond t o (opcode_with front os)) front
    by_test spelled more true e = told_of o front spelled (same_is front (opcode_bytes o) e)
    by_test spelled more false e = more

all_spelled : list_all is_spelled fixed_opcodes ≡ true
all_spelled = refl

plain_told : (b : ℕ) → Told (plain_opcode_of b) (b ∷ [])
plain_told b = by_tests (is_name_start b) refl (ltb 0x5F b && ltb b 0x68) (ltb 0x67 b && ltb b 0x6F) refl refl
  where
    by_tests : (n : Bool) → is_name_start b ≡ n → (l a : Bool) → (ltb 0x5F b && ltb b 0x68) ≡ l → (ltb 0x67 b && ltb b 0x6F) ≡ a
        → Told (cond n opcodes.Name (cond l (opcodes.Local (b - 0x60)) (cond a (opcodes.Arg (b - 0x68)) (opcode_with (b ∷ []) fixed_opcodes)))) (b ∷ [])
    by_tests true e l a d f = e
    by_tests false e true a d f =
        let both = and_true (ltb 0x5F b) (ltb b 0x68) d in
        let low : 0x5F < b = ltb-true _ _ both.0 in
        let high : b < 0x68 = ltb-true _ _ both.1 in
        let is : b ≡ (b - 0x60) + 0x60 = omega arith in
        (lt-ltb _ _ (omega arith), ap (λ n. n ∷ []) is)
    by_tests false e false true d f =
        let both = and_true (ltb 0x67 b) (ltb b 0x6F) f in
        let low : 0x67 < b = ltb-true _ _ both.0 in
        let high : b < 0x6F = ltb-true _ _ both.1 in
        let is : b ≡ (b - 0x68) + 0x68 = omega arith in
        (lt-ltb _ _ (omega arith), ap (λ n. n ∷ []) is)
    by_tests false e false false d f = told_with fixed_opcodes (b ∷ []) all_spelled

extended_told : (b : ℕ) → Told (extended_opcode_of b) (0x5B ∷ b ∷ [])
extended_told b = told_with fixed_opcodes (0x5B ∷ b ∷ []) all_spelled

-- ---- what begins there

abbrev known : Opcode → Option Opcode
known o = Some o

-- what is read begins the bytes
first_is : (end : ℕ) (bytes rest : List ℕ) (o : Opcode) → opcode_at end bytes ≡ Ok (o, rest) → first_opcode bytes ≡ known o
unfolding opcode_at byte_at
first_is end [] rest o h = absurd cc
first_is end (b ∷ more) rest o h = by_lead (eqb b 0x5B) h
  where
    extended : (more : List ℕ) → extended_opcode_at end more ≡ Ok (o, rest) → extended_opcode more ≡ known o
    extended [] h = absurd cc
    extended (c ∷ r) h = let pair : (extended_opcode_of c, r) ≡ (o, rest) = cc in ap (λ (y : Opcode × List ℕ). known y.0) pair

    by_lead : (t : Bool) → cond t (extended_opcode_at end more) (Ok (plain_opcode_of b, more)) ≡ Ok (o, rest) → cond t (extended_opcode more) (Some (plain_opcode_of b)) ≡ known o
    by_lead true h = extended more h
    by_lead false h = let pair : (plain_opcode_of b, more) ≡ (o, rest) = cc in ap (λ (y : Opcode × List ℕ). known y.0) pair

-- the bytes of each opcode begin it
bytes_begin : (o : Opcode) (rest : List ℕ) → is_spelled o ≡ true → first_opcode (opcode_bytes o ++ rest) ≡ known o
bytes_begin o rest spelled = first_is 0 (opcode_bytes o ++ rest) rest o (opens 0 o rest spelled)

-- ---- what the bytes begin with

known_is : (o p : Opcode) → known o ≡ known p → o ≡ p
known_is o p e = cc

none_known : (o : Opcode) → None ≡ known o → ⊥
none_known o e = cc

-- a term that begins the bytes is found
term_first : (o : Opcode) (bytes : List ℕ) → BeginsTerm o bytes → first_opcode bytes ≡ known o
term_first opcodes.Name [] h = absurd cc
term_first opcodes.Name (b ∷ rest) h = first_is 0 (b ∷ rest) rest opcodes.Name (opens_name 0 b rest h)
term_first opcodes.Nothing bytes h = absurd h
term_first (opcodes.Local n) bytes h = rw h.2 (bytes_begin (opcodes.Local n) h.1 (lt-ltb _ _ h.0))
term_first (opcodes.Arg n) bytes h = rw h.2 (bytes_begin (opcodes.Arg n) h.1 (lt-ltb _ _ h.0))
term_first o bytes h = rw h.1 (bytes_begin o h.0 refl)

-- what is found is a term that begins the bytes, or nothing
abbrev IsTermOrNone : Opcode → List ℕ → Type 0
IsTermOrNone o bytes = (o ≡ opcodes.Nothing) ⊎ BeginsTerm o bytes

told_begins : (o : Opcode) (front rest : List ℕ) → 0 < length front → Told o front → IsTermOrNone o (front ++ rest)
told_begins opcodes.Name [] rest some t = absurd (omega arith)
told_begins opcodes.Name (b ∷ front) rest some t = inr t
told_begins opcodes.Nothing front rest some t = inl refl
told_begins (opcodes.Local n) front rest some t = inr (ltb-true _ _ t.0, rest, ap (λ (l : List ℕ). l ++ rest) t.1)
told_begins (opcodes.Arg n) front rest some t = inr (ltb-true _ _ t.0, rest, ap (λ (l : List ℕ). l ++ rest) t.1)
told_begins o front rest some t = inr (rest, ap (λ (l : List ℕ). l ++ rest) t.1)

first_term : (bytes : List ℕ) (o : Opcode) → first_opcode bytes ≡ known o → IsTermOrNone o bytes
first_term [] o e = absurd (none_known o e)
first_term (b ∷ rest) o e = by_lead (eqb b 0x5B) refl e
  where
    extended : b ≡ 0x5B → (more : List ℕ) → extended_opcode more ≡ known o → IsTermOrNone o (b ∷ more)
    extended is [] e = absurd (none_known o e)
    extended is (c ∷ more) e =
        let there = told_begins (extended_opcode_of c) (0x5B ∷ c ∷ []) more (omega arith) (extended_told c) in
        rw is (subst (λ p. IsTermOrNone p (0x5B ∷ c ∷ more)) (known_is (extended_opcode_of c) o e) there)

    by_lead : (t : Bool) → eqb b 0x5B ≡ t → cond t (extended_opcode rest) (known (plain_opcode_of b)) ≡ known o → IsTermOrNone o (b ∷ rest)
    by_lead true d e = extended (eqb-true b 0x5B d) rest e
    by_lead false d e = subst (λ p. IsTermOrNone p (b ∷ rest)) (known_is (plain_opcode_of b) o e) (told_begins (plain_opcode_of b) (b ∷ []) rest (omega arith) (plain_told b))

first_none : (bytes : List ℕ) → first_opcode bytes ≡ None → (bytes ≡ []) ⊎ (bytes ≡ 0x5B ∷ [])
first_none [] e = inl refl
first_none (b ∷ rest) e = by_lead (eqb b 0x5B) refl e
  where
    extended : b ≡ 0x5B → (more : List ℕ) → extended_opcode more ≡ None → (b ∷ more ≡ []) ⊎ (b ∷ more ≡ 0x5B ∷ [])
    extended is [] e = inr (rw is refl)
    extended is (c ∷ more) e = absurd (none_known (extended_opcode_of c) (sym e))

    by_lead : (t : Bool) → eqb b 0x5B ≡ t → cond t (extended_opcode rest) (known (plain_opcode_of b)) ≡ None → (b ∷ rest ≡ []) ⊎ (b ∷ rest ≡ 0x5B ∷ [])
    by_lead true d e = extended (eqb-true b 0x5B d) rest e
    by_lead false d e = absurd (none_known (plain_opcode_of b) (sym e))

with_term : (o : Opcode) (bytes : List ℕ) → BeginsTerm o bytes → BeginsWith o bytes
with_term opcodes.Nothing bytes h = absurd h
with_term o bytes h = h

with_none : (bytes : List ℕ) → first_opcode bytes ≡ known opcodes.Nothing → BeginsWith opcodes.Nothing bytes
with_none bytes e = (
  λ is. none_known opcodes.Nothing (sym (ap first_opcode is) ∙ e),
  λ is. none_known opcodes.Nothing (sym (ap first_opcode is) ∙ e),
  λ o h. subst (λ p. BeginsTerm p bytes) (known_is o opcodes.Nothing (sym (term_first o bytes h) ∙ e)) h,
)

pub first_begins : (bytes : List ℕ) (o : Opcode) → first_opcode bytes ≡ known o → BeginsWith o bytes
first_begins bytes o e = by_term (first_term bytes o e)
  where
    by_term : IsTermOrNone o bytes → BeginsWith o bytes
    by_term (inl is) = subst (λ p. BeginsWith p bytes) (sym is) (with_none bytes (e ∙ ap known is))
    by_term (inr h) = with_term o bytes h

none_first : (bytes : List ℕ) → BeginsWith opcodes.Nothing bytes → first_opcode bytes ≡ known opcodes.Nothing
none_first bytes (some, more, none) = by_first (first_opcode bytes) refl
  where
    by_first : (q : Option Opcode) → first_opcode bytes ≡ q → first_opcode bytes ≡ known opcodes.Nothing
    by_first None e = absurd (by_none (first_none bytes e))
      where
        by_none : (bytes ≡ []) ⊎ (bytes ≡ 0x5B ∷ []) → ⊥
        by_none (inl is) = some is
        by_none (inr is) = more is
    by_first (Some o) e = by_term (first_term bytes o e)
      where
        by_term : IsTermOrNone o bytes → first_opcode bytes ≡ known opcodes.Nothing
        by_term (inl is) = e ∙ ap known is
        by_term (inr h) = absurd (none o h)

pub begins_first : (bytes : List ℕ) (o : Opcode) → BeginsWith o bytes → first_opcode bytes ≡ known o
begins_first bytes opcodes.Nothing h = none_first bytes h
begins_first bytes o h = term_first o bytes h

-- .. and read
pub opcode_found : (end : ℕ) (bytes : List ℕ) (o : Opcode) → BeginsWith o bytes → (rest : List ℕ) × (opcode_at end bytes ≡ Ok (o, rest))
unfolding opcode_at byte_at
opcode_found end [] o h = absurd (none_known o (begins_first [] o h))
opcode_found end (b ∷ rest) o h = by_lead (eqb b 0x5B) refl (begins_first (b ∷ rest) o h)
  where
    extended : (more : List ℕ) → extended_opcode more ≡ known o → (rest : List ℕ) × (extended_opcode_at end more ≡ Ok (o, rest))
    extended [] e = absurd (none_known o e)
    extended (c ∷ more) e = (more, ap (λ (o : Opcode). Ok (o, more)) (known_is (extended_opcode_of c) o e))

    by_lead : (t : Bool) → eqb b 0x5B ≡ t → cond t (extended_opcode rest) (known (plain_opcode_of b)) ≡ known o → (more : List ℕ) × (opcode_at end (b ∷ rest) ≡ Ok (o, more))
    by_lead true d e = let r = extended rest e in (r.0, rw d r.1)
    by_lead false d e = (rest, rw d (ap (λ (o : Opcode). Ok (o, rest)) (known_is (plain_opcode_of b) o e)))

pub some_begin : (bytes : List ℕ) (o : Opcode) → BeginsWith o bytes → 0 < length bytes
some_begin [] o h = absurd (none_known o (begins_first [] o h))
some_begin (b ∷ rest) o h = omega arith

pub finds : FindsWhatBegins
finds bytes o = (first_begins bytes o, begins_first bytes o)

pub one_begins : OneOpcodeBegins
one_begins bytes some more = by_first (first_opcode bytes) refl
  where
    by_first : (q : Option Opcode) → first_opcode bytes ≡ q → (o : Opcode) × BeginsWith o bytes × ((p : Opcode) → BeginsWith p bytes → p ≡ o)
    by_first None e = absurd (by_none (first_none bytes e))
      where
        by_none : (bytes ≡ []) ⊎ (bytes ≡ 0x5B ∷ []) → ⊥
        by_none (inl is) = some is
        by_none (inr is) = more is
    by_first (Some o) e = (o, first_begins bytes o e, λ p h. known_is p o (sym (begins_first bytes p h) ∙ e))

-- ---- what was read

-- this begins at the front of the bytes, and what stands behind it
pub record Opened (bytes : List ℕ) (x : Opcode × List ℕ) : Type 0 where
  pub front : List ℕ
  pub whole : bytes ≡ front ++ x.1
  pub some : 0 < length front
  pub is_opcode : (more : List ℕ) → first_opcode (bytes ++ more) ≡ Some x.0
  pub told : Told x.0 front

-- what is read is opened
pub opcode_opened : (end : ℕ) (bytes : List ℕ) → Judge (Opened bytes) (FailsOpcode end bytes) (opcode_at end bytes)
unfolding opcode_at byte_at
opcode_opened end [] = (inl refl, refl)
opcode_opened end (b ∷ rest) =
    judge_if (Opened (b ∷ rest)) (FailsOpcode end (b ∷ rest)) (eqb b 0x5B) (extended_opcode_at end rest) (Ok (plain_opcode_of b, rest)) (extended_case rest)
    (λ plain. record { front = b ∷ []; whole = refl; some = omega arith; is_opcode = λ more. rw plain refl; told = plain_told b })
  where
    extended_case : (r : List ℕ) → eqb b 0x5B ≡ true → Judge (Opened (b ∷ r)) (FailsOpcode end (b ∷ r)) (extended_opcode_at end r)
    extended_case [] e = (inr (rw (eqb-true b 0x5B e) refl), refl)
    extended_case (c ∷ r) e =
        let is = eqb-true b 0x5B e in
        record { front = 0x5B ∷ c ∷ []; whole = rw is refl; some = omega arith; is_opcode = λ more. rw is refl; told = extended_told c }
