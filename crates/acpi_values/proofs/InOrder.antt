-- Reading operands one after another, as a loop does.
use Rattle.std.proofs.Common.{◌≡◌, ℕ, suc, ◌-◌, ◌+◌, ◌≤◌, ◌<◌, List, [], ◌∷◌, ◌++◌, length, drop, Ok, Err, refl, sym, ap, ◌∙◌, append_assoc, arith}
use Rattle.std.proofs.lemmas.List.{append-nil, length-drop}
use Rattle.acpi_tree.specs.Terms.{TermTree}
use Rattle.acpi_tree.specs.declared.place.Place.TheVariants.{Value}
use Rattle.acpi_tree.specs.declared.place.OperandKind.{OperandKind}
use Rattle.acpi_tree.specs.declared.place.OperandKind.TheVariants.{At}
use Rattle.acpi_code.specs.steps.Remaining.{Remaining, Advances}
use Rattle.acpi_code.specs.steps.Reading.{◌>>=◌, Reading}
use Rattle.acpi_values.specs.declared.fault.BodyFault.{BodyFault}
use Rattle.acpi_values.specs.declared.fault.BodyError.{BodyError}
use Rattle.acpi_values.specs.declared.fault.BodyError.TheVariants as stops
use Rattle.acpi_values.specs.Spelling.{values}
use Rattle.acpi_values.specs.steps.Cursor.{Fails}
use Rattle.acpi_values.specs.steps.Reading.{Reader, operand_at, operands_at}

abbrev pub with_front : {A : Type 0} → List A → Reading BodyFault (List A) → Reading BodyFault (List A)
with_front front (Ok x) = Ok (front ++ x.0, x.1)
with_front front (Err f) = Err f

regroup : {A : Type 0} (front : List A) (x : A) (read : Reading BodyFault (List A)) → with_front front (read >>= λ xs. Ok (x ∷ xs.0, xs.1)) ≡ with_front (front ++ x ∷ []) read
regroup front x (Ok xs) = ap (λ l. Ok (l, xs.1)) (simp append_assoc)
regroup front x (Err f) = refl

none_yet : {A : Type 0} (r : Reading BodyFault (List A)) → with_front [] r ≡ r
none_yet (Ok x) = refl
none_yet (Err f) = refl

-- `front` was read, and operands of these kinds are still to be read of what is left
pub record Operated (inner : Reader) (all kinds : List OperandKind) (first now : Remaining) (front : List TermTree) : Type 0 where
  pub same_end : now.end ≡ first.end
  pub within : length now.bytes ≤ length first.bytes
  pub told : with_front front (operands_at inner kinds first.end now.bytes) ≡ operands_at inner all first.end first.bytes

pub operated_starts : (inner : Reader) (all : List OperandKind) (first : Remaining) → Operated inner all all first first []
operated_starts inner all first = record { same_end = refl; within = omega arith; told = none_yet (operands_at inner all first.end first.bytes) }

operand_step : (inner : Reader) (k : OperandKind) (ks : List OperandKind) (end : ℕ) (rest after : List ℕ) (front : List TermTree) (x : TermTree)
    (all : Reading BodyFault (List TermTree)) → operand_at inner k end rest ≡ Ok (x, after)
    → with_front front (operands_at inner (k ∷ ks) end rest) ≡ all → with_front (front ++ x ∷ []) (operands_at inner ks end after) ≡ all
unfolding operands_at
operand_step inner k ks end rest after front x all read told =
    let now : operands_at inner (k ∷ ks) end rest ≡ (operands_at inner ks end after >>= λ xs. Ok (x ∷ xs.0, xs.1)) = rw read refl in
    sym (regroup front x (operands_at inner ks end after)) ∙ ap (with_front front) (sym now) ∙ told

pub operated_goes_on : (inner : Reader) (all : List OperandKind) (k : OperandKind) (ks : List OperandKind) (first now after : Remaining) (front : List TermTree) (x : TermTree)
    → operand_at inner k now.end now.bytes ≡ Ok (x, after.bytes) → Advances now after → Operated inner all (k ∷ ks) first now front → Operated inner all ks first after (front ++ x ∷ [])
operated_goes_on inner all k ks first now after front x read on so =
    let same : operand_at inner k first.end now.bytes ≡ Ok (x, after.bytes) = rw (sym so.same_end) read in
    record {
      same_end = on.same_end ∙ so.same_end;
      within = omega (arith, on.less, so.within);
      told = operand_step inner k ks first.end now.bytes after.bytes front x (operands_at inner all first.end first.bytes) same so.told;
    }

operand_fails : (inner : Reader) (k : OperandKind) (ks : List OperandKind) (end : ℕ) (rest : List ℕ) (front : List TermTree)
    (all : Reading BodyFault (List TermTree)) (f : BodyFault) → operand_at inner k end rest ≡ Err f
    → with_front front (operands_at inner (k ∷ ks) end rest) ≡ all → all ≡ Err f
unfolding operands_at
operand_fails inner k ks end rest front all f read told =
    let now : operands_at inner (k ∷ ks) end rest ≡ Err f = rw read refl in sym told ∙ rw now refl

pub operated_ends : (inner : Reader) (all : List OperandKind) (k : OperandKind) (ks : List OperandKind) (first now : Remaining) (front : List TermTree) (e : BodyError)
    → Fails e (operand_at inner k now.end now.bytes) → Operated inner all (k ∷ ks) first now front → Fails e (operands_at inner all first.end first.bytes)
operated_ends inner all k ks first now front stops.Memory fails so = tt
operated_ends inner all k ks first now front (stops.Fault f) fails so =
    let same : operand_at inner k first.end now.bytes ≡ Err f = rw (sym so.same_end) fails in
    operand_fails inner k ks first.end now.bytes front (operands_at inner all first.end first.bytes) f same so.told

operands_none : (inner : Reader) (end : ℕ) (rest : List ℕ) (front : List TermTree) → with_front front (operands_at inner [] end rest) ≡ Ok (front, rest)
unfolding operands_at
operands_none inner end rest front = ap (λ l. Ok (l, rest)) (append-nil front)

pub operated_is_done : (inner : Reader) (all : List OperandKind) (first now : Remaining) (front : List TermTree) → Operated inner all [] first now front
    → operands_at inner all first.end first.bytes ≡ Ok (front, now.bytes)
operated_is_done inner all first now front so = sym so.told ∙ operands_none inner first.end now.bytes front

pub none_left_of : (kinds : List OperandKind) (n : ℕ) → length kinds ≤ n → drop n kinds ≡ []
none_left_of kinds n le = is_empty (drop n kinds) (omega (arith, length-drop n kinds))
  where
    is_empty : {A : Type 0} (xs : List A) → length xs ≡ 0 → xs ≡ []
    is_empty [] e = refl
    is_empty (x ∷ xs) e = absurd (omega (arith, e))

-- the values that are left after some
pub values_left : (count n : ℕ) → n < count → values (count - n) ≡ At Value ∷ values (count - (n + 1))
values_left count n lt = let e : count - n ≡ suc (count - (n + 1)) = omega (arith, lt) in rw e refl

pub no_values_left : (count n : ℕ) → count ≤ n → values (count - n) ≡ []
no_values_left count n le = let e : count - n ≡ 0 = omega (arith, le) in rw e refl

pub value_operand : (inner : Reader) (end : ℕ) (bytes : List ℕ) → operand_at inner (At Value) end bytes ≡ inner Value end bytes
unfolding operand_at
value_operand inner end bytes = refl
