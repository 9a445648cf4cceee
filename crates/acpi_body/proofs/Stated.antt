-- Reading statements one after another, as a loop does.
use Rattle.std.proofs.Common.{◌≡◌, ℕ, zero, suc, ◌-◌, ◌≤◌, ◌<◌, List, [], ◌∷◌, ◌++◌, length, Result, Ok, Err, refl, sym, ap, ◌∙◌, append_assoc, arith}
use Rattle.std.proofs.lemmas.List.{append-nil}
use Rattle.acpi_name.specs.Names.{Segment}
use Rattle.acpi_tree.specs.Terms.{TermTree, terms_of}
use Rattle.acpi_code.specs.steps.Remaining.{Remaining, Advances}
use Rattle.acpi_code.specs.steps.Reading.{◌>>=◌, Reading}
use Rattle.acpi_values.specs.declared.fault.BodyFault.{BodyFault}
use Rattle.acpi_values.specs.declared.fault.BodyError.{BodyError}
use Rattle.acpi_values.specs.declared.fault.BodyError.TheVariants as stops
use Rattle.acpi_values.specs.Arguments.{Locals}
use Rattle.acpi_body.specs.Statements.{locals_after, locals_after_all}
use Rattle.acpi_values.specs.steps.Cursor.{Fails}
use Rattle.acpi_body.specs.steps.Reading.{statements_with, statements_by}

abbrev pub with_front : {A : Type 0} → List A → Result (List A) BodyFault → Result (List A) BodyFault
with_front front (Ok xs) = Ok (front ++ xs)
with_front front (Err f) = Err f

regroup : {A : Type 0} (front : List A) (x : A) (read : Result (List A) BodyFault) → with_front front (read >>= λ xs. Ok (x ∷ xs)) ≡ with_front (front ++ x ∷ []) read
regroup front x (Ok xs) = ap Ok (simp append_assoc)
regroup front x (Err f) = refl

none_yet : {A : Type 0} (r : Result (List A) BodyFault) → with_front [] r ≡ r
none_yet (Ok x) = refl
none_yet (Err f) = refl

after_push : (s : List Segment) (locals : Locals) (front : List TermTree) (t : TermTree)
    → locals_after_all s locals (terms_of (front ++ t ∷ [])) ≡ locals_after s (locals_after_all s locals (terms_of front)) t
after_push s locals [] t = refl
after_push s locals (x ∷ front) t = after_push s (locals_after s locals x) front t

-- a reader of a statement behind what was declared so far
abbrev pub One : Type 0
One = Locals → ℕ → List ℕ → Reading BodyFault TermTree

-- `front` was read of what was left at first, and what is left now follows it
pub record Stated (one : One) (s : List Segment) (start : Locals) (first : Remaining) (locals : Locals) (now : Remaining) (front : List TermTree) : Type 0 where
  pub turns : ℕ
  pub same_end : now.end ≡ first.end
  pub enough : length now.bytes ≤ turns
  pub within : length now.bytes ≤ length first.bytes
  pub now_locals : locals ≡ locals_after_all s start (terms_of front)
  pub told : with_front front (statements_with (λ locals. one locals first.end) s turns locals now.bytes) ≡ statements_by (λ locals. one locals first.end) s start first.bytes

pub stated_starts : (one : One) (s : List Segment) (start : Locals) (first : Remaining) → Stated one s start first start first []
stated_starts one s start first = record {
  turns = length first.bytes;
  same_end = refl;
  enough = omega arith;
  within = omega arith;
  now_locals = refl;
  told = none_yet (statements_by (λ locals. one locals first.end) s start first.bytes);
}

turn : (one : Locals → List ℕ → Reading BodyFault TermTree) (s : List Segment) (n : ℕ) (locals : Locals) (rest : List ℕ) → length rest ≤ n
    → 0 < length rest
    → statements_with one s n locals rest ≡ (one locals rest >>= λ x. statements_with one s (n - 1) (locals_after s locals x.0) x.1 >>= λ xs. Ok (x.0 ∷ xs))
unfolding statements_with
turn one s zero locals rest le h = absurd (omega arith)
turn one s (suc n) locals [] le h = absurd (omega arith)
turn one s (suc n) locals (b ∷ rest) le h = let e : suc n - 1 ≡ n = omega arith in rw e refl

pub stated_goes_on : (one : One) (s : List Segment) (start : Locals) (first : Remaining) (locals : Locals) (now : Remaining) (front : List TermTree) (next : Locals) (after : Remaining) (x : TermTree)
    → 0 < length now.bytes → one locals now.end now.bytes ≡ Ok (x, after.bytes) → Advances now after → next ≡ locals_after s locals x
    → Stated one s start first locals now front → Stated one s start first next after (front ++ x ∷ [])
stated_goes_on one s start first locals now front next after x h read on is so =
    let one_here : Locals → List ℕ → Reading BodyFault TermTree = λ locals. one locals first.end in
    let same : one_here locals now.bytes ≡ Ok (x, after.bytes) = rw (sym so.same_end) read in
    let t = turn one_here s so.turns locals now.bytes so.enough h in
    let then : statements_with one_here s so.turns locals now.bytes ≡ (statements_with one_here s (so.turns - 1) (locals_after s locals x) after.bytes >>= λ xs. Ok (x ∷ xs)) = t ∙ rw same refl in
    record {
      turns = so.turns - 1;
      same_end = on.same_end ∙ so.same_end;
      enough = omega (arith, so.enough, on.less);
      within = omega (arith, so.within, on.less);
      now_locals = is ∙ ap (λ l. locals_after s l x) so.now_locals ∙ sym (after_push s start front x);
      told = ap (λ l. with_front (front ++ x ∷ []) (statements_with one_here s (so.turns - 1) l after.bytes)) is
          ∙ sym (regroup front x (statements_with one_here s (so.turns - 1) (locals_after s locals x) after.bytes))
          ∙ ap (with_front front) (sym then) ∙ so.told;
    }

pub stated_ends : (one : One) (s : List Segment) (start : Locals) (first : Remaining) (locals : Locals) (now : Remaining) (front : List TermTree) (e : BodyError)
    → 0 < length now.bytes → Fails e (one locals now.end now.bytes)
    → Stated one s start first locals now front → Fails e (statements_by (λ locals. one locals first.end) s start first.bytes)
stated_ends one s start first locals now front stops.Memory h fails so = tt
stated_ends one s start first locals now front (stops.Fault f) h fails so =
    let one_here : Locals → List ℕ → Reading BodyFault TermTree = λ locals. one locals first.end in
    let same : one_here locals now.bytes ≡ Err f = rw (sym so.same_end) fails in
    let t = turn one_here s so.turns locals now.bytes so.enough h in
    let then : statements_with one_here s so.turns locals now.bytes ≡ Err f = t ∙ rw same refl in
    sym so.told ∙ rw then refl

at_end : (one : Locals → List ℕ → Reading BodyFault TermTree) (s : List Segment) (n : ℕ) (locals : Locals) (rest : List ℕ) → length rest ≡ 0 → statements_with one s n locals rest ≡ Ok []
unfolding statements_with
at_end one s zero locals rest h = refl
at_end one s (suc n) locals [] h = refl
at_end one s (suc n) locals (b ∷ rest) h = absurd (omega arith)

pub stated_is_done : (one : One) (s : List Segment) (start : Locals) (first : Remaining) (locals : Locals) (now : Remaining) (front : List TermTree)
    → length now.bytes ≡ 0 → Stated one s start first locals now front → statements_by (λ locals. one locals first.end) s start first.bytes ≡ Ok front
stated_is_done one s start first locals now front h so = sym so.told ∙ rw (at_end (λ locals. one locals first.end) s so.turns locals now.bytes h) (ap Ok (append-nil front))
