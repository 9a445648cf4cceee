-- Reading one after the other to the end of the bytes.
use Rattle.std.proofs.Common.{◌≡◌, ℕ, zero, suc, ◌-◌, ◌+◌, ◌≤◌, ◌<◌, List, [], ◌∷◌, ◌++◌, length, Result, Ok, Err, refl, sym, ap, ◌∙◌, append_assoc, arith}
use Rattle.std.proofs.lemmas.List.{append-nil, length-append}
use Rattle.acpi_code.specs.Spelling.{SpellsEach}
use Rattle.acpi_code.specs.steps.Remaining.{Remaining, Advances}
use Rattle.acpi_code.specs.steps.Reading.{◌>>=◌, Reading, each_with, each_at}
use Rattle.acpi_code.proofs.Readings.{Judge, judge_bind, Front}

-- ---- as a loop does

-- what was read before, and what is still read
abbrev pub with_front : {A F : Type 0} → List A → Result (List A) F → Result (List A) F
with_front front (Ok xs) = Ok (front ++ xs)
with_front front (Err f) = Err f

regroup : {A F : Type 0} (front : List A) (x : A) (read : Result (List A) F) → with_front front (read >>= λ xs. Ok (x ∷ xs)) ≡ with_front (front ++ x ∷ []) read
regroup front x (Ok xs) = ap Ok (simp append_assoc)
regroup front x (Err f) = refl

-- `front` was read of the bytes, and the rest follows it
pub record SoFar {A F : Type 0} (one : List ℕ → Reading F A) (bytes rest : List ℕ) (front : List A) : Type 0 where
  pub turns : ℕ
  pub enough : length rest ≤ turns
  pub within : length rest ≤ length bytes
  pub told : with_front front (each_with one turns rest) ≡ each_at one bytes

none_yet : {A F : Type 0} (r : Result (List A) F) → with_front [] r ≡ r
none_yet (Ok x) = refl
none_yet (Err f) = refl

pub starts : {A F : Type 0} (one : List ℕ → Reading F A) (bytes : List ℕ) → SoFar one bytes bytes []
starts one bytes = record { turns = length bytes; enough = omega arith; within = omega arith; told = none_yet (each_at one bytes) }

turn : {A F : Type 0} (one : List ℕ → Reading F A) (n : ℕ) (rest : List ℕ) → length rest ≤ n → 0 < length rest
    → each_with one n rest ≡ (one rest >>= λ x. each_with one (n - 1) x.1 >>= λ xs. Ok (x.0 ∷ xs))
unfolding each_with
turn one zero [] le h = absurd (omega arith)
turn one zero (b ∷ rest) le h = absurd (omega arith)
turn one (suc n) [] le h = absurd (omega arith)
turn one (suc n) (b ∷ rest) le h = let e : suc n - 1 ≡ n = omega arith in rw e refl

pub goes_on : {A F : Type 0} (one : List ℕ → Reading F A) (bytes rest after : List ℕ) (front : List A) (x : A) → 0 < length rest → one rest ≡ Ok (x, after) → length after < length rest
    → SoFar one bytes rest front → SoFar one bytes after (front ++ x ∷ [])
goes_on one bytes rest after front x h read less so =
    let t = turn one so.turns rest so.enough h in
    let now : each_with one so.turns rest ≡ (each_with one (so.turns - 1) after >>= λ xs. Ok (x ∷ xs)) = t ∙ rw read refl in
    record {
      turns = so.turns - 1;
      enough = omega (arith, so.enough);
      within = omega (arith, so.within);
      told = sym (regroup front x (each_with one (so.turns - 1) after)) ∙ ap (with_front front) (sym now) ∙ so.told;
    }

pub ends : {A F : Type 0} (one : List ℕ → Reading F A) (bytes rest : List ℕ) (front : List A) (f : F) → 0 < length rest → one rest ≡ Err f → SoFar one bytes rest front → each_at one bytes ≡ Err f
ends one bytes rest front f h fails so =
    let t = turn one so.turns rest so.enough h in
    let now : each_with one so.turns rest ≡ Err f = t ∙ rw fails refl in
    sym so.told ∙ rw now refl

at_end : {A F : Type 0} (one : List ℕ → Reading F A) (n : ℕ) (rest : List ℕ) → length rest ≡ 0 → each_with one n rest ≡ Ok []
unfolding each_with
at_end one zero rest h = refl
at_end one (suc n) [] h = refl
at_end one (suc n) (b ∷ rest) h = absurd (omega arith)

pub is_done : {A F : Type 0} (one : List ℕ → Reading F A) (bytes rest : List ℕ) (front : List A) → length rest ≡ 0 → SoFar one bytes rest front → each_at one bytes ≡ Ok front
is_done one bytes rest front h so = sym so.told ∙ rw (at_end one so.turns rest h) (ap Ok (append-nil front))

-- a fault goes on through what would follow
pub fails_on : {A B F : Type 0} (f : F) (r : Result A F) (g : A → Result B F) → r ≡ Err f → (r >>= g) ≡ Err f
fails_on f r g fails = rw fails refl

-- what was read goes on into what follows
pub reads_on : {A B F : Type 0} (r : Result A F) (x : A) (f : A → Result B F) → r ≡ Ok x → (r >>= f) ≡ f x
reads_on r x f is = rw is refl

-- ---- the same, of what is left of a list

-- `front` was read of what was left at first, and what is left now follows it
pub record Turns {A F : Type 0} (one : ℕ → List ℕ → Reading F A) (first now : Remaining) (front : List A) : Type 0 where
  pub same_end : now.end ≡ first.end
  pub so_far : SoFar (one first.end) first.bytes now.bytes front

pub begun : {A F : Type 0} (one : ℕ → List ℕ → Reading F A) (first : Remaining) → Turns one first first []
begun one first = record { same_end = refl; so_far = starts (one first.end) first.bytes }

pub turned : {A F : Type 0} (one : ℕ → List ℕ → Reading F A) (first now after : Remaining) (front : List A) (x : A) → 0 < length now.bytes
    → one now.end now.bytes ≡ Ok (x, after.bytes) → Advances now after → Turns one first now front → Turns one first after (front ++ x ∷ [])
turned one first now after front x some read on so =
    let same : one first.end now.bytes ≡ Ok (x, after.bytes) = rw (sym so.same_end) read in
    record {
      same_end = on.same_end ∙ so.same_end;
      so_far = goes_on (one first.end) first.bytes now.bytes after.bytes front x some same on.less so.so_far;
    }

pub stopped : {A F : Type 0} (one : ℕ → List ℕ → Reading F A) (first now : Remaining) (front : List A) (f : F) → 0 < length now.bytes
    → one now.end now.bytes ≡ Err f → Turns one first now front → each_at (one first.end) first.bytes ≡ Err f
stopped one first now front f some fails so =
    let same : one first.end now.bytes ≡ Err f = rw (sym so.same_end) fails in
    ends (one first.end) first.bytes now.bytes front f some same so.so_far

pub all_turned : {A F : Type 0} (one : ℕ → List ℕ → Reading F A) (first now : Remaining) (front : List A) → length now.bytes ≡ 0
    → Turns one first now front → each_at (one first.end) first.bytes ≡ Ok front
all_turned one first now front none so = is_done (one first.end) first.bytes now.bytes front none so.so_far

-- ---- what is spelled is read

-- what they are, however many turns more are left
abbrev pub AreAll : {A F : Type 0} → (List ℕ → Reading F A) → List ℕ → List A → Type 0
AreAll one bytes xs = (n : ℕ) → length bytes ≤ n → each_with one n bytes ≡ Ok xs

pub none_left : {A F : Type 0} (one : List ℕ → Reading F A) (bytes : List ℕ) → bytes ≡ [] → AreAll one bytes []
unfolding each_with
none_left one bytes e zero le = refl
none_left one bytes e (suc n) le = rw e refl

pub one_more : {A F : Type 0} (one : List ℕ → Reading F A) (a b : List ℕ) (x : A) (xs : List A) → 0 < length a → one (a ++ b) ≡ Ok (x, b) → AreAll one b xs → AreAll one (a ++ b) (x ∷ xs)
unfolding each_with
one_more one [] b x xs long h all n le = absurd (omega arith)
one_more one (c ∷ a) b x xs long h all zero le = absurd (omega arith)
one_more one (c ∷ a) b x xs long h all (suc n) le = rw (h, all n (omega (arith, length-append a b))) refl

-- the same, of a list that is spelled
pub each_complete : {A F : Type 0} (Spells : A → List ℕ → Type 0) (one : List ℕ → Reading F A) → ((x : A) (a : List ℕ) → Spells x a → 0 < length a)
    → ((x : A) (a rest : List ℕ) → Spells x a → one (a ++ rest) ≡ Ok (x, rest)) → (xs : List A) (bytes : List ℕ) → SpellsEach Spells xs bytes → AreAll one bytes xs
each_complete Spells one long again [] bytes h = none_left one bytes h
each_complete Spells one long again (x ∷ xs) bytes h =
    rw h.4 (one_more one h.0 h.1 x xs (long x h.0 h.2) (again x h.0 h.1 h.2) (each_complete Spells one long again xs h.1 h.3))

pub all_at : {A F : Type 0} (one : List ℕ → Reading F A) (bytes : List ℕ) (xs : List A) → AreAll one bytes xs → each_at one bytes ≡ Ok xs
all_at one bytes xs all = all (length bytes) (omega arith)

-- as all_at, where bytes stand after them at which the reading stops
abbrev pub StopsAt : {A F : Type 0} → (List ℕ → Reading F A) → List ℕ → F → Type 0
StopsAt one bytes f = (n : ℕ) → length bytes ≤ n → each_with one n bytes ≡ Err f

pub stops_here : {A F : Type 0} (one : List ℕ → Reading F A) (bytes : List ℕ) (f : F) → 0 < length bytes → one bytes ≡ Err f → StopsAt one bytes f
unfolding each_with
stops_here one [] f long h n le = absurd (omega arith)
stops_here one (b ∷ bytes) f long h zero le = absurd (omega arith)
stops_here one (b ∷ bytes) f long h (suc n) le = rw h refl

pub stops_behind : {A F : Type 0} (one : List ℕ → Reading F A) (a b : List ℕ) (x : A) (f : F) → 0 < length a → one (a ++ b) ≡ Ok (x, b) → StopsAt one b f → StopsAt one (a ++ b) f
unfolding each_with
stops_behind one [] b x f long h stops n le = absurd (omega arith)
stops_behind one (c ∷ a) b x f long h stops zero le = absurd (omega arith)
stops_behind one (c ∷ a) b x f long h stops (suc n) le = rw (h, stops n (omega (arith, length-append a b))) refl

-- one more behind them
pub each_snoc : {A : Type 0} (Spells : A → List ℕ → Type 0) (xs : List A) (a : List ℕ) (x : A) (b : List ℕ) → SpellsEach Spells xs a → Spells x b → SpellsEach Spells (xs ++ x ∷ []) (a ++ b)
each_snoc Spells [] a x b h k = (b, [], k, refl, rw h (sym (append-nil b)))
each_snoc Spells (y ∷ ys) a x b h k = (h.0, h.1 ++ b, h.2, each_snoc Spells ys h.1 x b h.3 k, ap (λ (l : List ℕ). l ++ b) h.4 ∙ append_assoc h.0 h.1 b)

-- ---- what is read is spelled, or its fault is true

-- One after another to the end of the bytes. `Where` holds of what is left before each, and behind it.
pub each_sound : {A F : Type 0} (Where : List ℕ → Type 0) (Spells : A → List ℕ → Type 0) (Bad : F → Type 0) (one : List ℕ → Reading F A) → ((x : A) (a : List ℕ) → Spells x a → 0 < length a)
    → ((bytes : List ℕ) → Where bytes → Judge (λ x. Front Spells bytes x × Where x.1) Bad (one bytes))
    → (n : ℕ) (bytes : List ℕ) → length bytes ≤ n → Where bytes → Judge (λ xs. SpellsEach Spells xs bytes) Bad (each_with one n bytes)
unfolding each_with
each_sound Where Spells Bad one long judged zero [] le h = refl
each_sound Where Spells Bad one long judged zero (b ∷ rest) le h = absurd (omega arith)
each_sound Where Spells Bad one long judged (suc n) [] le h = refl
each_sound {A} Where Spells Bad one long judged (suc n) (b ∷ rest) le h =
    let G : List A → Type 0 = λ xs. SpellsEach Spells xs (b ∷ rest) in
    judge_bind (λ x. Front Spells (b ∷ rest) x × Where x.1) G Bad (one (b ∷ rest)) _ (judged (b ∷ rest) h) (λ x p.
    let t = p.0 in
    let some = long x.0 t.front t.spells in
    let sizes : suc (length rest) ≡ length t.front + length x.1 = ap length t.whole ∙ length-append t.front x.1 in
    judge_bind (λ xs. SpellsEach Spells xs x.1) G Bad (each_with one n x.1) _
    (each_sound Where Spells Bad one long judged n x.1 (omega arith) p.1) (λ xs q. (t.front, x.1, t.spells, q, t.whole)))
