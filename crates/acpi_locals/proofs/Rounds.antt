-- Rounds, step by step.
use Rattle.std.proofs.Common.{◌≡◌, ◌≢◌, ◌⊎◌, ◌↔◌, ◌<◌, ◌≤◌, ◌+◌, ◌&&◌, ◌||◌, ◌∙◌, ℕ, zero, suc, Bool, true, false, cond, not, IsTrue, List, [], ◌∷◌, length, inl, inr, refl, sym, ap, subst, arith, get_or, set, get_or-set_same, get_or-set_other, length-set}
use Rattle.std.specs.List.{list_any}
use Rattle.acpi_space.specs.Laws.{Among}
use Rattle.acpi_locals.specs.Leading.{LeadsBy, LeadsTo}
use Rattle.acpi_locals.specs.steps.Rounds.{is_marked, any_marked, unmarked, is_next, IsRound, IsSpread}

pub some_marked : (marks : List Bool) (ns : List ℕ) → any_marked marks ns ≡ true → (m : ℕ) × Among ns m × (is_marked marks m ≡ true)
some_marked marks [] is = absurd cc
some_marked marks (n ∷ ns) is = by (is_marked marks n) refl is (some_marked marks ns)
  where
    by : (b : Bool) → is_marked marks n ≡ b → (b || any_marked marks ns) ≡ true → (any_marked marks ns ≡ true → (m : ℕ) × Among ns m × (is_marked marks m ≡ true))
        → (m : ℕ) × Among (n ∷ ns) m × (is_marked marks m ≡ true)
    by true here is more = (n, inl refl, here)
    by false here is more = let r = more is in (r.0, inr r.1, r.2)

pub any_is : (marks : List Bool) (ns : List ℕ) (m : ℕ) → Among ns m → is_marked marks m ≡ true → any_marked marks ns ≡ true
any_is marks [] m among is = absurd among
any_is marks (n ∷ ns) m (inl same) is = rw (ap (is_marked marks) same ∙ is) refl
any_is marks (n ∷ ns) m (inr more) is = by (is_marked marks n) (any_is marks ns m more is)
  where
    by : (b : Bool) → any_marked marks ns ≡ true → (b || any_marked marks ns) ≡ true
    by true h = refl
    by false h = h

unmarked_set : (marks : List Bool) (n : ℕ) → n < length marks → is_marked marks n ≡ false → unmarked (set marks n true) < unmarked marks
unmarked_set [] n lt is = absurd (omega arith)
unmarked_set (true ∷ bs) zero lt is = absurd cc
unmarked_set (false ∷ bs) zero lt is = omega arith
unmarked_set (true ∷ bs) (suc n) lt is = let less : n < length bs = omega arith in unmarked_set bs n less is
unmarked_set (false ∷ bs) (suc n) lt is =
    let less : n < length bs = omega arith in
    let h : unmarked (set bs n true) < unmarked bs = unmarked_set bs n less is in
    omega arith

pub round_begins : (next : ℕ → List ℕ) (old : List Bool) → IsRound next old 0 old false
round_begins next old = record {
  size = refl;
  sound = λ n is. ([], is);
  kept = λ n is. is;
  fewer = λ is. absurd cc;
  same = λ is. refl;
  closed = λ is n lt. absurd (omega arith);
}

marked_same : (marks : List Bool) (n : ℕ) → n < length marks → is_marked (set marks n true) n ≡ true
marked_same marks n lt = rw get_or-set_same refl

marked_other : (marks : List Bool) (n m : ℕ) → m ≢ n → is_marked (set marks n true) m ≡ is_marked marks m
marked_other marks n m ne = rw get_or-set_other refl

-- a number that leads to a marked one leads to a mark
leads_on : (next : ℕ → List ℕ) (old marks : List Bool) (n : ℕ) → ((m : ℕ) → IsTrue (is_marked marks m) → LeadsTo next (is_marked old) m) → any_marked marks (next n) ≡ true → LeadsTo next (is_marked old) n
leads_on next old marks n sound is =
    let some = some_marked marks (next n) is in
    let behind : LeadsTo next (is_marked old) some.0 = sound some.0 some.2 in
    (some.0 ∷ behind.0, (some.1, behind.1))

is_next_parts : (a b : Bool) → (a && not b) ≡ true → (a ≡ true) × (b ≡ false)
is_next_parts true false is = (refl, refl)
is_next_parts true true is = absurd cc
is_next_parts false b is = absurd cc

compare_numbers : (m n : ℕ) → (m ≡ n) ⊎ (m ≢ n)
compare_numbers zero zero = inl refl
compare_numbers zero (suc n) = inr (λ e. absurd cc)
compare_numbers (suc m) zero = inr (λ e. absurd cc)
compare_numbers (suc m) (suc n) = elim (compare_numbers m n) [ inl e ↦ inl (ap (λ k. suc k) e) | inr ne ↦ inr (λ e. ne cc) ]

pub compare : (m n : ℕ) → (m < n) ⊎ (n ≤ m)
compare m zero = inr (omega arith)
compare zero (suc n) = inl (omega arith)
compare (suc m) (suc n) = elim (compare m n) [ inl lt ↦ inl (omega arith) | inr le ↦ inr (omega arith) ]

pub round_marks : (next : ℕ → List ℕ) (old : List Bool) (below : ℕ) (marks : List Bool) (changed : Bool) → IsRound next old below marks changed → below < length old → is_next next marks below ≡ true
    → IsRound next old (below + 1) (set marks below true) true
round_marks next old below marks changed r in_old is = record {
  size = length-set marks below true ∙ r.size;
  sound = λ n here. elim (compare_numbers n below) [
    | inl e ↦ leads_on next old marks n r.sound (ap (λ k. any_marked marks (next k)) e ∙ parts.0)
    | inr ne ↦ r.sound n (sym (marked_other marks below n ne) ∙ here)
  ];
  kept = λ n here. elim (compare_numbers n below) [
    | inl e ↦ ap (is_marked (set marks below true)) e ∙ marked_same marks below lt
    | inr ne ↦ marked_other marks below n ne ∙ r.kept n here
  ];
  fewer = λ _. by changed r.fewer r.same;
  same = λ shut. absurd cc;
  closed = λ shut. absurd cc;
}
  where
    lt : below < length marks
    lt = let size : length marks ≡ length old = r.size in omega arith

    parts : (any_marked marks (next below) ≡ true) × (is_marked marks below ≡ false)
    parts = is_next_parts (any_marked marks (next below)) (is_marked marks below) is

    fewer_now : unmarked (set marks below true) < unmarked marks
    fewer_now = unmarked_set marks below lt parts.1

    by : (b : Bool) → (b ≡ true → unmarked marks < unmarked old) → (b ≡ false → marks ≡ old) → unmarked (set marks below true) < unmarked old
    by true fewer same = let h : unmarked marks < unmarked old = fewer refl in let k : unmarked (set marks below true) < unmarked marks = fewer_now in omega arith
    by false fewer same = let h : unmarked marks ≡ unmarked old = ap unmarked (same refl) in let k : unmarked (set marks below true) < unmarked marks = fewer_now in omega arith

pub round_passes : (next : ℕ → List ℕ) (old : List Bool) (below : ℕ) (marks : List Bool) (changed : Bool) → IsRound next old below marks changed → is_next next marks below ≡ false
    → IsRound next old (below + 1) marks changed
round_passes next old below marks changed r is = record {
  size = r.size;
  sound = r.sound;
  kept = r.kept;
  fewer = r.fewer;
  same = r.same;
  closed = λ shut n lt. elim (compare_numbers n below) [
    | inl e ↦ ap (λ k. is_next next old k) e ∙ ap (λ (ms : List Bool). is_next next ms below) (sym (r.same shut)) ∙ is
    | inr ne ↦ let less : n < below = omega arith in r.closed shut n less
  ];
}

-- ---- all rounds

-- marks that came of others by rounds
pub chain_marked : (next : ℕ → List ℕ) (old marks : List Bool) → ((n : ℕ) → IsTrue (is_marked old n) → IsTrue (is_marked marks n)) → ((n : ℕ) → is_next next marks n ≡ false)
    → (ms : List ℕ) (n : ℕ) → LeadsBy next (is_marked old) ms n → is_marked marks n ≡ true
chain_marked next old marks kept closed [] n by = kept n by
chain_marked next old marks kept closed (m ∷ ms) n by =
    let inner : is_marked marks m ≡ true = chain_marked next old marks kept closed ms m by.1 in
    decided (any_marked marks (next n)) (is_marked marks n) (any_is marks (next n) m by.0 inner) (closed n)
  where
    decided : (a b : Bool) → a ≡ true → (a && not b) ≡ false → b ≡ true
    decided true true is shut = refl
    decided true false is shut = absurd cc
    decided false true is shut = refl
    decided false false is shut = absurd cc

join : (next : ℕ → List ℕ) (old marks : List Bool) → ((m : ℕ) → IsTrue (is_marked marks m) → LeadsTo next (is_marked old) m) → (ms : List ℕ) (n : ℕ) → LeadsBy next (is_marked marks) ms n → LeadsTo next (is_marked old) n
join next old marks sound [] n by = sound n by
join next old marks sound (m ∷ ms) n by = let r = join next old marks sound ms m by.1 in (m ∷ r.0, (by.0, r.1))

pub spread_on : (next : ℕ → List ℕ) (old marks new : List Bool) (below : ℕ) (changed : Bool) → IsSpread next old marks → IsRound next marks below new changed → IsSpread next old new
spread_on next old marks new below changed s r = record {
  size = r.size ∙ s.size;
  sound = λ n here. let by = r.sound n here in join next old marks s.sound by.0 n by.1;
  kept = λ n here. r.kept n (s.kept n here);
}

pub all_spread : (next : ℕ → List ℕ) (old marks new : List Bool) (changed : Bool) → ((n : ℕ) → length old ≤ n → next n ≡ []) → IsSpread next old marks → IsRound next marks (length marks) new changed → changed ≡ false
    → (n : ℕ) → IsTrue (is_marked new n) ↔ LeadsTo next (is_marked old) n
all_spread next old marks new changed none s r shut n =
    subst (λ (ms : List Bool). IsTrue (is_marked ms n) ↔ LeadsTo next (is_marked old) n) (sym (r.same shut)) (s.sound n, λ by. chain_marked next old marks s.kept closed by.0 n by.1)
  where
    beyond : (k : ℕ) → next k ≡ [] → is_next next marks k ≡ false
    beyond k e = ap (λ (ns : List ℕ). any_marked marks ns && not (is_marked marks k)) e

    closed : (k : ℕ) → is_next next marks k ≡ false
    closed k = elim (compare k (length marks)) [ inl lt ↦ r.closed shut k lt | inr le ↦ beyond k (none k (let size : length marks ≡ length old = s.size in omega arith)) ]

pub round_is : (next : ℕ → List ℕ) (old : List Bool) (below : ℕ) (marks other : List Bool) (changed b : Bool) → marks ≡ other → changed ≡ b → IsRound next old below other b → IsRound next old below marks changed
round_is next old below marks other changed b same is r =
    subst (λ (ms : List Bool). IsRound next old below ms changed) (sym same) (subst (λ (b : Bool). IsRound next old below other b) (sym is) r)
