-- Stops from a number on, and the ways past them.
use Rattle.std.proofs.Common.{◌≡◌, ℕ, zero, suc, ◌+◌, ◌-◌, ◌<◌, ◌≤◌, ◌||◌, Bool, true, false, cond, nat_lt, List, [], ◌∷◌, ◌++◌, map, length, drop, get_or, refl, sym, ap, ap₂, ◌∙◌, arith, append_assoc, append-nil}
use Rattle.std.specs.List.{filter}
use Rattle.std.proofs.lemmas.Bool.Decides.{nat_tests}
use Rattle.std.proofs.lemmas.List.{length-append}
use Rattle.std.proofs.Math.ListN.{drop_of_length-le}
use Rattle.std.proofs.Math.Seq.{drop-cons, get_or-append_seam}
use Rattle.acpi_conditions.specs.Entries.{Turn, past, StopAt}
use Rattle.acpi_conditions.specs.Survey.{leaves_table}
use Rattle.acpi_conditions.specs.Turns.{way_of}
use Rattle.acpi_conditions.specs.declared.turns.Way.{Way}
use Rattle.acpi_conditions.specs.declared.stops.StopAt.{StopAt as StopAtForm}
use Rattle.acpi_conditions.specs.steps.Stops.{stop_at_of, is_return, pasts, returns_from, IsWayOf, Grows}

pub next_stop : (xs : List StopAtForm) (i : ℕ) (x : StopAtForm) → i < length xs → x ≡ get_or xs i x → drop i xs ≡ x ∷ drop (i + 1) xs
next_stop xs i x h is = drop-cons xs i x h ∙ ap₂ (λ (y : StopAtForm) (n : ℕ). y ∷ drop n xs) (sym is) one_more
  where
    one_more : suc i ≡ i + 1
    one_more = omega arith

-- ---- Returns

kept_next : (from i : ℕ) (b : Bool) (x : StopAtForm) (rest : List StopAtForm) → b ≡ (nat_lt i from || is_return x) → returns_from (from - i) (x ∷ rest) ≡ cond b (x ∷ []) [] ++ returns_from (from - (i + 1)) rest
kept_next from i b x rest is = by (nat_lt i from) refl
  where
    nothing_before : (n m : ℕ) → n ≡ 0 → m ≡ 0 → (b : Bool) → b ≡ is_return x → returns_from n (x ∷ rest) ≡ cond b (x ∷ []) [] ++ returns_from m rest
    nothing_before n m e f true u = ap (λ (k : ℕ). returns_from k (x ∷ rest)) e ∙ ap (λ (d : Bool). cond d (x ∷ filter is_return rest) (filter is_return rest)) (sym u) ∙ ap (λ (k : ℕ). x ∷ returns_from k rest) (sym f)
    nothing_before n m e f false u = ap (λ (k : ℕ). returns_from k (x ∷ rest)) e ∙ ap (λ (d : Bool). cond d (x ∷ filter is_return rest) (filter is_return rest)) (sym u) ∙ ap (λ (k : ℕ). returns_from k rest) (sym f)

    by : (d : Bool) → nat_lt i from ≡ d → returns_from (from - i) (x ∷ rest) ≡ cond b (x ∷ []) [] ++ returns_from (from - (i + 1)) rest
    by true u =
        let l : i < from = grind (arith, nat_tests) in
        let n : from - i ≡ suc (from - (i + 1)) = omega arith in
        ap (λ (k : ℕ). returns_from k (x ∷ rest)) n ∙ ap (λ (d : Bool). cond d (x ∷ []) [] ++ returns_from (from - (i + 1)) rest) (sym (is ∙ ap (λ (d : Bool). d || is_return x) u))
    by false u =
        let l : from ≤ i = grind (arith, nat_tests) in
        nothing_before (from - i) (from - (i + 1)) (omega arith) (omega arith) b (is ∙ ap (λ (d : Bool). d || is_return x) u)

pub kept_more : (kept now xs whole : List StopAtForm) (from i : ℕ) (b : Bool) (x : StopAtForm) → kept ++ returns_from (from - i) (drop i xs) ≡ whole → i < length xs → x ≡ get_or xs i x → b ≡ (nat_lt i from || is_return x)
    → now ≡ kept ++ cond b (x ∷ []) [] → now ++ returns_from (from - (i + 1)) (drop (i + 1) xs) ≡ whole
kept_more kept now xs whole from i b x h l is kind push =
    ap (λ (ys : List StopAtForm). ys ++ returns_from (from - (i + 1)) (drop (i + 1) xs)) push ∙ append_assoc kept (cond b (x ∷ []) []) (returns_from (from - (i + 1)) (drop (i + 1) xs))
    ∙ ap (λ (ys : List StopAtForm). kept ++ ys) (sym (kept_next from i b x (drop (i + 1) xs) kind) ∙ ap (returns_from (from - i)) (sym (next_stop xs i x l is))) ∙ h

nothing_kept : (n : ℕ) → returns_from n [] ≡ []
nothing_kept zero = refl
nothing_kept (suc n) = refl

pub kept_all : (kept xs whole : List StopAtForm) (from i : ℕ) → kept ++ returns_from (from - i) (drop i xs) ≡ whole → length xs ≤ i → kept ≡ whole
kept_all kept xs whole from i h l = sym (ap (λ (ys : List StopAtForm). kept ++ ys) (ap (returns_from (from - i)) (drop_of_length-le xs l) ∙ nothing_kept (from - i)) ∙ append-nil kept) ∙ h

-- ---- ways

module _ (ways new : List (List Turn)) (way next : Way) (x : StopAtForm) (grown : new ≡ ways ++ (way_of ways way ++ past x.place ∷ []) ∷ []) (number : next.number ≡ length ways) where
  pub past_way : IsWayOf new next
  past_way = omega (arith, number, ap length grown, length-append ways ((way_of ways way ++ past x.place ∷ []) ∷ []))

  pub past_is : way_of new next ≡ way_of ways way ++ past x.place ∷ []
  past_is =
      ap (λ (ws : List (List Turn)). way_of ws next) grown
      ∙ ap (λ (n : ℕ). way_of (ways ++ (way_of ways way ++ past x.place ∷ []) ∷ []) (record { number = n })) number ∙ get_or-append_seam ways (way_of ways way ++ past x.place ∷ []) [] []

  pub past_grows : (old : List (List Turn)) → Grows old ways → Grows old new
  past_grows old g =
      (g.0 ++ (way_of ways way ++ past x.place ∷ []) ∷ [], grown ∙ ap (λ (ws : List (List Turn)). ws ++ (way_of ways way ++ past x.place ∷ []) ∷ []) g.1 ∙ append_assoc old g.0 ((way_of ways way ++ past x.place ∷ []) ∷ []))

  pub past_more : (whole : List Turn) (xs : List StopAtForm) (i : ℕ) → way_of ways way ++ pasts (drop i xs) ≡ whole → i < length xs → x ≡ get_or xs i x → way_of new next ++ pasts (drop (i + 1) xs) ≡ whole
  past_more whole xs i h l is =
      ap (λ (t : List Turn). t ++ pasts (drop (i + 1) xs)) past_is ∙ append_assoc (way_of ways way) (past x.place ∷ []) (pasts (drop (i + 1) xs))
      ∙ ap (λ (ys : List StopAtForm). way_of ways way ++ pasts ys) (sym (next_stop xs i x l is)) ∙ h

pub past_all : (way whole : List Turn) (xs : List StopAtForm) (i : ℕ) → way ++ pasts (drop i xs) ≡ whole → length xs ≤ i → way ≡ whole
past_all way whole xs i h l = sym (ap (λ (ys : List StopAtForm). way ++ pasts ys) (drop_of_length-le xs l) ∙ append-nil way) ∙ h

-- ---- as the survey has them

pub pasts_of : (xs : List StopAtForm) → pasts xs ≡ map (λ (s : StopAt). past s.place) (map stop_at_of xs)
pasts_of [] = refl
pasts_of (x ∷ xs) = ap (λ (l : List Turn). past x.place ∷ l) (pasts_of xs)

cond_map : (b : Bool) (x : StopAtForm) (xs : List StopAtForm) (ys : List StopAt) → map stop_at_of xs ≡ ys → map stop_at_of (cond b (x ∷ xs) xs) ≡ cond b (stop_at_of x ∷ ys) ys
cond_map true x xs ys e = ap (λ (l : List StopAt). stop_at_of x ∷ l) e
cond_map false x xs ys e = e

pub returns_of : (xs : List StopAtForm) → map stop_at_of (filter is_return xs) ≡ filter (λ (s : StopAt). leaves_table s.kind) (map stop_at_of xs)
returns_of [] = refl
returns_of (x ∷ xs) = cond_map (is_return x) x (filter is_return xs) (filter (λ (s : StopAt). leaves_table s.kind) (map stop_at_of xs)) (returns_of xs)
