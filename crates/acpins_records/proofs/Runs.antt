-- Runs of objects below one, step by step.
use Rattle.std.proofs.Common.{◌≡◌, ◌≢◌, ℕ, ◌+◌, ◌<◌, ◌≤◌, ◌-◌, List, [], ◌∷◌, ◌++◌, length, take, drop, get_or, slice_get, Some, ◌∙◌, ap, sym, subst, refl, arith, inl, inr, take-append-drop, length-drop, set, get_or-set_other, get_or-set_same}
use Rattle.std.proofs.lemmas.Bool.{cases_lt}
use Rattle.acpi_name.specs.Names.{Segment}
use Rattle.acpi_name.specs.Paths.{parent_of}
use Rattle.acpi_body.proofs.SpelledNames.{take_front}
use Rattle.acpins_records.specs.Tree.{IsBelow, IsParent, IsPlaceOf, none, path_round}
use Rattle.acpins_records.specs.steps.Runs.{RunTo, RunsTo}
use Rattle.acpins_records.proofs.Prefixes.{below_below, one_there, within_list}

-- no place is behind all of them
pub none_read : (paths : List (List Segment)) (k : ℕ) (p : List Segment) → length paths ≤ k → slice_get paths k ≡ Some p → ⊥
none_read paths k p past there = let less = within_list paths k p there in absurd (omega arith)

-- the objects directly behind a place, of which there is none yet
pub run_begins : (paths : List (List Segment)) (k : ℕ) → k < length paths → RunTo paths k (k + 1)
run_begins paths k within = record { within = (omega arith, omega arith); below = λ i p q this that low high. absurd (omega arith) }

-- an object below, and those below that one
pub run_goes_on : (paths : List (List Segment)) (k next more : ℕ) (p x : List Segment)
    → RunTo paths k next → slice_get paths k ≡ Some p → slice_get paths next ≡ Some x → IsBelow p x → RunsTo paths next more → RunTo paths k more
run_goes_on paths k next more p x run this there is further = record {
  within = (omega (arith, run.within.0, further.run.within.0), further.run.within.1);
  below = λ i p' q at that low high. elim (cases_lt i next) [
    | inl lt ↦ run.below i p' q at that low lt
    | inr le ↦
        let above : p ≡ p' = one_there p p' (slice_get paths k) this at in
        elim (cases_lt next i) [
          | inl lt ↦ below_below p' x q (subst (λ r. IsBelow r x) above is) (further.run.below i x q there that lt high)
          | inr ge ↦
              let same : next ≡ i = omega arith in
              let alike : x ≡ q = one_there x q (slice_get paths i) (subst (λ m. slice_get paths m ≡ Some x) same there) that in
              subst (λ r. IsBelow r q) above (subst (λ r. IsBelow p r) alike is)
        ]
  ];
}

-- .. up to an object that isn't below, or to the end
pub run_ends_at : (paths : List (List Segment)) (k next : ℕ) (p : List Segment) → RunTo paths k next → slice_get paths k ≡ Some p
    → ((x : List Segment) → slice_get paths next ≡ Some x → IsBelow p x → ⊥) → RunsTo paths k next
run_ends_at paths k next p run this none = record {
  run = run;
  next = λ p' q at that is. none q that (subst (λ r. IsBelow r q) (sym (one_there p p' (slice_get paths k) this at)) is);
}

-- whether a path begins with another
pub begins_with : (above p front : List Segment) → front ≡ take (length above) p → length above < length p → front ≡ above → IsBelow above p
begins_with above p front is more same = (
  drop (length above) p,
  sym (take-append-drop (length above) p) ∙ ap (λ l. l ++ drop (length above) p) (sym is ∙ same),
  λ none. absurd (omega (arith, length-drop (length above) p, ap length none)),
)

pub front_of_below : (above p : List Segment) → IsBelow above p → take (length above) p ≡ above
front_of_below above p (rest, split, some) = ap (take (length above)) split ∙ take_front above rest

-- ---- parents

parent_kept : (above : List Segment) (x : Segment) → parent_of (above ++ x ∷ []) ≡ above
parent_kept [] x = refl
parent_kept (y ∷ []) x = refl
parent_kept (y ∷ z ∷ above) x = ap (λ l. y ∷ l) (parent_kept (z ∷ above) x)

round_kept : (above : List Segment) (x : Segment) → path_round (above ++ x ∷ []) ≡ Some above
round_kept [] x = refl
round_kept (y ∷ above) x = ap Some (parent_kept (y ∷ above) x)

-- the path of place k, without its last segment, has that place
pub parent_is : (paths : List (List Segment)) (k n : ℕ) (p above : List Segment) (x : Segment) → slice_get paths k ≡ Some p → p ≡ above ++ x ∷ [] → IsPlaceOf paths (Some above) n → IsParent paths k n
parent_is paths k n p above x there is place q at =
    let same : p ≡ q = one_there p q (slice_get paths k) there at in
    subst (λ o. IsPlaceOf paths o n) (sym (ap path_round (sym same ∙ is) ∙ round_kept above x)) place

pub root_is : (paths : List (List Segment)) (k n : ℕ) (p : List Segment) → slice_get paths k ≡ Some p → length p ≡ 0 → n ≡ none → IsParent paths k n
root_is paths k n [] there no_segment is q at =
    let same : [] ≡ q = one_there [] q (slice_get paths k) there at in subst (λ r. IsPlaceOf paths (path_round r) n) same is
root_is paths k n (x ∷ p) there no_segment is q at = absurd (omega (arith, no_segment))

-- a path with segments is the one round it and its last segment
last_segment : (x : Segment) (p : List Segment) → (y : Segment) × (x ∷ p ≡ parent_of (x ∷ p) ++ y ∷ [])
last_segment x [] = (x, refl)
last_segment x (y ∷ p) = let more = last_segment y p in (more.0, ap (λ l. x ∷ l) more.1)

-- what stands in an object is below it
pub child_below : (paths : List (List Segment)) (next n k : ℕ) (p q : List Segment) → IsParent paths next n → n ≡ k → k < none → slice_get paths k ≡ Some p → slice_get paths next ≡ Some q
    → IsBelow p q
child_below paths next n k p q parent is small this that = by q (subst (λ m. IsPlaceOf paths (path_round q) m) is (parent q that))
  where
    by : (q : List Segment) → IsPlaceOf paths (path_round q) k → IsBelow p q
    by [] place = absurd (omega (arith, place, small))
    by (x ∷ q) place =
        let last = last_segment x q in
        elim place [
          | inl at ↦
              let same : parent_of (x ∷ q) ≡ p = one_there (parent_of (x ∷ q)) p (slice_get paths k) at this in
              (last.0 ∷ [], last.1 ∙ ap (λ l. l ++ last.0 ∷ []) same, λ bad. cc)
          | inr missing ↦ absurd (omega (arith, missing.0, small))
        ]

-- ---- numbers of all places, one by one

-- what holds of the numbers of later places, and of one
pub later_more : (P : ℕ → ℕ → Type 0) (ns : List ℕ) (k n count : ℕ) → 0 < k → k ≤ count → length ns ≡ count → ((j : ℕ) → k ≤ j → j < count → P j (get_or ns j 0)) → P (k - 1) n
    → (j : ℕ) → k - 1 ≤ j → j < count → P j (get_or (set ns (k - 1) n) j 0)
later_more P ns k n count some within room later here j low high =
    elim (cases_lt (k - 1) j) [
      | inl lt ↦ let ne : j ≢ k - 1 = omega arith in rw get_or-set_other (later j (omega arith) high)
      | inr ge ↦ go ns (k - 1) n j (omega arith) (omega arith) here
    ]
  where
    go : (ns : List ℕ) (i n j : ℕ) → j ≡ i → i < length ns → P i n → P j (get_or (set ns i n) j 0)
    go ns i n j same lt here = subst (λ m. P m (get_or (set ns i n) m 0)) (sym same) (rw get_or-set_same here)
