-- Paths that begin with another, in the order of paths.
use Rattle.std.proofs.Common.{◌≡◌, ◌≢◌, ℕ, suc, zero, ◌<◌, Bool, true, false, ◌&&◌, T, List, [], ◌∷◌, ◌++◌, map, length, slice_get, Option, Some, ◌∙◌, ap, sym, subst, refl, arith, append_assoc, append-nil, inl, inr}
use Rattle.std.specs.Ordering.{is_lt, ordering_reverse, ordering_then}
use Rattle.std.specs.declared.cmp.Ordering.{Ordering}
use Rattle.std.specs.declared.cmp.Ordering.TheVariants.{Less, Equal, Greater}
use Rattle.std.specs.Cmp.{tied_itself}
use Rattle.std.specs.Cmp.Lexicographic.{nat_list_cmp_total}
use Rattle.std.specs.FinMap.{is_sorted, slice_cmp-IsAntisymmetric, nat_cmp-IsAntisymmetric}
use Rattle.std.specs.FinMap.Entries.{below_all}
use Rattle.std.proofs.lemmas.Bool.{cases_lt}
use Rattle.acpi_name.specs.Names.{Segment}
use Rattle.acpi_name.specs.Paths.{path_cmp, segment_cmp}
use Rattle.acpi_name.specs.steps.PathOrder.{path_cmp_total}
use Rattle.acpins_records.specs.Tree.{IsBelow, EndsBelow}
use Rattle.acpins_records.specs.steps.Runs.{Ascend, RunsTo}

-- ---- the order of what extends a path

not_both : (o r : Ordering) → o ≡ ordering_reverse r → o ≡ Less → r ≡ Less → ⊥
not_both o Less e h k = let bad : Greater ≡ Less = sym e ∙ h in cc
not_both o Equal e h k = cc
not_both o Greater e h k = cc

pub not_back : (p q : List Segment) → path_cmp p q ≡ Less → path_cmp q p ≡ Less → ⊥
not_back p q h k = not_both (path_cmp p q) (path_cmp q p) (path_cmp_total.antisymm p q) h k

itself : (p : List Segment) → path_cmp p p ≡ Equal
itself p = tied_itself path_cmp_total p

same_segment : (x : Segment) → segment_cmp x x ≡ Equal
same_segment x = tied_itself nat_list_cmp_total x

-- what begins with a path and goes on comes behind it
pub longer_behind : (p rest : List Segment) → rest ≢ [] → path_cmp p (p ++ rest) ≡ Less
longer_behind [] [] some = absurd (some refl)
longer_behind [] (r ∷ rest) some = refl
longer_behind (x ∷ p) rest some = ap (λ o. ordering_then o (path_cmp p (p ++ rest))) (same_segment x) ∙ longer_behind p rest some

segment_same : (x y : Segment) → segment_cmp x y ≡ Equal → x ≡ y
segment_same x y e = slice_cmp-IsAntisymmetric nat_cmp-IsAntisymmetric x y e

-- where one list is before another, and the other before a third with the first's segment, all three have that segment
split : (o r f g : Ordering) → o ≡ ordering_reverse r → ordering_then o f ≡ Less → ordering_then r g ≡ Less → (o ≡ Equal) × (f ≡ Less) × (g ≡ Less)
split Less Less f g e h k = absurd (cc)
split Less Equal f g e h k = absurd (cc)
split Less Greater f g e h k = absurd (cc)
split Equal Less f g e h k = absurd (cc)
split Equal Equal f g e h k = (refl, h, k)
split Equal Greater f g e h k = absurd (cc)
split Greater r f g e h k = absurd (cc)

-- a path between one and what begins with it begins with it
pub between : (p a rest : List Segment) → path_cmp p a ≡ Less → path_cmp a (p ++ rest) ≡ Less → (s : List Segment) × (a ≡ p ++ s)
between [] a rest h k = (a, refl)
between (x ∷ p) [] rest h k = absurd (cc)
between (x ∷ p) (y ∷ a) rest h k =
    let parts = split (segment_cmp x y) (segment_cmp y x) (path_cmp p a) (path_cmp a (p ++ rest)) (nat_list_cmp_total.antisymm x y) h k in
    let more = between p a rest parts.1 parts.2 in
    (more.0, ap (λ z. z ∷ a) (sym (segment_same x y parts.0)) ∙ ap (λ l. x ∷ l) more.1)

-- ---- sorted pairs

pub both_first : (a b : Bool) → a && b ≡ true → a ≡ true
both_first true b h = refl
both_first false b h = absurd (subst T (sym h) tt)

pub both_second : (a b : Bool) → a && b ≡ true → b ≡ true
both_second true b h = h
both_second false b h = absurd (subst T (sym h) tt)

pub less : (o : Ordering) → is_lt o ≡ true → o ≡ Less
less Less h = refl
less Equal h = absurd (subst T (sym h) tt)
less Greater h = absurd (subst T (sym h) tt)

abbrev pub paths_of : {V : Type 0} → List (List Segment × V) → List (List Segment)
paths_of pairs = map (λ e. e.0) pairs

-- the path is before all others
pub before_all : {V : Type 0} (p q : List Segment) (pairs : List (List Segment × V)) (j : ℕ) → below_all path_cmp p pairs ≡ true → slice_get (paths_of pairs) j ≡ Some q → path_cmp p q ≡ Less
before_all p q [] j h there = absurd (cc)
before_all p q (e ∷ pairs) zero h there = let same : e.0 ≡ q = cc in ap (λ r. path_cmp p r) (sym same) ∙ less (path_cmp p e.0) (both_first _ _ h)
before_all p q (e ∷ pairs) (suc j) h there = before_all p q pairs j (both_second _ _ h) there

pub ascends : {V : Type 0} (pairs : List (List Segment × V)) → is_sorted path_cmp pairs ≡ true → Ascend (paths_of pairs)
ascends [] h i j p q below this that = absurd (cc)
ascends (e ∷ pairs) h i zero p q below this that = absurd (omega arith)
ascends (e ∷ pairs) h zero (suc j) p q below this that =
    let same : e.0 ≡ p = cc in ap (λ r. path_cmp r q) (sym same) ∙ before_all e.0 q pairs j (both_first _ _ h) that
ascends (e ∷ pairs) h (suc i) (suc j) p q below this that = ascends pairs (both_second _ _ h) i j p q (omega arith) this that

-- ---- runs

nothing_before : (s t : List Segment) → s ++ t ≡ [] → s ≡ []
nothing_before [] t e = refl
nothing_before (x ∷ s) t e = absurd (cc)

-- a place within a list
pub there : {A : Type 0} (xs : List A) (i : ℕ) → i < length xs → (x : A) × (slice_get xs i ≡ Some x)
there [] i h = absurd (omega arith)
there (x ∷ xs) zero h = (x, refl)
there (x ∷ xs) (suc i) h = there xs i (omega arith)

pub within_list : {A : Type 0} (xs : List A) (i : ℕ) (x : A) → slice_get xs i ≡ Some x → i < length xs
within_list [] i x h = absurd (cc)
within_list (y ∷ xs) zero x h = omega arith
within_list (y ∷ xs) (suc i) x h = let more = within_list xs i x h in omega (arith, more)

pub one_there : {A : Type 0} (x y : A) (o : Option A) → o ≡ Some x → o ≡ Some y → x ≡ y
one_there x y o h k = cc

no_more : (p rest : List Segment) → p ≡ p ++ rest → rest ≡ []
no_more [] rest e = sym e
no_more (x ∷ p) rest e = no_more p rest (cc)

not_itself : (p : List Segment) → IsBelow p p → ⊥
not_itself p (rest, is, some) = some (no_more p rest is)

pub below_below : (p q r : List Segment) → IsBelow p q → IsBelow q r → IsBelow p r
below_below p q r (s, is, some) (t, also, more) = (s ++ t, also ∙ ap (λ l. l ++ t) is ∙ append_assoc p s t, λ none. some (nothing_before s t none))

-- what stands below a path is behind it
behind : (paths : List (List Segment)) → Ascend paths → (k i : ℕ) (p q : List Segment)
    → slice_get paths k ≡ Some p → slice_get paths i ≡ Some q → IsBelow p q → k < i
behind paths h k i p q this that (rest, is, some) =
    let less_is : path_cmp p q ≡ Less = ap (path_cmp p) is ∙ longer_behind p rest some in
    elim (cases_lt k i) [
      | inl lt ↦ lt
      | inr le ↦ elim (cases_lt i k) [
        | inl lt ↦ absurd (not_back p q less_is (h i k q p lt that this))
        | inr ge ↦
            let same : k ≡ i = omega arith in
            let alike : p ≡ q = one_there p q (slice_get paths i) (subst (λ n. slice_get paths n ≡ Some p) same this) that in
            absurd (not_itself p (rest, alike ∙ is, some))
      ]
    ]

less_at : (p a s : List Segment) → a ≡ p ++ s → s ≡ [] → path_cmp p a ≡ Less → path_cmp p p ≡ Less
less_at p a s is none h =
    let same : a ≡ p = is ∙ ap (λ l. p ++ l) none ∙ append-nil p in ap (path_cmp p) (sym same) ∙ h

-- .. and before the end of its run
within_run : (paths : List (List Segment)) → Ascend paths → (k n i : ℕ) (p q : List Segment) → RunsTo paths k n
    → slice_get paths k ≡ Some p → slice_get paths i ≡ Some q → IsBelow p q → i < n
within_run paths h k n i p q run this that (rest, is, some) =
    elim (cases_lt i n) [
      | inl lt ↦ lt
      | inr le ↦
          let at = there paths n (omega (arith, within_list paths i q that, le)) in
          elim (cases_lt n i) [
            | inl lt ↦
                let first = h k n p at.0 run.run.within.0 this at.1 in
                let second = h n i at.0 q lt at.1 that in
                let some_between = between p at.0 rest first (ap (path_cmp at.0) (sym is) ∙ second) in
                absurd (run.next p at.0 this at.1 (some_between.0, some_between.1, λ none. not_back p p (less_at p at.0 some_between.0 some_between.1 none first) (less_at p at.0 some_between.0 some_between.1 none first)))
            | inr ge ↦
                let same : n ≡ i = omega arith in
                let alike : at.0 ≡ q = one_there at.0 q (slice_get paths i) (subst (λ m. slice_get paths m ≡ Some at.0) same at.1) that in
                absurd (run.next p at.0 this at.1 (rest, alike ∙ is, some))
          ]
    ]

pub ends_below : (paths : List (List Segment)) → Ascend paths → (k n : ℕ) → RunsTo paths k n → EndsBelow paths k n
ends_below paths h k n run = record {
  within = run.run.within;
  below = λ i p q this that. (
    λ is. (behind paths h k i p q this that is, within_run paths h k n i p q run this that is),
    λ between. run.run.below i p q this that between.0 between.1,
  );
}
