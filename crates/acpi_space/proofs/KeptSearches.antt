-- A search that a larger set of defined paths leaves as it was.
use Rattle.std.proofs.Common.{◌≡◌, Bool, true, false, cond, List, [], ◌∷◌, find, Some, inl, inr, refl, ap, ◌∙◌}
use Rattle.std.specs.List.{AllByRecursion}
use Rattle.acpi_name.specs.Names.{Segment}
use Rattle.acpi_space.specs.Laws.{Among}
use Rattle.acpi_space.specs.Search.{skipped}

kept_at : {A X : Type 0} (small large : A → Bool) (p : A) (hit no_small no_large : X) (rest : List A) → (small p ≡ true → large p ≡ true)
    → AllByRecursion (λ q. large q ≡ false) (cond (small p) [] (p ∷ rest)) → (AllByRecursion (λ q. large q ≡ false) rest → no_large ≡ no_small)
    → cond (large p) hit no_large ≡ cond (small p) hit no_small
kept_at {A} {X} small large p hit no_small no_large rest up free ih = by (small p) refl free
  where
    by : (b : Bool) → small p ≡ b → AllByRecursion (λ q. large q ≡ false) (cond b [] (p ∷ rest)) → cond (large p) hit no_large ≡ cond b hit no_small
    by true e free = ap (λ b. cond b hit no_large) (up e)
    by false e free = ap (λ b. cond b hit no_large) free.0 ∙ ih free.1

pub kept_find : {A : Type 0} (small large : A → Bool) → ((p : A) → small p ≡ true → large p ≡ true) → (l : List A)
    → AllByRecursion (λ p. large p ≡ false) (skipped small l) → find large l ≡ find small l
kept_find small large up [] free = refl
kept_find small large up (p ∷ l) free = kept_at small large p (Some p) (find small l) (find large l) (skipped small l) (up p) free (kept_find small large up l)

pub kept_skipped : {A : Type 0} (small large : A → Bool) → ((p : A) → small p ≡ true → large p ≡ true) → (l : List A)
    → AllByRecursion (λ p. large p ≡ false) (skipped small l) → skipped large l ≡ skipped small l
kept_skipped small large up [] free = refl
kept_skipped small large up (p ∷ l) free = kept_at small large p [] (p ∷ skipped small l) (p ∷ skipped large l) (skipped small l) (up p) free
    (λ f. ap (λ r. p ∷ r) (kept_skipped small large up l f))

pub fewer_skipped : (small large : List Segment → Bool) → ((p : List Segment) → small p ≡ true → large p ≡ true)
    → (l : List (List Segment)) (p : List Segment) → Among (skipped large l) p → Among (skipped small l) p
fewer_skipped small large up [] p m = m
fewer_skipped small large up (x ∷ l) p m = by (small x) (large x) refl refl m (fewer_skipped small large up l p)
  where
    by : (a b : Bool) → small x ≡ a → large x ≡ b → Among (cond b [] (x ∷ skipped large l)) p → (Among (skipped large l) p → Among (skipped small l) p)
        → Among (cond a [] (x ∷ skipped small l)) p
    by a true e f m ih = absurd m
    by true false e f m ih = let g : large x ≡ true = up x e in absurd cc
    by false false e f (inl is) ih = inl is
    by false false e f (inr m) ih = inr (ih m)
