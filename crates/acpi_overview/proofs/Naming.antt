-- What one more number adds to the first eight of a list without neighbours that are alike.
use Rattle.std.proofs.Common.{◌≡◌, ◌≤◌, ◌<◌, ◌⊎◌, inl, inr, ◌-◌, ℕ, List, [], ◌∷◌, ◌++◌, length, take, refl, subst, sym, ap, ◌∙◌, nat_eq, Bool, not, true, false, map, suc, arith, Option, Some, None, slice_get}
use Rattle.std.specs.List.{dedup, dedup_from}
use Rattle.std.specs.Option.{option_eq}
use Rattle.std.proofs.lemmas.Bool.{cases_Bool, cases_lt, cond-true, cond-false, eqb-true, eqb-false, not-true, not-false, true≢false}
use Rattle.std.proofs.lemmas.List.{take-append-le, take_all, length-take, length-append, map-append}
use Rattle.acpi_overview.specs.Claims.{IsNamed}
use Rattle.acpi_overview.specs.declared.claims.Claim.{Claim}
use Rattle.acpi_overview.specs.declared.claims.Cover.{Cover}

-- the last number, if there is one
abbrev last : List ℕ → Option ℕ
last [] = None
last (x ∷ []) = Some x
last (x ∷ y ∷ ys) = last (y ∷ ys)

last_is : (xs : List ℕ) → slice_get xs (length xs - 1) ≡ last xs
last_is [] = refl
last_is (x ∷ []) = refl
last_is (x ∷ y ∷ ys) = rw (sub_suc (length ys)) (rw (← sub_one (length ys)) (last_is (y ∷ ys)))
  where
    sub_suc : (n : ℕ) → suc (suc n) - 1 ≡ suc n
    sub_suc n = omega arith

    sub_one : (n : ℕ) → suc n - 1 ≡ n
    sub_one n = omega arith

-- a list and the same with one more number, unless that is the last one
abbrev More : List ℕ → List ℕ → ℕ → Type 0
More xs ys x = ((last xs ≡ Some x) × (ys ≡ xs)) ⊎ ((last xs ≡ Some x → ⊥) × (ys ≡ xs ++ x ∷ []))

begins_at : (k x : ℕ) (xs : List ℕ) → ((r : List ℕ) × (dedup_from nat_eq k xs ≡ k ∷ r))
    → (nat_eq x k ≡ true) ⊎ (nat_eq x k ≡ false) → (r : List ℕ) × (dedup_from nat_eq k (x ∷ xs) ≡ k ∷ r)
begins_at k x xs rest (inl e) = (rest.0, cond-true _ _ _ e ∙ rest.1)
begins_at k x xs rest (inr e) = (dedup_from nat_eq x xs, cond-false _ _ _ e)

begins : (k : ℕ) (xs : List ℕ) → (r : List ℕ) × (dedup_from nat_eq k xs ≡ k ∷ r)
begins k [] = ([], refl)
begins k (x ∷ xs) = begins_at k x xs (begins k xs) (cases_Bool (nat_eq x k))

more_behind : (k y : ℕ) (r xs ys : List ℕ) (x : ℕ) → xs ≡ y ∷ r → More xs ys x → More (k ∷ xs) (k ∷ ys) x
more_behind k y r xs ys x e (inl m) =
    inl (subst (λ l. last (k ∷ l) ≡ Some x) (sym e) (subst (λ l. last l ≡ Some x) e m.0), ap (λ l. k ∷ l) m.1)
more_behind k y r xs ys x e (inr m) =
    inr (λ at. m.0 (subst (λ l. last l ≡ Some x) (sym e) (subst (λ l. last (k ∷ l) ≡ Some x) e at)), ap (λ l. k ∷ l) m.1)

one_more : (k x : ℕ) → (nat_eq x k ≡ true) ⊎ (nat_eq x k ≡ false) → More (k ∷ []) (dedup_from nat_eq k (x ∷ [])) x
one_more k x (inl e) = let same : x ≡ k = eqb-true x k e in inl (ap (λ n. Some n) (sym same), cond-true _ _ _ e)
one_more k x (inr e) = inr (λ at. eqb-false x k e (let same : k ≡ x = cc in sym same), cond-false _ _ _ e)

from_step : (k y : ℕ) (xs ys : List ℕ) (x : ℕ)
    → More (dedup_from nat_eq k xs) (dedup_from nat_eq k ys) x → More (dedup_from nat_eq y xs) (dedup_from nat_eq y ys) x
    → (nat_eq y k ≡ true) ⊎ (nat_eq y k ≡ false) → More (dedup_from nat_eq k (y ∷ xs)) (dedup_from nat_eq k (y ∷ ys)) x
from_step k y xs ys x same other (inl e) = rw (
  cond-true _ (dedup_from nat_eq k xs) (k ∷ dedup_from nat_eq y xs) e,
  cond-true _ (dedup_from nat_eq k ys) (k ∷ dedup_from nat_eq y ys) e,
) same
from_step k y xs ys x same other (inr e) = rw (
  cond-false _ (dedup_from nat_eq k xs) (k ∷ dedup_from nat_eq y xs) e,
  cond-false _ (dedup_from nat_eq k ys) (k ∷ dedup_from nat_eq y ys) e,
)
    (more_behind k y (begins y xs).0 _ _ x (begins y xs).1 other)

from_more : (k : ℕ) (xs : List ℕ) (x : ℕ) → More (dedup_from nat_eq k xs) (dedup_from nat_eq k (xs ++ x ∷ [])) x
from_more k [] x = one_more k x (cases_Bool (nat_eq x k))
from_more k (y ∷ xs) x =
    from_step k y xs (xs ++ x ∷ []) x (from_more k xs x) (from_more y xs x) (cases_Bool (nat_eq y k))

dedup_more : (xs : List ℕ) (x : ℕ) → More (dedup nat_eq xs) (dedup nat_eq (xs ++ x ∷ [])) x
dedup_more [] x = inr (λ at. let no : ⊥ = cc in no, refl)
dedup_more (y ∷ xs) x = from_more y xs x

-- the same of the first eight
all_of : (xs : List ℕ) → length (take 8 xs) < 8 → (length xs < 8) × (take 8 xs ≡ xs)
all_of xs few = let short : length xs < 8 = omega (arith, length-take 8 xs) in (short, take_all 8 xs (omega arith))

is_last : (r : Option ℕ) (x : ℕ) → not (option_eq nat_eq r (Some x)) ≡ false → r ≡ Some x
is_last None x e = absurd (true≢false e)
is_last (Some a) x e = ap (λ n. Some n) (eqb-true a x (not-false _ e))

not_last : (r : Option ℕ) (x : ℕ) → not (option_eq nat_eq r (Some x)) ≡ true → r ≡ Some x → ⊥
not_last None x e at = let no : ⊥ = cc in no
not_last (Some a) x e at = eqb-false a x (not-true _ e) (let same : a ≡ x = cc in same)

new_in : (xs ys : List ℕ) (x : ℕ) → length (take 8 xs) < 8 → (last (take 8 xs) ≡ Some x → ⊥) → More xs ys x
    → take 8 xs ++ x ∷ [] ≡ take 8 ys
new_in xs ys x few other (inl m) = absurd (other (ap last (all_of xs few).1 ∙ m.0))
new_in xs ys x few other (inr m) =
    ap (λ l. l ++ x ∷ []) (all_of xs few).1 ∙ sym (ap (take 8) m.1
    ∙ take_all 8 (xs ++ x ∷ []) (let short = (all_of xs few).0 in omega (arith, length-append xs (x ∷ []))))

full_in : (xs ys : List ℕ) (x : ℕ) → 8 ≤ length (take 8 xs) → More xs ys x → take 8 xs ≡ take 8 ys
full_in xs ys x many (inl m) = ap (take 8) (sym m.1)
full_in xs ys x many (inr m) =
    sym (ap (take 8) m.1 ∙ take-append-le 8 xs (x ∷ []) (omega (arith, length-take 8 xs)))

again_in : (xs ys : List ℕ) (x : ℕ) → last (take 8 xs) ≡ Some x → More xs ys x
    → (length (take 8 xs) < 8) ⊎ (8 ≤ length (take 8 xs)) → take 8 xs ≡ take 8 ys
again_in xs ys x same m (inr many) = full_in xs ys x many m
again_in xs ys x same (inl m) (inl few) = ap (take 8) (sym m.1)
again_in xs ys x same (inr m) (inl few) = absurd (m.0 (ap last (sym (all_of xs few).1) ∙ same))

map_more : (chain : List Claim) (c : Claim) → map (λ (one : Claim). one.container) (chain ++ c ∷ [])
    ≡ map (λ (one : Claim). one.container) chain ++ c.container ∷ []
map_more chain c = map-append (λ (one : Claim). one.container) chain (c ∷ [])

-- what shows that the number is, or isn't, the last one that was named
pub last_tested : (items now : List ℕ) (copied end : Option ℕ) (x : ℕ) (b : Bool) → now ≡ items
    → end ≡ slice_get now (length now - 1) → copied ≡ end → b ≡ not (option_eq nat_eq copied (Some x))
    → not (option_eq nat_eq (slice_get items (length items - 1)) (Some x)) ≡ b
last_tested items now copied end x b p q r s = cc

-- one claim more at the end of a chain
pub named_new : (chain : List Claim) (c : Claim) (cover : Cover) → IsNamed chain cover → length cover.containers.items < 8
    → not (option_eq nat_eq (slice_get cover.containers.items (length cover.containers.items - 1)) (Some c.container)) ≡ true
    → cover.containers.items ++ c.container ∷ [] ≡ take 8 (dedup nat_eq (map (λ one. one.container) (chain ++ c ∷ [])))
named_new chain c cover named few other = rw (map_more chain c, named)
    (new_in _ _ c.container (subst (λ l. length l < 8) named few)
    (λ at. not_last _ _ other (last_is cover.containers.items ∙ ap last named ∙ at))
    (dedup_more (map (λ one. one.container) chain) c.container))

pub named_full : (chain : List Claim) (c : Claim) (cover : Cover) → IsNamed chain cover → 8 ≤ length cover.containers.items
    → cover.containers.items ≡ take 8 (dedup nat_eq (map (λ one. one.container) (chain ++ c ∷ [])))
named_full chain c cover named many = rw (map_more chain c, named)
    (full_in _ _ c.container (subst (λ l. 8 ≤ length l) named many)
    (dedup_more (map (λ one. one.container) chain) c.container))

pub named_again : (chain : List Claim) (c : Claim) (cover : Cover) → IsNamed chain cover
    → not (option_eq nat_eq (slice_get cover.containers.items (length cover.containers.items - 1)) (Some c.container)) ≡ false
    → cover.containers.items ≡ take 8 (dedup nat_eq (map (λ one. one.container) (chain ++ c ∷ [])))
named_again chain c cover named same = rw (map_more chain c, named)
    (again_in _ _ c.container (sym (last_is (take 8 (dedup nat_eq (map (λ one. one.container) chain)))) ∙ ap (λ l. slice_get l (length l - 1)) (sym named) ∙ is_last _ _ same)
    (dedup_more (map (λ one. one.container) chain) c.container) (cases_lt _ 8))
