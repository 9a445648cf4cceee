-- Names that are listed once.
use Rattle.std.specs.Prelude.{◌||◌, ◌&&◌}
use Rattle.std.proofs.Common.{◌≡◌, ◌<◌, ◌+◌, ℕ, length, get_or, ◌∙◌, ◌++◌, Bool, true, false, not, cond, List, [], ◌∷◌, filter, map, take, refl, sym, ap, append-nil}
use Rattle.std.specs.List.{list_any}
use Rattle.std.proofs.lemmas.List.{take_more}
use Rattle.std.specs.Cmp.{IsEquivalence, on_equiv}
use Rattle.acpi_name.specs.steps.NameOrder.{name_eq_equiv}
use Rattle.acpi_name_checks.specs.Firsts.{firsts_by}
use Rattle.acpi_name_checks.specs.NoNames.{NoNameParts, has_same_name}
use Rattle.acpi_name_checks.specs.steps.Adding.{with_first}

kept : {A : Type 0} (p : A → Bool) (zs : List A) (x : A) → filter p (zs ++ x ∷ []) ≡ filter p zs ++ cond (p x) (x ∷ []) []
kept p [] x = refl
kept p (z ∷ zs) x = by (p z) (kept p zs x)
  where
    by : (b : Bool) → filter p (zs ++ x ∷ []) ≡ filter p zs ++ cond (p x) (x ∷ []) [] → cond b (z ∷ filter p (zs ++ x ∷ [])) (filter p (zs ++ x ∷ [])) ≡ cond b (z ∷ filter p zs) (filter p zs) ++ cond (p x) (x ∷ []) []
    by true h = ap (λ l. z ∷ l) h
    by false h = h

pub map_more : {A B : Type 0} (f : A → B) (xs : List A) (a : A) → map f (xs ++ a ∷ []) ≡ map f xs ++ f a ∷ []
map_more f [] a = refl
map_more f (x ∷ xs) a = ap (λ l. f x ∷ l) (map_more f xs a)

module _ {X : Type 0} (same : X → X → Bool) (h : IsEquivalence same) where
  -- what is the same as x stays where what is the same as another goes
  stays : (x y : X) (zs : List X) → same y x ≡ false → list_any (λ z. same z x) (filter (λ z. not (same z y)) zs) ≡ list_any (λ z. same z x) zs
  stays x y [] e = refl
  stays x y (z ∷ zs) e = by (same z y) refl (stays x y zs e)
    where
      by : (b : Bool) → same z y ≡ b → list_any (λ z. same z x) (filter (λ z. not (same z y)) zs) ≡ list_any (λ z. same z x) zs → list_any (λ z. same z x) (cond (not b) (z ∷ filter (λ z. not (same z y)) zs) (filter (λ z. not (same z y)) zs)) ≡ (same z x || list_any (λ z. same z x) zs)
      by true is r = r ∙ ap (λ b. b || list_any (λ z. same z x) zs) (sym (h.congr z y x is ∙ e))
      by false is r = ap (λ b. same z x || b) r

  step : (y x : X) (zs : List X) → filter (λ z. not (same z y)) (with_first same zs x) ≡ cond (same y x) (filter (λ z. not (same z y)) zs) (with_first same (filter (λ z. not (same z y)) zs) x)
  step y x zs = by (list_any (λ z. same z x) zs) (same y x) refl refl
    where
      by : (there b : Bool) → list_any (λ z. same z x) zs ≡ there → same y x ≡ b
          → filter (λ z. not (same z y)) (cond there zs (zs ++ x ∷ [])) ≡ cond b (filter (λ z. not (same z y)) zs) (with_first same (filter (λ z. not (same z y)) zs) x)
      by true true t e = refl
      by false true t e = kept (λ z. not (same z y)) zs x ∙ ap (λ b. filter (λ z. not (same z y)) zs ++ cond (not b) (x ∷ []) []) (h.symm x y ∙ e) ∙ append-nil (filter (λ z. not (same z y)) zs)
      by true false t e = sym (ap (λ b. cond b (filter (λ z. not (same z y)) zs) (filter (λ z. not (same z y)) zs ++ x ∷ [])) (stays x y zs e ∙ t))
      by false false t e = kept (λ z. not (same z y)) zs x ∙ ap (λ b. filter (λ z. not (same z y)) zs ++ cond (not b) (x ∷ []) []) (h.symm x y ∙ e)
          ∙ sym (ap (λ b. cond b (filter (λ z. not (same z y)) zs) (filter (λ z. not (same z y)) zs ++ x ∷ [])) (stays x y zs e ∙ t))

  -- one more at the end
  pub firsts_more : (xs : List X) (x : X) → firsts_by same (xs ++ x ∷ []) ≡ with_first same (firsts_by same xs) x
  firsts_more [] x = refl
  firsts_more (y ∷ xs) x = ap (λ l. y ∷ filter (λ z. not (same z y)) l) (firsts_more xs x) ∙ ap (λ l. y ∷ l) (step y x (firsts_by same xs)) ∙ by (same y x)
    where
      by : (b : Bool) → y ∷ cond b (filter (λ z. not (same z y)) (firsts_by same xs)) (with_first same (filter (λ z. not (same z y)) (firsts_by same xs)) x)
          ≡ cond (b || list_any (λ z. same z x) (filter (λ z. not (same z y)) (firsts_by same xs))) (y ∷ filter (λ z. not (same z y)) (firsts_by same xs)) (y ∷ filter (λ z. not (same z y)) (firsts_by same xs) ++ x ∷ [])
      by true = refl
      by false = inner (list_any (λ z. same z x) (filter (λ z. not (same z y)) (firsts_by same xs)))
        where
          inner : (c : Bool) → y ∷ cond c (filter (λ z. not (same z y)) (firsts_by same xs)) (filter (λ z. not (same z y)) (firsts_by same xs) ++ x ∷ [])
              ≡ cond c (y ∷ filter (λ z. not (same z y)) (firsts_by same xs)) (y ∷ filter (λ z. not (same z y)) (firsts_by same xs) ++ x ∷ [])
          inner true = refl
          inner false = refl

  -- .. of those that pass a test
  pub firsts_of_more : {A : Type 0} (test : A → Bool) (f : A → X) (xs : List A) (a : A)
      → firsts_by same (map f (filter test (xs ++ a ∷ []))) ≡ cond (test a) (with_first same (firsts_by same (map f (filter test xs))) (f a)) (firsts_by same (map f (filter test xs)))
  firsts_of_more test f xs a = ap (λ l. firsts_by same (map f l)) (kept test xs a) ∙ by (test a)
    where
      by : (b : Bool) → firsts_by same (map f (filter test xs ++ cond b (a ∷ []) [])) ≡ cond b (with_first same (firsts_by same (map f (filter test xs))) (f a)) (firsts_by same (map f (filter test xs)))
      by true = ap (firsts_by same) (map_more f (filter test xs) a) ∙ firsts_more (map f (filter test xs)) (f a)
      by false = ap (λ l. firsts_by same (map f l)) (append-nil (filter test xs))

  -- .. of those of a list from the front
  pub firsts_taken : {A C : Type 0} (view : C → A) (test : A → Bool) (f : A → X) (cs : List C) (i : ℕ) (c : C) → i < length cs → c ≡ get_or cs i c
      → firsts_by same (map f (filter test (map view (take (i + 1) cs)))) ≡ cond (test (view c)) (with_first same (firsts_by same (map f (filter test (map view (take i cs))))) (f (view c))) (firsts_by same (map f (filter test (map view (take i cs)))))
  firsts_taken view test f cs i c lt at = ap (λ l. firsts_by same (map f (filter test (map view l)))) (take_more cs i c lt ∙ ap (λ x. take i cs ++ x ∷ []) (sym at))
      ∙ ap (λ l. firsts_by same (map f (filter test l))) (map_more view (take i cs) c) ∙ firsts_of_more test f (map view (take i cs)) (view c)

pub same_name_equiv : IsEquivalence has_same_name
same_name_equiv = on_equiv (λ (x : NoNameParts). x.name) name_eq_equiv

-- ---- where nothing is put behind the others

-- what isn't to be listed
pub stays_if_not : {X : Type 0} (same : X → X → Bool) (a b : Bool) (xs : List X) (x : X) → a ≡ false → xs ≡ cond (a && b) (with_first same xs x) xs
stays_if_not same a b xs x e = ap (λ c. cond (c && b) (with_first same xs x) xs) (sym e)

-- what one of them is the same as
pub stays_if_listed : {X : Type 0} (same : X → X → Bool) (a b : Bool) (xs : List X) (x : X) → list_any (λ y. same y x) xs ≡ true → xs ≡ cond (a && b) (with_first same xs x) xs
stays_if_listed same a b xs x e = by (a && b)
  where
    by : (c : Bool) → xs ≡ cond c (with_first same xs x) xs
    by true = ap (λ d. cond d xs (xs ++ x ∷ [])) (sym e)
    by false = refl
