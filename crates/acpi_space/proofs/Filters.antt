-- What is among the elements of a list that pass a test.
use Rattle.std.proofs.Common.{◌≡◌, ◌⊎◌, ◌↔◌, inl, inr, Bool, true, false, cond, List, [], ◌∷◌, Result, Ok, Err, IfOk, true≢false, refl, sym, ap, subst, ◌∙◌}
use Rattle.std.specs.Prelude.{IsTrue}
use Rattle.std.specs.List.{filter}
use Rattle.acpi_space.specs.Laws.{Among}

pub among_filter : {X : Type 0} (f : X → Bool) (xs : List X) (x : X) → Among (filter f xs) x ↔ (Among xs x × IsTrue (f x))
among_filter f [] x = (λ i. absurd i, λ r. absurd r.0)
among_filter {X} f (y ∷ ys) x = by (f y) refl (among_filter f ys x)
  where
    by : (b : Bool) → f y ≡ b → Among (filter f ys) x ↔ (Among ys x × IsTrue (f x)) → Among (cond b (y ∷ filter f ys) (filter f ys)) x ↔ (((y ≡ x) ⊎ Among ys x) × IsTrue (f x))
    by true e more = (to, λ r. from r.0 r.1)
      where
        to : (y ≡ x) ⊎ Among (filter f ys) x → ((y ≡ x) ⊎ Among ys x) × IsTrue (f x)
        to (inl s) = (inl s, ap f (sym s) ∙ e)
        to (inr i) = let r = more.0 i in (inr r.0, r.1)

        from : (y ≡ x) ⊎ Among ys x → IsTrue (f x) → (y ≡ x) ⊎ Among (filter f ys) x
        from (inl s) t = inl s
        from (inr i) t = inr (more.1 (i, t))
    by false e more = (λ i. let r = more.0 i in (inr r.0, r.1), λ r. from r.0 r.1)
      where
        from : (y ≡ x) ⊎ Among ys x → IsTrue (f x) → Among (filter f ys) x
        from (inl s) t = absurd (true≢false (sym t ∙ ap f (sym s) ∙ e))
        from (inr i) t = more.1 (i, t)

-- .. where the list is told by what is among it
pub among_filtered : {X : Type 0} (f : X → Bool) (xs ys : List X) (P : X → Type 0) → ys ≡ filter f xs → ((x : X) → Among xs x ↔ P x) → (x : X) → Among ys x ↔ (P x × IsTrue (f x))
among_filtered f xs ys P e h x =
    let a = among_filter f xs x in
    (λ i. let r = a.0 (subst (λ l. Among l x) e i) in ((h x).0 r.0, r.1), λ r. subst (λ l. Among l x) (sym e) (a.1 ((h x).1 r.0, r.1)))

-- ---- where all pass

pub filter_all : {X : Type 0} (l : List X) → filter (λ _. true) l ≡ l
filter_all [] = refl
filter_all (x ∷ l) = ap (λ r. x ∷ r) (filter_all l)

pub all_pass : {R E X : Type 0} (r : Result R E) (items : R → List X) (l : List X) → IfOk r (λ v. items v ≡ l) → IfOk r (λ v. items v ≡ filter (λ _. true) l)
all_pass (Ok v) items l h = h ∙ sym (filter_all l)
all_pass (Err f) items l h = tt

pub all_passed : {R E X : Type 0} (r : Result R E) (items : R → List X) (l : List X) → IfOk r (λ v. items v ≡ filter (λ _. true) l) → IfOk r (λ v. items v ≡ l)
all_passed (Ok v) items l h = h ∙ filter_all l
all_passed (Err f) items l h = tt
