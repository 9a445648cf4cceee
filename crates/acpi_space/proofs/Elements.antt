-- Elements of lists, and options.
use Rattle.std.proofs.Common.{◌≡◌, Bool, true, false, List, [], ◌∷◌, ◌++◌, is_some, ◌⊎◌, inl, inr, Option, Some, None, refl, subst}
use Rattle.std.specs.List.{AllByRecursion}
use Rattle.acpi_space.specs.Laws.{Among}

-- ---- elements

pub among_left : {X : Type 0} (xs ys : List X) (x : X) → Among xs x → Among (xs ++ ys) x
among_left [] ys x m = absurd m
among_left (y ∷ xs) ys x (inl e) = inl e
among_left (y ∷ xs) ys x (inr m) = inr (among_left xs ys x m)

pub among_right : {X : Type 0} (xs ys : List X) (x : X) → Among ys x → Among (xs ++ ys) x
among_right [] ys x m = m
among_right (y ∷ xs) ys x m = inr (among_right xs ys x m)

pub among_both : {X : Type 0} (xs ys : List X) (x : X) → Among xs x ⊎ Among ys x → Among (xs ++ ys) x
among_both xs ys x (inl m) = among_left xs ys x m
among_both xs ys x (inr m) = among_right xs ys x m

pub among_append : {X : Type 0} (xs ys : List X) (x : X) → Among (xs ++ ys) x → Among xs x ⊎ Among ys x
among_append [] ys x m = inr m
among_append (y ∷ xs) ys x (inl e) = inl (inl e)
among_append (y ∷ xs) ys x (inr m) = by (among_append xs ys x m)
  where
    by : Among xs x ⊎ Among ys x → Among (y ∷ xs) x ⊎ Among ys x
    by (inl m) = inl (inr m)
    by (inr m) = inr m

-- ---- what holds of each element

pub among_all : {X : Type 0} (P : X → Type 0) (xs : List X) → AllByRecursion P xs → (x : X) → Among xs x → P x
among_all P [] all x m = absurd m
among_all P (y ∷ ys) all x (inl e) = subst P e all.0
among_all P (y ∷ ys) all x (inr m) = among_all P ys all.1 x m

pub all_append : {X : Type 0} (P : X → Type 0) (xs ys : List X) → AllByRecursion P xs → AllByRecursion P ys → AllByRecursion P (xs ++ ys)
all_append P [] ys a b = b
all_append P (x ∷ xs) ys a b = (a.0, all_append P xs ys a.1 b)

pub all_map : {X : Type 0} (P Q : X → Type 0) → ((x : X) → P x → Q x) → (xs : List X) → AllByRecursion P xs → AllByRecursion Q xs
all_map P Q f [] h = tt
all_map P Q f (x ∷ xs) h = (f x h.0, all_map P Q f xs h.1)

-- ---- options

pub one_some : {V : Type 0} (a b : V) → Some a ≡ Some b → a ≡ b
one_some a b e = cc

pub not_both : {V : Type 0} (a : Option V) (o : V) → a ≡ Some o → a ≡ None → ⊥
not_both a o e f = cc

pub none_of : {V : Type 0} (a : Option V) → ((o : V) → a ≡ Some o → ⊥) → a ≡ None
none_of None f = refl
none_of (Some o) f = absurd (f o refl)

pub some_is : {V : Type 0} (a : Option V) → is_some a ≡ true → (o : V) × (a ≡ Some o)
some_is None e = cc
some_is (Some o) e = (o, refl)
