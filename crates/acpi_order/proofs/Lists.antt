-- Lists, options and results.
use Rattle.std.proofs.Common.{◌≡◌, Bool, true, false, cond, List, [], ◌∷◌, ◌++◌, ◌⊎◌, inl, inr, Option, Some, None, Result, Ok, Err, IfOk, refl}
use Rattle.std.specs.List.{AllByRecursion}
use Rattle.std.specs.Option.{option_or}
use Rattle.acpi_space.specs.Search.{skipped}
use Rattle.acpi_space.specs.Laws.{Among}
use Rattle.acpi_space.proofs.Elements.{among_append, among_both}

pub all_among : {X : Type 0} (P : X → Type 0) (xs : List X) → ((x : X) → Among xs x → P x) → AllByRecursion P xs
all_among P [] f = tt
all_among P (x ∷ xs) f = (f x (inl refl), all_among P xs (λ y h. f y (inr h)))

-- ---- two lists

-- what is of two is of the first or of the second
pub of_two : {X : Type 0} (xs ys : List X) (x : X) → Among (xs ++ (ys ++ [])) x → Among xs x ⊎ Among ys x
of_two xs ys x m = by (among_append xs (ys ++ []) x m)
  where
    of_one : Among ys x ⊎ Among [] x → Among ys x
    of_one (inl k) = k
    of_one (inr k) = absurd k

    by : Among xs x ⊎ Among (ys ++ []) x → Among xs x ⊎ Among ys x
    by (inl k) = inl k
    by (inr k) = inr (of_one (among_append ys [] x k))

pub first_of : {X : Type 0} (xs ys : List X) (x : X) → Among xs x → Among (xs ++ (ys ++ [])) x
first_of xs ys x m = among_both xs (ys ++ []) x (inl m)

pub second_of : {X : Type 0} (xs ys : List X) (x : X) → Among ys x → Among (xs ++ (ys ++ [])) x
second_of xs ys x m = among_both xs (ys ++ []) x (inr (among_both ys [] x (inl m)))

-- ---- what a search skips

skipped_at : {X : Type 0} (test : X → Bool) (t : X) (ts : List X) → AllByRecursion (λ p. test p ≡ false) (skipped test ts) → (b : Bool) → test t ≡ b
    → AllByRecursion (λ p. test p ≡ false) (cond b [] (t ∷ skipped test ts))
skipped_at test t ts rest true e = tt
skipped_at test t ts rest false e = (e, rest)

pub skipped_fail : {X : Type 0} (test : X → Bool) (ts : List X) → AllByRecursion (λ p. test p ≡ false) (skipped test ts)
skipped_fail test [] = tt
skipped_fail test (t ∷ ts) = skipped_at test t ts (skipped_fail test ts) (test t) refl

-- ---- options

pub or_none : {V : Type 0} (a : Option V) → a ≡ option_or a None
or_none None = refl
or_none (Some o) = refl

pub some_or_none : {V : Type 0} (a : Option V) → ((o : V) × (a ≡ Some o)) ⊎ (a ≡ None)
some_or_none None = inr refl
some_or_none (Some o) = inl (o, refl)

pub or_nones : {V : Type 0} (a b : Option V) → option_or a b ≡ None → (a ≡ None) × (b ≡ None)
or_nones None b e = (refl, e)
or_nones (Some o) b e = cc

pub or_up : {V : Type 0} (a b c : Option V) (o : V) → (b ≡ Some o → c ≡ Some o) → option_or a b ≡ Some o → option_or a c ≡ Some o
or_up None b c o f e = f e
or_up (Some x) b c o f e = e

pub or_free : {V : Type 0} (a b c : Option V) → (b ≡ None → c ≡ None) → option_or a b ≡ None → option_or a c ≡ None
or_free None b c f e = f e
or_free (Some x) b c f e = e

-- ---- results

pub ok_by : {T E : Type 0} (r : Result T E) (P Q : T → Type 0) → ((x : T) → P x → Q x) → IfOk r P → IfOk r Q
ok_by (Ok x) P Q so h = so x h
ok_by (Err e) P Q so h = tt
