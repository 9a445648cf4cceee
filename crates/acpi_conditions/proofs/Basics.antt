-- Tests and lists.
use Rattle.std.proofs.Common.{◌≡◌, Bool, true, false, cond, ◌&&◌, ◌||◌, List, [], ◌∷◌, ◌++◌, map, find, ◌⊎◌, inl, inr, Option, Some, None, Result, Ok, Err, IfOk, refl, sym, ap, ◌∙◌}
use Rattle.std.specs.List.{AllByRecursion, filter, flat_map, list_any}
use Rattle.std.specs.Option.{option_or}
use Rattle.std.proofs.lemmas.Bool.{or_left, or_right}
use Rattle.acpi_name.proofs.EqualPaths.{path_eq_Decides}
use Rattle.acpi_space.specs.Lookups.{is_same_path, singleton, union}
use Rattle.acpi_space.specs.Laws.{Among}
use Rattle.acpi_space.proofs.Elements.{among_append, one_some}
use Rattle.acpi_conditions.specs.Nodes.{Term}
use Rattle.acpi_conditions.specs.Entries.{Path, Namespace}

-- ---- tests

pub and_left : (a b : Bool) → (a && b) ≡ true → a ≡ true
and_left true b e = refl
and_left false b e = cc

pub and_right : (a b : Bool) → (a && b) ≡ true → b ≡ true
and_right true b e = e
and_right false b e = cc

pub never : (a : Bool) → a ≡ true → a ≡ false → ⊥
never a e f = cc

-- ---- elements

pub append_nothing : {X : Type 0} (xs ys : List X) → xs ++ ys ≡ [] → (xs ≡ []) × (ys ≡ [])
append_nothing [] ys e = (refl, e)
append_nothing (x ∷ xs) ys e = cc

pub map_nothing : {X Y : Type 0} (f : X → Y) (xs : List X) → map f xs ≡ [] → xs ≡ []
map_nothing f [] e = refl
map_nothing f (x ∷ xs) e = cc

pub among_nothing : {X : Type 0} (xs : List X) (x : X) → xs ≡ [] → Among xs x → ⊥
among_nothing [] x e m = m
among_nothing (y ∷ xs) x e m = cc

pub among_flat : {X Y : Type 0} (f : X → List Y) (xs : List X) (y : Y) → Among (flat_map f xs) y → (x : X) × Among xs x × Among (f x) y
among_flat f [] y m = absurd m
among_flat f (x ∷ xs) y m = by (among_append (f x) (flat_map f xs) y m) (among_flat f xs y)
  where
    by : Among (f x) y ⊎ Among (flat_map f xs) y → (Among (flat_map f xs) y → (z : _) × Among xs z × Among (f z) y) → (z : _) × Among (x ∷ xs) z × Among (f z) y
    by (inl m) ih = (x, inl refl, m)
    by (inr m) ih = let r = ih m in (r.0, inr r.1, r.2)

pub among_filter : {X : Type 0} (test : X → Bool) (xs : List X) (x : X) → Among xs x → test x ≡ true → Among (filter test xs) x
among_filter test [] x m is = absurd m
among_filter test (y ∷ xs) x m is = by (test y) refl m (among_filter test xs x)
  where
    by : (b : Bool) → test y ≡ b → Among (y ∷ xs) x → (Among xs x → test x ≡ true → Among (filter test xs) x) → Among (cond b (y ∷ filter test xs) (filter test xs)) x
    by true e (inl same) ih = inl same
    by true e (inr m) ih = inr (ih m is)
    by false e (inl same) ih = let f : test y ≡ true = ap test same ∙ is in absurd (never (test y) f e)
    by false e (inr m) ih = ih m is

pub all_filter : {X : Type 0} (P : X → Type 0) (test : X → Bool) (xs : List X) → AllByRecursion P xs → AllByRecursion P (filter test xs)
all_filter P test [] h = tt
all_filter P test (x ∷ xs) h = by (test x) (all_filter P test xs h.1)
  where
    by : (b : Bool) → AllByRecursion P (filter test xs) → AllByRecursion P (cond b (x ∷ filter test xs) (filter test xs))
    by true rest = (h.0, rest)
    by false rest = rest

-- what holds of those that pass the test, and of those that don't, holds of all
pub all_both : {X : Type 0} (P : X → Type 0) (test : X → Bool) → ((x : X) → test x ≡ false → P x) → (xs : List X) → AllByRecursion P (filter test xs) → AllByRecursion P xs
all_both P test others [] h = tt
all_both P test others (x ∷ xs) h = by (test x) refl h (all_both P test others xs)
  where
    by : (b : Bool) → test x ≡ b → AllByRecursion P (cond b (x ∷ filter test xs) (filter test xs)) → (AllByRecursion P (filter test xs) → AllByRecursion P xs)
        → P x × AllByRecursion P xs
    by true e h ih = (h.0, ih h.1)
    by false e h ih = (others x e, ih h)

pub any_some : {X : Type 0} (test : X → Bool) (xs : List X) → list_any test xs ≡ true → (x : X) × Among xs x × (test x ≡ true)
any_some test [] e = cc
any_some test (x ∷ xs) e = by (test x) refl e (any_some test xs)
  where
    by : (b : Bool) → test x ≡ b → (b || list_any test xs) ≡ true → (list_any test xs ≡ true → (y : _) × Among xs y × (test y ≡ true))
        → (y : _) × Among (x ∷ xs) y × (test y ≡ true)
    by true is e ih = (x, inl refl, is)
    by false is e ih = let r = ih e in (r.0, inr r.1, r.2)

pub some_any : {X : Type 0} (test : X → Bool) (xs : List X) (x : X) → Among xs x → test x ≡ true → list_any test xs ≡ true
some_any test [] x m is = absurd m
some_any test (y ∷ xs) x (inl e) is = or_left (test y) (list_any test xs) (ap test e ∙ is)
some_any test (y ∷ xs) x (inr m) is = or_right (test y) (list_any test xs) (some_any test xs x m is)

-- where one test implies the other
pub any_weaker : {X : Type 0} (test other : X → Bool) (xs : List X) → ((x : X) → test x ≡ true → other x ≡ true) → list_any test xs ≡ true → list_any other xs ≡ true
any_weaker test other xs weaker e = let x = any_some test xs e in some_any other xs x.0 x.1 (weaker x.0 x.2)

pub some_found : {X : Type 0} (test : X → Bool) (xs : List X) (x : X) → Among xs x → test x ≡ true → (y : X) × (find test xs ≡ Some y)
some_found test [] x m is = absurd m
some_found test (z ∷ xs) x m is = by (test z) refl m (some_found test xs x)
  where
    by : (b : Bool) → test z ≡ b → Among (z ∷ xs) x → (Among xs x → test x ≡ true → (y : _) × (find test xs ≡ Some y)) → (y : _) × (cond b (Some z) (find test xs) ≡ Some y)
    by true e m ih = (z, refl)
    by false e (inl same) ih = let f : test z ≡ true = ap test same ∙ is in absurd (never (test z) f e)
    by false e (inr m) ih = ih m is

-- ---- paths

pub same_path : (p q : Path) → is_same_path p q ≡ true → p ≡ q
same_path p q e = (path_eq_Decides p q).0 e

pub path_itself : (p q : Path) → p ≡ q → is_same_path p q ≡ true
path_itself p q e = (path_eq_Decides p q).1 e

-- ---- one object more

or_grows : (a b : Option Term) (t : Term) → a ≡ Some t → option_or a b ≡ Some t
or_grows None b t e = cc
or_grows (Some o) b t e = e

pub union_grows : (objects more : Namespace) (p : Path) (t : Term) → objects p ≡ Some t → union objects more p ≡ Some t
union_grows objects more p t e = or_grows (objects p) (more p) t e

or_free : (a b : Option Term) → a ≡ None → option_or a b ≡ b
or_free None b e = refl
or_free (Some o) b e = cc

pub union_new : (objects : Namespace) (p : Path) (t : Term) → objects p ≡ None → union objects (singleton p t) p ≡ Some t
union_new objects p t free = or_free (objects p) (singleton p t p) free ∙ ap (λ b. cond b (Some t) None) (path_itself p p refl)

pub union_cases : (objects : Namespace) (p q : Path) (t u : Term) → union objects (singleton p t) q ≡ Some u → (objects q ≡ Some u) ⊎ ((p ≡ q) × (t ≡ u))
union_cases objects p q t u e = by (objects q) (is_same_path q p) refl refl e
  where
    by : (a : Option Term) (b : Bool) → objects q ≡ a → is_same_path q p ≡ b → option_or a (cond b (Some t) None) ≡ Some u → (a ≡ Some u) ⊎ ((p ≡ q) × (t ≡ u))
    by (Some o) b x y e = inl e
    by None true x y e = inr (sym (same_path q p y), one_some t u e)
    by None false x y e = cc

-- ---- results

pub if_ok_map : {X E : Type 0} (r : Result X E) (P Q : X → Type 0) → ((x : X) → P x → Q x) → IfOk r P → IfOk r Q
if_ok_map (Ok x) P Q f h = f x h
if_ok_map (Err e) P Q f h = tt

pub if_ok_both : {X E : Type 0} (r : Result X E) (P Q R : X → Type 0) → ((x : X) → P x → Q x → R x) → IfOk r P → IfOk r Q → IfOk r R
if_ok_both (Ok x) P Q R f h k = f x h k
if_ok_both (Err e) P Q R f h k = tt
