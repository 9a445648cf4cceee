-- The first place at which a test passes, of values that are looked at in another way.
use Rattle.std.proofs.Common.{◌≡◌, ◌∙◌, ◌+◌, ◌<◌, ℕ, arith, Bool, true, false, not, cond, Some, None, List, [], ◌∷◌, map, length, refl, ap}
use Rattle.std.specs.Prelude.{nat_lt, position}
use Rattle.std.specs.List.{prefix_len, position_or_len}
use Rattle.std.proofs.lemmas.Grind.{common_steps}
use Rattle.std.proofs.lemmas.List.{length-map}

prefix_map : {A B : Type 0} (f : A → B) (p : B → Bool) (xs : List A) → prefix_len p (map f xs) ≡ prefix_len (λ x. p (f x)) xs
prefix_map f p [] = refl
prefix_map f p (x ∷ xs) = by (p (f x)) (prefix_map f p xs)
  where
    by : (b : Bool) → prefix_len p (map f xs) ≡ prefix_len (λ x. p (f x)) xs → cond b (1 + prefix_len p (map f xs)) 0 ≡ cond b (1 + prefix_len (λ x. p (f x)) xs) 0
    by true h = ap (λ n. 1 + n) h
    by false h = refl

pub position_map : {A B : Type 0} (f : A → B) (p : B → Bool) (xs : List A) → position p (map f xs) ≡ position (λ x. p (f x)) xs
position_map f p xs =
    ap (λ n. cond (nat_lt n (length (map f xs))) (Some n) None) (prefix_map f (λ y. not (p y)) xs)
    ∙ ap (λ n. cond (nat_lt (position_or_len (λ x. p (f x)) xs) n) (Some (position_or_len (λ x. p (f x)) xs)) None) (length-map xs f)

-- it is one of the list
pub position_below : {A : Type 0} (p : A → Bool) (xs : List A) (n : ℕ) → position p xs ≡ Some n → n < length xs
position_below p xs n e = grind (arith, common_steps, e)
