-- Texts of lists, with something between each two.
use Rattle.std.proofs.Common.{◌≡◌, ◌∙◌, ℕ, ◌+◌, ◌-◌, ◌<◌, ◌≤◌, List, [], ◌∷◌, ◌++◌, length, take, drop, get_or, append_assoc, take_all, arith, sym, ap}
use Rattle.std.proofs.lemmas.List.{flat_map_more, length-drop, take_more}
use Rattle.std.specs.List.{flat_map}
use Rattle.acpi_text.specs.Constants.{separated}
use Rattle.acpi_text.proofs.Pieces.{next_said}

-- a text for one element more
pub one_more : {X : Type 0} (f : X → List ℕ) (xs : List X) (i : ℕ) (x d : X) (old mid new : List ℕ) → i < length xs → x ≡ get_or xs i d
    → mid ≡ old ++ flat_map f (take i xs) → new ≡ mid ++ f x → new ≡ old ++ flat_map f (take (i + 1) xs)
one_more f xs i x d old mid new within is before last =
    last ∙ ap (λ t. t ++ f x) before ∙ flat_map_more f old (take i xs) x
    ∙ ap (λ ys. old ++ flat_map f ys) (sym (take_more xs i d within ∙ ap (λ y. take i xs ++ y ∷ []) (sym is)))

-- .. behind what stands between two
pub one_more_behind : {X : Type 0} (between : List ℕ) (f : X → List ℕ) (xs : List X) (i : ℕ) (x d : X) (old mid put new : List ℕ) → i < length xs → x ≡ get_or xs i d
    → mid ≡ old ++ flat_map (λ y. between ++ f y) (take i xs) → put ≡ mid ++ between → new ≡ put ++ f x → new ≡ old ++ flat_map (λ y. between ++ f y) (take (i + 1) xs)
one_more_behind between f xs i x d old mid put new within is before first last =
    one_more (λ y. between ++ f y) xs i x d old mid new within is before (last ∙ ap (λ t. t ++ f x) first ∙ append_assoc mid between (f x))

-- the elements but the first, as a slice has them
abbrev pub others : {X : Type 0} → List X → List X
others xs = take (length xs - 1) (drop 1 xs)

all_others : {X : Type 0} (xs : List X) (i : ℕ) → length (others xs) ≤ i → take i (others xs) ≡ drop 1 xs
all_others xs i past = take_all i (others xs) past ∙ take_all (length xs - 1) (drop 1 xs) (omega (arith, length-drop 1 xs))

-- what stands between two stands behind the first, before each of the others
separated_said : {X : Type 0} (between : List ℕ) (f : X → List ℕ) (xs : List X) (x : X) → 1 ≤ length xs → x ≡ get_or xs 0 x
    → separated between f xs ≡ f x ++ flat_map (λ y. between ++ f y) (drop 1 xs)
separated_said between f [] x some is = absurd (omega arith)
separated_said between f (y ∷ ys) x some is = ap (λ z. f z ++ flat_map (λ y. between ++ f y) ys) (sym is)

-- after a loop that puts the others behind the first
pub all_put : {X : Type 0} (between : List ℕ) (f : X → List ℕ) (xs : List X) (x : X) (i : ℕ) (old mid new : List ℕ)
    → 1 ≤ length xs → x ≡ get_or xs 0 x → length (others xs) ≤ i → mid ≡ old ++ f x
    → new ≡ mid ++ flat_map (λ y. between ++ f y) (take i (others xs)) → new ≡ old ++ separated between f xs
all_put between f xs x i old mid new some is past one more =
    next_said old (f x) (flat_map (λ y. between ++ f y) (drop 1 xs)) mid new one (more ∙ ap (λ ys. mid ++ flat_map (λ y. between ++ f y) ys) (all_others xs i past))
    ∙ ap (λ t. old ++ t) (sym (separated_said between f xs x some is))
