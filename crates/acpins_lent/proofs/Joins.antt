-- Tables that are written one behind the other, one more.
use Rattle.std.proofs.Common.{◌≡◌, ℕ, ◌+◌, ◌<◌, List, [], ◌∷◌, ◌++◌, map, length, take, get_or, refl, sym, ap, ◌∙◌, arith, zero-add, length-append}
use Rattle.std.proofs.lemmas.Grind.{flat_map-append}
use Rattle.std.proofs.lemmas.List.{take_more, append-nil, map-append}
use Rattle.acpins_lent.specs.Joined.{joined, ends_from}

joined_more : (ts : List (List ℕ)) (t : List ℕ) → joined (ts ++ t ∷ []) ≡ joined ts ++ t
joined_more ts t = flat_map-append (λ (x : List ℕ). x) ts (t ∷ []) ∙ ap (λ l. joined ts ++ l) (append-nil t)

ends_more : (begin : ℕ) (ts : List (List ℕ)) (t : List ℕ) → ends_from begin (ts ++ t ∷ []) ≡ ends_from begin ts ++ (begin + length (joined ts ++ t)) ∷ []
ends_more begin [] t = refl
ends_more begin (u ∷ ts) t =
    let place : (begin + length u) + length (joined ts ++ t) ≡ begin + length ((u ++ joined ts) ++ t) =
    omega (arith, length-append u (joined ts), length-append (joined ts) t, length-append (u ++ joined ts) t) in
    ap (λ l. (begin + length u) ∷ l) (ends_more (begin + length u) ts t ∙ ap (λ n. ends_from (begin + length u) ts ++ n ∷ []) place)

-- the next table of a list that is gone through
pub joined_next : {X : Type 0} (f : X → List ℕ) (xs : List X) (i : ℕ) (x : X) (old new : List ℕ) → i < length xs → x ≡ get_or xs i x
    → old ≡ joined (map f (take i xs)) → new ≡ old ++ f x → new ≡ joined (map f (take (i + 1) xs))
joined_next f xs i x old new within is so put =
    put ∙ ap (λ l. l ++ f x) so ∙ sym (joined_more (map f (take i xs)) (f x))
    ∙ ap joined (sym (map-append f (take i xs) (x ∷ [])) ∙ ap (map f) (sym (take_more xs i x within ∙ ap (λ z. take i xs ++ z ∷ []) (sym is))))

pub ends_next : {X : Type 0} (f : X → List ℕ) (xs : List X) (i : ℕ) (x : X) (bytes old new : List ℕ) → i < length xs → x ≡ get_or xs i x
    → bytes ≡ joined (map f (take i xs)) ++ f x → old ≡ ends_from 0 (map f (take i xs)) → new ≡ old ++ length bytes ∷ [] → new ≡ ends_from 0 (map f (take (i + 1) xs))
ends_next f xs i x bytes old new within is bytes_are so put =
    put ∙ ap (λ l. l ++ length bytes ∷ []) so ∙ ap (λ n. ends_from 0 (map f (take i xs)) ++ n ∷ []) (ap length bytes_are ∙ sym (zero-add _))
    ∙ sym (ends_more 0 (map f (take i xs)) (f x))
    ∙ ap (ends_from 0) (sym (map-append f (take i xs) (x ∷ [])) ∙ ap (map f) (sym (take_more xs i x within ∙ ap (λ z. take i xs ++ z ∷ []) (sym is))))

-- .. of a list of byte strings
pub joined_next_of : (xs : List (List ℕ)) (i : ℕ) (x old new : List ℕ) → i < length xs → x ≡ get_or xs i x
    → old ≡ joined (take i xs) → new ≡ old ++ x → new ≡ joined (take (i + 1) xs)
joined_next_of xs i x old new within is so put =
    put ∙ ap (λ l. l ++ x) so ∙ sym (joined_more (take i xs) x)
    ∙ ap joined (sym (take_more xs i x within ∙ ap (λ z. take i xs ++ z ∷ []) (sym is)))

pub ends_next_of : (xs : List (List ℕ)) (i : ℕ) (x bytes old new : List ℕ) → i < length xs → x ≡ get_or xs i x
    → bytes ≡ joined (take i xs) ++ x → old ≡ ends_from 0 (take i xs) → new ≡ old ++ length bytes ∷ [] → new ≡ ends_from 0 (take (i + 1) xs)
ends_next_of xs i x bytes old new within is bytes_are so put =
    put ∙ ap (λ l. l ++ length bytes ∷ []) so ∙ ap (λ n. ends_from 0 (take i xs) ++ n ∷ []) (ap length bytes_are ∙ sym (zero-add _))
    ∙ sym (ends_more 0 (take i xs) x)
    ∙ ap (ends_from 0) (sym (take_more xs i x within ∙ ap (λ z. take i xs ++ z ∷ []) (sym is)))
