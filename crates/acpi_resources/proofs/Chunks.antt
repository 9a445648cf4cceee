-- Chunks of four bytes, joined again.
use Rattle.std.proofs.Common.{◌≡◌, ℕ, zero, suc, ◌+◌, ◌*◌, List, [], ◌∷◌, ◌++◌, length, take, drop, refl, sym, ap, ◌∙◌, arith, length-drop}
use Rattle.std.specs.List.{flat_map}
use Rattle.std.specs.Simd.{first_chunks}
use Rattle.std.proofs.lemmas.List.{take-append-drop, nil_from_length}

pub joined : (n : ℕ) (xs : List ℕ) → length xs ≡ 4 * n → flat_map (λ (c : List ℕ). c) (first_chunks 4 n xs) ≡ xs
joined zero xs e = sym (nil_from_length xs (omega (arith, e)))
joined (suc n) xs e =
    let len : length (drop 4 xs) ≡ 4 * n = omega (arith, length-drop 4 xs, e) in
    ap (λ (ys : List ℕ). take 4 xs ++ ys) (joined n (drop 4 xs) len) ∙ take-append-drop 4 xs
