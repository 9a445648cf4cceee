-- What is left of a list.
use Rattle.std.proofs.Common.{◌≡◌, ℕ, zero, suc, ◌-◌, ◌+◌, ◌≤◌, ◌<◌, List, [], ◌∷◌, length, take, drop, refl, sym, ap, ◌∙◌, arith, Ok, slice_index, Option, Some, None, length-drop}
use Rattle.std.proofs.Math.Seq.{take-nil, take-length}
use Rattle.std.proofs.lemmas.List.{take-take, length-take-le, drop-drop}
use Rattle.std.specs.List.{slice_range}
use Rattle.acpi_code.specs.steps.Within.{IsWithin}
use Rattle.acpi_code.specs.steps.Reading.{byte_at}

-- ---- parts of a list

drop-take-sub : (n m : ℕ) (xs : List ℕ) → drop n (take m xs) ≡ take (m - n) (drop n xs)
drop-take-sub zero m xs = let e : m - 0 ≡ m = omega arith in rw e refl
drop-take-sub (suc n) zero xs = let e : 0 - suc n ≡ 0 = omega arith in rw e refl
drop-take-sub (suc n) (suc m) [] = let e : suc m - suc n ≡ m - n = omega arith in rw e (sym (take-nil (m - n)))
drop-take-sub (suc n) (suc m) (x ∷ xs) = let e : suc m - suc n ≡ m - n = omega arith in rw e (drop-take-sub n m xs)

range_drop : (xs : List ℕ) (n a b : ℕ) → drop n (slice_range xs a b) ≡ slice_range xs (a + n) b
range_drop xs n a b =
    let e : b - a - n ≡ b - (a + n) = omega arith in
    drop-take-sub n (b - a) (drop a xs) ∙ rw e (ap (take (b - (a + n))) (drop-drop n a xs))

-- the part up to a place inside
range_take : (xs : List ℕ) (n a b : ℕ) → a + n ≤ b → take n (slice_range xs a b) ≡ slice_range xs a (a + n)
range_take xs n a b le =
    let small : n ≤ b - a = omega (arith, le) in
    let e : a + n - a ≡ n = omega arith in
    take-take n (b - a) (drop a xs) small ∙ rw e refl

range_whole : (xs : List ℕ) → slice_range xs 0 (length xs) ≡ xs
range_whole xs = let e : length xs - 0 ≡ length xs = omega arith in rw e (take-length xs)

pub first_byte : (xs : List ℕ) (end : ℕ) → 0 < length xs → byte_at end xs ≡ Ok (slice_index xs 0, drop 1 xs)
unfolding byte_at
first_byte [] end h = absurd (omega arith)
first_byte (x ∷ xs) end h = refl

pub rest_is : (left : List ℕ) (n : ℕ) → take (length left - n) (drop n left) ≡ drop n left
rest_is left n = let e : length left - n ≡ length (drop n left) = sym (length-drop n left) in rw e (take-length (drop n left))

-- ---- where what is left stands in the code

pub whole : (code : List ℕ) → IsWithin code (length code) (Some code)
whole code =
    let e : length code - length code ≡ 0 = omega arith in
    record { room = omega arith; part = (omega arith, rw e (sym (range_whole code))) }

pub behind : (left : List ℕ) (n end : ℕ) (shared : Option (List ℕ)) → n ≤ length left → IsWithin left end shared → IsWithin (drop n left) end shared
behind left n end None le w = record { room = rw (length-drop n left) (omega (arith, w.room)); part = tt }
behind left n end (Some code) le w =
    let e : end - length left + n ≡ end - (length left - n) = omega (arith, w.room) in
    let p : drop n left ≡ slice_range code (end - (length left - n)) end = ap (drop n) w.part.1 ∙ range_drop code n (end - length left) end ∙ ap (λ a. slice_range code a end) e in
    record { room = rw (length-drop n left) (omega (arith, w.room)); part = (w.part.0, rw (length-drop n left) p) }

pub inner : (left : List ℕ) (n end : ℕ) (shared : Option (List ℕ)) → n ≤ length left → IsWithin left end shared → IsWithin (take n left) (end - length (drop n left)) shared
inner left n end None le w = record { room = rw (length-drop n left, length-take-le n left le) (omega (arith, w.room)); part = tt }
inner left n end (Some code) le w =
    let a = end - length left in
    let e : a + n ≡ end - (length left - n) = omega (arith, w.room) in
    let f : end - (length left - n) - n ≡ a = omega (arith, w.room) in
    let small : a + n ≤ end = omega (arith, w.room) in
    let p : take n left ≡ slice_range code a (a + n) = ap (take n) w.part.1 ∙ range_take code n a end small in
    record {
      room = rw (length-drop n left, length-take-le n left le) (omega (arith, w.room));
      part = rw (length-drop n left, length-take-le n left le, f, ← e) (omega (arith, w.part.0), p);
    }
