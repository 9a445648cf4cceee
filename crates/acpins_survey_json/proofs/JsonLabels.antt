-- Bytes without those that are 0 at their end, and the members of a header.
use Rattle.std.proofs.Common.{◌≡◌, ◌∙◌, ℕ, Bool, cond, ◌+◌, ◌-◌, ◌<◌, ◌≤◌, List, [], ◌∷◌, ◌++◌, length, get_or, take, take_all, arith, refl, sym, ap}
use Rattle.std.proofs.lemmas.Bool.{le-ltb, ne_eqb}
use Rattle.std.proofs.lemmas.List.{take_more}
use Rattle.acpi_table.specs.Tables.{header_of}
use Rattle.acpins_survey_json.specs.Json.{Members}
use Rattle.acpins_survey_json.specs.JsonTables.{front_members, header_members, null_members, unless_last_zero, without_zeros}

-- ---- bytes

last_behind : (xs : List ℕ) (b : ℕ) → 1 ≤ length xs → b ≡ get_or xs (length xs - 1) 0 → xs ≡ take (length xs - 1) xs ++ b ∷ []
last_behind xs b some is =
    let within : length xs - 1 < length xs = omega (arith, some) in
    let all : length xs ≤ length xs - 1 + 1 = omega arith in
    sym (take_all (length xs - 1 + 1) xs all) ∙ take_more xs (length xs - 1) 0 within ∙ ap (λ (k : ℕ). take (length xs - 1) xs ++ k ∷ []) (sym is)

zero_behind : (xs : List ℕ) → without_zeros (xs ++ 0 ∷ []) ≡ without_zeros xs
zero_behind [] = refl
zero_behind (x ∷ xs) = ap (unless_last_zero x) (zero_behind xs)

kept : (x b : ℕ) (xs : List ℕ) → unless_last_zero x (xs ++ b ∷ []) ≡ x ∷ (xs ++ b ∷ [])
kept x b [] = refl
kept x b (y ∷ ys) = refl

other_behind : (xs : List ℕ) (b : ℕ) → (b ≡ 0 → ⊥) → without_zeros (xs ++ b ∷ []) ≡ xs ++ b ∷ []
other_behind [] b other = ap (λ (e : Bool). cond e [] (b ∷ [])) (ne_eqb b 0 other)
other_behind (x ∷ xs) b other = ap (unless_last_zero x) (other_behind xs b other) ∙ kept x b xs

-- without a last byte that is 0
pub zero_dropped : (xs all : List ℕ) (b : ℕ) → 1 ≤ length xs → b ≡ get_or xs (length xs - 1) 0 → b ≡ 0 → without_zeros xs ≡ without_zeros all
    → without_zeros (take (length xs - 1) xs) ≡ without_zeros all
zero_dropped xs all b some is zero before =
    sym (zero_behind (take (length xs - 1) xs))
    ∙ ap (λ (k : ℕ). without_zeros (take (length xs - 1) xs ++ k ∷ [])) (sym zero)
    ∙ ap without_zeros (sym (last_behind xs b some is))
    ∙ before

-- at one that is another
pub other_kept : (xs all : List ℕ) (b : ℕ) → 1 ≤ length xs → b ≡ get_or xs (length xs - 1) 0 → (b ≡ 0 → ⊥) → without_zeros xs ≡ without_zeros all → xs ≡ without_zeros all
other_kept xs all b some is other before =
    let e = last_behind xs b some is in e ∙ sym (other_behind (take (length xs - 1) xs) b other) ∙ ap without_zeros (sym e) ∙ before

-- ---- members

pub front_said : (bytes : List ℕ) (ms : Members) → 36 ≤ length bytes → header_members (header_of bytes) ms ≡ front_members bytes ms
front_said bytes ms some = ap (λ (b : Bool). cond b (null_members ms) (header_members (header_of bytes) ms)) (sym (le-ltb (length bytes) 36 some))
