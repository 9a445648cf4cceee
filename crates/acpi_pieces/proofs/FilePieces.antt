-- The pieces of a file.
use Rattle.std.proofs.Common.{◌≡◌, ◌≢◌, ◌≤◌, ◌<◌, ◌⊎◌, ℕ, List, [], ◌∷◌, ◌++◌, length, take, drop, min, Bool, true, false, ltb, refl, sym, ap, subst, ◌∙◌, inl, inr, append-nil, arith}
use Rattle.std.proofs.lemmas.List.{take-append-drop, drop_min, drop_all, length-take}
use Rattle.std.proofs.lemmas.List.Elements.{All-cons, All-nil}
use Rattle.std.proofs.lemmas.Bool.{ltb-true, ltb-false}
use Rattle.std.specs.List.{All, concat}
use Rattle.acpi_table.specs.Tables.{length_field}
use Rattle.acpi_table.proofs.TableLaws.{length_field-append}
use Rattle.acpi_pieces.specs.Pieces.{HasLength, IsFront, ArePieces, PiecesMakeTheFile}

-- ---- whether a table of a possible length begins there

le_or_lt_at : (a b : ℕ) (t : Bool) → ltb b a ≡ t → (a ≤ b) ⊎ (b < a)
le_or_lt_at a b true e = inr (ltb-true b a e)
le_or_lt_at a b false e = inl (ltb-false b a e)

le_or_lt : (a b : ℕ) → (a ≤ b) ⊎ (b < a)
le_or_lt a b = le_or_lt_at a b _ refl

has_length_or_not : (bytes : List ℕ) → HasLength bytes ⊎ ¬ HasLength bytes
has_length_or_not bytes =
    elim (le_or_lt 36 (length bytes)) [
      | inr short ↦ inr (λ l. absurd (omega (arith, short, l.has_header)))
      | inl header ↦ elim (le_or_lt 36 (length_field bytes)) [
        | inr low ↦ inr (λ l. absurd (omega (arith, low, l.least)))
        | inl least ↦ elim (le_or_lt (length_field bytes) 16777216) [
          | inr high ↦ inr (λ l. absurd (omega (arith, high, l.most)))
          | inl most ↦ inl (record { has_header = header; least = least; most = most })
        ]
      ]
    ]

-- ---- the piece at the front

front_one : (piece other bytes : List ℕ) → IsFront piece bytes → IsFront other bytes → piece ≡ other
front_one piece other bytes p q =
    elim (has_length_or_not bytes) [ inl l ↦ p.table l ∙ sym (q.table l) | inr none ↦ p.other none ∙ sym (q.other none) ]

front_joined : (piece bytes : List ℕ) → IsFront piece bytes → piece ++ drop (length piece) bytes ≡ bytes
front_joined piece bytes p =
    elim (has_length_or_not bytes) [
      | inl l ↦
          let n = length_field bytes in
          let behind : drop (length (take n bytes)) bytes ≡ drop n bytes = ap (λ k. drop k bytes) (length-take n bytes) ∙ drop_min n bytes in
          subst (λ (x : List ℕ). x ++ drop (length x) bytes ≡ bytes) (sym (p.table l)) (ap (λ (x : List ℕ). take n bytes ++ x) behind ∙ take-append-drop n bytes)
      | inr none ↦
          let behind : drop (length bytes) bytes ≡ [] = drop_all (length bytes) bytes (omega arith) in
          subst (λ (x : List ℕ). x ++ drop (length x) bytes ≡ bytes) (sym (p.other none)) (ap (λ (x : List ℕ). bytes ++ x) behind ∙ append-nil bytes)
    ]

front_some : (piece bytes : List ℕ) → IsFront piece bytes → piece ≢ []
front_some piece bytes p empty =
    elim (has_length_or_not bytes) [
      | inl l ↦
          let long : length piece ≡ min (length_field bytes) (length bytes) = ap length (p.table l) ∙ length-take (length_field bytes) bytes in
          let zero : length piece ≡ 0 = ap length empty in
          omega (arith, long, zero, l.least, l.has_header)
      | inr none ↦ p.some (sym (p.other none) ∙ empty)
    ]

-- where something stands behind it
front_long : (piece bytes : List ℕ) → IsFront piece bytes → drop (length piece) bytes ≢ [] → length_field piece ≡ length piece
front_long piece bytes p more =
    elim (has_length_or_not bytes) [
      | inr none ↦ absurd (more (ap (λ (x : List ℕ). drop (length x) bytes) (p.other none) ∙ drop_all (length bytes) bytes (omega arith)))
      | inl l ↦
          let n = length_field bytes in
          let long : length piece ≡ min n (length bytes) = ap length (p.table l) ∙ length-take n bytes in
          elim (le_or_lt n (length bytes)) [
            | inr cut ↦ absurd (more (drop_all (length piece) bytes (omega (arith, long, cut))))
            | inl within ↦
                let all : length piece ≡ n = omega (arith, long, within) in
                let field : length_field bytes ≡ length_field piece =
                ap length_field (sym (front_joined piece bytes p))
                ∙ length_field-append piece (drop (length piece) bytes) (omega (arith, all, l.least)) in
                sym field ∙ sym all
          ]
    ]

-- ---- the pieces

joined : (pieces : List (List ℕ)) (file : List ℕ) → ArePieces pieces file → concat pieces ≡ file
joined [] file none = sym none
joined (piece ∷ pieces) file are = ap (λ (x : List ℕ). piece ++ x) (joined pieces (drop (length piece) file) are.1) ∙ front_joined piece file are.0

none_empty : (pieces : List (List ℕ)) (file : List ℕ) → ArePieces pieces file → All (λ piece. piece ≢ []) pieces
none_empty [] file none = All-nil (λ piece. piece ≢ [])
none_empty (piece ∷ pieces) file are =
    All-cons (λ piece. piece ≢ []) piece pieces (front_some piece file are.0) (none_empty pieces (drop (length piece) file) are.1)

none_of_nothing : (pieces : List (List ℕ)) (file : List ℕ) → file ≡ [] → ArePieces pieces file → pieces ≡ []
none_of_nothing [] file empty are = refl
none_of_nothing (piece ∷ pieces) file empty are = absurd (are.0.some empty)

lengths : (pieces : List (List ℕ)) (file : List ℕ) → ArePieces pieces file → (before : List (List ℕ)) (piece : List ℕ) (behind : List (List ℕ))
    → pieces ≡ before ++ piece ∷ behind → behind ≢ [] → length_field piece ≡ length piece
lengths [] file none [] piece behind is more = absurd cc
lengths [] file none (b ∷ bs) piece behind is more = absurd cc
lengths (front ∷ pieces) file are [] piece behind is more =
    let first : front ≡ piece = cc in
    let rest : pieces ≡ behind = cc in
    subst (λ (x : List ℕ). length_field x ≡ length x) first
    (front_long front file are.0 (λ end. more (sym rest ∙ none_of_nothing pieces (drop (length front) file) end are.1)))
lengths (front ∷ pieces) file are (b ∷ bs) piece behind is more =
    let rest : pieces ≡ bs ++ piece ∷ behind = cc in
    lengths pieces (drop (length front) file) are.1 bs piece behind rest more

pub one : (pieces others : List (List ℕ)) (file : List ℕ) → ArePieces pieces file → ArePieces others file → pieces ≡ others
one [] [] file a b = refl
one [] (q ∷ qs) file a b = absurd (b.0.some a)
one (p ∷ ps) [] file a b = absurd (a.0.some b)
one (p ∷ ps) (q ∷ qs) file a b =
    let front : p ≡ q = front_one p q file a.0 b.0 in
    let rest : ArePieces qs (drop (length p) file) = subst (λ (x : List ℕ). ArePieces qs (drop (length x) file)) (sym front) b.1 in
    let behind : ps ≡ qs = one ps qs (drop (length p) file) a.1 rest in
    ap (λ (x : List ℕ). x ∷ ps) front ∙ ap (λ (l : List (List ℕ)). q ∷ l) behind

pub made : PiecesMakeTheFile
made pieces file are =
    record { whole = joined pieces file are; none_empty = none_empty pieces file are; lengths = lengths pieces file are }
