-- Elements of an array, each on a line.
use Rattle.std.proofs.Common.{◌≡◌, ◌∙◌, ℕ, Bool, true, ◌+◌, ◌<◌, ◌≤◌, List, [], ◌∷◌, ◌++◌, length, take, get_or, take_all, append_assoc, append-nil, ap, sym, subst, refl, codes}
use Rattle.std.proofs.lemmas.List.{take_more}
use Rattle.std.specs.List.{AllZip}
use Rattle.acpins_survey_json.specs.Json.{Value, array_lines, elements, lines_behind, lines_end}
use Rattle.acpins_survey_reasons.specs.Numbered.{zip_text}
use Rattle.acpins_survey_reasons.proofs.Zipping.{all_behind, zip_behind}

-- elements of these stand behind what there was, whatever follows them
abbrev pub AreLinesOf : {X Y : Type 0} → (X → Y → Type 0) → (X → Y → List Value) → List X → (is_first : Bool) → (begun text : List ℕ) → Type 0
AreLinesOf {X} {Y} R f xs is_first begun text =
    (ys : List Y) × AllZip R xs ys
    × ((vs : List Value) → text ++ lines_behind is_first (elements vs) ≡ begun ++ lines_behind true (elements (zip_text f xs ys ++ vs)))

pub no_lines : {X Y : Type 0} (R : X → Y → Type 0) (f : X → Y → List Value) (xs : List X) (begun : List ℕ) → AreLinesOf {X = X} {Y = Y} R f (take 0 xs) true begun begun
no_lines R f xs begun = ([], tt, λ vs. refl)

pub lines_more : {X Y : Type 0} (R : X → Y → Type 0) (f : X → Y → List Value) (xs : List X) (i : ℕ) (x d : X) (y : Y) (is_first next : Bool) (begun mid new : List ℕ)
    → i < length xs → x ≡ get_or xs i d → R x y → AreLinesOf {X = X} {Y = Y} R f (take i xs) is_first begun mid
    → ((vs : List Value) → new ++ lines_behind next (elements vs) ≡ mid ++ lines_behind is_first (elements (f x y ++ vs))) → AreLinesOf {X = X} {Y = Y} R f (take (i + 1) xs) next begun new
lines_more R f xs i x d y is_first next begun mid new within is related before last =
    let ys = before.0 in
    let e : take (i + 1) xs ≡ take i xs ++ x ∷ [] = take_more xs i d within ∙ ap (λ z. take i xs ++ z ∷ []) (sym is) in
    let zipped = zip_behind R f (take i xs) ys x y before.1 in (
      ys ++ y ∷ [],
      subst (λ l. AllZip R l (ys ++ y ∷ [])) (sym e) (all_behind R (take i xs) ys x y before.1 related),
      λ vs. last vs ∙ before.2 (f x y ++ vs)
          ∙ ap (λ us. begun ++ lines_behind true (elements us)) (sym (append_assoc (zip_text f (take i xs) ys) (f x y) vs) ∙ ap (λ us. us ++ vs) (sym zipped))
          ∙ ap (λ l. begun ++ lines_behind true (elements (zip_text f l (ys ++ y ∷ []) ++ vs))) (sym e),
    )

-- behind the last
pub lines_all_put : {X Y : Type 0} (R : X → Y → Type 0) (f : X → Y → List Value) (xs : List X) (i : ℕ) (is_first : Bool) (old begun mid new : List ℕ)
    → length xs ≤ i → begun ≡ old ++ codes "[" → AreLinesOf {X = X} {Y = Y} R f (take i xs) is_first begun mid → new ≡ mid ++ lines_end is_first
    → (ys : List Y) × AllZip R xs ys × (new ≡ old ++ array_lines (elements (zip_text f xs ys)))
lines_all_put {X} {Y} R f xs i is_first old begun mid new past first before last =
    let all = subst (λ l. AreLinesOf {X = X} {Y = Y} R f l is_first begun mid) (take_all i xs past) before in
    let ys = all.0 in
    let values = zip_text f xs ys in
    let lines = lines_behind true (elements values) in (
      ys,
      all.1,
      last ∙ all.2 [] ∙ ap (λ us. begun ++ lines_behind true (elements us)) (append-nil values) ∙ ap (λ t. t ++ lines) first ∙ append_assoc old (codes "[") lines,
    )
