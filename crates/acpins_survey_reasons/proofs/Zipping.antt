-- Texts of pairs, one after another.
use Rattle.std.proofs.Common.{◌≡◌, ◌∙◌, ℕ, ◌+◌, ◌<◌, ◌≤◌, List, [], ◌∷◌, ◌++◌, length, take, get_or, map, take_all, append_assoc, append-nil, arith, ap, sym, subst}
use Rattle.std.proofs.lemmas.List.{take_more, get_or-map}
use Rattle.std.specs.List.{AllZip}
use Rattle.acpi_ranges.proofs.PlacedLists.{length_mapped}
use Rattle.acpins_survey_reasons.specs.Numbered.{zip_text}

pub all_behind : {X Y : Type 0} (R : X → Y → Type 0) (xs : List X) (ys : List Y) (x : X) (y : Y) → AllZip R xs ys → R x y → AllZip R (xs ++ x ∷ []) (ys ++ y ∷ [])
all_behind R [] [] x y all r = (r, tt)
all_behind R [] (b ∷ ys) x y all r = absurd all
all_behind R (a ∷ xs) [] x y all r = absurd all
all_behind R (a ∷ xs) (b ∷ ys) x y all r = (all.0, all_behind R xs ys x y all.1 r)

pub zip_behind : {X Y Z : Type 0} (R : X → Y → Type 0) (f : X → Y → List Z) (xs : List X) (ys : List Y) (x : X) (y : Y) → AllZip R xs ys
    → zip_text f (xs ++ x ∷ []) (ys ++ y ∷ []) ≡ zip_text f xs ys ++ f x y
zip_behind R f [] [] x y all = append-nil (f x y)
zip_behind R f [] (b ∷ ys) x y all = absurd all
zip_behind R f (a ∷ xs) [] x y all = absurd all
zip_behind R f (a ∷ xs) (b ∷ ys) x y all = ap (λ t. f a b ++ t) (zip_behind R f xs ys x y all.1) ∙ sym (append_assoc (f a b) (zip_text f xs ys) (f x y))

-- texts of these, behind what there was
abbrev pub AreZipped : {X Y : Type 0} → (X → Y → Type 0) → (X → Y → List ℕ) → List X → (old new : List ℕ) → Type 0
AreZipped {X} {Y} R f xs old new = (ys : List Y) × AllZip R xs ys × (new ≡ old ++ zip_text f xs ys)

abbrev pub IsZipped : {X Y : Type 0} → (X → Y → Type 0) → (X → Y → List ℕ) → X → (old new : List ℕ) → Type 0
IsZipped {X} {Y} R f x old new = (y : Y) × R x y × (new ≡ old ++ f x y)

pub none_zipped : {X Y : Type 0} (R : X → Y → Type 0) (f : X → Y → List ℕ) (xs : List X) (old : List ℕ) → AreZipped {X = X} {Y = Y} R f (take 0 xs) old old
none_zipped R f xs old = ([], tt, sym (append-nil old))

pub zip_more : {X Y : Type 0} (R : X → Y → Type 0) (f : X → Y → List ℕ) (xs : List X) (i : ℕ) (x d : X) (old mid new : List ℕ) → i < length xs
    → AreZipped {X = X} {Y = Y} R f (take i xs) old mid → IsZipped {X = X} {Y = Y} R f x mid new → x ≡ get_or xs i d → AreZipped {X = X} {Y = Y} R f (take (i + 1) xs) old new
zip_more R f xs i x d old mid new within before last is =
    let ys = before.0 in
    let e : take (i + 1) xs ≡ take i xs ++ x ∷ [] = take_more xs i d within ∙ ap (λ z. take i xs ++ z ∷ []) (sym is) in (
      ys ++ last.0 ∷ [],
      subst (λ l. AllZip R l (ys ++ last.0 ∷ [])) (sym e) (all_behind R (take i xs) ys x last.0 before.1 last.1),
      last.2 ∙ ap (λ t. t ++ f x last.0) before.2 ∙ append_assoc old (zip_text f (take i xs) ys) (f x last.0)
          ∙ ap (λ t. old ++ t) (sym (zip_behind R f (take i xs) ys x last.0 before.1))
          ∙ ap (λ l. old ++ zip_text f l (ys ++ last.0 ∷ [])) (sym e),
    )

-- .. of a list that is a view of another
pub zip_more_viewed : {W X Y : Type 0} (g : W → X) (R : X → Y → Type 0) (f : X → Y → List ℕ) (ws : List W) (i : ℕ) (w : W) (old mid new : List ℕ) → i < length ws
    → AreZipped {X = X} {Y = Y} R f (take i (map g ws)) old mid → IsZipped {X = X} {Y = Y} R f (g w) mid new → w ≡ get_or ws i w
    → AreZipped {X = X} {Y = Y} R f (take (i + 1) (map g ws)) old new
zip_more_viewed g R f ws i w old mid new within before last is =
    let inside : i < length (map g ws) = omega (arith, within, length_mapped g ws) in
    zip_more R f (map g ws) i (g w) (g w) old mid new inside before last (ap g is ∙ sym (get_or-map g ws i w (g w) within))

pub all_zipped : {X Y : Type 0} (R : X → Y → Type 0) (f : X → Y → List ℕ) (xs : List X) (i : ℕ) (old new : List ℕ) → length xs ≤ i
    → AreZipped {X = X} {Y = Y} R f (take i xs) old new → AreZipped {X = X} {Y = Y} R f xs old new
all_zipped {X} {Y} R f xs i old new past all = subst (λ l. AreZipped {X = X} {Y = Y} R f l old new) (take_all i xs past) all
