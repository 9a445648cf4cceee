-- Targets, one after another.
use Rattle.std.proofs.Common.{ℕ, ◌+◌, ◌<◌, ◌≡◌, List, [], ◌∷◌, ◌++◌, map, length, take, get_or, ◌∙◌, ap, sym, subst, append_assoc, Option}
use Rattle.std.specs.Borrow.{Bor}
use Rattle.std.specs.List.{AllZip}
use Rattle.std.proofs.lemmas.List.{take_more, map-append}
use Rattle.acpi_name.specs.Names.{Segment}
use Rattle.acpins_records.specs.steps.Adding.{AddsTargets}
use Rattle.acpins_records.specs.Tree.{IsPlaceOf}

pub zip_append : {A B : Type 0} (R : A → B → Type 0) (xs us : List A) (ys vs : List B) → AllZip R xs ys → AllZip R us vs → AllZip R (xs ++ us) (ys ++ vs)
zip_append R [] us [] vs h k = k
zip_append R [] us (y ∷ ys) vs h k = absurd h
zip_append R (x ∷ xs) us [] vs h k = absurd h
zip_append R (x ∷ xs) us (y ∷ ys) vs h k = (h.0, zip_append R xs us ys vs h.1 k)

abbrev pub Lent : Type 0
Lent = Bor (Option (List Segment))

abbrev pub lent : List Lent → List (Option (List Segment))
lent answers = map (λ a. a.now) answers

-- one more of a list that is gone through
pub targets_more : (paths : List (List Segment)) (answers : List Lent) (i : ℕ) (answer : Lent) (target : ℕ) (first old new : List ℕ)
    → i < length answers → answer ≡ get_or answers i answer → AddsTargets paths (lent (take i answers)) first old → IsPlaceOf paths answer.now target → new ≡ old ++ target ∷ []
    → AddsTargets paths (lent (take (i + 1) answers)) first new
targets_more paths answers i answer target first old new within is so one put = record {
  more = so.more ++ target ∷ [];
  behind = put ∙ ap (λ l. l ++ target ∷ []) so.behind ∙ append_assoc first so.more (target ∷ []);
  are = subst (λ l. AllZip (IsPlaceOf paths) l (so.more ++ target ∷ []))
      (sym (ap lent (take_more answers i answer within ∙ ap (λ z. take i answers ++ z ∷ []) (sym is)) ∙ map-append (λ (a : Lent). a.now) (take i answers) (answer ∷ [])))
      (zip_append (IsPlaceOf paths) (lent (take i answers)) (answer.now ∷ []) so.more (target ∷ []) so.are (one, tt));
}
