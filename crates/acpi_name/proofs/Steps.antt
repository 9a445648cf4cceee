-- One more segment.
use Rattle.std.proofs.Common.{◌≡◌, ℕ, ◌+◌, ◌<◌, List, [], ◌∷◌, ◌++◌, length, take, Some, slice_get, append_assoc, ap, sym, ◌∙◌, Option, None, IsSome, ◌↔◌, option_to_list, arith, refl, length-append, true≢false}
use Rattle.std.specs.List.{last_or}
use Rattle.acpi_name.specs.Paths.{parent_of}
use Rattle.acpi_name.proofs.Parents.{parent_of-push}
use Rattle.std.proofs.lemmas.List.{take_more}
use Rattle.std.proofs.lemmas.Option.{slice_get_within, get_or_from_slice_get}

pub take_more_got : {X : Type 0} (a xs s t : List X) (i : ℕ) (x : X) → slice_get xs i ≡ Some x → s ≡ a ++ take i xs → t ≡ s ++ x ∷ [] → t ≡ a ++ take (i + 1) xs
take_more_got a xs s t i x g e f =
    let h : i < length xs = slice_get_within xs i x g in
    let more = take_more xs i x h in
    let at = get_or_from_slice_get xs i x x g in
    f ∙ ap (λ l. l ++ x ∷ []) e ∙ append_assoc a (take i xs) (x ∷ []) ∙ ap (λ l. a ++ l) (ap (λ y. take i xs ++ y ∷ []) (sym at) ∙ sym more)

last_or-push : {A : Type 0} (o : Option A) (l : List A) (y : A) → last_or o (l ++ y ∷ []) ≡ Some y
last_or-push o [] y = refl
last_or-push o (x ∷ l) y = last_or-push (Some x) l y

nil_of_length : {A : Type 0} (xs : List A) → ¬ (0 < length xs) → xs ≡ []
nil_of_length [] n = refl
nil_of_length (x ∷ xs) n = absurd (n (omega arith))

-- what `pop` leaves
pub popped : {A : Type 0} (old new : List A) (r : Option A) → old ≡ new ++ option_to_list r → (n : ℕ) → n ≡ length old → (IsSome r ↔ (0 < n)) → (r ≡ last_or None old)
    × (new ≡ parent_of old)
popped old new None e n l v =
    let nil : old ≡ [] = nil_of_length old (λ h. true≢false (sym (v.1 (omega arith)))) in
    let none : length new ≡ 0 = omega (arith, ap length e, ap length nil, length-append new []) in
    let new_nil : new ≡ [] = nil_of_length new (omega arith) in
    (ap (last_or None) (sym nil), new_nil ∙ ap parent_of (sym nil))
popped old new (Some x) e n l v = (sym (last_or-push None new x) ∙ ap (last_or None) (sym e), sym (parent_of-push new x) ∙ ap parent_of (sym e))
