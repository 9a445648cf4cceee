-- The search of a name where one path alone is defined.
use Rattle.std.proofs.Common.{◌≡◌, ◌↔◌, Bool, true, false, cond, true≢false, List, [], ◌∷◌, ◌++◌, drop, length, Option, Some, None, Result, Ok, Err, IfOk, refl, sym, ap, ◌∙◌}
use Rattle.std.specs.Prelude.{IsTrue, nat_eq}
use Rattle.std.specs.Cmp.Lexicographic.{pointwise, bytes_decides}
use Rattle.std.specs.List.{starts_with}
use Rattle.std.proofs.lemmas.List.{same_from_push}
use Rattle.std.proofs.lemmas.Slice.Eq.{starts_is}
use Rattle.acpi_name.specs.Names.{Segment, NameParts, plain_segment}
use Rattle.acpi_name.specs.Paths.{place_of}
use Rattle.acpi_space.specs.Laws.{IsBelow, IsLongestAnswer, IsPlaceAnswer, OtherIsAtPlace, PlainIsLongest}
use Rattle.acpi_space.specs.Lookups.{is_same_path}
use Rattle.acpi_space.specs.Search.{answer}
use Rattle.acpi_space.proofs.Comparisons.{path_itself, same_path}

-- the path ends in a segment, behind a beginning of the scope
pub is_below_one : (s path above : List Segment) (g last : Segment) (r : Bool) → path ≡ above ++ last ∷ [] → last ≡ g → r ≡ starts_with (pointwise nat_eq) s above → IsTrue r ↔ IsBelow s g path
is_below_one s path above g last r p e m = (to, from)
  where
    begins : (r ≡ true → s ≡ above ++ drop (length above) s) × ((rest : List Segment) → s ≡ above ++ rest → r ≡ true)
    begins = starts_is bytes_decides s above r m

    to : IsTrue r → IsBelow s g path
    to t = (above, drop (length above) s, begins.0 t, p ∙ ap (λ (x : Segment). above ++ x ∷ []) e)

    from : IsBelow s g path → IsTrue r
    from b = begins.1 b.1 (b.2 ∙ ap (λ q. q ++ b.1) (sym ((same_from_push above b.0 last g (sym p ∙ b.3)).0)))

longest_is : (s p : List Segment) (g : Segment) (b : Bool) (o : Option (List Segment)) → IsTrue b ↔ IsBelow s g p → IsLongestAnswer (λ q. is_same_path q p) s g o → o ≡ cond b (Some p) None
longest_is s p g true (Some q) iff l = ap Some (l.1 ∙ same_path (l.0 ++ g ∷ []) p l.2.passes)
longest_is s p g false (Some q) iff l = absurd (true≢false (sym (iff.1 (l.0, l.2.rest, l.2.begins, sym (same_path (l.0 ++ g ∷ []) p l.2.passes)))))
longest_is s p g true None iff none =
    let below : IsBelow s g p = iff.0 refl in
    absurd (true≢false (sym (path_itself p) ∙ ap (λ q. is_same_path q p) below.3 ∙ none below.0 below.1 below.2))
longest_is s p g false None iff none = refl

pub plain_is : PlainIsLongest → (s p : List Segment) (n : NameParts) (g : Segment) (b : Bool) → plain_segment n ≡ Some g → IsTrue b ↔ IsBelow s g p
    → answer (λ q. is_same_path q p) s n ≡ cond b (Some p) None
plain_is law s p n g b e iff = longest_is s p g b _ iff (law (λ q. is_same_path q p) s n g e)

at_place : (place : Option (List Segment)) (p : List Segment) (b : Bool) (o : Option (List Segment)) → IsTrue b ↔ (place ≡ Some p) → IsPlaceAnswer (λ q. is_same_path q p) place o → o ≡ cond b (Some p) None
at_place place p true (Some q) iff a = ap Some (same_path q p a.1)
at_place place p false (Some q) iff a = absurd (true≢false (sym (iff.1 (a.0 ∙ ap Some (same_path q p a.1)))))
at_place place p true None iff a = absurd (true≢false (sym (path_itself p) ∙ a p (iff.0 refl)))
at_place place p false None iff a = refl

other_is : OtherIsAtPlace → (s p : List Segment) (n : NameParts) (b : Bool) → plain_segment n ≡ None → IsTrue b ↔ (place_of s n ≡ Some p)
    → answer (λ q. is_same_path q p) s n ≡ cond b (Some p) None
other_is law s p n b e iff = at_place (place_of s n) p b _ iff (law (λ q. is_same_path q p) s n e)

pub other_of : {E : Type 0} → OtherIsAtPlace → (s p : List Segment) (n : NameParts) (r : Result Bool E) → plain_segment n ≡ None → IfOk r (λ b. IsTrue b ↔ (place_of s n ≡ Some p))
    → IfOk r (λ b. answer (λ q. is_same_path q p) s n ≡ cond b (Some p) None)
other_of law s p n (Ok b) e iff = other_is law s p n b e iff
other_of law s p n (Err x) e iff = tt
