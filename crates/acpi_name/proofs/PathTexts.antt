-- A text of a path is read as that path, and nothing else is.
use Rattle.std.proofs.Common.{◌≡◌, ℕ, suc, ◌<◌, Bool, true, false, cond, eqb, ◌&&◌, Option, Some, None, List, [], ◌∷◌, ◌++◌, length, refl, sym, ap, subst, ◌∙◌, arith, inl, inr}
use Rattle.std.specs.List.{All, AllZip, join_with_byte, flat_map}
use Rattle.std.proofs.lemmas.Bool.{eqb-true}
use Rattle.std.proofs.lemmas.List.{append-nil}
use Rattle.std.proofs.lemmas.List.Elements.{All-from_recursion}
use Rattle.std.proofs.lemmas.List.Splits.{join_with_byte-slice_split, slice_split_none, slice_split_at, length-slice_split}
use Rattle.acpi_name.specs.Names.{Segment, AreSegments, is_segment, is_lead_char, is_name_char}
use Rattle.acpi_name.specs.Text.{path_text, IsTypedSegment, SpellsPathText, IsPathText}
use Rattle.acpi_name.specs.steps.TextReading.{checked_segment, typed_segment, before_segments, typed_segments, dotted_parts, path_of_text}
use Rattle.acpi_name.proofs.NameAgain.{and_true, neq, each}
use Rattle.acpi_name.proofs.NameTook.{chosen}

-- ---- what is read is typed so

checked_is : (g h : Segment) → checked_segment h ≡ Some g → (g ≡ h) × (is_segment h ≡ true)
checked_is g h e = by_test (is_segment h) refl e
  where
    by_test : (t : Bool) → is_segment h ≡ t → cond t (Some h) None ≡ Some g → (g ≡ h) × (is_segment h ≡ true)
    by_test true k f = let is : h ≡ g = cc in (sym is, k)
    by_test false k f = absurd cc

segment_typed : (typed : List ℕ) (g : Segment) → typed_segment typed ≡ Some g → IsTypedSegment g typed
segment_typed [] g e = absurd cc
segment_typed (a ∷ []) g e = let c = checked_is g (a ∷ 95 ∷ 95 ∷ 95 ∷ []) e in record { some = omega arith; few = omega arith; filled = c.0; segment = ap is_segment c.0 ∙ c.1 }
segment_typed (a ∷ b ∷ []) g e = let c = checked_is g (a ∷ b ∷ 95 ∷ 95 ∷ []) e in record { some = omega arith; few = omega arith; filled = c.0; segment = ap is_segment c.0 ∙ c.1 }
segment_typed (a ∷ b ∷ c ∷ []) g e = let k = checked_is g (a ∷ b ∷ c ∷ 95 ∷ []) e in record { some = omega arith; few = omega arith; filled = k.0; segment = ap is_segment k.0 ∙ k.1 }
segment_typed (a ∷ b ∷ c ∷ d ∷ []) g e =
    let k = checked_is g (a ∷ b ∷ c ∷ d ∷ []) e in record { some = omega arith; few = omega arith; filled = k.0; segment = ap is_segment k.0 ∙ k.1 }
segment_typed (a ∷ b ∷ c ∷ d ∷ x ∷ typed) g e = absurd cc

before_is : (o : Option Segment) (p : Option (List Segment)) (gs : List Segment) → before_segments o p ≡ Some gs → (g : Segment) × (hs : List Segment) × (o ≡ Some g)
    × (p ≡ Some hs) × (gs ≡ g ∷ hs)
before_is (Some g) (Some hs) gs e = let is : g ∷ hs ≡ gs = cc in (g, hs, refl, refl, sym is)
before_is (Some g) None gs e = absurd cc
before_is None p gs e = absurd cc

segments_typed : (parts : List (List ℕ)) (p : List Segment) → typed_segments parts ≡ Some p → AllZip IsTypedSegment p parts × (length p ≡ length parts)
segments_typed [] p e = let is : [] ≡ p = cc in subst (λ (q : List Segment). AllZip IsTypedSegment q [] × (length q ≡ 0)) is (tt, refl)
segments_typed (typed ∷ parts) p e =
    let b = before_is (typed_segment typed) (typed_segments parts) p e in
    let more = segments_typed parts b.1 b.3 in
    subst (λ (q : List Segment). AllZip IsTypedSegment q (typed ∷ parts) × (length q ≡ length (typed ∷ parts))) (sym b.4) ((segment_typed typed b.0 b.2, more.0), ap suc more.1)

pub text_took : (text : List ℕ) (p : List Segment) → path_of_text text ≡ Some p → SpellsPathText p text
text_took [] p e = absurd cc
text_took (b ∷ []) p e =
    elim (chosen (eqb b 92) _ _ (Some p) e) [
      | inl t ↦ let is : [] ≡ p = cc in inl (sym is, ap (λ k. k ∷ []) (eqb-true b 92 t.0))
      | inr f ↦ absurd cc
    ]
text_took (b ∷ c ∷ text) p e =
    elim (chosen (eqb b 92) _ _ (Some p) e) [
      | inl t ↦
          let s = segments_typed (dotted_parts (c ∷ text)) p t.1 in
          let count = length-slice_split (λ x. eqb x 46) (c ∷ text) in
          inr (dotted_parts (c ∷ text), omega arith, s.0, rw (eqb-true b 92 t.0) (ap (λ (r : List ℕ). 92 ∷ r) (sym (join_with_byte-slice_split 46 (c ∷ text)))))
      | inr f ↦ absurd cc
    ]

-- ---- what is typed so is read

checked_again : (h : Segment) → is_segment h ≡ true → checked_segment h ≡ Some h
checked_again h e = rw e refl

typed_again : (g typed : List ℕ) → IsTypedSegment g typed → typed_segment typed ≡ Some g
typed_again g [] h = absurd (omega (arith, h.some))
typed_again g (a ∷ []) h = ap checked_segment (sym h.filled) ∙ checked_again g h.segment
typed_again g (a ∷ b ∷ []) h = ap checked_segment (sym h.filled) ∙ checked_again g h.segment
typed_again g (a ∷ b ∷ c ∷ []) h = ap checked_segment (sym h.filled) ∙ checked_again g h.segment
typed_again g (a ∷ b ∷ c ∷ d ∷ []) h = ap checked_segment (sym h.filled) ∙ checked_again g h.segment
typed_again g (a ∷ b ∷ c ∷ d ∷ x ∷ typed) h = absurd (omega (arith, h.few))

segments_again : (p : List Segment) (typed : List (List ℕ)) → AllZip IsTypedSegment p typed → typed_segments typed ≡ Some p
segments_again [] [] h = refl
segments_again [] (t ∷ typed) h = absurd h
segments_again (g ∷ p) [] h = absurd h
segments_again (g ∷ p) (t ∷ typed) h = rw (typed_again g t h.0, segments_again p typed h.1) refl

-- no character of a segment is a dot
not_dot : (a : ℕ) → is_name_char a ≡ true → eqb a 46 ≡ false
not_dot a h = neq a 46 (λ e. let same : is_name_char a ≡ is_name_char 46 = ap is_name_char e in absurd cc)

lead_is_name : (a : ℕ) → is_lead_char a ≡ true → is_name_char a ≡ true
lead_is_name a h = rw h refl

undotted : (a b c d : ℕ) → is_segment (a ∷ b ∷ c ∷ d ∷ []) ≡ true → (eqb a 46 ≡ false) × (eqb b 46 ≡ false) × (eqb c 46 ≡ false) × (eqb d 46 ≡ false)
undotted a b c d h =
    let p = and_true (is_lead_char a && is_name_char b && is_name_char c) (is_name_char d) h in
    let q = and_true (is_lead_char a && is_name_char b) (is_name_char c) p.0 in
    let r = and_true (is_lead_char a) (is_name_char b) q.0 in
    (not_dot a (lead_is_name a r.0), not_dot b r.1, not_dot c q.1, not_dot d p.1)

no_dots : (g typed : List ℕ) → IsTypedSegment g typed → All (λ x. eqb x 46 ≡ false) typed
no_dots g [] h = absurd (omega (arith, h.some))
no_dots g (a ∷ []) h =
    let u = undotted a 95 95 95 (ap is_segment (sym h.filled) ∙ h.segment) in
    All-from_recursion (λ x. eqb x 46 ≡ false) (a ∷ []) (u.0, tt)
no_dots g (a ∷ b ∷ []) h =
    let u = undotted a b 95 95 (ap is_segment (sym h.filled) ∙ h.segment) in
    All-from_recursion (λ x. eqb x 46 ≡ false) (a ∷ b ∷ []) (u.0, (u.1, tt))
no_dots g (a ∷ b ∷ c ∷ []) h =
    let u = undotted a b c 95 (ap is_segment (sym h.filled) ∙ h.segment) in
    All-from_recursion (λ x. eqb x 46 ≡ false) (a ∷ b ∷ c ∷ []) (u.0, (u.1, (u.2, tt)))
no_dots g (a ∷ b ∷ c ∷ d ∷ []) h =
    let u = undotted a b c d (ap is_segment (sym h.filled) ∙ h.segment) in
    All-from_recursion (λ x. eqb x 46 ≡ false) (a ∷ b ∷ c ∷ d ∷ []) (u.0, (u.1, (u.2, (u.3, tt))))
no_dots g (a ∷ b ∷ c ∷ d ∷ x ∷ typed) h = absurd (omega (arith, h.few))

parts_again : (p : List Segment) (typed : List (List ℕ)) → 0 < length p → AllZip IsTypedSegment p typed → dotted_parts (join_with_byte 46 typed) ≡ typed
parts_again [] typed some h = absurd (omega arith)
parts_again (g ∷ p) [] some h = absurd h
parts_again (g ∷ []) (t ∷ []) some h = slice_split_none (λ x. eqb x 46) t (no_dots g t h.0)
parts_again (g ∷ []) (t ∷ u ∷ typed) some h = absurd h.1
parts_again (g ∷ k ∷ p) (t ∷ []) some h = absurd h.1
parts_again (g ∷ k ∷ p) (t ∷ u ∷ typed) some h =
    slice_split_at (λ x. eqb x 46) t 46 (join_with_byte 46 (u ∷ typed)) (no_dots g t h.0) refl ∙ ap (λ (r : List (List ℕ)). t ∷ r) (parts_again (k ∷ p) (u ∷ typed) (omega arith) h.1)

-- what is typed is not empty
typed_starts : (p : List Segment) (typed : List (List ℕ)) → 0 < length p → AllZip IsTypedSegment p typed → (c : ℕ) × (r : List ℕ) × (join_with_byte 46 typed ≡ c ∷ r)
typed_starts [] typed some h = absurd (omega arith)
typed_starts (g ∷ p) [] some h = absurd h
typed_starts (g ∷ p) ([] ∷ typed) some h = absurd (omega (arith, h.0.some))
typed_starts (g ∷ p) ((c ∷ t) ∷ []) some h = (c, t, refl)
typed_starts (g ∷ p) ((c ∷ t) ∷ u ∷ typed) some h = (c, t ++ (46 ∷ join_with_byte 46 (u ∷ typed)), refl)

pub text_again : (text : List ℕ) (p : List Segment) → SpellsPathText p text → path_of_text text ≡ Some p
text_again text p (inl h) = rw (h.0, h.1) refl
text_again text p (inr h) =
    let start = typed_starts p h.0 h.1 h.2 in
    let whole : text ≡ 92 ∷ start.0 ∷ start.1 = h.3 ∙ ap (λ (r : List ℕ). 92 ∷ r) start.2 in
    let parts : dotted_parts (start.0 ∷ start.1) ≡ h.0 = ap dotted_parts (sym start.2) ∙ parts_again p h.0 h.1 h.2 in
    rw whole (ap typed_segments parts ∙ segments_again p h.0 h.2)

-- ---- what is printed is read

printed_joined : (g : Segment) (gs : List Segment) → g ++ flat_map (λ h. 46 ∷ h) gs ≡ join_with_byte 46 (g ∷ gs)
printed_joined g [] = append-nil g
printed_joined g (h ∷ gs) = ap (λ (r : List ℕ). g ++ (46 ∷ r)) (printed_joined h gs)

segment_itself : (g : Segment) → is_segment g ≡ true → IsTypedSegment g g
segment_itself (a ∷ b ∷ c ∷ d ∷ []) h = record { some = omega arith; few = omega arith; filled = refl; segment = h }
segment_itself [] h = absurd cc
segment_itself (a ∷ []) h = absurd cc
segment_itself (a ∷ b ∷ []) h = absurd cc
segment_itself (a ∷ b ∷ c ∷ []) h = absurd cc
segment_itself (a ∷ b ∷ c ∷ d ∷ e ∷ g) h = absurd cc

segments_themselves : (gs : List Segment) → AreSegments gs → AllZip IsTypedSegment gs gs
segments_themselves [] h = tt
segments_themselves (g ∷ gs) h = let p = each g gs h in (segment_itself g p.0, segments_themselves gs p.1)

-- a path's printed text is one of its texts
pub printed_text : (p : List Segment) → AreSegments p → SpellsPathText p (path_text p)
printed_text [] h = inl (refl, refl)
printed_text (g ∷ gs) h = inr (g ∷ gs, omega arith, segments_themselves (g ∷ gs) h, ap (λ (r : List ℕ). 92 ∷ r) (printed_joined g gs))

-- ---- a text that gives no path is none

abbrev nothing : Option (List Segment)
nothing = None

some_not_none : (p : List Segment) → Some p ≡ nothing → ⊥
some_not_none p e = absurd cc

pub no_text : (text : List ℕ) → path_of_text text ≡ None → IsPathText text → ⊥
no_text text e h = some_not_none h.0 (sym (text_again text h.0 h.1) ∙ e)

pub is_no_text : (text : List ℕ) → (IsPathText text → ⊥) → path_of_text text ≡ None
is_no_text text h = by_reading (path_of_text text) refl
  where
    by_reading : (r : Option (List Segment)) → path_of_text text ≡ r → r ≡ None
    by_reading None e = refl
    by_reading (Some p) e = absurd (h (p, text_took text p e))
