-- What spells a path is text.
use Rattle.std.proofs.Common.{◌≡◌, ℕ, ◌<◌, true, ◌&&◌, List, [], ◌∷◌, length, take, refl, sym, ap, subst, ◌∙◌, inl, inr, lit<}
use Rattle.std.specs.Prelude.{All}
use Rattle.std.specs.List.{AllZip, join_with_byte}
use Rattle.std.specs.Str.{IsUtf8}
use Rattle.std.proofs.Math.Seq.{take-append_seam}
use Rattle.std.proofs.lemmas.List.Elements.{All-nil, All-cons, All-append, All-take}
use Rattle.std.proofs.lemmas.Str.{IsUtf8-from_ascii}
use Rattle.std.proofs.lemmas.Str.Ascii.{IsAscii-from_all}
use Rattle.acpi_name.specs.Names.{Segment, is_segment, is_lead_char, is_name_char}
use Rattle.acpi_name.specs.Text.{IsTypedSegment, SpellsPathText, IsPathText}
use Rattle.acpi_name.proofs.NameAgain.{and_true}
use Rattle.acpi_name.proofs.Segments.{char_below}

abbrev AreBelow : List ℕ → Type 0
AreBelow bs = All (λ b. b < 128) bs

segment_below : (s : Segment) → is_segment s ≡ true → AreBelow s
segment_below [] h = absurd cc
segment_below (a ∷ []) h = absurd cc
segment_below (a ∷ b ∷ []) h = absurd cc
segment_below (a ∷ b ∷ c ∷ []) h = absurd cc
segment_below (a ∷ b ∷ c ∷ d ∷ []) h =
    let p = and_true (is_lead_char a && is_name_char b && is_name_char c) (is_name_char d) h in
    let q = and_true (is_lead_char a && is_name_char b) (is_name_char c) p.0 in
    let r = and_true (is_lead_char a) (is_name_char b) q.0 in
    let P : ℕ → Type 0 = λ n. n < 128 in
    All-cons P a (b ∷ c ∷ d ∷ []) (char_below a (rw r.0 refl)) (All-cons P b (c ∷ d ∷ []) (char_below b r.1) (All-cons P c (d ∷ []) (char_below c q.1) (All-cons P d [] (char_below d p.1) (All-nil P))))
segment_below (a ∷ b ∷ c ∷ d ∷ e ∷ s) h = absurd cc

typed_below : (g typed : List ℕ) → IsTypedSegment g typed → AreBelow typed
typed_below g typed h =
    subst AreBelow (ap (take (length typed)) h.filled ∙ take-append_seam typed _) (All-take (λ b. b < 128) (length typed) g (segment_below g h.segment))

joined_below : (p typed : List (List ℕ)) → AllZip IsTypedSegment p typed → AreBelow (join_with_byte 0x2E typed)
joined_below [] [] h = All-nil (λ b. b < 128)
joined_below [] (t ∷ ts) h = absurd h
joined_below (g ∷ p) [] h = absurd h
joined_below (g ∷ p) (t ∷ []) h = typed_below g t h.0
joined_below (g ∷ p) (t ∷ u ∷ ts) h =
    All-append (λ b. b < 128) t (0x2E ∷ join_with_byte 0x2E (u ∷ ts)) (typed_below g t h.0) (All-cons (λ b. b < 128) 0x2E (join_with_byte 0x2E (u ∷ ts)) (lit< tt) (joined_below p (u ∷ ts) h.1))

spelled_below : (p : List Segment) (text : List ℕ) → SpellsPathText p text → AreBelow text
spelled_below p text (inl h) = subst AreBelow (sym h.1) (All-cons (λ b. b < 128) 0x5C [] (lit< tt) (All-nil (λ b. b < 128)))
spelled_below p text (inr (typed, some, zip, is)) = subst AreBelow (sym is) (All-cons (λ b. b < 128) 0x5C (join_with_byte 0x2E typed) (lit< tt) (joined_below p typed zip))

pub path_is_text : (text : List ℕ) → IsPathText text → IsUtf8 text
path_is_text text (p, spells) = IsUtf8-from_ascii text (IsAscii-from_all text (spelled_below p text spells))
