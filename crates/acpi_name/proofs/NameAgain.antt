-- A name that is spelled is read again: no spelling begins another.
use Rattle.std.proofs.Common.{Result, ◌≡◌, ℕ, zero, suc, ◌+◌, ◌≤◌, ◌<◌, Bool, true, false, ltb, leb, eqb, ◌&&◌, ◌||◌, List, [], ◌∷◌, ◌++◌, length, drop, replicate, Ok, refl, sym, ap, ◌∙◌, append_assoc, arith, inl, inr}
use Rattle.std.proofs.lemmas.Bool.{leb-true, le-ltb, eqb-true}
use Rattle.std.proofs.lemmas.Bool.Decides.{eqb_tells}
use Rattle.std.proofs.lemmas.List.{append_cancel_right, length-append, drop_at, length-replicate}
use Rattle.std.proofs.lemmas.List.Folds.{length-prefix_len}
use Rattle.std.specs.List.{list_all, prefix_len}
use Rattle.acpi_name.specs.Names.{Segment, NameParts, AreSegments, is_segment, is_lead_char}
use Rattle.acpi_name.specs.Spelling.{segment_bytes, prefix_of, SpellsPath, SpellsName}
use Rattle.acpi_name.specs.declared.reading.NameFault.{NameFault}
use Rattle.acpi_name.specs.Reading.{◌>>=◌, segment_at, segments_at, counted_at, path_at, ups, relative_at, name_at}

pub and_true : (a b : Bool) → (a && b) ≡ true → (a ≡ true) × (b ≡ true)
and_true true b h = (refl, h)
and_true false b h = absurd cc

pub neq : (a b : ℕ) → (a ≡ b → ⊥) → eqb a b ≡ false
neq a b h = elim (eqb_tells a b) [ inl t ↦ absurd (h t.1) | inr f ↦ f.0 ]

pub each : (s : Segment) (ss : List Segment) → AreSegments (s ∷ ss) → (is_segment s ≡ true) × AreSegments ss
each s ss h = and_true (is_segment s) (list_all is_segment ss) h

-- a segment's first byte is above 64
pub lead_above : (a : ℕ) → is_lead_char a ≡ true → 64 < a
lead_above a h = by_tests (leb 65 a) (leb a 90) (eqb a 95) refl refl h
  where
    by_tests : (p q r : Bool) → leb 65 a ≡ p → eqb a 95 ≡ r → ((p && q) || r) ≡ true → 64 < a
    by_tests true q r e f t = let le : 65 ≤ a = leb-true 65 a e in omega arith
    by_tests false q true e f t = let is : a ≡ 95 = eqb-true a 95 f in omega arith
    by_tests false q false e f t = absurd cc

first_above : (a b c d : ℕ) → is_segment (a ∷ b ∷ c ∷ d ∷ []) ≡ true → is_lead_char a ≡ true
first_above a b c d h = (and_true (is_lead_char a) _ (and_true _ _ (and_true _ _ h).0).0).0

pub segment_again : (s rest : List ℕ) → is_segment s ≡ true → segment_at (s ++ rest) ≡ Ok (s, rest)
unfolding segment_at
segment_again (a ∷ b ∷ c ∷ d ∷ []) rest h =
    let long : ltb (length (a ∷ b ∷ c ∷ d ∷ rest)) 4 ≡ false = le-ltb _ _ (omega arith) in
    rw (h, long) refl
segment_again [] rest h = absurd cc
segment_again (a ∷ []) rest h = absurd cc
segment_again (a ∷ b ∷ []) rest h = absurd cc
segment_again (a ∷ b ∷ c ∷ []) rest h = absurd cc
segment_again (a ∷ b ∷ c ∷ d ∷ e ∷ s) rest h = absurd cc

pub segments_again : (ss : List Segment) (rest : List ℕ) → AreSegments ss → segments_at (length ss) (segment_bytes ss ++ rest) ≡ Ok (ss, rest)
unfolding segments_at
segments_again [] rest h = refl
segments_again (s ∷ ss) rest h =
    let p = each s ss h in
    rw (append_assoc s (segment_bytes ss) rest, segment_again s (segment_bytes ss ++ rest) p.0, segments_again ss rest p.1) refl

-- a segment begins no other form
path_one : (s rest : List ℕ) → is_segment s ≡ true → path_at (s ++ rest) ≡ segments_at 1 (s ++ rest)
unfolding path_at
path_one (a ∷ b ∷ c ∷ d ∷ []) rest h =
    let up = lead_above a (first_above a b c d h) in
    let e0 : eqb a 0 ≡ false = neq a 0 (λ e. omega arith) in
    let e1 : eqb a 46 ≡ false = neq a 46 (λ e. omega arith) in
    let e2 : eqb a 47 ≡ false = neq a 47 (λ e. omega arith) in
    rw (e0, e1, e2) refl
path_one [] rest h = absurd cc
path_one (a ∷ []) rest h = absurd cc
path_one (a ∷ b ∷ []) rest h = absurd cc
path_one (a ∷ b ∷ c ∷ []) rest h = absurd cc
path_one (a ∷ b ∷ c ∷ d ∷ e ∷ s) rest h = absurd cc

path_again : (ss : List Segment) (p rest : List ℕ) → AreSegments ss → length ss < 256 → SpellsPath ss p → path_at (p ++ rest) ≡ Ok (ss, rest)
unfolding path_at counted_at
path_again [] p rest all few (inl h) = rw h.1 refl
path_again (s ∷ ss) p rest all few (inl h) = absurd (omega (arith, h.0))
path_again [] p rest all few (inr (inl h)) = absurd (omega (arith, h.0))
path_again (s ∷ []) p rest all few (inr (inl h)) =
    rw (h.1, append_assoc s [] rest) (path_one s rest (each s [] all).0) ∙ segments_again (s ∷ []) rest all
path_again (s ∷ t ∷ ss) p rest all few (inr (inl h)) = absurd (omega (arith, h.0))
path_again ss p rest all few (inr (inr (inl h))) = rw h.1 (rw (← h.0) (segments_again ss rest all))
path_again ss p rest all few (inr (inr (inr h))) =
    let some : eqb (length ss) 0 ≡ false = neq (length ss) 0 (λ e. omega (arith, h.0)) in
    let fits : ltb 255 (length ss) ≡ false = le-ltb _ _ (omega arith) in
    rw (h.1, some, fits) (segments_again ss rest all)

not_lead : (a b : ℕ) → is_lead_char b ≡ false → a ≡ b → is_lead_char a ≡ true → ⊥
not_lead a b h e k = let same : is_lead_char a ≡ is_lead_char b = ap is_lead_char e in absurd cc

-- a segment begins with neither 5C nor 5E
segment_start : (s : List ℕ) → is_segment s ≡ true → (b : ℕ) × (r : List ℕ) × (s ++ [] ≡ b ∷ r) × (eqb b 92 ≡ false) × (eqb b 94 ≡ false)
segment_start (a ∷ b ∷ c ∷ d ∷ []) h =
    let up = first_above a b c d h in
    (a, b ∷ c ∷ d ∷ [], refl, neq a 92 (λ e. absurd (not_lead a 92 refl e up)), neq a 94 (λ e. absurd (not_lead a 94 refl e up)))
segment_start [] h = absurd cc
segment_start (a ∷ []) h = absurd cc
segment_start (a ∷ b ∷ []) h = absurd cc
segment_start (a ∷ b ∷ c ∷ []) h = absurd cc
segment_start (a ∷ b ∷ c ∷ d ∷ e ∷ s) h = absurd cc

pub path_start : (ss : List Segment) (p : List ℕ) → AreSegments ss → SpellsPath ss p → (b : ℕ) × (r : List ℕ) × (p ≡ b ∷ r) × (eqb b 92 ≡ false) × (eqb b 94 ≡ false)
path_start ss p all (inl h) = (0, [], h.1, refl, refl)
path_start [] p all (inr (inl h)) = absurd (omega (arith, h.0))
path_start (s ∷ []) p all (inr (inl h)) = let start = segment_start s (each s [] all).0 in (start.0, start.1, h.1 ∙ start.2, start.3, start.4)
path_start (s ∷ t ∷ ss) p all (inr (inl h)) = absurd (omega (arith, h.0))
path_start ss p all (inr (inr (inl h))) = (46, segment_bytes ss, h.1, refl, refl)
path_start ss p all (inr (inr (inr h))) = (47, length ss ∷ segment_bytes ss, h.1, refl, refl)

ups_again : (n : ℕ) (b : ℕ) (r : List ℕ) → eqb b 94 ≡ false → prefix_len (λ x. eqb x 94) (replicate n 94 ++ b ∷ r) ≡ n
ups_again zero b r h = rw h refl
ups_again (suc n) b r h = ap (λ k. 1 + k) (ups_again n b r h) ∙ omega arith

-- a byte that is neither 5C nor 5E ends the bytes 5E
pub ups_of : (n b : ℕ) (rest : List ℕ) → eqb b 94 ≡ false → ups (replicate n 94 ++ b ∷ rest) ≡ n
ups_of n b rest h = rw (length-prefix_len (λ x. eqb x 94) (replicate n 94 ++ b ∷ rest)) (ups_again n b rest h)

pub relative_path : (n b : ℕ) (rest : List ℕ) → n < 256 → eqb b 94 ≡ false
    → relative_at (replicate n 94 ++ b ∷ rest) ≡ (path_at (b ∷ rest) >>= λ p. Ok (record { rooted = false; parents = n; segments = p.0 }, p.1))
unfolding relative_at
relative_path n b rest few h =
    let fits : ltb 255 n ≡ false = le-ltb _ _ (omega arith) in
    let back : drop n (replicate n 94 ++ b ∷ rest) ≡ b ∷ rest = drop_at (replicate n 94) (b ∷ rest) n (length-replicate n 94) in
    rw (ups_of n b rest h, fits, back) refl

not_rooted : (b : ℕ) (rest : List ℕ) → eqb b 92 ≡ false → name_at (b ∷ rest) ≡ relative_at (b ∷ rest)
unfolding name_at
not_rooted b rest h = rw h refl

relative_name : (n b : ℕ) (rest : List ℕ) → eqb b 92 ≡ false → name_at (replicate n 94 ++ b ∷ rest) ≡ relative_at (replicate n 94 ++ b ∷ rest)
relative_name zero b rest h = not_rooted b rest h
relative_name (suc n) b rest h = not_rooted 94 (replicate n 94 ++ b ∷ rest) refl

-- behind the bytes 5E a NamePath is read
pub relative_of : (n b : ℕ) (rest : List ℕ) → n < 256 → eqb b 92 ≡ false → eqb b 94 ≡ false
    → name_at (replicate n 94 ++ b ∷ rest) ≡ (path_at (b ∷ rest) >>= λ p. Ok (record { rooted = false; parents = n; segments = p.0 }, p.1))
relative_of n b rest few h k = relative_name n b rest h ∙ relative_path n b rest few k

parts_again : (rooted : Bool) (n : ℕ) (ss : List Segment) (path rest : List ℕ) → n < 256 → (rooted ≡ true → n ≡ 0) → AreSegments ss → length ss < 256 → SpellsPath ss path
    → name_at ((prefix_of rooted n ++ path) ++ rest) ≡ Ok (record { rooted = rooted; parents = n; segments = ss }, rest)
unfolding name_at
parts_again true n ss path rest few zero_ups all short p =
    rw (path_again ss path rest all short p) (ap (λ k. Ok (record { rooted = true; parents = k; segments = ss }, rest)) (sym (zero_ups refl)))
parts_again false n ss path rest few zero_ups all short p =
    let start = path_start ss path all p in
    let is : path ++ rest ≡ start.0 ∷ (start.1 ++ rest) = ap (λ (x : List ℕ). x ++ rest) start.2 in
    rw (append_assoc (replicate n 94) path rest, is) (relative_of n start.0 (start.1 ++ rest) few start.3 start.4 ∙ rw (← is, path_again ss path rest all short p) refl)

pub name_again : (n : NameParts) (bytes rest : List ℕ) → SpellsName n bytes → name_at (bytes ++ rest) ≡ Ok (n, rest)
name_again n bytes rest h = rw h.whole (parts_again n.rooted n.parents n.segments h.path rest h.is_name.few_parents h.is_name.no_parents h.is_name.are_segments h.is_name.few_segments h.spells_path)

pub name_long : (n : NameParts) (bytes : List ℕ) → SpellsName n bytes → 0 < length bytes
name_long n bytes h =
    let start = path_start n.segments h.path h.is_name.are_segments h.spells_path in
    let one : 0 < length h.path = rw start.2 (omega arith) in
    rw h.whole (omega (arith, length-append (prefix_of n.rooted n.parents) h.path))

abbrev answer : NameParts × List ℕ → Result (NameParts × List ℕ) NameFault
answer x = Ok x

answer_is : (x y : NameParts × List ℕ) → answer x ≡ answer y → x ≡ y
answer_is x y e = cc

-- no spelling begins another
pub one_spelling : (m n : NameParts) (a b more rest : List ℕ) → SpellsName m a → SpellsName n b → a ++ more ≡ b ++ rest → (m ≡ n) × (a ≡ b)
one_spelling m n a b more rest h k e =
    let same = answer_is (m, more) (n, rest) (sym (name_again m a more h) ∙ ap name_at e ∙ name_again n b rest k) in
    let behind : more ≡ rest = ap (λ (p : NameParts × List ℕ). p.1) same in
    (ap (λ (p : NameParts × List ℕ). p.0) same, append_cancel_right a b rest (ap (λ (r : List ℕ). a ++ r) (sym behind) ∙ e))
