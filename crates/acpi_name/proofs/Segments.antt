-- The bytes of a segment: text, and a number that is ordered as they are.
use Rattle.std.proofs.Common.{◌≡◌, ℕ, zero, suc, ◌+◌, ◌*◌, ◌<◌, ◌≤◌, Bool, true, false, ◌&&◌, ◌||◌, leb, eqb, List, [], ◌∷◌, length, take, drop, slice_index_or, refl, sym, arith}
use Rattle.std.proofs.lemmas.Bool.{leb-true, eqb-true}
use Rattle.std.proofs.lemmas.Str.{IsUtf8-from_ascii}
use Rattle.std.specs.Cmp.{nat_cmp_is, ranks}
use Rattle.std.specs.Cmp.Lexicographic.{slice_cmp}
use Rattle.std.specs.declared.cmp.Ordering.{Ordering}
use Rattle.std.specs.declared.cmp.Ordering.TheVariants.{Less, Equal, Greater}
use Rattle.std.specs.Int.{from_be_bytes, w32}
use Rattle.std.specs.Ordering.{nat_cmp, ordering_then, MatchOrdering}
use Rattle.std.specs.Str.{IsAscii, IsUtf8}
use Rattle.acpi_name.specs.Names.{Segment, AreSegments, is_segment, is_lead_char, is_name_char}
use Rattle.acpi_name.proofs.NameAgain.{and_true, each}

-- a character of a name is ASCII
pub char_below : (a : ℕ) → is_name_char a ≡ true → a < 128
char_below a h = by (leb 65 a) (leb a 90) (eqb a 95) (leb 48 a) (leb a 57) refl refl refl h
  where
    by : (p q r s t : Bool) → leb a 90 ≡ q → eqb a 95 ≡ r → leb a 57 ≡ t → (((p && q) || r) || (s && t)) ≡ true → a < 128
    by p true r s t eq er et h = let le : a ≤ 90 = leb-true a 90 eq in omega arith
    by p false true s t eq er et h = let is : a ≡ 95 = eqb-true a 95 er in omega arith
    by p false false s true eq er et h = let le : a ≤ 57 = leb-true a 57 et in omega arith
    by true false false true false eq er et h = absurd cc
    by true false false false false eq er et h = absurd cc
    by false false false true false eq er et h = absurd cc
    by false false false false false eq er et h = absurd cc

record AreBelow (a b c d : ℕ) : Type 0 where
  first : a < 128
  second : b < 128
  third : c < 128
  fourth : d < 128

below : (a b c d : ℕ) → is_segment (a ∷ b ∷ c ∷ d ∷ []) ≡ true → AreBelow a b c d
below a b c d h =
    let p = and_true (is_lead_char a && is_name_char b && is_name_char c) (is_name_char d) h in
    let q = and_true (is_lead_char a && is_name_char b) (is_name_char c) p.0 in
    let r = and_true (is_lead_char a) (is_name_char b) q.0 in
    record { first = char_below a (rw r.0 refl); second = char_below b r.1; third = char_below c q.1; fourth = char_below d p.1 }

ascii : (a b c d : ℕ) → AreBelow a b c d → IsAscii (a ∷ b ∷ c ∷ d ∷ [])
ascii a b c d h zero = h.first
ascii a b c d h (suc zero) = h.second
ascii a b c d h (suc (suc zero)) = h.third
ascii a b c d h (suc (suc (suc zero))) = h.fourth
ascii a b c d h (suc (suc (suc (suc i)))) = omega arith

pub segment_text : (s : Segment) → is_segment s ≡ true → IsUtf8 s
segment_text [] h = absurd cc
segment_text (a ∷ []) h = absurd cc
segment_text (a ∷ b ∷ []) h = absurd cc
segment_text (a ∷ b ∷ c ∷ []) h = absurd cc
segment_text (a ∷ b ∷ c ∷ d ∷ []) h = IsUtf8-from_ascii (a ∷ b ∷ c ∷ d ∷ []) (ascii a b c d (below a b c d h))
segment_text (a ∷ b ∷ c ∷ d ∷ e ∷ s) h = absurd cc

module _ (m n : ℕ) where
  -- a number in the place of the order
  abbrev Ranks : Ordering → Type 0
  Ranks o = MatchOrdering o (m < n) (m ≡ n) (n < m)

  -- a byte before others decides, unless it is the same
  before_others : (x y : ℕ) (r : Ordering) → (x < y → m < n) → (x ≡ y → Ranks r) → (y < x → n < m) → Ranks (ordering_then (nat_cmp x y) r)
  before_others x y r less same more = by (nat_cmp x y) (ranks x y)
    where
      by : (o : Ordering) → MatchOrdering o (x < y) (x ≡ y) (y < x) → Ranks (ordering_then o r)
      by Less h = less h
      by Equal h = same h
      by Greater h = more h

module _ (a b c d e f g h : ℕ) (p : AreBelow a b c d) (q : AreBelow e f g h) where
  abbrev one : ℕ
  one = a * 16777216 + b * 65536 + c * 256 + d

  abbrev other : ℕ
  other = e * 16777216 + f * 65536 + g * 256 + h

  by_fourth : a ≡ e → b ≡ f → c ≡ g → Ranks one other (ordering_then (nat_cmp d h) Equal)
  by_fourth i j k = before_others one other d h Equal (λ l. omega arith) (λ l. omega arith) (λ l. omega arith)

  by_third : a ≡ e → b ≡ f → Ranks one other (ordering_then (nat_cmp c g) (ordering_then (nat_cmp d h) Equal))
  by_third i j = before_others one other c g _ (λ l. omega (arith, p.fourth, q.fourth)) (by_fourth i j) (λ l. omega (arith, p.fourth, q.fourth))

  by_second : a ≡ e → Ranks one other (ordering_then (nat_cmp b f) (ordering_then (nat_cmp c g) (ordering_then (nat_cmp d h) Equal)))
  by_second i = before_others one other b f _ (λ l. omega (arith, p.third, p.fourth, q.third, q.fourth)) (by_third i) (λ l. omega (arith, p.third, p.fourth, q.third, q.fourth))

  by_first : Ranks one other (slice_cmp nat_cmp (a ∷ b ∷ c ∷ d ∷ []) (e ∷ f ∷ g ∷ h ∷ []))
  by_first = before_others one other a e _ (λ l. omega (arith, p.second, p.third, p.fourth, q.second, q.third, q.fourth)) by_second
      (λ l. omega (arith, p.second, p.third, p.fourth, q.second, q.third, q.fourth))

  in_order : slice_cmp nat_cmp (a ∷ b ∷ c ∷ d ∷ []) (e ∷ f ∷ g ∷ h ∷ []) ≡ nat_cmp one other
  in_order = nat_cmp_is one other _ by_first

pub segments_order : (s t : Segment) → is_segment s ≡ true → is_segment t ≡ true → nat_cmp (from_be_bytes w32 s) (from_be_bytes w32 t) ≡ slice_cmp nat_cmp s t
segments_order (a ∷ b ∷ c ∷ d ∷ []) (e ∷ f ∷ g ∷ h ∷ []) i j = sym (in_order a b c d e f g h (below a b c d i) (below e f g h j))
segments_order [] t i j = absurd cc
segments_order (a ∷ []) t i j = absurd cc
segments_order (a ∷ b ∷ []) t i j = absurd cc
segments_order (a ∷ b ∷ c ∷ []) t i j = absurd cc
segments_order (a ∷ b ∷ c ∷ d ∷ x ∷ s) t i j = absurd cc
segments_order (a ∷ b ∷ c ∷ d ∷ []) [] i j = absurd cc
segments_order (a ∷ b ∷ c ∷ d ∷ []) (e ∷ []) i j = absurd cc
segments_order (a ∷ b ∷ c ∷ d ∷ []) (e ∷ f ∷ []) i j = absurd cc
segments_order (a ∷ b ∷ c ∷ d ∷ []) (e ∷ f ∷ g ∷ []) i j = absurd cc
segments_order (a ∷ b ∷ c ∷ d ∷ []) (e ∷ f ∷ g ∷ h ∷ x ∷ t) i j = absurd cc

-- ---- the segments of a list

pub some_segments : (k : ℕ) (l : List Segment) → AreSegments l → AreSegments (take k l)
some_segments zero [] h = h
some_segments zero (s ∷ l) h = refl
some_segments (suc k) [] h = h
some_segments (suc k) (s ∷ l) h = let p = each s l h in rw (p.0, some_segments k l p.1) refl

segment_at : (l : List Segment) (i : ℕ) → AreSegments l → i < length l → is_segment (slice_index_or l i []) ≡ true
segment_at [] i h k = absurd (omega arith)
segment_at (s ∷ l) zero h k = (each s l h).0
segment_at (s ∷ l) (suc i) h k = segment_at l i (each s l h).1 (omega arith)

-- .. behind the first
pub later_segment : (l : List Segment) (k i : ℕ) → AreSegments l → i < length (take k (drop 1 l)) → is_segment (slice_index_or (take k (drop 1 l)) i []) ≡ true
later_segment [] k i h w = segment_at (take k []) i (some_segments k [] h) w
later_segment (s ∷ l) k i h w = segment_at (take k l) i (some_segments k l (each s l h).1) w

pub first_segment : (l : List Segment) → AreSegments l → 0 < length l → is_segment (slice_index_or l 0 []) ≡ true
first_segment l h w = segment_at l 0 h w
