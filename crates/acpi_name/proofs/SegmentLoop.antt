-- Reading segments one after the other, as a loop does.
use Rattle.std.proofs.Common.{◌≡◌, ℕ, zero, suc, ◌-◌, ◌+◌, ◌*◌, ◌<◌, List, [], ◌∷◌, ◌++◌, length, take, drop, Result, Ok, Err, refl, sym, ap, ◌∙◌, append_assoc, arith}
use Rattle.std.specs.Simd.{first_chunks}
use Rattle.std.proofs.lemmas.List.{append-nil, drop-drop, drop-take, take-take}
use native.Mathlib.Numerals.{unary_clauses}
use Rattle.acpi_name.specs.Names.{Segment}
use Rattle.acpi_name.specs.declared.reading.NameFault.{NameFault}
use Rattle.acpi_name.specs.Reading.{◌>>=◌, segment_at, segments_at}

-- one chunk more
first_chunks-more : (n : ℕ) (bytes : List ℕ) → first_chunks 4 (suc n) bytes ≡ first_chunks 4 n bytes ++ take 4 (drop (4 * n) bytes) ∷ []
first_chunks-more zero bytes = refl
first_chunks-more (suc n) bytes =
    let j : 4 * suc n ≡ 4 + 4 * n = omega arith in
    let behind : drop (4 * suc n) bytes ≡ drop (4 * n) (drop 4 bytes) = rw (j, drop-drop) refl in
    rw behind (ap (λ (ss : List Segment). take 4 bytes ∷ ss) (first_chunks-more n (drop 4 bytes)))

-- the chunks of the front are those of the whole
first_chunks-take : (n : ℕ) (bytes : List ℕ) → first_chunks 4 n (take (4 * n) bytes) ≡ first_chunks 4 n bytes
first_chunks-take zero bytes = refl
first_chunks-take (suc n) bytes =
    let j : 4 * suc n ≡ 4 + 4 * n = omega arith in
    let first : take 4 (take (4 + 4 * n) bytes) ≡ take 4 bytes = take-take 4 (4 + 4 * n) bytes (omega arith) in
    let more : drop 4 (take (4 + 4 * n) bytes) ≡ take (4 * n) (drop 4 bytes) = drop-take 4 (4 * n) bytes in
    rw (j, first, more) (ap (λ (ss : List Segment). take 4 bytes ∷ ss) (first_chunks-take n (drop 4 bytes)))

-- what was read before, and what is still read
abbrev pub with_front : List Segment → Result (List Segment × List ℕ) NameFault → Result (List Segment × List ℕ) NameFault
with_front front read = read >>= λ x. Ok (front ++ x.0, x.1)

regroup : (front : List Segment) (s : Segment) (read : Result (List Segment × List ℕ) NameFault) → with_front front (read >>= λ x. Ok (s ∷ x.0, x.1)) ≡ with_front (front ++ s ∷ []) read
regroup front s (Ok x) = ap (λ (ss : List Segment). Ok (ss, x.1)) (simp append_assoc)
regroup front s (Err f) = refl

-- i segments of count are read, and rest follows them
pub record SoFar (count i : ℕ) (bytes rest : List ℕ) : Type 0 where
  pub len : length rest + 4 * i ≡ length bytes
  pub is_rest : rest ≡ drop (4 * i) bytes
  pub told : with_front (first_chunks 4 i bytes) (segments_at (count - i) rest) ≡ segments_at count bytes

pub starts : (count : ℕ) (bytes : List ℕ) → SoFar count 0 bytes bytes
starts count bytes = record { len = omega arith; is_rest = refl; told = simp unary_clauses (none_yet (segments_at count bytes)) }
  where
    none_yet : (r : Result (List Segment × List ℕ) NameFault) → with_front [] r ≡ r
    none_yet (Ok x) = refl
    none_yet (Err f) = refl

pub goes_on : (count i : ℕ) (bytes rest after : List ℕ) → i < count → segment_at rest ≡ Ok (take 4 rest, after) → length after + 4 ≡ length rest → after ≡ drop 4 rest
    → SoFar count i bytes rest → SoFar count (i + 1) bytes after
unfolding segments_at
goes_on count i bytes rest after lt h len after-is so =
    let k : count - i ≡ suc (count - (i + 1)) = omega arith in
    let j : 4 * (i + 1) ≡ 4 * i + 4 = omega arith in
    let front : first_chunks 4 (i + 1) bytes ≡ first_chunks 4 i bytes ++ take 4 rest ∷ [] = let n : i + 1 ≡ suc i = omega arith in rw (n, so.is_rest) (first_chunks-more i bytes) in
    let one : with_front (first_chunks 4 i bytes) (segments_at (count - i) rest)
    ≡ with_front (first_chunks 4 i bytes ++ take 4 rest ∷ []) (segments_at (count - (i + 1)) after) =
    rw (k, h) (regroup (first_chunks 4 i bytes) (take 4 rest) (segments_at (count - (i + 1)) after)) in
    record {
      len = omega arith;
      is_rest = after-is ∙ ap (drop 4) so.is_rest ∙ rw (j, drop-drop) refl;
      told = rw front (sym one ∙ so.told);
    }

pub ends : (count i : ℕ) (bytes rest : List ℕ) (f : NameFault) → i < count → segment_at rest ≡ Err f → SoFar count i bytes rest → segments_at count bytes ≡ Err f
unfolding segments_at
ends count i bytes rest f lt h so =
    let k : count - i ≡ suc (count - (i + 1)) = omega arith in
    let one : with_front (first_chunks 4 i bytes) (segments_at (count - i) rest) ≡ Err f = rw (k, h) refl in
    sym so.told ∙ one

pub is_done : (count i : ℕ) (bytes rest : List ℕ) → count ≡ i → SoFar count i bytes rest
    → segments_at count bytes ≡ Ok (first_chunks 4 count (take (4 * count) bytes), drop (4 * count) bytes)
unfolding segments_at
is_done count i bytes rest e so =
    let k : count - i ≡ 0 = omega arith in
    let one : with_front (first_chunks 4 i bytes) (segments_at (count - i) rest) ≡ Ok (first_chunks 4 i bytes, rest) = rw k (ap (λ (ss : List Segment). Ok (ss, rest)) (append-nil _)) in
    sym so.told ∙ one ∙ rw (e, so.is_rest, first_chunks-take i bytes) refl
