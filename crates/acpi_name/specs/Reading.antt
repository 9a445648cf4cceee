-- Reading a name from the left, up to the first fault (ACPI 6.5, 20.2.2 NameString).
use Rattle.std.specs.Prelude.{◌≡◌, ℕ, zero, suc, true, false, List, [], ◌∷◌, length, take, drop, Result, Ok, Err, nat_lt, ◌==◌, if◌then◌else◌}
use Rattle.std.specs.List.{take_while}
use Rattle.acpi_name.specs.Names.{Segment, NameParts, is_segment_front}
use Rattle.acpi_name.specs.declared.reading.NameFault.{NameFault}
use Rattle.acpi_name.specs.declared.reading.NameFault.TheVariants.{Cut, BadChar, ZeroCount, TooManyUps}

-- what a function returned is what reading gives
abbrev pub Answers : {X Y : Type 0} → (X → Y) → Result X NameFault → Result Y NameFault → Type 0
Answers view (Ok x) reading = reading ≡ Ok (view x)
Answers view (Err e) reading = reading ≡ Err e

-- go on with what was read, or stop at the first fault
infixl 10 ◌>>=◌
abbrev pub ◌>>=◌ : {A B : Type 0} → Result A NameFault → (A → Result B NameFault)
    → Result B NameFault
(Ok x) >>= f = f x
(Err e) >>= f = Err e

-- a segment, and the bytes behind it (20.2.2 NameSeg)
unfoldable pub segment_at : List ℕ → Result (Segment × List ℕ) NameFault
segment_at bytes =
    if is_segment_front bytes then (if nat_lt (length bytes) 4 then Err Cut else
    Ok (take 4 bytes, drop 4 bytes)) else Err BadChar

-- so many segments, and the bytes behind them
unfoldable pub segments_at : ℕ → List ℕ → Result (List Segment × List ℕ) NameFault
segments_at zero bytes = Ok ([], bytes)
segments_at (suc n) bytes = do
  s ← segment_at bytes
  ss ← segments_at n s.1
  Ok (s.0 ∷ ss.0, ss.1)

-- behind 2F: the number of segments, a byte that is not 0, and so many segments (20.2.2 MultiNamePath)
unfoldable pub counted_at : List ℕ → Result (List Segment × List ℕ) NameFault
counted_at [] = Err Cut
counted_at (n ∷ rest) =
    if n == 0 then Err ZeroCount else if nat_lt 255 n then Err BadChar else segments_at n rest

-- 00, 2E and two segments, 2F and a number of segments, or one segment (20.2.2 NamePath)
unfoldable pub path_at : List ℕ → Result (List Segment × List ℕ) NameFault
path_at [] = Err Cut
path_at (b ∷ rest) =
    if b == 0x00 then Ok ([], rest) else
    if b == 0x2E then segments_at 2 rest else
    if b == 0x2F then counted_at rest else
    segments_at 1 (b ∷ rest)

-- the number of bytes 5E at the front
abbrev pub ups : List ℕ → ℕ
ups bytes = length (take_while (λ b. b == 0x5E) bytes)

-- a name that does not begin at the root: at most 255 bytes 5E, and a NamePath (20.2.2 PrefixPath)
unfoldable pub relative_at : List ℕ → Result (NameParts × List ℕ) NameFault
relative_at bytes =
    if nat_lt 255 (ups bytes) then Err TooManyUps else
    (path_at
    (drop (ups bytes) bytes) >>=
    λ p. Ok (record { rooted = false; parents = ups bytes; segments = p.0 }, p.1))

-- a name, and the bytes behind it: 5C and a NamePath, or a name that does not begin at the root (20.2.2 NameString)
unfoldable pub name_at : List ℕ → Result (NameParts × List ℕ) NameFault
name_at [] = Err Cut
name_at (b ∷ rest) =
    if b == 0x5C then
    (path_at rest >>= λ p. Ok (record { rooted = true; parents = 0; segments = p.0 }, p.1)) else
    relative_at (b ∷ rest)
