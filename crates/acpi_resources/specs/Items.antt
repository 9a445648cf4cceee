-- Items: a tag, a length and so many bytes (ACPI 6.5, 6.4.2 and 6.4.3).
use Rattle.std.specs.Prelude.{◌≡◌, ◌≢◌, ◌⊎◌, ◌%◌, ◌<◌, ◌≤◌, ℕ, List, ◌∷◌, ◌++◌, length, nat_lt, if◌then◌else◌}
use Rattle.std.specs.Int.{w16, to_le_bytes}

-- A small item's tag is below 128, and its bits 2 to 0 are the length (6.4.2). A large one's has bit 7 set, and
-- two bytes of length follow it (6.4.3).
abbrev pub item_bytes : (tag : ℕ) (body : List ℕ) → List ℕ
item_bytes tag body =
    if nat_lt tag 128 then tag ∷ body else tag ∷ (to_le_bytes w16 (length body) ++ body)

-- The length is one that the tag, or two bytes, can tell.
abbrev pub IsItem : (tag : ℕ) (body : List ℕ) → Type 0
IsItem tag body =
    ((tag < 128) × (length body ≡ tag % 8)) ⊎ ((128 ≤ tag) × (tag < 256) × (length body < 65536))

-- No whole item stands at the front.
abbrev pub IsCut : List ℕ → Type 0
IsCut bytes = (tag : ℕ) (body rest : List ℕ) → IsItem tag body → bytes ≢ item_bytes tag body ++ rest
