-- Bytes in which LoadTable, Load or Unload may be spelled (ACPI 6.5, 20.2.5.3 and 20.2.5.4).
use Rattle.std.specs.Prelude.{ℕ, Bool, false, List, [], ◌∷◌, ◌==◌, ◌&&◌, ◌||◌}

-- LoadTableOp := ExtOpPrefix 0x1F, LoadOp := ExtOpPrefix 0x20, UnloadOp := ExtOpPrefix 0x2A
abbrev pub begins_load : List ℕ → Bool
begins_load (p ∷ b ∷ bytes) = p == 0x5B && (b == 0x1F || (b == 0x20 || b == 0x2A))
begins_load _ = false

-- one of these stands at some place
abbrev pub holds_load : List ℕ → Bool
holds_load [] = false
holds_load (b ∷ bytes) = begins_load (b ∷ bytes) || holds_load bytes
