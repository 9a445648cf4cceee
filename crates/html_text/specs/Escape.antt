-- How data stands in HTML as text (HTML, 13.1.2.3 and 13.1.4).
use Rattle.std.specs.Prelude.{◌≡◌, ℕ, Bool, true, not, ◌&&◌, nat_eq, if◌then◌else◌, List, [], ◌∷◌, codes}
use Rattle.std.specs.List.{flat_map, list_all}

-- the characters that stand for a byte: an entity for `<`, `>`, `&`, `"` and `'`, and else the byte
abbrev pub entity_of : ℕ → List ℕ
entity_of b = if nat_eq b 60 then codes "&lt;" else (if nat_eq b 62 then codes "&gt;" else
    (if nat_eq b 38 then codes "&amp;"
    else (if nat_eq b 34 then codes "&quot;" else (if nat_eq b 39 then codes "&#39;" else b ∷ []))))

-- the characters that stand for bytes
abbrev pub escaped : List ℕ → List ℕ
escaped bytes = flat_map entity_of bytes

-- none of `<`, `>`, `"` and `'`
abbrev pub is_no_markup : ℕ → Bool
is_no_markup b = not (nat_eq b 60) && not (nat_eq b 62) && not (nat_eq b 34) && not (nat_eq b 39)

abbrev pub HasNoMarkup : Type 0
HasNoMarkup = (bytes : List ℕ) → list_all is_no_markup (escaped bytes) ≡ true
