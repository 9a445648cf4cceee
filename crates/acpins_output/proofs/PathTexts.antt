-- The text of a path, part by part.
use Rattle.std.proofs.Common.{◌≡◌, ℕ, ◌+◌, List, [], ◌∷◌, ◌++◌, take, drop, get_or, length, ◌-◌, ◌≤◌, ◌<◌, arith, sym, ap, ◌∙◌}
use Rattle.std.specs.List.{flat_map}
use Rattle.std.proofs.lemmas.List.{take_more, flat_map_more}
use Rattle.acpi_name.specs.Text.{path_text}
use Rattle.acpins_io.proofs.Telling.{rest_is}

pub behind_more : (f : List ℕ → List ℕ) (segs : List (List ℕ)) (i : ℕ) (x : List ℕ) → i < length segs → x ≡ get_or segs i x
    → flat_map f (take (i + 1) segs) ≡ flat_map f (take i segs) ++ f x
behind_more f segs i x h e = ap (flat_map f) (take_more segs i x h ∙ ap (λ y. take i segs ++ y ∷ []) (sym e)) ∙ sym (flat_map_more f [] (take i segs) x)

pub path_said : (p : List (List ℕ)) (x : List ℕ) → 1 ≤ length p → x ≡ get_or p 0 x → path_text p ≡ (92 ∷ [] ++ x) ++ flat_map (λ h. 46 ∷ h) (take (length p - 1) (drop 1 p))
path_said [] x h e = absurd (omega (arith, h))
path_said (y ∷ ys) x h e =
    ap (λ z. 92 ∷ z ++ flat_map (λ h. 46 ∷ h) ys) (sym e)
    ∙ ap (λ t. 92 ∷ x ++ flat_map (λ h. 46 ∷ h) t) (sym (rest_is (y ∷ ys) 1))
