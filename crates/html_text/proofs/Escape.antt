-- Escaped data.
use Rattle.std.proofs.Common.{◌≡◌, ◌∙◌, ℕ, Bool, true, false, cond, not, ◌&&◌, nat_eq, List, [], ◌∷◌, codes, refl, ap}
use Rattle.std.specs.List.{list_all}
use Rattle.std.proofs.lemmas.List.Folds.{list_all-append}
use Rattle.std.proofs.lemmas.Bool.{and_from}
use Rattle.html_text.specs.Escape.{entity_of, escaped, is_no_markup}

-- an entity, or a byte that is none of the characters
entity : (b : ℕ) (lt gt amp quote single : Bool) → is_no_markup b ≡ (not lt && not gt && not quote && not single)
    → list_all is_no_markup (cond lt (codes "&lt;") (cond gt (codes "&gt;") (cond amp (codes "&amp;") (cond quote (codes "&quot;") (cond single (codes "&#39;") (b ∷ [])))))) ≡ true
entity b true gt amp quote single is = refl
entity b false true amp quote single is = refl
entity b false false true quote single is = refl
entity b false false false true single is = refl
entity b false false false false true is = refl
entity b false false false false false is = ap (λ x. x && true) is

entity-no_markup : (b : ℕ) → list_all is_no_markup (entity_of b) ≡ true
entity-no_markup b = entity b (nat_eq b 60) (nat_eq b 62) (nat_eq b 38) (nat_eq b 34) (nat_eq b 39) refl

pub escaped-no_markup : (bytes : List ℕ) → list_all is_no_markup (escaped bytes) ≡ true
escaped-no_markup [] = refl
escaped-no_markup (b ∷ bs) = list_all-append is_no_markup (entity_of b) (escaped bs)
    ∙ and_from (list_all is_no_markup (entity_of b)) (list_all is_no_markup (escaped bs)) (entity-no_markup b) (escaped-no_markup bs)
