-- The parts of a page.
use Rattle.std.proofs.Common.{◌≡◌, ◌∙◌, ℕ, List, [], ◌∷◌, ◌++◌, ap, sym}
use mathlib.Core.Logic.{∥∥₁_map}
use Rattle.std.specs.List.{flat_map}
use Rattle.std.proofs.lemmas.List.{append-nil, flat_map_more}
use Rattle.acpins_page.specs.Page.{Part, part_text, IsPage}

-- the head alone
pub no_parts : (head page : List ℕ) → page ≡ head → IsPage head page
no_parts head page is = ∣ ([], is ∙ sym (append-nil head)) ∣₁

-- one part more
pub one_part_more : (head old new : List ℕ) (part : Part) → IsPage head old → new ≡ old ++ part_text part → IsPage head new
one_part_more head old new part is more =
    ∥∥₁_map is (λ (q : (parts : List Part) × (old ≡ head ++ flat_map part_text parts)). (q.0 ++ part ∷ [], more ∙ ap (λ t. t ++ part_text part) q.1 ∙ flat_map_more part_text head q.0 part))
