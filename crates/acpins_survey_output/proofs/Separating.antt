-- Texts that are put piece by piece, and texts of lists.
use Rattle.std.proofs.Common.{◌≡◌, ◌∙◌, ℕ, ◌≤◌, List, [], ◌∷◌, ◌++◌, length, map, codes, append_assoc, arith, ap, sym, refl}
use Rattle.std.specs.List.{flat_map}
use Rattle.acpi_text.specs.Constants.{separated}
use Rattle.acpi_text.proofs.Pieces.{next_said}
use Rattle.acpi_entries.specs.declared.condition.PlacedLiteral.{PlacedLiteral}
use Rattle.acpi_entries.specs.declared.links.Link.{Link}
use Rattle.acpi_entries.specs.ConditionViews.{link_view, link_views, placed_view, placed_views}
use Rattle.acpins_survey_output.specs.Conditions.{condition_text, literal_text}
use Rattle.acpins_survey_output.specs.Links.{link_text, links_text}

-- a piece of two parts behind another
pub pair_said : (old first label piece mid new : List ℕ) → mid ≡ old ++ first → new ≡ mid ++ (label ++ piece) → new ≡ old ++ (first ++ label ++ piece)
pair_said old first label piece mid new before last =
    next_said old first (label ++ piece) mid new before last ∙ ap (λ t. old ++ t) (sym (append_assoc first label piece))

-- ---- texts of views

pub flat_mapped : {X Y : Type 0} (f : Y → List ℕ) (g : X → Y) (xs : List X) → flat_map f (map g xs) ≡ flat_map (λ x. f (g x)) xs
flat_mapped f g [] = refl
flat_mapped f g (x ∷ xs) = ap (λ t. f (g x) ++ t) (flat_mapped f g xs)

pub some_links : (links : List Link) → 1 ≤ length links → links_text (link_views links) ≡ codes " -> " ++ separated (codes ", ") (λ l. link_text (link_view l)) links
some_links [] some = absurd (omega arith)
some_links (l ∷ ls) some = ap (λ t. codes " -> " ++ (link_text (link_view l) ++ t)) (flat_mapped (λ y. codes ", " ++ link_text y) link_view ls)

pub some_condition : (ls : List PlacedLiteral) → 1 ≤ length ls → condition_text (placed_views ls) ≡ codes " ?" ++ flat_map (λ y. codes " " ++ literal_text (placed_view y)) ls
some_condition [] some = absurd (omega arith)
some_condition (l ∷ ls) some = ap (λ t. codes " ?" ++ t) (flat_mapped (λ y. codes " " ++ literal_text y) placed_view (l ∷ ls))
