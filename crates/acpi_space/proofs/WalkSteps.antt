-- The steps of a walk, and what they leave to do.
use Rattle.std.proofs.Common.{◌≡◌, ℕ, ◌<◌, ◌+◌, List, [], ◌∷◌, ◌++◌, length, map, reverse, refl, sym, ap, ◌∙◌, arith, append_assoc, length-append}
use Rattle.std.proofs.lemmas.List.{reverse-append, map-append}
use Rattle.acpi_name.specs.Names.{Segment}
use Rattle.acpi_name.specs.Paths.{parent_of}
use Rattle.acpi_name.proofs.Parents.{parent_of-push}
use Rattle.acpi_space.specs.declared.walk.Step.{Step}
use Rattle.acpi_space.specs.declared.walk.Step.TheVariants.{Enter, Leave}
use Rattle.acpi_space.specs.steps.Walk.{ahead, enter}

pub last_first : {A : Type 0} (items rest : List A) (x : A) → items ≡ rest ++ x ∷ [] → reverse items ≡ x ∷ reverse rest
last_first items rest x e = ap reverse e ∙ reverse-append rest (x ∷ [])

-- a child is entered
pub entered : (path path' : List Segment) (items rest items' : List Step) (x : Step) (g : Segment) (n : ℕ)
    → items ≡ rest ++ x ∷ [] → x ≡ Enter g n → path' ≡ path ++ g ∷ [] → items' ≡ rest ++ Leave ∷ [] → ahead path (reverse items) ≡ (path', n) ∷ ahead path' (reverse items')
entered path path' items rest items' x g n e is at e' =
    ap (ahead path) (last_first items rest x e ∙ ap (λ s. s ∷ reverse rest) is)
    ∙ sym ((λ i. (at i, n) ∷ ahead (at i) (last_first items' rest Leave e' i))
    ∙ ap (λ q. (path ++ g ∷ [], n) ∷ ahead q (reverse rest)) (parent_of-push path g))

-- a node is left
pub left : (path path' : List Segment) (items rest : List Step) (x : Step) → items ≡ rest ++ x ∷ [] → x ≡ Leave → path' ≡ parent_of path
    → ahead path' (reverse rest) ≡ ahead path (reverse items)
left path path' items rest x e is at = ap (λ q. ahead q (reverse rest)) at ∙ sym (ap (ahead path) (last_first items rest x e ∙ ap (λ s. s ∷ reverse rest) is))

pub fewer : {A : Type 0} (items rest : List A) (x : A) → items ≡ rest ++ x ∷ [] → length rest < length items
fewer items rest x e = let l : length items ≡ length rest + 1 = ap length e ∙ length-append rest (x ∷ []) in omega arith

-- one more child is to be entered
pub pushed : (kids kids' : List (Segment × ℕ)) (items items' : List Step) (e : Segment × ℕ) (whole : List Step)
    → map enter kids ++ reverse items ≡ whole → kids ≡ kids' ++ e ∷ [] → items' ≡ items ++ enter e ∷ [] → map enter kids' ++ reverse items' ≡ whole
pushed kids kids' items items' e whole inv k p =
    ap (λ l. map enter kids' ++ l) (last_first items' items (enter e) p)
    ∙ sym (append_assoc (map enter kids') (enter e ∷ []) (reverse items)) ∙ ap (λ l. l ++ reverse items) (sym (map-append enter kids' (e ∷ [])))
    ∙ ap (λ l. map enter l ++ reverse items) (sym k) ∙ inv

-- the children of the node on a path
pub ahead_children : (path : List Segment) (kids : List (Segment × ℕ)) (steps : List Step)
    → ahead path (map enter kids ++ steps) ≡ map (λ e. (path ++ e.0 ∷ [], e.1)) kids ++ ahead path steps
ahead_children path [] steps = refl
ahead_children path (e ∷ kids) steps = ap (λ l. (path ++ e.0 ∷ [], e.1) ∷ l) (ahead_children path kids steps)
