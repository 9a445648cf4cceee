-- What is written spells the name, and nothing shorter does.
use Rattle.std.proofs.Common.{ℕ, ◌≤◌, List, [], ◌∷◌, ◌++◌, length, refl, sym, ap, ◌∙◌, arith, inl, inr}
use Rattle.std.proofs.lemmas.List.{length-append, append-nil}
use Rattle.acpi_name.specs.Names.{Segment, NameParts, IsName}
use Rattle.acpi_name.specs.Spelling.{prefix_of, SpellsPath, SpellsName, path_bytes, name_bytes}

path_written : (ss : List Segment) → SpellsPath ss (path_bytes ss)
path_written [] = inl (refl, refl)
path_written (s ∷ []) = inr (inl (refl, sym (append-nil s)))
path_written (s ∷ t ∷ []) = inr (inr (inl (refl, ap (λ (r : List ℕ). 46 ∷ (s ++ r)) (sym (append-nil t)))))
path_written (s ∷ t ∷ u ∷ ss) = inr (inr (inr (omega arith, refl)))

-- the shortest spelling is one
pub name_written : (n : NameParts) → IsName n → SpellsName n (name_bytes n)
name_written n h = record { is_name = h; path = path_bytes n.segments; spells_path = path_written n.segments; whole = refl }

path_shortest : (ss : List Segment) (p : List ℕ) → SpellsPath ss p → length (path_bytes ss) ≤ length p
path_shortest [] p (inl h) = rw h.1 (omega arith)
path_shortest [] p (inr (inl h)) = absurd (omega (arith, h.0))
path_shortest [] p (inr (inr (inl h))) = absurd (omega (arith, h.0))
path_shortest [] p (inr (inr (inr h))) = absurd (omega (arith, h.0))
path_shortest (s ∷ []) p (inl h) = absurd (omega (arith, h.0))
path_shortest (s ∷ []) p (inr (inl h)) = rw (h.1, append-nil s) (omega arith)
path_shortest (s ∷ []) p (inr (inr (inl h))) = absurd (omega (arith, h.0))
path_shortest (s ∷ []) p (inr (inr (inr h))) = rw (h.1, append-nil s) (omega arith)
path_shortest (s ∷ t ∷ []) p (inl h) = absurd (omega (arith, h.0))
path_shortest (s ∷ t ∷ []) p (inr (inl h)) = absurd (omega (arith, h.0))
path_shortest (s ∷ t ∷ []) p (inr (inr (inl h))) = rw (h.1, append-nil t) (omega arith)
path_shortest (s ∷ t ∷ []) p (inr (inr (inr h))) = rw (h.1, append-nil t) (omega arith)
path_shortest (s ∷ t ∷ u ∷ ss) p (inl h) = absurd (omega (arith, h.0))
path_shortest (s ∷ t ∷ u ∷ ss) p (inr (inl h)) = absurd (omega (arith, h.0))
path_shortest (s ∷ t ∷ u ∷ ss) p (inr (inr (inl h))) = absurd (omega (arith, h.0))
path_shortest (s ∷ t ∷ u ∷ ss) p (inr (inr (inr h))) = rw h.1 (omega arith)

-- no spelling is shorter
pub name_shortest : (n : NameParts) (bytes : List ℕ) → SpellsName n bytes → length (name_bytes n) ≤ length bytes
name_shortest n bytes h =
    let mine = length-append (prefix_of n.rooted n.parents) (path_bytes n.segments) in
    let other = ap length h.whole ∙ length-append (prefix_of n.rooted n.parents) h.path in
    let least = path_shortest n.segments h.path h.spells_path in
    omega arith
