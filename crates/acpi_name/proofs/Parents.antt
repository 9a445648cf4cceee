-- A path, its parent and its last segment.
use Rattle.std.proofs.Common.{◌≡◌, List, [], ◌∷◌, ◌++◌, Some, None, refl, ap}
use Rattle.std.specs.List.{last_or}
use Rattle.acpi_name.specs.Paths.{parent_of}

pub parent_of-push : {A : Type 0} (xs : List A) (x : A) → parent_of (xs ++ x ∷ []) ≡ xs
parent_of-push [] x = refl
parent_of-push (y ∷ []) x = refl
parent_of-push (y ∷ z ∷ zs) x = ap (λ r. y ∷ r) (parent_of-push (z ∷ zs) x)

-- a path that is not the root is its parent and its last segment
pub parent_of_last : {A : Type 0} (xs : List A) (x : A) → last_or None xs ≡ Some x → xs ≡ parent_of xs ++ x ∷ []
parent_of_last [] x e = cc
parent_of_last (y ∷ []) x e = let h : y ≡ x = cc in ap (λ z. z ∷ []) h
parent_of_last (y ∷ z ∷ zs) x e = ap (λ r. y ∷ r) (parent_of_last (z ∷ zs) x e)
