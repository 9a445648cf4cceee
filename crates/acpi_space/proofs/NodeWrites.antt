-- A node among the nodes of a tree, and one that is written.
use Rattle.std.proofs.Common.{◌≡◌, ◌≢◌, ℕ, zero, suc, ◌<◌, List, [], ◌∷◌, length, Some, slice_get, slice_set, slice_index_or, refl, sym, ap, ◌∙◌, arith, Result, Ok, Err, OnErr}
use Rattle.std.proofs.lemmas.Option.{slice_get-get_or}
use Rattle.acpi_space.specs.declared.nodes.Node.{Node}
use Rattle.acpi_space.specs.steps.Tree.{entries_of, node_children, node_value}

pub on_err : {A E : Type 0} (P : Type 0) (r : Result A E) → P → OnErr r P
on_err P (Ok x) h = tt
on_err P (Err e) h = h

pub get_set : {X : Type 0} (xs : List X) (n : ℕ) (y : X) → n < length xs → slice_get (slice_set xs n y) n ≡ Some y
get_set [] n y h = absurd (omega arith)
get_set (x ∷ xs) zero y h = refl
get_set (x ∷ xs) (suc n) y h = get_set xs n y (omega arith)

pub get_set_other : {X : Type 0} (xs : List X) (k n : ℕ) (y : X) → n ≢ k → slice_get (slice_set xs k y) n ≡ slice_get xs n
get_set_other [] k n y h = refl
get_set_other (x ∷ xs) zero zero y h = absurd (h refl)
get_set_other (x ∷ xs) zero (suc n) y h = refl
get_set_other (x ∷ xs) (suc k) zero y h = refl
get_set_other (x ∷ xs) (suc k) (suc n) y h = get_set_other xs k n y (λ e. h (ap suc e))

module _ {V : Type 0} (nodes : List (Node V)) (number : ℕ) (was : Node V) (within : number < length nodes) (is : was ≡ slice_index_or nodes number was) where
  pub found_node : slice_get nodes number ≡ Some was
  found_node = slice_get-get_or nodes number was within ∙ ap Some (sym is)

  pub written_value : (node : Node V) → node.value ≡ was.value → node_value (slice_get (slice_set nodes number node) number) ≡ node_value (slice_get nodes number)
  written_value node e = ap node_value (get_set nodes number node within) ∙ e ∙ ap node_value (sym found_node)

  pub children_before : entries_of was.children ≡ node_children (slice_get nodes number)
  children_before = ap node_children (sym found_node)

pub written_children : {V : Type 0} (nodes : List (Node V)) (number : ℕ) (node : Node V) → number < length nodes
    → node_children (slice_get (slice_set nodes number node) number) ≡ entries_of node.children
written_children nodes number node within = ap node_children (get_set nodes number node within)
