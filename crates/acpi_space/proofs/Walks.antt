-- How far a walk goes in a tree that grows.
use Rattle.std.proofs.Common.{◌≡◌, ℕ, ◌+◌, ◌<◌, List, [], ◌∷◌, ◌++◌, length, take, drop, Option, Some, None, slice_get, slice_index_or, refl, sym, ap, ◌∙◌}
use Rattle.std.specs.Option.{option_and_then}
use Rattle.std.proofs.lemmas.List.{take_more, take-append-drop, drop_more}
use Rattle.acpi_name.specs.Names.{Segment}
use Rattle.acpi_space.specs.declared.nodes.Node.{Node}
use Rattle.acpi_space.specs.steps.Grown.{IsGrown}
use Rattle.acpi_space.specs.steps.Tree.{child_at, node_value, reached, value_below}

pub reached-append : {V : Type 0} (nodes : List (Node V)) (n : ℕ) (a b : List Segment) → reached nodes n (a ++ b) ≡ option_and_then (λ m. reached nodes m b) (reached nodes n a)
reached-append nodes n [] b = refl
reached-append nodes n (g ∷ a) b = by (λ m. reached-append nodes m a b) (child_at nodes n g)
  where
    by : ((m : ℕ) → reached nodes m (a ++ b) ≡ option_and_then (λ m. reached nodes m b) (reached nodes m a)) → (o : Option ℕ)
        → option_and_then (λ m. reached nodes m (a ++ b)) o ≡ option_and_then (λ m. reached nodes m b) (option_and_then (λ m. reached nodes m a) o)
    by ih None = refl
    by ih (Some m) = ih m

-- a walk ends where it did
pub reached_grown : {V : Type 0} (old new : List (Node V)) (n : ℕ) (q : List Segment) (k : ℕ) → IsGrown old new → reached old n q ≡ Some k → reached new n q ≡ Some k
reached_grown old new n [] k grown e = e
reached_grown old new n (h ∷ q) k grown e = by (λ j. reached_grown old new j q k grown) (child_at old n h) refl e
  where
    by : ((j : ℕ) → reached old j q ≡ Some k → reached new j q ≡ Some k) → (o : Option ℕ) → child_at old n h ≡ o
        → option_and_then (λ j. reached old j q) o ≡ Some k → option_and_then (λ j. reached new j q) (child_at new n h) ≡ Some k
    by ih None f e = cc
    by ih (Some j) f e = ap (option_and_then (λ j. reached new j q)) (grown.children n h j f) ∙ ih j e

-- one segment further
pub step_reached : {V : Type 0} (mid new : List (Node V)) (path : List Segment) (from i number m : ℕ) (x : Segment) → IsGrown mid new
    → reached mid from (take i path) ≡ Some number → i < length path → x ≡ slice_index_or path i x → child_at new number x ≡ Some m → reached new from (take (i + 1) path) ≡ Some m
step_reached mid new path from i number m x grown at h is child =
    ap (reached new from) (take_more path i x h ∙ ap (λ y. take i path ++ y ∷ []) (sym is))
    ∙ reached-append new from (take i path) (x ∷ [])
    ∙ ap (option_and_then (λ n. reached new n (x ∷ []))) (reached_grown mid new from (take i path) number grown at)
    ∙ ap (option_and_then (λ n. reached new n [])) child

-- a path that goes on where there is no child has no value
pub step_absent : {V : Type 0} (old mid : List (Node V)) (path : List Segment) (from i number : ℕ) (x : Segment) → IsGrown old mid
    → reached mid from (take i path) ≡ Some number → i < length path → x ≡ slice_index_or path i x → child_at mid number x ≡ None → value_below old from path ≡ None
step_absent old mid path from i number x grown at h is free =
    let split : take i path ++ x ∷ drop (i + 1) path ≡ path =
    ap (λ y. take i path ++ y ∷ drop (i + 1) path) is ∙ ap (λ l. take i path ++ l) (sym (drop_more path i x h)) ∙ take-append-drop i path in
    sym (grown.values from path) ∙ ap (option_and_then (λ k. node_value (slice_get mid k)))
    (ap (reached mid from) (sym split) ∙ reached-append mid from (take i path) (x ∷ drop (i + 1) path)
    ∙ ap (option_and_then (λ n. reached mid n (x ∷ drop (i + 1) path))) at
    ∙ ap (option_and_then (λ n. reached mid n (drop (i + 1) path))) free)
