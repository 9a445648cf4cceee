-- The pairs of a tree ascend by path.
use Rattle.std.proofs.Common.{◌≡◌, ℕ, zero, suc, List, [], ◌∷◌, ◌++◌, length, map, Option, Some, None, slice_get, refl, sym, ap, ◌∙◌}
use Rattle.std.specs.declared.cmp.Ordering.TheVariants.{Less}
use Rattle.std.specs.Ordering.{ordering_then}
use Rattle.std.specs.List.{flat_map, AllByRecursion}
use Rattle.std.specs.List.Sorted.{IsStrictlySortedBy}
use Rattle.std.specs.FinMap.{entries}
use Rattle.acpi_name.specs.Names.{Segment}
use Rattle.acpi_name.specs.Paths.{segment_cmp, path_cmp}
use Rattle.acpi_space.specs.declared.nodes.Node.{Node}
use Rattle.acpi_space.specs.steps.Tree.{node_children, node_value, own_pair, pairs_below, tree_map, IsTree}
use Rattle.acpi_space.specs.Spaces.{PathMap}
use Rattle.acpi_space.proofs.Maps.{entries_ascending}
use Rattle.acpi_space.proofs.Comparisons.{eq_of, segment_itself}
use Rattle.acpi_space.proofs.Elements.{all_append}

-- a pair before each of a list
abbrev Before : {V : Type 0} → List Segment → List (List Segment × V) → Type 0
Before p es = AllByRecursion (λ f. path_cmp p f.0 ≡ Less) es

abbrev Ascend : {V : Type 0} → List (List Segment × V) → Type 0
Ascend [] = Unit {0}
Ascend (e ∷ es) = Before e.0 es × Ascend es

ascend_append : {V : Type 0} (a b : List (List Segment × V)) → Ascend a → Ascend b → AllByRecursion (λ e. Before e.0 b) a → Ascend (a ++ b)
ascend_append [] b h k l = k
ascend_append (e ∷ a) b h k l = (all_append (λ f. path_cmp e.0 f.0 ≡ Less) a b h.0 l.0, ascend_append a b h.1 k l.1)

abbrev under : {V : Type 0} → Segment → List (List Segment × V) → List (List Segment × V)
under h es = map (λ p. (h ∷ p.0, p.1)) es

-- below one segment
before_under : {V : Type 0} (h : Segment) (p : List Segment) (es : List (List Segment × V)) → Before p es → Before (h ∷ p) (under h es)
before_under h p [] b = tt
before_under h p (e ∷ es) b = (ap (λ o. ordering_then o (path_cmp p e.0)) (eq_of _ (segment_itself h)) ∙ b.0, before_under h p es b.1)

ascend_under : {V : Type 0} (h : Segment) (es : List (List Segment × V)) → Ascend es → Ascend (under h es)
ascend_under h [] a = tt
ascend_under h (e ∷ es) a = (before_under h e.0 es a.0, ascend_under h es a.1)

-- below a lesser segment
before_greater : {V : Type 0} (h k : Segment) (p : List Segment) (es : List (List Segment × V)) → segment_cmp h k ≡ Less → Before (h ∷ p) (under k es)
before_greater h k p [] l = tt
before_greater h k p (e ∷ es) l = (ap (λ o. ordering_then o (path_cmp p e.0)) l, before_greater h k p es l)

before_children : {V : Type 0} (below : ℕ → List (List Segment × V)) (h : Segment) (p : List Segment) (kids : List (Segment × ℕ))
    → AllByRecursion (λ k. segment_cmp h k ≡ Less) (map (λ e. e.0) kids)
    → Before (h ∷ p) (flat_map (λ e. under e.0 (below e.1)) kids)
before_children below h p [] a = tt
before_children below h p (k ∷ kids) a = all_append (λ f. path_cmp (h ∷ p) f.0 ≡ Less) (under k.0 (below k.1)) _ (before_greater h k.0 p (below k.1) a.0) (before_children below h p kids a.1)

all_before : {V : Type 0} (h : Segment) (es rest : List (List Segment × V)) → ((p : List Segment) → Before (h ∷ p) rest) → AllByRecursion (λ e. Before e.0 rest) (under h es)
all_before h [] rest b = tt
all_before h (e ∷ es) rest b = (b e.0, all_before h es rest b)

ascend_children : {V : Type 0} (below : ℕ → List (List Segment × V)) (kids : List (Segment × ℕ)) → ((n : ℕ) → Ascend (below n)) → IsStrictlySortedBy segment_cmp (map (λ e. e.0) kids)
    → Ascend (flat_map (λ e. under e.0 (below e.1)) kids)
unfolding IsStrictlySortedBy
ascend_children below [] a s = tt
ascend_children below (k ∷ kids) a s =
    ascend_append (under k.0 (below k.1)) (flat_map (λ e. under e.0 (below e.1)) kids) (ascend_under k.0 (below k.1) (a k.1)) (ascend_children below kids a s.1)
    (all_before k.0 (below k.1) (flat_map (λ e. under e.0 (below e.1)) kids) (λ p. before_children below k.0 p kids s.0))

root_before : {V : Type 0} (below : ℕ → List (List Segment × V)) (kids : List (Segment × ℕ)) → Before [] (flat_map (λ e. under e.0 (below e.1)) kids)
root_before {V} below [] = tt
root_before {V} below (k ∷ kids) = all_append (λ f. path_cmp [] f.0 ≡ Less) (under k.0 (below k.1)) _ (all_less k.0 (below k.1)) (root_before below kids)
  where
    all_less : (h : Segment) (es : List (List Segment × V)) → Before [] (under h es)
    all_less h [] = tt
    all_less h (e ∷ es) = (refl, all_less h es)

ascend_own : {V : Type 0} (o : Option V) (rest : List (List Segment × V)) → Before [] rest → Ascend rest → Ascend (own_pair o ++ rest)
ascend_own None rest b a = a
ascend_own (Some v) rest b a = (b, a)

pub ascend_below : {V : Type 0} (nodes : List (Node V)) → IsTree nodes → (d n : ℕ) → Ascend (pairs_below d nodes n)
ascend_below nodes t zero n = tt
ascend_below nodes t (suc d) n =
    ascend_own (node_value (slice_get nodes n)) (flat_map (λ e. under e.0 (pairs_below d nodes e.1)) (node_children (slice_get nodes n)))
    (root_before (pairs_below d nodes) (node_children (slice_get nodes n)))
    (ascend_children (pairs_below d nodes) (node_children (slice_get nodes n)) (ascend_below nodes t d) (t.0 n).0)

pub sorted_pairs : {V : Type 0} (es : List (List Segment × V)) → Ascend es → IsStrictlySortedBy path_cmp (map (λ e. e.0) es)
unfolding IsStrictlySortedBy
sorted_pairs [] a = tt
sorted_pairs (e ∷ es) a = (keys es a.0, sorted_pairs es a.1)
  where
    keys : {V : Type 0} (es : List (List Segment × V)) → Before e.0 es → AllByRecursion (λ p. path_cmp e.0 p ≡ Less) (map (λ e. e.0) es)
    keys [] b = tt
    keys (f ∷ es) b = (b.0, keys es b.1)

-- so they are the entries of their map
pub listed_tree : {V : Type 0} (nodes : List (Node V)) (m : PathMap V) (given : List (List Segment × V)) → IsTree nodes → tree_map nodes ≡ m
    → given ≡ pairs_below (length nodes) nodes 0 → given ≡ entries m
listed_tree nodes m given t is e =
    e ∙ sym (entries_ascending (pairs_below (length nodes) nodes 0) (sorted_pairs (pairs_below (length nodes) nodes 0) (ascend_below nodes t (length nodes) 0))) ∙ ap entries is
