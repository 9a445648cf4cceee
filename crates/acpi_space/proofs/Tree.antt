-- A tree of nodes answers what its walk finds.
use Rattle.std.proofs.Common.{◌≡◌, ℕ, zero, suc, ◌+◌, ◌<◌, ◌≤◌, Bool, true, false, cond, List, [], ◌∷◌, ◌++◌, map, length, Option, Some, None, slice_get, refl, sym, ap, ◌∙◌, subst, arith}
use Rattle.std.specs.Option.{option_and_then, option_or}
use Rattle.std.specs.declared.cmp.Ordering.TheVariants.{Less, Equal, Greater}
use Rattle.std.specs.Ordering.{is_eq, ordering_then}
use Rattle.std.specs.Cmp.Lexicographic.{nat_list_cmp_total}
use Rattle.std.specs.Map.{lookup}
use Rattle.std.specs.List.{flat_map, AllByRecursion}
use Rattle.std.specs.List.Sorted.{IsStrictlySortedBy}
use Rattle.std.specs.FinMap.{get, insert, same_map, get-insert}
use Rattle.acpi_name.specs.Names.{Segment}
use Rattle.acpi_name.specs.Paths.{segment_cmp, path_cmp}
use Rattle.acpi_name.specs.steps.PathOrder.{path_cmp_total, path_cmp-IsAntisymmetric}
use Rattle.acpi_space.specs.declared.nodes.Node.{Node}
use Rattle.acpi_space.specs.steps.Tree.{own_pair, child_of, child_at, node_children, node_value, pairs_below, reached, value_below, tree_map, IsTree}
use Rattle.acpi_space.proofs.Maps.{get_is_lookup}
use Rattle.acpi_space.proofs.Comparisons.{eq_of}
use Rattle.std.proofs.lemmas.Option.{slice_get_past}

abbrev at : {V : Type 0} → List Segment → List (List Segment × V) → Option V
at q es = lookup (λ k. is_eq (path_cmp q k)) es

at-append : {V : Type 0} (q : List Segment) (a b : List (List Segment × V)) → at q (a ++ b) ≡ option_or (at q a) (at q b)
at-append q [] b = refl
at-append q (e ∷ a) b =
    elim (is_eq (path_cmp q e.0)) as (λ t. cond t (Some e.1) (at q (a ++ b)) ≡ option_or (cond t (Some e.1) (at q a)) (at q b)) [
      | true ↦ refl
      | false ↦ at-append q a b
    ]

-- below a segment
abbrev under : {V : Type 0} → Segment → List (List Segment × V) → List (List Segment × V)
under h es = map (λ p. (h ∷ p.0, p.1)) es

at_root-under : {V : Type 0} (h : Segment) (es : List (List Segment × V)) → at [] (under h es) ≡ None
at_root-under h [] = refl
at_root-under h (e ∷ es) = at_root-under h es

at-under : {V : Type 0} (g h : Segment) (q : List Segment) (es : List (List Segment × V)) → at (g ∷ q) (under h es) ≡ cond (is_eq (segment_cmp g h)) (at q es) None
at-under {V} g h q [] = by (is_eq (segment_cmp g h))
  where
    nothing : Option V
    nothing = None

    by : (b : Bool) → at {V = V} (g ∷ q) [] ≡ cond b (at q []) None
    by true = refl
    by false = refl
at-under g h q (e ∷ es) =
    elim (segment_cmp g h) as (λ o. at (g ∷ q) (under h es) ≡ cond (is_eq o) (at q es) None
    → cond (is_eq (ordering_then o (path_cmp q e.0))) (Some e.1) (at (g ∷ q) (under h es))
    ≡ cond (is_eq o) (cond (is_eq (path_cmp q e.0)) (Some e.1) (at q es)) None) [
      | Less ↦ λ ih. ih
      | Equal ↦ λ ih. ap (cond (is_eq (path_cmp q e.0)) (Some e.1)) ih
      | Greater ↦ λ ih. ih
    ] (at-under g h q es)

-- no later child has the segment of an earlier one
none_after : (g h : Segment) (kids : List (Segment × ℕ)) → segment_cmp g h ≡ Equal → AllByRecursion (λ y. segment_cmp h y ≡ Less) (map (λ e. e.0) kids) → child_of kids g ≡ None
none_after g h [] e a = refl
none_after g h (k ∷ kids) e a =
    let less : segment_cmp g k.0 ≡ Less = nat_list_cmp_total.congr g h k.0 e ∙ a.0 in
    ap (λ o. cond (is_eq o) (Some k.1) (child_of kids g)) less ∙ none_after g h kids e a.1

pub or_none : {X : Type 0} (o : Option X) → option_or o None ≡ o
or_none None = refl
or_none (Some x) = refl

-- the children of a node, of which one at most has the segment
at-kids : {V : Type 0} (below : ℕ → List (List Segment × V)) (g : Segment) (q : List Segment) (kids : List (Segment × ℕ)) → IsStrictlySortedBy segment_cmp (map (λ e. e.0) kids)
    → at (g ∷ q) (flat_map (λ e. under e.0 (below e.1)) kids) ≡ option_and_then (λ n. at q (below n)) (child_of kids g)
unfolding IsStrictlySortedBy
at-kids below g q [] s = refl
at-kids {V} below g q (k ∷ kids) s = at-append (g ∷ q) (under k.0 (below k.1)) _ ∙ by (is_eq (segment_cmp g k.0)) refl (at-kids below g q kids s.1)
  where
    rest : Option V
    rest = at (g ∷ q) (flat_map (λ e. under e.0 (below e.1)) kids)

    by : (b : Bool) → is_eq (segment_cmp g k.0) ≡ b → at (g ∷ q) (flat_map (λ e. under e.0 (below e.1)) kids) ≡ option_and_then (λ n. at q (below n)) (child_of kids g)
        → option_or (at (g ∷ q) (under k.0 (below k.1))) (at (g ∷ q) (flat_map (λ e. under e.0 (below e.1)) kids)) ≡ option_and_then (λ n. at q (below n))
        (cond b (Some k.1) (child_of kids g))
    by true e ih =
        ap (λ o. option_or o (at (g ∷ q) (flat_map (λ e. under e.0 (below e.1)) kids))) (at-under g k.0 q (below k.1) ∙ ap (λ b. cond b (at q (below k.1)) None) e)
        ∙ ap (option_or (at q (below k.1))) (ih ∙ ap (option_and_then (λ n. at q (below n))) (none_after g k.0 kids (eq_of _ e) s.0))
        ∙ or_none (at q (below k.1))
    by false e ih =
        ap (λ o. option_or o (at (g ∷ q) (flat_map (λ e. under e.0 (below e.1)) kids))) (at-under g k.0 q (below k.1) ∙ ap (λ b. cond b (at q (below k.1)) None) e)
        ∙ ih

at_root-kids : {V : Type 0} (below : ℕ → List (List Segment × V)) (kids : List (Segment × ℕ)) → at [] (flat_map (λ e. under e.0 (below e.1)) kids) ≡ None
at_root-kids below [] = refl
at_root-kids below (k ∷ kids) =
    at-append [] (under k.0 (below k.1)) _ ∙ ap (λ o. option_or o (at [] (flat_map (λ e. under e.0 (below e.1)) kids))) (at_root-under k.0 (below k.1)) ∙ at_root-kids below kids

at_root-own : {V : Type 0} (o : Option V) → at [] (own_pair o) ≡ o
at_root-own None = refl
at_root-own (Some v) = refl

at-own : {V : Type 0} (g : Segment) (q : List Segment) (o : Option V) → at (g ∷ q) (own_pair o) ≡ None
at-own g q None = refl
at-own g q (Some v) = refl

child_above : (n m bound : ℕ) (g : Segment) (kids : List (Segment × ℕ)) → AllByRecursion (λ e. (n < e.1) × (e.1 < bound)) kids → child_of kids g ≡ Some m → (n < m) × (m < bound)
child_above n m bound g [] a e = cc
child_above n m bound g (k ∷ kids) a e = by (is_eq (segment_cmp g k.0)) e (child_above n m bound g kids a.1)
  where
    by : (b : Bool) → cond b (Some k.1) (child_of kids g) ≡ Some m → (child_of kids g ≡ Some m → (n < m) × (m < bound)) → (n < m) × (m < bound)
    by true e ih = let h : k.1 ≡ m = cc in subst (λ z. (n < z) × (z < bound)) h a.0
    by false e ih = ih e

-- a child has a greater number than its node, and is a node
pub child_within : {V : Type 0} (nodes : List (Node V)) (n m : ℕ) (g : Segment) → IsTree nodes → child_at nodes n g ≡ Some m → (n < m) × (m < length nodes)
child_within nodes n m g t e = child_above n m (length nodes) g (node_children (slice_get nodes n)) (t.0 n).1 e

-- a walk by its first step
pub value_below_step : {V : Type 0} (nodes : List (Node V)) (o : Option ℕ) (q : List Segment)
    → option_and_then (λ m. value_below nodes m q) o ≡ option_and_then (λ k. node_value (slice_get nodes k)) (option_and_then (λ m. reached nodes m q) o)
value_below_step nodes None q = refl
value_below_step nodes (Some m) q = refl

-- to a depth that reaches the last node, the pairs answer what the walk finds
pub at-pairs : {V : Type 0} (d : ℕ) (nodes : List (Node V)) (n : ℕ) (q : List Segment) → IsTree nodes → length nodes ≤ n + d → at q (pairs_below d nodes n) ≡ value_below nodes n q
at-pairs {V} zero nodes n q t h = none q
  where
    gone : slice_get nodes n ≡ None
    gone = slice_get_past nodes n (omega arith)

    none : (q : List Segment) → at {V = V} q [] ≡ value_below nodes n q
    none [] = sym (ap node_value gone)
    none (g ∷ q) = sym (ap (λ o. option_and_then (λ k. node_value (slice_get nodes k)) (option_and_then (λ m. reached nodes m q) (child_of (node_children o) g))) gone)
at-pairs {V} (suc d) nodes n [] t h =
    at-append [] (own_pair (node_value (slice_get nodes n))) _
    ∙ ap (option_or (at [] (own_pair (node_value (slice_get nodes n))))) (at_root-kids (pairs_below d nodes) (node_children (slice_get nodes n)))
    ∙ or_none (at [] (own_pair (node_value (slice_get nodes n)))) ∙ at_root-own (node_value (slice_get nodes n))
at-pairs {V} (suc d) nodes n (g ∷ q) t h =
    at-append (g ∷ q) (own_pair (node_value (slice_get nodes n))) _
    ∙ ap (λ o. option_or o (at (g ∷ q) (flat_map (λ e. under e.0 (pairs_below d nodes e.1)) (node_children (slice_get nodes n))))) (at-own g q (node_value (slice_get nodes n)))
    ∙ at-kids (pairs_below d nodes) g q (node_children (slice_get nodes n)) (t.0 n).0
    ∙ then (child_at nodes n g) (λ m e. (child_within nodes n m g t e).0) (λ m w. at-pairs d nodes m q t w)
    ∙ value_below_step nodes (child_at nodes n g) q
  where
    then : (o : Option ℕ) → ((m : ℕ) → o ≡ Some m → n < m) → ((m : ℕ) → length nodes ≤ m + d → at q (pairs_below d nodes m) ≡ value_below nodes m q)
        → option_and_then (λ m. at q (pairs_below d nodes m)) o ≡ option_and_then (λ m. value_below nodes m q) o
    then None above ih = refl
    then (Some m) above ih = let w : n < m = above m refl in ih m (omega (arith, h))

-- the map of a tree, by a walk from the root
pub get-tree : {V : Type 0} (nodes : List (Node V)) (q : List Segment) → IsTree nodes → get (tree_map nodes) q ≡ value_below nodes 0 q
get-tree nodes q t = get_is_lookup (pairs_below (length nodes) nodes 0) q ∙ at-pairs (length nodes) nodes 0 q t (omega arith)

-- two trees with the same walks
pub same_tree : {V : Type 0} (old new : List (Node V)) → IsTree old → IsTree new → ((q : List Segment) → value_below new 0 q ≡ value_below old 0 q) → tree_map new ≡ tree_map old
same_tree old new t u e = same_map path_cmp_total path_cmp-IsAntisymmetric _ _ (λ q. get-tree new q u ∙ e q ∙ sym (get-tree old q t))

-- .. but for one path
pub put_tree : {V : Type 0} (old new : List (Node V)) (p : List Segment) (v : V) → IsTree old → IsTree new
    → ((q : List Segment) → value_below new 0 q ≡ cond (is_eq (path_cmp q p)) (Some v) (value_below old 0 q)) → tree_map new ≡ insert (tree_map old) p v
put_tree old new p v t u e =
    same_map path_cmp_total path_cmp-IsAntisymmetric _ _
    (λ q. get-tree new q u ∙ e q ∙ ap (cond (is_eq (path_cmp q p)) (Some v)) (sym (get-tree old q t)) ∙ sym (get-insert path_cmp_total (tree_map old) p v q))

-- no node yet
pub empty_tree : {V : Type 0} (nodes : List (Node V)) → nodes ≡ [] → IsTree nodes
unfolding IsStrictlySortedBy
empty_tree nodes e = subst IsTree (sym e) (λ n. (tt, tt), λ a b k g h e f. cc)
