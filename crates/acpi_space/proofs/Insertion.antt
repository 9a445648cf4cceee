-- A value that is put into a tree, as an insertion into its map.
use Rattle.std.proofs.Common.{◌≡◌, ℕ, ◌<◌, Bool, true, false, cond, List, [], ◌∷◌, ◌++◌, length, Option, Some, None, IsSome, is_some, slice_get, nat_eq, refl, sym, ap, ◌∙◌, subst, arith, Result, Ok, Err, OnOk, OnErr, IfErr}
use Rattle.std.proofs.lemmas.List.{append-nil}
use Rattle.std.specs.Option.{option_and_then}
use Rattle.std.specs.Ordering.{is_eq}
use Rattle.std.specs.FinMap.{get, insert}
use Rattle.acpi_name.specs.Names.{Segment}
use Rattle.acpi_name.specs.Paths.{path_cmp}
use Rattle.acpi_space.specs.declared.nodes.Node.{Node}
use Rattle.acpi_space.specs.declared.space.Refused.{Refused}
use Rattle.acpi_space.specs.declared.space.Refused.TheVariants.{Taken}
use Rattle.acpi_space.specs.Spaces.{PathMap}
use Rattle.acpi_space.specs.Refusal.{IsRefusal}
use Rattle.acpi_space.specs.steps.Grown.{IsGrown, HasPut}
use Rattle.acpi_space.specs.steps.Tree.{child_at, node_value, reached, value_below, tree_map, IsTree}
use Rattle.acpi_space.proofs.Tree.{child_within, get-tree, same_tree, put_tree}
use Rattle.acpi_space.proofs.Growth.{same_children_tree, same_reached}
use Rattle.acpi_space.proofs.Comparisons.{same_path, path_itself, same_number, other_number}

-- ---- two walks that end at one node are the same

-- the node at a path that is read from its last segment on
abbrev up : {V : Type 0} → List (Node V) → List Segment → Option ℕ
up nodes [] = Some 0
up nodes (g ∷ r) = option_and_then (λ a. child_at nodes a g) (up nodes r)

abbrev rev_onto : List Segment → List Segment → List Segment
rev_onto acc [] = acc
rev_onto acc (g ∷ q) = rev_onto (g ∷ acc) q

rev_rev : (y acc q : List Segment) → rev_onto y (rev_onto acc q) ≡ rev_onto (q ++ y) acc
rev_rev y acc [] = refl
rev_rev y acc (g ∷ q) = rev_rev y (g ∷ acc) q

rev_once : (q : List Segment) → rev_onto [] (rev_onto [] q) ≡ q
rev_once q = rev_rev [] [] q ∙ append-nil q

reached_up : {V : Type 0} (nodes : List (Node V)) (acc q : List Segment) → option_and_then (λ n. reached nodes n q) (up nodes acc) ≡ up nodes (rev_onto acc q)
reached_up nodes acc [] = by (up nodes acc)
  where
    by : (o : Option ℕ) → option_and_then (λ n. Some n) o ≡ o
    by None = refl
    by (Some n) = refl
reached_up nodes acc (g ∷ q) = by (up nodes acc) ∙ reached_up nodes (g ∷ acc) q
  where
    by : (o : Option ℕ) → option_and_then (λ n. option_and_then (λ m. reached nodes m q) (child_at nodes n g)) o ≡ option_and_then
        (λ n. reached nodes n q) (option_and_then (λ a. child_at nodes a g) o)
    by None = refl
    by (Some n) = refl

up_once : {V : Type 0} (nodes : List (Node V)) → IsTree nodes → (r s : List Segment) (k : ℕ) → up nodes r ≡ Some k → up nodes s ≡ Some k → r ≡ s
up_once nodes t [] [] k e f = refl
up_once nodes t [] (h ∷ s) k e f = by (up nodes s) f
  where
    by : (o : Option ℕ) → option_and_then (λ a. child_at nodes a h) o ≡ Some k → [] ≡ h ∷ s
    by None f = cc
    by (Some a) f = let w : a < k = (child_within nodes a k h t f).0 in let z : 0 ≡ k = cc in absurd (omega arith)
up_once nodes t (g ∷ r) [] k e f = by (up nodes r) e
  where
    by : (o : Option ℕ) → option_and_then (λ a. child_at nodes a g) o ≡ Some k → g ∷ r ≡ []
    by None e = cc
    by (Some a) e = let w : a < k = (child_within nodes a k g t e).0 in let z : 0 ≡ k = cc in absurd (omega arith)
up_once nodes t (g ∷ r) (h ∷ s) k e f = by (λ a. up_once nodes t r s a) (up nodes r) (up nodes s) refl refl e f
  where
    by : ((a : ℕ) → up nodes r ≡ Some a → up nodes s ≡ Some a → r ≡ s) → (o p : Option ℕ) → up nodes r ≡ o → up nodes s ≡ p
        → option_and_then (λ a. child_at nodes a g) o ≡ Some k → option_and_then (λ b. child_at nodes b h) p ≡ Some k → g ∷ r ≡ h ∷ s
    by ih None p er es e f = cc
    by ih (Some a) None er es e f = cc
    by ih (Some a) (Some b) er es e f =
        let one : (a ≡ b) × (g ≡ h) = t.1 a b k g h e f in
        let rest : r ≡ s = ih a er (es ∙ ap Some (sym one.0)) in
        (λ i. one.1 i ∷ rest i)

pub one_walk : {V : Type 0} (nodes : List (Node V)) → IsTree nodes → (p q : List Segment) (k : ℕ) → reached nodes 0 p ≡ Some k → reached nodes 0 q ≡ Some k → p ≡ q
one_walk nodes t p q k e f =
    let same : rev_onto [] p ≡ rev_onto [] q = up_once nodes t (rev_onto [] p) (rev_onto [] q) k (sym (reached_up nodes [] p) ∙ e) (sym (reached_up nodes [] q) ∙ f) in
    sym (rev_once p) ∙ ap (rev_onto []) same ∙ rev_once q

-- ---- a value is put

module _ {V : Type 0} (mid new : List (Node V)) (p : List Segment) (k : ℕ) (v : V) (t : IsTree mid) (at : reached mid 0 p ≡ Some k) (has : HasPut mid new k v) where
  put_is_tree : IsTree new
  put_is_tree = same_children_tree mid new has.children (let e : length new ≡ length mid = has.len in omega (arith, e)) t

  put_value : (q : List Segment) → value_below new 0 q ≡ cond (is_eq (path_cmp q p)) (Some v) (value_below mid 0 q)
  put_value q = ap (option_and_then (λ m. node_value (slice_get new m))) (same_reached mid new has.children 0 q) ∙ by (reached mid 0 q) refl (is_eq (path_cmp q p)) refl
    where
      there : (j : ℕ) → reached mid 0 q ≡ Some j → (b : Bool) → is_eq (path_cmp q p) ≡ b → (s : Bool) → nat_eq j k ≡ s
          → node_value (slice_get new j) ≡ cond b (Some v) (node_value (slice_get mid j))
      there j e b eb true es = let same : j ≡ k = same_number j k es in
          let path : q ≡ p = one_walk mid t q p k (e ∙ ap Some same) at in
          let yes : b ≡ true = sym eb ∙ ap (λ r. is_eq (path_cmp r p)) path ∙ path_itself p in
          ap (λ n. node_value (slice_get new n)) same ∙ has.value ∙ ap (λ c. cond c (Some v) (node_value (slice_get mid j))) (sym yes)
      there j e true eb false es =
          let path : q ≡ p = same_path q p eb in
          let both : Some j ≡ Some k = sym e ∙ ap (reached mid 0) path ∙ at in
          let same : j ≡ k = cc in absurd (other_number j k es same)
      there j e false eb false es = has.others j (other_number j k es)

      by : (o : Option ℕ) → reached mid 0 q ≡ o → (b : Bool) → is_eq (path_cmp q p) ≡ b
          → option_and_then (λ m. node_value (slice_get new m)) o ≡ cond b (Some v) (option_and_then (λ m. node_value (slice_get mid m)) o)
      by None e true eb = let none : None ≡ Some k = sym e ∙ ap (reached mid 0) (same_path q p eb) ∙ at in cc
      by None e false eb = refl
      by (Some j) e b eb = there j e b eb (nat_eq j k) refl

-- ---- the answers of an insertion, over the tree before it and the one that has the path's node

module _ {V : Type 0} (old mid : List (Node V)) (m : PathMap V) (p segs : List Segment) (t : IsTree old) (is : tree_map old ≡ m) (at : segs ≡ p) (grown : IsGrown old mid) where
  pub absent : value_below old 0 segs ≡ None → get m p ≡ None
  absent none = ap (λ x. get x p) (sym is) ∙ get-tree old p t ∙ ap (value_below old 0) (sym at) ∙ none

  pub unchanged : tree_map mid ≡ m
  unchanged = same_tree old mid t grown.tree (grown.values 0) ∙ is

  module _ (k : ℕ) (reach : reached mid 0 segs ≡ Some k) where
    got_there : get m p ≡ node_value (slice_get mid k)
    got_there =
        ap (λ x. get x p) (sym is) ∙ get-tree old p t ∙ sym (grown.values 0 p) ∙ ap (value_below mid 0) (sym at)
        ∙ ap (option_and_then (λ n. node_value (slice_get mid n))) reach

    pub was_free : (r : Result (Unit {0}) (Refused V)) → OnOk r (node_value (slice_get mid k) ≡ None) → OnOk r (get m p ≡ None)
    was_free (Ok u) h = got_there ∙ h
    was_free (Err e) h = tt

    module _ (new : List (Node V)) (v : V) where
      pub is_inserted : (r : Result (Unit {0}) (Refused V)) → OnOk r (HasPut mid new k v) → OnOk r (tree_map new ≡ insert m p v)
      is_inserted (Ok u) h =
          let here : reached mid 0 p ≡ Some k = ap (reached mid 0) (sym at) ∙ reach in
          put_tree mid new p v grown.tree (put_is_tree mid new p k v grown.tree here h) (put_value mid new p k v grown.tree here h) ∙ ap (λ x. insert x p v) unchanged
      is_inserted (Err e) h = tt

      pub is_tree : (r : Result (Unit {0}) (Refused V)) → OnOk r (HasPut mid new k v) → OnErr r (new ≡ mid) → IsTree new
      is_tree (Ok u) h e = put_is_tree mid new p k v grown.tree (ap (reached mid 0) (sym at) ∙ reach) h
      is_tree (Err f) h e = subst IsTree (sym e) grown.tree

      pub is_unchanged : (r : Result (Unit {0}) (Refused V)) → OnErr r (new ≡ mid) → OnErr r (tree_map new ≡ m)
      is_unchanged (Ok u) e = tt
      is_unchanged (Err f) e = ap tree_map e ∙ unchanged

      pub is_refused : (r : Result (Unit {0}) (Refused V)) → IfErr r (λ e. (e ≡ Taken v) × IsSome (node_value (slice_get mid k))) → IfErr r (IsRefusal m p v)
      is_refused (Ok u) h = tt
      is_refused (Err e) h = subst (IsRefusal m p v) (sym h.0) (ap is_some got_there ∙ h.1, refl)
