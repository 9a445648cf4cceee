-- A tree to which nodes without a value are added.
use Rattle.std.proofs.Common.{◌≡◌, ◌≢◌, ℕ, ◌+◌, ◌<◌, ◌≤◌, Bool, true, false, cond, ◌⊎◌, inl, inr, List, [], ◌∷◌, length, map, Option, Some, None, slice_get, nat_eq, refl, sym, ap, ◌∙◌, subst, arith}
use Rattle.std.specs.Option.{option_and_then}
use Rattle.std.specs.declared.cmp.Ordering.TheVariants.{Less, Equal, Greater}
use Rattle.std.specs.Ordering.{is_eq, match_ordering}
use Rattle.std.specs.List.{AllByRecursion}
use Rattle.std.specs.List.Sorted.{IsStrictlySortedBy}
use Rattle.std.specs.BTreeMap.{insert_entry}
use Rattle.acpi_name.specs.Names.{Segment}
use Rattle.acpi_name.specs.Paths.{segment_cmp}
use Rattle.acpi_space.specs.declared.nodes.Node.{Node}
use Rattle.acpi_space.specs.steps.Grown.{IsGrown, IsPadded}
use Rattle.acpi_space.specs.steps.Tree.{child_of, child_at, node_children, node_value, reached, value_below, IsTree}
use Rattle.acpi_space.proofs.Tree.{child_within, value_below_step}
use Rattle.std.proofs.lemmas.Option.{slice_get_past}
use Rattle.acpi_space.proofs.Comparisons.{same_segment, segment_itself, same_number, other_number}

-- ---- nodes with the same children and values

module _ {V : Type 0} (old new : List (Node V)) (kids : (n : ℕ) → node_children (slice_get new n) ≡ node_children (slice_get old n)) where
  pub same_child : (n : ℕ) (g : Segment) → child_at new n g ≡ child_at old n g
  same_child n g = ap (λ es. child_of es g) (kids n)

  pub same_reached : (n : ℕ) (q : List Segment) → reached new n q ≡ reached old n q
  same_reached n [] = refl
  same_reached n (g ∷ q) = ap (option_and_then (λ m. reached new m q)) (same_child n g) ∙ (λ i. option_and_then (λ m. same_reached m q i) (child_at old n g))

  pub same_children_tree : length old ≤ length new → IsTree old → IsTree new
  same_children_tree more t = (
    λ n. (
      subst (λ es. IsStrictlySortedBy segment_cmp (map (λ e. e.0) es)) (sym (kids n)) (t.0 n).0,
      subst (λ es. AllByRecursion (λ e. (n < e.1) × (e.1 < length new)) es) (sym (kids n)) (wider n (node_children (slice_get old n)) (t.0 n).1),
    ),
    λ a b k g h e f. t.1 a b k g h (sym (same_child a g) ∙ e) (sym (same_child b h) ∙ f),
  )
    where
      wider : (n : ℕ) (es : List (Segment × ℕ)) → AllByRecursion (λ e. (n < e.1) × (e.1 < length old)) es → AllByRecursion (λ e. (n < e.1) × (e.1 < length new)) es
      wider n [] a = tt
      wider n (k ∷ es) a = let w : k.1 < length old = a.0.1 in ((a.0.0, omega (arith, w, more)), wider n es a.1)

module _ {V : Type 0} (old new : List (Node V)) (pad : IsPadded old new) where
  padded_values : (n : ℕ) (q : List Segment) → value_below new n q ≡ value_below old n q
  padded_values n q = ap (option_and_then (λ m. node_value (slice_get new m))) (same_reached old new pad.children n q) ∙ (λ i. option_and_then (λ m. pad.values m i) (reached old n q))

  pub padded_grown : length old ≤ length new → IsTree old → IsGrown old new
  padded_grown more t = record {
    tree = same_children_tree old new pad.children more t;
    values = padded_values;
    children = λ n g k e. same_child old new pad.children n g ∙ e;
  }

pub padded_itself : {V : Type 0} (nodes : List (Node V)) → IsPadded nodes nodes
padded_itself nodes = record { children = λ n. refl; values = λ n. refl }

pub grown_again : {V : Type 0} (old mid new : List (Node V)) → IsGrown old mid → IsGrown mid new → IsGrown old new
grown_again old mid new a b = record {
  tree = b.tree;
  values = λ n q. b.values n q ∙ a.values n q;
  children = λ n g k e. b.children n g k (a.children n g k e);
}

-- ---- an empty node that nobody leads to, made the child of another

all_inserted : (P : ℕ → Type 0) (es : List (Segment × ℕ)) (g : Segment) (m : ℕ) → P m → AllByRecursion (λ e. P e.1) es → AllByRecursion (λ e. P e.1) (insert_entry segment_cmp es g m)
all_inserted P [] g m p a = (p, tt)
all_inserted P (e ∷ es) g m p a =
    elim (segment_cmp g e.0) as (λ o. AllByRecursion (λ e. P e.1) (match_ordering o ((g, m) ∷ e ∷ es) ((e.0, m) ∷ es) (e ∷ insert_entry segment_cmp es g m))) [
      | Less ↦ (p, a)
      | Equal ↦ (p, a.1)
      | Greater ↦ (a.0, all_inserted P es g m p a.1)
    ]

-- what is known of the nodes before, and after the child was put
pub record IsLinked {V : Type 0} (old new : List (Node V)) (number : ℕ) (g : Segment) (m : ℕ) : Type 0 where
  pub tree : IsTree old
  pub above : number < m
  pub within : m < length old
  pub free : child_at old number g ≡ None
  pub no_children : node_children (slice_get old m) ≡ []
  pub no_value : node_value (slice_get old m) ≡ None
  pub no_parent : (a : ℕ) (h : Segment) → child_at old a h ≡ Some m → ⊥
  pub len : length new ≡ length old
  pub others : (n : ℕ) → n ≢ number → slice_get new n ≡ slice_get old n
  pub value : node_value (slice_get new number) ≡ node_value (slice_get old number)
  pub ordered : IsStrictlySortedBy segment_cmp (map (λ e. e.0) (node_children (slice_get new number)))
  pub entries : node_children (slice_get new number) ≡ insert_entry segment_cmp (node_children (slice_get old number)) g m
  pub child : (h : Segment) → child_at new number h ≡ cond (is_eq (segment_cmp g h)) (Some m) (child_at old number h)

module _ {V : Type 0} (old new : List (Node V)) (number : ℕ) (g : Segment) (m : ℕ) (is : IsLinked old new number g m) where
  child_other : (n : ℕ) (h : Segment) → n ≢ number → child_at new n h ≡ child_at old n h
  child_other n h e = ap (λ o. child_of (node_children o) h) (is.others n e)

  value_same : (n : ℕ) → node_value (slice_get new n) ≡ node_value (slice_get old n)
  value_same n = by (nat_eq n number) refl
    where
      by : (b : Bool) → nat_eq n number ≡ b → node_value (slice_get new n) ≡ node_value (slice_get old n)
      by true e = let at : number ≡ n = sym (same_number n number e) in subst (λ k. node_value (slice_get new k) ≡ node_value (slice_get old k)) at is.value
      by false e = ap node_value (is.others n (other_number n number e))

  -- a child is an old one, or the new one
  abbrev Origin : ℕ → Segment → Option ℕ → Type 0
  Origin n h o = (o ≡ child_at old n h) ⊎ ((n ≡ number) × (g ≡ h) × (o ≡ Some m))

  origin : (n : ℕ) (h : Segment) → Origin n h (child_at new n h)
  origin n h = by (nat_eq n number) refl
    where
      here : (b : Bool) → is_eq (segment_cmp g h) ≡ b → n ≡ number → child_at new number h ≡ cond b (Some m) (child_at old number h) → Origin n h (child_at new n h)
      here true s e c = inr (e, same_segment g h s, ap (λ k. child_at new k h) e ∙ c)
      here false s e c = inl (ap (λ k. child_at new k h) e ∙ c ∙ ap (λ k. child_at old k h) (sym e))

      by : (b : Bool) → nat_eq n number ≡ b → Origin n h (child_at new n h)
      by true e = here (is_eq (segment_cmp g h)) refl (same_number n number e) (is.child h)
      by false e = inl (child_other n h (other_number n number e))

  -- what a walk from the empty node finds
  from_empty : (q : List Segment) → value_below old m q ≡ None
  from_empty [] = is.no_value
  from_empty (h ∷ q) = ap (λ kids. option_and_then (λ k. node_value (slice_get old k)) (option_and_then (λ j. reached old j q) (child_of kids h))) is.no_children

  linked_values : (n : ℕ) (q : List Segment) → value_below new n q ≡ value_below old n q
  linked_values n [] = value_same n
  linked_values n (h ∷ q) =
      sym (value_below_step new (child_at new n h) q) ∙ by (λ k. linked_values k q) (child_at new n h) (origin n h) ∙ value_below_step old (child_at old n h) q
    where
      by : ((k : ℕ) → value_below new k q ≡ value_below old k q) → (o : Option ℕ) → Origin n h o
          → option_and_then (λ k. value_below new k q) o ≡ option_and_then (λ k. value_below old k q) (child_at old n h)
      by ih o (inl e) = (λ i. option_and_then (λ k. ih k i) o) ∙ ap (option_and_then (λ k. value_below old k q)) e
      by ih o (inr e) =
          let none : child_at old n h ≡ None = ap (λ k. child_at old k h) e.0 ∙ ap (child_at old number) (sym e.1) ∙ is.free in
          ap (option_and_then (λ k. value_below new k q)) e.2 ∙ ih m ∙ from_empty q ∙ sym (ap (option_and_then (λ k. value_below old k q)) none)

  kept_child : (n : ℕ) (h : Segment) (k : ℕ) → child_at old n h ≡ Some k → child_at new n h ≡ Some k
  kept_child n h k e = by (child_at new n h) (origin n h)
    where
      by : (o : Option ℕ) → Origin n h o → o ≡ Some k
      by o (inl f) = f ∙ e
      by o (inr f) =
          let none : child_at old n h ≡ None = ap (λ k. child_at old k h) f.0 ∙ ap (child_at old number) (sym f.1) ∙ is.free in
          cc

  linked_nodes : (n : ℕ) → IsStrictlySortedBy segment_cmp (map (λ e. e.0) (node_children (slice_get new n)))
      × AllByRecursion (λ e. (n < e.1) × (e.1 < length new)) (node_children (slice_get new n))
  linked_nodes n = by (nat_eq n number) refl
    where
      same_bound : (kids : List (Segment × ℕ)) → AllByRecursion (λ e. (n < e.1) × (e.1 < length old)) kids → AllByRecursion (λ e. (n < e.1) × (e.1 < length new)) kids
      same_bound kids a = subst (λ b. AllByRecursion (λ e. (n < e.1) × (e.1 < b)) kids) (sym is.len) a

      by : (b : Bool) → nat_eq n number ≡ b → IsStrictlySortedBy segment_cmp (map (λ e. e.0) (node_children (slice_get new n))) × AllByRecursion
          (λ e. (n < e.1) × (e.1 < length new)) (node_children (slice_get new n))
      by true e =
          let at : n ≡ number = same_number n number e in
          let kids : node_children (slice_get new n) ≡ insert_entry segment_cmp (node_children (slice_get old n)) g m =
          ap (λ k. node_children (slice_get new k)) at ∙ is.entries ∙ ap (λ k. insert_entry segment_cmp (node_children (slice_get old k)) g m) (sym at) in
          let below : n < m = subst (λ k. k < m) (sym at) is.above in (
            subst (λ k. IsStrictlySortedBy segment_cmp (map (λ e. e.0) (node_children (slice_get new k)))) (sym at) is.ordered,
            subst (λ kids. AllByRecursion (λ e. (n < e.1) × (e.1 < length new)) kids) (sym kids)
                (same_bound _ (all_inserted (λ j. (n < j) × (j < length old)) (node_children (slice_get old n)) g m (below, is.within) (is.tree.0 n).1)),
          )
      by false e =
          let same : node_children (slice_get old n) ≡ node_children (slice_get new n) = ap node_children (sym (is.others n (other_number n number e))) in (
            subst (λ kids. IsStrictlySortedBy segment_cmp (map (λ e. e.0) kids)) same (is.tree.0 n).0,
            subst (λ kids. AllByRecursion (λ e. (n < e.1) × (e.1 < length new)) kids) same (same_bound _ (is.tree.0 n).1),
          )

  linked_parents : (a b k : ℕ) (h i : Segment) → child_at new a h ≡ Some k → child_at new b i ≡ Some k → (a ≡ b) × (h ≡ i)
  linked_parents a b k h i e f = by (child_at new a h) (child_at new b i) (origin a h) (origin b i) e f
    where
      by : (o p : Option ℕ) → Origin a h o → Origin b i p → o ≡ Some k → p ≡ Some k → (a ≡ b) × (h ≡ i)
      by o p (inl x) (inl y) e f = is.tree.1 a b k h i (sym x ∙ e) (sym y ∙ f)
      by o p (inl x) (inr y) e f = let at : k ≡ m = cc in absurd (is.no_parent a h (sym x ∙ e ∙ ap Some at))
      by o p (inr x) (inl y) e f = let at : k ≡ m = cc in absurd (is.no_parent b i (sym y ∙ f ∙ ap Some at))
      by o p (inr x) (inr y) e f = (x.0 ∙ sym y.0, sym x.1 ∙ y.1)

  pub linked_grown : IsGrown old new
  linked_grown = record {
    tree = (linked_nodes, linked_parents);
    values = linked_values;
    children = kept_child;
  }

-- where the child was refused
pub unlinked_padded : {V : Type 0} (old new : List (Node V)) (number : ℕ) → ((n : ℕ) → n ≢ number → slice_get new n ≡ slice_get old n)
    → node_value (slice_get new number) ≡ node_value (slice_get old number) → node_children (slice_get new number) ≡ node_children (slice_get old number) → IsPadded old new
unlinked_padded {V} old new number others value kids = record {
  children = λ n. by n (nat_eq n number) refl (λ o. node_children o) kids;
  values = λ n. by n (nat_eq n number) refl (λ o. node_value o) value;
}
  where
    by : {B : Type 0} (n : ℕ) (b : Bool) → nat_eq n number ≡ b → (f : Option (Node V) → B) → f (slice_get new number) ≡ f (slice_get old number)
        → f (slice_get new n) ≡ f (slice_get old n)
    by n true e f h = let at : number ≡ n = sym (same_number n number e) in subst (λ k. f (slice_get new k) ≡ f (slice_get old k)) at h
    by n false e f h = ap f (others n (other_number n number e))

-- an empty node is put at the end, and made a child
module _ {V : Type 0} (old mid new : List (Node V)) (number : ℕ) (g : Segment) (m : ℕ)
    (tree : IsTree old) (within : number < length old) (free : child_at old number g ≡ None) (pad : IsPadded old mid) (more : length mid ≡ length old + 1) (last : m ≡ length old) where
  pub added_link : length new ≡ length mid → ((n : ℕ) → n ≢ number → slice_get new n ≡ slice_get mid n) → node_value (slice_get new number) ≡ node_value (slice_get mid number)
      → IsStrictlySortedBy segment_cmp (map (λ e. e.0) (node_children (slice_get new number))) → node_children (slice_get new number)
      ≡ insert_entry segment_cmp (node_children (slice_get mid number)) g m
      → ((h : Segment) → child_at new number h ≡ cond (is_eq (segment_cmp g h)) (Some m) (child_at mid number h)) → IsLinked mid new number g m
  added_link len others value ordered entries child =
      let gone : slice_get old m ≡ None = slice_get_past old m (omega arith) in
      record {
        tree = same_children_tree old mid pad.children (omega arith) tree;
        above = omega arith;
        within = omega arith;
        free = same_child old mid pad.children number g ∙ free;
        no_children = pad.children m ∙ ap node_children gone;
        no_value = pad.values m ∙ ap node_value gone;
        no_parent = λ a h e. let w : m < length old = (child_within old a m h tree (sym (same_child old mid pad.children a h) ∙ e)).1 in omega arith;
        len = len;
        others = others;
        value = value;
        ordered = ordered;
        entries = entries;
        child = child;
      }

-- it is there
pub linked_there : {V : Type 0} (old new : List (Node V)) (number : ℕ) (g : Segment) (m : ℕ)
    → ((h : Segment) → child_at new number h ≡ cond (is_eq (segment_cmp g h)) (Some m) (child_at old number h)) → child_at new number g ≡ Some m
linked_there old new number g m child = child g ∙ ap (λ b. cond b (Some m) (child_at old number g)) (segment_itself g)
