-- What a walk through a tree has given and has still to give.
use Rattle.std.proofs.Common.{◌≡◌, ℕ, zero, suc, ◌+◌, ◌<◌, ◌≤◌, List, [], ◌∷◌, ◌++◌, length, map, reverse, Option, Some, None, slice_get, option_to_list, Bor, refl, sym, ap, ◌∙◌, subst, arith, append_assoc}
use Rattle.std.specs.FinMap.{entries}
use Rattle.std.specs.Option.{option_copied}
use Rattle.std.specs.List.{flat_map, AllByRecursion}
use Rattle.std.proofs.lemmas.List.{map-append, append-nil}
use Rattle.std.proofs.lemmas.Grind.{flat_map-append}
use Rattle.acpi_name.specs.Names.{Segment}
use Rattle.acpi_space.specs.declared.nodes.Node.{Node}
use Rattle.acpi_space.specs.declared.walk.Step.{Step}
use Rattle.acpi_space.specs.declared.walk.PairWalk.{PairWalk}
use Rattle.acpi_space.specs.Spaces.{PathMap}
use Rattle.acpi_space.specs.steps.Tree.{node_children, node_value, own_pair, node_pairs, pairs_below, tree_map, IsTree}
use Rattle.acpi_space.specs.steps.Walk.{ahead, next_ahead, enter, pair_at, under, pairs_of, places, places_of, left_of, with_given}
use Rattle.acpi_space.proofs.Ascending.{listed_tree}
use Rattle.std.proofs.lemmas.Option.{slice_get_past}
use Rattle.acpi_space.proofs.WalkSteps.{ahead_children}

abbrev pub total : {X : Type 0} → (X → ℕ) → List X → ℕ
total f [] = 0
total f (x ∷ l) = f x + total f l

total-append : {X : Type 0} (f : X → ℕ) (a b : List X) → total f (a ++ b) ≡ total f a + total f b
total-append f [] b = omega arith
total-append f (x ∷ a) b = let e : total f (a ++ b) ≡ total f a + total f b = total-append f a b in omega (arith, e)

-- ---- the depth does not matter once it reaches the last node

same_flat : {X A : Type 0} (P : X → Type 0) (f g : X → List A) → ((x : X) → P x → f x ≡ g x) → (l : List X) → AllByRecursion P l → flat_map f l ≡ flat_map g l
same_flat P f g e [] a = refl
same_flat P f g e (x ∷ l) a = (λ i. e x a.0 i ++ same_flat P f g e l a.1 i)

same_sum : {X : Type 0} (P : X → Type 0) (f g : X → ℕ) → ((x : X) → P x → f x ≡ g x) → (l : List X) → AllByRecursion P l → total f l ≡ total g l
same_sum P f g e [] a = refl
same_sum P f g e (x ∷ l) a = (λ i. e x a.0 i + same_sum P f g e l a.1 i)

no_pairs : {V : Type 0} (below : ℕ → List (List Segment × V)) (o : Option (Node V)) → o ≡ None → [] ≡ node_pairs below o
no_pairs below None e = refl
no_pairs below (Some node) e = cc

deep_enough : {V : Type 0} (nodes : List (Node V)) → IsTree nodes → (d e n : ℕ) → length nodes ≤ n + d → length nodes ≤ n + e → pairs_below d nodes n ≡ pairs_below e nodes n
deep_enough nodes t zero zero n h k = refl
deep_enough nodes t zero (suc e) n h k = no_pairs (pairs_below e nodes) (slice_get nodes n) (slice_get_past nodes n (omega arith))
deep_enough nodes t (suc d) zero n h k = sym (no_pairs (pairs_below d nodes) (slice_get nodes n) (slice_get_past nodes n (omega arith)))
deep_enough nodes t (suc d) (suc e) n h k =
    ap (λ l. own_pair (node_value (slice_get nodes n)) ++ l)
    (same_flat (λ c. (n < c.1) × (c.1 < length nodes)) (λ c. map (λ p. (c.0 ∷ p.0, p.1)) (pairs_below d nodes c.1)) (λ c. map (λ p. (c.0 ∷ p.0, p.1)) (pairs_below e nodes c.1))
    (λ c w. ap (map (λ p. (c.0 ∷ p.0, p.1))) (deep_enough nodes t d e c.1 (let a : n < c.1 = w.0 in omega (arith, h)) (let a : n < c.1 = w.0 in omega (arith, k))))
    (node_children (slice_get nodes n)) (t.0 n).1)

-- all pairs at and below a node
abbrev below : {V : Type 0} → List (Node V) → ℕ → List (List Segment × V)
below nodes n = pairs_below (length nodes) nodes n

below_node : {V : Type 0} (nodes : List (Node V)) → IsTree nodes → (n : ℕ) → below nodes n ≡ node_pairs (below nodes) (slice_get nodes n)
below_node nodes t n = deep_enough nodes t (length nodes) (suc (length nodes)) n (omega arith) (omega arith)

-- how many nodes a walk visits from a node on, itself too
abbrev visits_to : {V : Type 0} → ℕ → List (Node V) → ℕ → ℕ
visits_to zero nodes n = 1
visits_to (suc d) nodes n = suc (total (λ c. visits_to d nodes c.1) (node_children (slice_get nodes n)))

alone : {V : Type 0} (nodes : List (Node V)) (n d : ℕ) → length nodes ≤ n + 0 → 1 ≡ suc (total (λ c. visits_to d nodes c.1) (node_children (slice_get nodes n)))
alone nodes n d h = ap (λ o. suc (total (λ c. visits_to d nodes c.1) (node_children o))) (sym (slice_get_past nodes n (omega arith)))

far_enough : {V : Type 0} (nodes : List (Node V)) → IsTree nodes → (d e n : ℕ) → length nodes ≤ n + d → length nodes ≤ n + e → visits_to d nodes n ≡ visits_to e nodes n
far_enough nodes t zero zero n h k = refl
far_enough nodes t zero (suc e) n h k = alone nodes n e h
far_enough nodes t (suc d) zero n h k = sym (alone nodes n d k)
far_enough nodes t (suc d) (suc e) n h k =
    ap suc (same_sum (λ c. (n < c.1) × (c.1 < length nodes)) (λ c. visits_to d nodes c.1) (λ c. visits_to e nodes c.1)
    (λ c w. far_enough nodes t d e c.1 (let a : n < c.1 = w.0 in omega (arith, h)) (let a : n < c.1 = w.0 in omega (arith, k)))
    (node_children (slice_get nodes n)) (t.0 n).1)

abbrev visits : {V : Type 0} → List (Node V) → ℕ → ℕ
visits nodes n = visits_to (length nodes) nodes n

visits_node : {V : Type 0} (nodes : List (Node V)) → IsTree nodes → (n : ℕ) → visits nodes n ≡ suc (total (λ c. visits nodes c.1) (node_children (slice_get nodes n)))
visits_node nodes t n = far_enough nodes t (length nodes) (suc (length nodes)) n (omega arith) (omega arith)

-- ---- what is left

-- .. and how many visits that takes
abbrev pub visits_of : {V : Type 0} → List (Node V) → List (List Segment × ℕ) → ℕ
visits_of nodes places = total (λ e. visits nodes e.1) places

under_deeper : {V : Type 0} (path : List Segment) (g : Segment) (es : List (List Segment × V)) → under (path ++ g ∷ []) es ≡ under path (map (λ p. (g ∷ p.0, p.1)) es)
under_deeper path g [] = refl
under_deeper path g (e ∷ es) = (λ i. (append_assoc path (g ∷ []) e.0 i, e.1) ∷ under_deeper path g es i)

under_root : {V : Type 0} (es : List (List Segment × V)) → under [] es ≡ es
under_root [] = refl
under_root (e ∷ es) = ap (λ l. e ∷ l) (under_root es)

under_children : {V : Type 0} (nodes : List (Node V)) (path : List Segment) (kids : List (Segment × ℕ))
    → pairs_of nodes (map (λ e. (path ++ e.0 ∷ [], e.1)) kids) ≡ under path (flat_map (λ e. map (λ p. (e.0 ∷ p.0, p.1)) (below nodes e.1)) kids)
under_children nodes path [] = refl
under_children nodes path (e ∷ kids) =
    (λ i. under_deeper path e.0 (below nodes e.1) i ++ under_children nodes path kids i)
    ∙ sym (map-append (λ p. (path ++ p.0, p.1)) (map (λ p. (e.0 ∷ p.0, p.1)) (below nodes e.1)) (flat_map (λ e. map (λ p. (e.0 ∷ p.0, p.1)) (below nodes e.1)) kids))

own_under : {V : Type 0} (path : List Segment) (o : Option V) → map (pair_at path) (option_to_list o) ≡ under path (own_pair o)
own_under path None = refl
own_under path (Some v) = ap (λ q. (q, v) ∷ []) (sym (append-nil path))

-- a node is visited: its own pair, then its children, then the rest
visited : {V : Type 0} (nodes : List (Node V)) → IsTree nodes → (path : List Segment) (n : ℕ) (steps steps' : List Step)
    → steps' ≡ map enter (node_children (slice_get nodes n)) ++ steps
    → pairs_of nodes ((path, n) ∷ ahead path steps) ≡ map (pair_at path) (option_to_list (node_value (slice_get nodes n))) ++ pairs_of nodes (ahead path steps')
visited {V} nodes t path n steps steps' s =
    let kids : List (Segment × ℕ) = node_children (slice_get nodes n) in
    let own : List (List Segment × V) = own_pair (node_value (slice_get nodes n)) in
    let inner : List (List Segment × V) = flat_map (λ e. map (λ p. (e.0 ∷ p.0, p.1)) (below nodes e.1)) kids in
    let rest : List (List Segment × V) = pairs_of nodes (ahead path steps) in
    let left : pairs_of nodes (ahead path steps') ≡ under path inner ++ rest =
    ap (λ l. pairs_of nodes (ahead path l)) s ∙ ap (pairs_of nodes) (ahead_children path kids steps)
    ∙ flat_map-append (λ e. under e.0 (below nodes e.1)) (map (λ e. (path ++ e.0 ∷ [], e.1)) kids) (ahead path steps)
    ∙ ap (λ l. l ++ rest) (under_children nodes path kids) in
    let here : under path (below nodes n) ≡ under path own ++ under path inner =
    ap (under path) (below_node nodes t n) ∙ map-append (λ p. (path ++ p.0, p.1)) own inner in
    ap (λ l. l ++ rest) here ∙ append_assoc (under path own) (under path inner) rest
    ∙ sym (λ i. own_under path (node_value (slice_get nodes n)) i ++ left i)

-- one visit less
visited_fewer : {V : Type 0} (nodes : List (Node V)) → IsTree nodes → (path : List Segment) (n : ℕ) (steps steps' : List Step)
    → steps' ≡ map enter (node_children (slice_get nodes n)) ++ steps
    → visits_of nodes (ahead path steps') < visits_of nodes ((path, n) ∷ ahead path steps)
visited_fewer nodes t path n steps steps' s =
    let left : visits_of nodes (ahead path steps') ≡ total (λ c. visits nodes c.1) (node_children (slice_get nodes n)) + visits_of nodes (ahead path steps) =
    ap (λ l. visits_of nodes (ahead path l)) s ∙ ap (visits_of nodes) (ahead_children path (node_children (slice_get nodes n)) steps)
    ∙ total-append (λ e. visits nodes e.1) (map (λ e. (path ++ e.0 ∷ [], e.1)) (node_children (slice_get nodes n))) (ahead path steps)
    ∙ ap (λ k. k + visits_of nodes (ahead path steps)) (same_places (node_children (slice_get nodes n))) in
    let here : visits nodes n ≡ suc (total (λ c. visits nodes c.1) (node_children (slice_get nodes n))) = visits_node nodes t n in
    omega (arith, left, here)
  where
    same_places : (kids : List (Segment × ℕ)) → visits_of nodes (map (λ e. (path ++ e.0 ∷ [], e.1)) kids) ≡ total {X = Segment × ℕ} (λ c. visits nodes c.1) kids
    same_places [] = refl
    same_places (e ∷ kids) = ap (λ k. visits nodes e.1 + k) (same_places kids)

-- nothing is given yet
pub started : {V : Type 0} (nodes : List (Node V)) (path : List Segment) (steps : List Step) → path ≡ [] → steps ≡ []
    → pairs_of nodes ((path, 0) ∷ ahead path (reverse steps)) ≡ pairs_below (length nodes) nodes 0
started nodes path steps q s =
    (λ i. pairs_of nodes ((q i, 0) ∷ ahead (q i) (reverse (s i)))) ∙ append-nil (under [] (below nodes 0)) ∙ under_root (below nodes 0)

-- ---- walks

-- the next node is visited
visited_next : {V : Type 0} (before entered : PairWalk V) (next : Option ℕ) (n : ℕ) (steps : List Step)
    → IsTree entered.nodes.now → entered.nodes ≡ before.nodes → entered.entered ≡ None
    → places_of before ≡ next_ahead next entered.path (reverse entered.steps.items) → next ≡ Some n
    → reverse steps ≡ map enter (node_children (slice_get entered.nodes.now n)) ++ reverse entered.steps.items
    → left_of before ≡ map (pair_at entered.path) (option_to_list (node_value (slice_get entered.nodes.now n)))
    ++ pairs_of entered.nodes.now (places entered.entered entered.path (reverse steps))
visited_next before entered next n steps t same none e is s =
    (λ i. pairs_of (sym same i).now ((e ∙ ap (λ o. next_ahead o entered.path (reverse entered.steps.items)) is) i))
    ∙ visited entered.nodes.now t entered.path n (reverse entered.steps.items) (reverse steps) s
    ∙ ap (λ o. map (pair_at entered.path) (option_to_list (node_value (slice_get entered.nodes.now n))) ++ pairs_of entered.nodes.now (places o entered.path (reverse steps))) (sym none)

pub visited_fewer_left : {V : Type 0} (before entered : PairWalk V) (next : Option ℕ) (n : ℕ) (steps : List Step)
    → IsTree before.nodes.now → entered.nodes ≡ before.nodes → entered.entered ≡ None
    → places_of before ≡ next_ahead next entered.path (reverse entered.steps.items) → next ≡ Some n
    → reverse steps ≡ map enter (node_children (slice_get entered.nodes.now n)) ++ reverse entered.steps.items
    → visits_of entered.nodes.now (places entered.entered entered.path (reverse steps)) < visits_of before.nodes.now (places_of before)
visited_fewer_left before entered next n steps t same none e is s =
    let tree : IsTree entered.nodes.now = subst (λ b. IsTree b.now) (sym same) t in
    subst (λ k. visits_of entered.nodes.now (places entered.entered entered.path (reverse steps)) < k)
    (λ i. visits_of (same i).now (sym (e ∙ ap (λ o. next_ahead o entered.path (reverse entered.steps.items)) is) i))
    (subst (λ o. visits_of entered.nodes.now (places o entered.path (reverse steps)) < visits_of entered.nodes.now ((entered.path, n) ∷ ahead entered.path (reverse entered.steps.items))) (sym none)
    (visited_fewer entered.nodes.now tree entered.path n (reverse entered.steps.items) (reverse steps) s))

-- .. and gives its value
pub visited_value : {V : Type 0} (before entered : PairWalk V) (next : Option ℕ) (n : ℕ) (steps : List Step) (given : Option (Bor V)) (value : Bor V)
    → IsTree before.nodes.now → entered.nodes ≡ before.nodes → entered.entered ≡ None
    → places_of before ≡ next_ahead next entered.path (reverse entered.steps.items) → next ≡ Some n
    → reverse steps ≡ map enter (node_children (slice_get entered.nodes.now n)) ++ reverse entered.steps.items
    → option_copied given ≡ node_value (slice_get entered.nodes.now n) → given ≡ Some value
    → left_of before ≡ (entered.path, value.now) ∷ pairs_of entered.nodes.now (places entered.entered entered.path (reverse steps))
visited_value before entered next n steps given value t same none e is s v found =
    visited_next before entered next n steps (subst (λ b. IsTree b.now) (sym same) t) same none e is s
    ∙ ap (λ o. map (pair_at entered.path) (option_to_list o) ++ pairs_of entered.nodes.now (places entered.entered entered.path (reverse steps))) (sym v ∙ ap option_copied found)

-- .. or has none, and the walk goes on
pub visited_none : {V : Type 0} (first before entered : PairWalk V) (next : Option ℕ) (n : ℕ) (steps : List Step) (given : Option (Bor V))
    → IsTree before.nodes.now × (left_of first ≡ left_of before) → entered.nodes ≡ before.nodes → entered.entered ≡ None
    → places_of before ≡ next_ahead next entered.path (reverse entered.steps.items) → next ≡ Some n
    → reverse steps ≡ map enter (node_children (slice_get entered.nodes.now n)) ++ reverse entered.steps.items
    → option_copied given ≡ node_value (slice_get entered.nodes.now n) → given ≡ None
    → IsTree entered.nodes.now × (left_of first ≡ pairs_of entered.nodes.now (places entered.entered entered.path (reverse steps)))
visited_none first before entered next n steps given so same none e is s v found =
    let tree : IsTree entered.nodes.now = subst (λ b. IsTree b.now) (sym same) so.0 in (
      tree,
      so.1 ∙ visited_next before entered next n steps tree same none e is s
          ∙ ap (λ o. map (pair_at entered.path) (option_to_list o) ++ pairs_of entered.nodes.now (places entered.entered entered.path (reverse steps))) (sym v ∙ ap option_copied found),
    )

abbrev pub shown : {V : Type 0} → List (List Segment × Bor V) → List (List Segment × V)
shown pairs = map (λ p. (p.0, p.1.now)) pairs

-- a visitor was shown what a walk gave
pub record Showing {V T : Type 0} (Shown : T → List (List Segment × V) → T → Type 0) (first walk : PairWalk V) (start visitor : T) : Type 0 where
  pub done : List (List Segment × V)
  pub tree : IsTree walk.nodes.now
  pub whole : done ++ left_of walk ≡ left_of first
  pub shown : (earliest : T) (pairs : List (List Segment × V)) → Shown earliest pairs start → Shown earliest (pairs ++ done) visitor

-- one pair more
pub shown_more : {V T : Type 0} (Shown : T → List (List Segment × V) → T → Type 0) (first before walk : PairWalk V)
    (start visitor after : T) (given : Option (Bor V)) (value : Bor V) (path : List Segment)
    → Showing Shown first before start visitor → IsTree walk.nodes.now → left_of before ≡ with_given (option_copied given) walk → given ≡ Some value → path ≡ walk.path
    → ((earliest : T) (pairs : List (List Segment × V)) → Shown earliest pairs visitor → Shown earliest (pairs ++ (path, value.now) ∷ []) after)
    → Showing Shown first walk start after
shown_more {V} {T} Shown first before walk start visitor after given value path so tree e is at put = record {
  done = so.done ++ (path, value.now) ∷ [];
  tree = tree;
  whole = append_assoc so.done ((path, value.now) ∷ []) (left_of walk) ∙ ap (λ l. so.done ++ l)
      (ap (λ q. (q, value.now) ∷ left_of walk) at ∙ sym (e ∙ ap (λ o. with_given (option_copied o) walk) is)) ∙ so.whole;
  shown = λ earliest pairs s. subst (λ l. Shown earliest l after) (append_assoc pairs so.done ((path, value.now) ∷ [])) (put earliest (pairs ++ so.done) (so.shown earliest pairs s));
}

-- nothing is left, so all was given
pub none_left : {V : Type 0} (done : List (List Segment × V)) (before walk : PairWalk V) (given : Option (Bor V)) (whole : List (List Segment × V))
    → done ++ left_of before ≡ whole → left_of before ≡ with_given (option_copied given) walk → given ≡ None → done ≡ whole
none_left done before walk given whole h e is = sym (append-nil done) ∙ ap (λ l. done ++ l) (sym (e ∙ ap (λ o. with_given (option_copied o) walk) is)) ∙ h

-- all pairs were shown
pub shown_all : {V T : Type 0} (Shown : T → List (List Segment × V) → T → Type 0) (first before walk : PairWalk V)
    (start visitor : T) (given : Option (Bor V)) (m : PathMap V) (lent nodes : List (Node V))
    → Showing Shown first before start visitor → left_of before ≡ with_given (option_copied given) walk → given ≡ None → left_of first ≡ pairs_below (length lent) lent 0
    → lent ≡ nodes
    → IsTree nodes → tree_map nodes ≡ m → (earliest : T) (pairs : List (List Segment × V)) → Shown earliest pairs start → Shown earliest (pairs ++ entries m) visitor
shown_all Shown first before walk start visitor given m lent nodes so e is all same tree view earliest pairs s =
    subst (λ l. Shown earliest (pairs ++ l) visitor)
    (listed_tree nodes m so.done tree view (none_left so.done before walk given (left_of first) so.whole e is ∙ all ∙ ap (λ l. pairs_below (length l) l 0) same)) (so.shown earliest pairs s)
