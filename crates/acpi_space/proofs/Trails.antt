-- Trails in a tree that grows, and where a path leaves one.
use Rattle.std.proofs.Common.{◌≡◌, ℕ, zero, suc, ◌+◌, ◌-◌, ◌<◌, ◌≤◌, ◌⊎◌, inl, inr, Bool, true, false, cond, List, [], ◌∷◌, ◌++◌, length, take, drop, Option, Some, None, slice_get, slice_index_or, refl, sym, ap, ◌∙◌, subst, arith, nat_eq, Result, Ok, Err, IfOk, OnOk, OnErr}
use Rattle.std.specs.Option.{option_and_then}
use Rattle.std.proofs.lemmas.List.{drop_more, drop_all, take-append-drop, take_rest}
use Rattle.std.specs.Cmp.Lexicographic.{pointwise}
use Rattle.acpi_name.specs.Names.{Segment}
use Rattle.acpi_space.specs.declared.nodes.Node.{Node}
use Rattle.acpi_space.specs.declared.trail.Fork.{Fork}
use Rattle.acpi_space.specs.declared.trail.TrailNode.{TrailNode}
use Rattle.acpi_space.specs.steps.Grown.{IsGrown, HasPut}
use Rattle.acpi_space.specs.steps.Trail.{IsTrail, trail_end, fork_from}
use Rattle.acpi_space.specs.steps.Tree.{IsTree, child_at, node_children, node_value, reached, value_below}
use Rattle.acpi_space.proofs.Comparisons.{same_bytes}
use Rattle.acpi_space.proofs.Growth.{same_child}
use Rattle.acpi_space.proofs.Walks.{reached-append, reached_grown}
use Rattle.acpi_space.proofs.Tree.{child_within}

pub trail_grown : {V : Type 0} (old new : List (Node V)) (n : ℕ) (marks : List TrailNode) → IsGrown old new → IsTrail old n marks → IsTrail new n marks
trail_grown old new n [] grown t = tt
trail_grown old new n (m ∷ marks) grown t = (grown.children n m.seg m.number t.0, trail_grown old new m.number marks grown t.1)

pub trail_cut : {V : Type 0} (nodes : List (Node V)) (n k : ℕ) (marks : List TrailNode) → IsTrail nodes n marks → IsTrail nodes n (take k marks)
trail_cut nodes n zero [] t = tt
trail_cut nodes n zero (m ∷ marks) t = tt
trail_cut nodes n (suc k) [] t = tt
trail_cut nodes n (suc k) (m ∷ marks) t = (t.0, trail_cut nodes m.number k marks t.1)

longer : {V : Type 0} (nodes : List (Node V)) (n : ℕ) (marks : List TrailNode) (mark : TrailNode) → IsTrail nodes n marks
    → child_at nodes (trail_end n marks) mark.seg ≡ Some mark.number → IsTrail nodes n (marks ++ mark ∷ [])
longer nodes n [] mark t e = (e, tt)
longer nodes n (m ∷ marks) mark t e = (t.0, longer nodes m.number marks mark t.1 e)

-- a child of the node at its end is put, or nothing
pub trail_extended : {V : Type 0} (nodes : List (Node V)) (n : ℕ) (marks marks' : List TrailNode) (number : ℕ) (g : Segment) (next : ℕ) → IsTrail nodes n marks
    → child_at nodes number g ≡ Some next
    → (marks' ≡ marks) ⊎ (trail_end n marks ≡ number) × (marks' ≡ marks ++ record { seg = g; number = next } ∷ []) → IsTrail nodes n marks'
trail_extended nodes n marks marks' number g next t e (inl same) = subst (IsTrail nodes n) (sym same) t
trail_extended nodes n marks marks' number g next t e (inr put) =
    subst (IsTrail nodes n) (sym put.1) (longer nodes n marks (record { seg = g; number = next }) t (ap (λ k. child_at nodes k g) put.0 ∙ e))

-- ---- the mark at the end

last_mark : (n k : ℕ) (marks : List TrailNode) (m : TrailNode) → length marks ≡ k + 1 → slice_get marks k ≡ Some m → trail_end n marks ≡ m.number
last_mark n k [] m l e = absurd (omega arith)
last_mark n zero (x ∷ []) m l e = let at : x ≡ m = cc in ap (λ y. y.number) at
last_mark n zero (x ∷ y ∷ marks) m l e = absurd (omega arith)
last_mark n (suc k) (x ∷ marks) m l e = last_mark x.number k marks m (omega arith) e

pub trail_end-last : (n : ℕ) (marks : List TrailNode) (m : TrailNode) → slice_get marks (length marks - 1) ≡ Some m → trail_end n marks ≡ m.number
trail_end-last n [] m e = cc
trail_end-last n (x ∷ marks) m e = last_mark n (length (x ∷ marks) - 1) (x ∷ marks) m (omega arith) e

-- ---- the loop that looks for the fork

module _ (marks : List TrailNode) (path : List Segment) (depth n : ℕ) (inv : fork_from depth n (drop depth marks) (drop depth path) ≡ fork_from 0 0 marks path) where
  abbrev pub here : Fork
  here = record { depth = depth; number = n }

  pub path_ended : length path ≡ depth → record { depth = length path; number = n } ≡ fork_from 0 0 marks path
  path_ended h = ap (λ d. record { depth = d; number = n }) h ∙ by (drop depth marks) (ap (fork_from depth n (drop depth marks)) (sym (drop_all depth path (omega arith))) ∙ inv)
    where
      by : (ms : List TrailNode) → fork_from depth n ms [] ≡ fork_from 0 0 marks path → here ≡ fork_from 0 0 marks path
      by [] e = e
      by (m ∷ ms) e = e

  module _ (m : TrailNode) (x : Segment) (more : depth < length marks) (at : m ≡ slice_index_or marks depth m) (h : depth < length path) (is : x ≡ slice_index_or path depth x) where
    both : fork_from 0 0 marks path ≡ cond (pointwise nat_eq m.seg x) (fork_from (depth + 1) m.number (drop (depth + 1) marks) (drop (depth + 1) path)) here
    both = sym inv ∙ ap (fork_from depth n (drop depth marks)) (drop_more path depth x h ∙ ap (λ y. y ∷ drop (depth + 1) path) (sym is))
        ∙ ap (λ ms. fork_from depth n ms (x ∷ drop (depth + 1) path)) (drop_more marks depth m more ∙ ap (λ y. y ∷ drop (depth + 1) marks) (sym at))

    pub parted : pointwise nat_eq m.seg x ≡ false → here ≡ fork_from 0 0 marks path
    parted e = sym (both ∙ ap (λ b. cond b (fork_from (depth + 1) m.number (drop (depth + 1) marks) (drop (depth + 1) path)) here) e)

    pub together : pointwise nat_eq m.seg x ≡ true → fork_from (depth + 1) m.number (drop (depth + 1) marks) (drop (depth + 1) path) ≡ fork_from 0 0 marks path
    together e = sym (both ∙ ap (λ b. cond b (fork_from (depth + 1) m.number (drop (depth + 1) marks) (drop (depth + 1) path)) here) e)

-- ---- what the fork says

-- the segments of the path before the fork lead to its node
pub record IsFork {V : Type 0} (nodes : List (Node V)) (depth n : ℕ) (path : List Segment) (fork : Fork) : Type 0 where
  pub count : ℕ
  pub at : fork.depth ≡ depth + count
  pub within : count ≤ length path
  pub reached : reached nodes n (take count path) ≡ Some fork.number

stays : {V : Type 0} (nodes : List (Node V)) (depth n : ℕ) (path : List Segment) → IsFork nodes depth n path (record { depth = depth; number = n })
stays nodes depth n path = record { count = 0; at = omega arith; within = omega arith; reached = refl }

pub forked : {V : Type 0} (nodes : List (Node V)) (depth n : ℕ) (marks : List TrailNode) (path : List Segment) → IsTrail nodes n marks → IsFork nodes depth n path (fork_from depth n marks path)
forked nodes depth n [] path t = stays nodes depth n path
forked nodes depth n (m ∷ marks) [] t = stays nodes depth n []
forked {V} nodes depth n (m ∷ marks) (g ∷ path) t = by (pointwise nat_eq m.seg g) refl (forked nodes (depth + 1) m.number marks path t.1)
  where
    by : (b : Bool) → pointwise nat_eq m.seg g ≡ b → IsFork nodes (depth + 1) m.number path (fork_from (depth + 1) m.number marks path)
        → IsFork nodes depth n (g ∷ path) (cond b (fork_from (depth + 1) m.number marks path) (record { depth = depth; number = n }))
    by true e f = record {
      count = suc f.count;
      at = omega (arith, f.at);
      within = omega (arith, f.within);
      reached = ap (option_and_then (λ k. reached nodes k (take f.count path))) (ap (child_at nodes n) (sym (same_bytes m.seg g e)) ∙ t.0) ∙ f.reached;
    }
    by false e f = stays nodes depth n (g ∷ path)

-- a walk from a node ends at a node
pub reached_within : {V : Type 0} (nodes : List (Node V)) (n k : ℕ) (q : List Segment) → IsTree nodes → n < length nodes → reached nodes n q ≡ Some k → k < length nodes
reached_within nodes n k [] t w e = let at : n ≡ k = cc in subst (λ j. j < length nodes) at w
reached_within {V} nodes n k (g ∷ q) t w e = by (λ j v f. reached_within nodes j k q t v f) (child_at nodes n g) refl e
  where
    by : ((j : ℕ) → j < length nodes → reached nodes j q ≡ Some k → k < length nodes) → (o : Option ℕ) → child_at nodes n g ≡ o
        → option_and_then (λ j. reached nodes j q) o ≡ Some k → k < length nodes
    by ih None f e = cc
    by ih (Some j) f e = ih j (child_within nodes n j g t f).1 e

-- what the path has behind the fork
abbrev pub rest : ℕ → List Segment → List Segment
rest depth path = take (length path - depth) (drop depth path)

pub fork_here : {V : Type 0} (nodes : List (Node V)) (marks lent : List TrailNode) (path : List Segment) (fork : Fork) → IsTrail nodes 0 marks → lent ≡ marks → fork ≡ fork_from 0 0 lent path
    → reached nodes 0 (take fork.depth path) ≡ Some fork.number
fork_here nodes marks lent path fork t same is =
    subst (λ f. reached nodes 0 (take f.depth path) ≡ Some f.number) (sym (is ∙ ap (λ ms. fork_from 0 0 ms path) same))
    (let f = forked nodes 0 0 marks path t in let count : (fork_from 0 0 marks path).depth ≡ f.count = f.at ∙ omega arith in ap (λ k. reached nodes 0 (take k path)) count ∙ f.reached)

-- what stands below a path is found from its node on
below_fork : {V : Type 0} (nodes : List (Node V)) (path : List Segment) (depth number : ℕ) → reached nodes 0 (take depth path) ≡ Some number
    → value_below nodes number (rest depth path) ≡ value_below nodes 0 path
below_fork nodes path depth number e =
    ap (value_below nodes number) (take_rest path depth)
    ∙ sym (ap (value_below nodes 0) (sym (take-append-drop depth path))
    ∙ ap (option_and_then (λ k. node_value (slice_get nodes k))) (reached-append nodes 0 (take depth path) (drop depth path) ∙ ap (option_and_then (λ m. reached nodes m (drop depth path))) e))

pub value_at_fork : {V : Type 0} (nodes : List (Node V)) (marks lent : List TrailNode) (path : List Segment) (fork : Fork) → IsTrail nodes 0 marks → lent ≡ marks → fork ≡ fork_from 0 0 lent path
    → value_below nodes fork.number (rest fork.depth path) ≡ value_below nodes 0 path
value_at_fork nodes marks lent path fork t same is = below_fork nodes path fork.depth fork.number (fork_here nodes marks lent path fork t same is)

-- the walk from the fork on is the walk from the root
module _ {V E : Type 0} (old mid new : List (Node V)) (path : List Segment) (depth number : ℕ) (r : Result ℕ E) (at : reached mid 0 (take depth path) ≡ Some number) where
  pub reached_on : IsGrown mid new → IfOk r (λ n. reached new number (rest depth path) ≡ Some n) → IfOk r (λ n. reached new 0 path ≡ Some n)
  reached_on then h = by r h
    where
      by : (r : Result ℕ E) → IfOk r (λ n. reached new number (rest depth path) ≡ Some n) → IfOk r (λ n. reached new 0 path ≡ Some n)
      by (Ok n) h =
          ap (reached new 0) (sym (take-append-drop depth path)) ∙ reached-append new 0 (take depth path) (drop depth path)
          ∙ ap (option_and_then (λ m. reached new m (drop depth path))) (reached_grown mid new 0 (take depth path) number then at) ∙ ap (reached new number) (sym (take_rest path depth)) ∙ h
      by (Err e) h = tt

  pub absent_on : IsGrown old mid → OnErr r (value_below mid number (rest depth path) ≡ None) → OnErr r (value_below old 0 path ≡ None)
  absent_on first h = by r h
    where
      by : (r : Result ℕ E) → OnErr r (value_below mid number (rest depth path) ≡ None) → OnErr r (value_below old 0 path ≡ None)
      by (Ok n) h = tt
      by (Err e) h = sym (first.values 0 path) ∙ sym (below_fork mid path depth number at) ∙ h

-- a value that is put moves no child
same_trail : {V : Type 0} (old new : List (Node V)) → ((n : ℕ) → node_children (slice_get new n) ≡ node_children (slice_get old n))
    → (n : ℕ) (marks : List TrailNode) → IsTrail old n marks → IsTrail new n marks
same_trail old new kids n [] t = tt
same_trail old new kids n (m ∷ marks) t = (same_child old new kids n m.seg ∙ t.0, same_trail old new kids m.number marks t.1)

pub put_trail : {V A E : Type 0} (mid new : List (Node V)) (k : ℕ) (v : V) (marks : List TrailNode) (r : Result A E) → OnOk r (HasPut mid new k v)
    → OnErr r (new ≡ mid) → IsTrail mid 0 marks → IsTrail new 0 marks
put_trail mid new k v marks (Ok x) h e t = same_trail mid new h.children 0 marks t
put_trail mid new k v marks (Err x) h e t = subst (λ nodes. IsTrail nodes 0 marks) (sym e) t
