-- What a search for a place finds.
use Rattle.std.proofs.Common.{◌≡◌, ◌<◌, ◌≤◌, ◌==◌, ℕ, zero, suc, true, false, cond, List, [], ◌∷◌, length, slice_get, slice_index_or, Option, Some, None, option_map, refl, sym, ap, subst, ◌∙◌, arith, nat_le, nat_lt}
use Rattle.std.specs.Option.{option_or}
use Rattle.std.specs.List.{AllWithin}
use Rattle.std.specs.List.Sorted.{IsNonDecreasingBy, IsPartitionPoint}
use Rattle.std.proofs.lemmas.Bool.{ne_eqb, eq-eqb, leb-true, leb-false, ltb-true, ltb-false}
use Rattle.std.proofs.lemmas.Option.{get_or_from_slice_get, slice_get-get_or, slice_get_within, slice_get-map}
use Rattle.acpi_outline.specs.Nodes.{NodeTree, holds, holds_fields, NodeTrees, no_more, lost, node, FixedTree, FieldNodes, no_more_fields, fields_lost, field_node}
use Rattle.acpi_outline.specs.Tiling.{TilesFields, TilesInside, Tiles}
use Rattle.acpi_outline.specs.View.{Placed, node_view, node_step, nodes_step, placed_step, placed_view, placed_views, put_before, end_view}
use Rattle.acpi_outline.specs.declared.node.Lost.{Lost}
use Rattle.acpi_outline.specs.declared.node.PlacedNode.{PlacedNode, fold_out-PlacedNode}
use Rattle.acpi_ranges.specs.steps.NodeCounts.{count_inside, count_nodes}
use Rattle.acpi_ranges.specs.Ranges.{first_place, first_field_place}
use Rattle.acpi_ranges.specs.Lookup.{Found, node_found, element_found}
use Rattle.acpi_ranges.specs.steps.Search.{search_fields, search_node, search_nodes}
use Rattle.acpi_ranges.proofs.PlacedLists.{ordered_mapped}
use Rattle.acpi_tree.specs.View.{field_view}
use Rattle.acpi_outline.specs.declared.node.PlacedField.{PlacedField}
use Rattle.acpi_ranges.specs.declared.lookup.NodeRange.{NodeRange}
use Rattle.acpi_ranges.specs.steps.Lookups.{end_behind, nodes_before, elements_before, IsBefore}
use Rattle.acpi_ranges.proofs.DeclaringParts.{some_is}

same_eqb : (a b : ℕ) → a ≡ b → (a == b) ≡ true
same_eqb a b e = eq-eqb a b e

other : (a b : ℕ) → a < b → (b == a) ≡ false
other a b lt = ne_eqb b a (λ e. omega (arith, lt, e))

before : (a b : ℕ) → a < b → (a == b) ≡ false
before a b lt = ne_eqb a b (λ e. omega (arith, lt, e))

or_none : (o : Option Found) → option_or o None ≡ o
or_none None = refl
or_none (Some x) = refl

-- ---- where nothing begins at a place

fields_later : (place end : ℕ) (f : FixedTree) (start stop : ℕ) (es : FieldNodes) → TilesFields start stop es → place < start → search_fields place end f es ≡ None
fields_later place end f start stop no_more_fields t lt = refl
fields_later place end f start stop (fields_lost p why) t lt = refl
fields_later place end f start stop (field_node p offset e es) t lt =
    let here : (p == place) ≡ false = other place p (omega (arith, lt, t.1)) in
    ap (λ b. cond b (Some (element_found (first_field_place end es) f offset e)) (search_fields place end f es)) here
    ∙ fields_later place end f t.0 stop es t.4 (omega (arith, lt, t.2))

fields_earlier : (place end : ℕ) (f : FixedTree) (start stop : ℕ) (es : FieldNodes) → TilesFields start stop es → stop ≤ place → search_fields place end f es ≡ None
fields_earlier place end f start stop no_more_fields t le = refl
fields_earlier place end f start stop (fields_lost p why) t le = refl
fields_earlier place end f start stop (field_node p offset e es) t le =
    let here : (p == place) ≡ false = before p place (omega (arith, le, t.1, t.2, t.3)) in
    ap (λ b. cond b (Some (element_found (first_field_place end es) f offset e)) (search_fields place end f es)) here
    ∙ fields_earlier place end f t.0 stop es t.4 le

skipped : (place end p : ℕ) (n : NodeTree) (ns : NodeTrees) → (p == place) ≡ false → search_node place (first_place end ns) n ≡ None
    → search_nodes place end (node p n ns) ≡ search_nodes place end ns
skipped place end p n ns other inside =
    ap (λ b. cond b (Some (node_found (first_place end ns) n)) (option_or (search_node place (first_place end ns) n) (search_nodes place end ns))) other
    ∙ ap (λ o. option_or o (search_nodes place end ns)) inside

mutual
  inside_later : (place end start stop : ℕ) (n : NodeTree) → TilesInside start stop n → place ≤ start → search_node place end n ≡ None
  inside_later place end start stop (holds f ns) t le = later place end t.0 stop ns t.2 (omega (arith, le, t.1))
  inside_later place end start stop (holds_fields f es) t le = fields_later place end f t.0 stop es t.2 (omega (arith, le, t.1))
  inside_later place end start stop n t le = refl

  later : (place end start stop : ℕ) (ns : NodeTrees) → Tiles start stop ns → place < start → search_nodes place end ns ≡ None
  later place end start stop no_more t lt = refl
  later place end start stop (lost p why) t lt = refl
  later place end start stop (node p n ns) t lt =
      skipped place end p n ns (other place p (omega (arith, lt, t.1))) (inside_later place (first_place end ns) p t.0 n t.4 (omega (arith, lt, t.1)))
      ∙ (later place end t.0 stop ns t.5 (omega (arith, lt, t.2)))

mutual
  inside_earlier : (place end start stop : ℕ) (n : NodeTree) → TilesInside start stop n → stop ≤ place → search_node place end n ≡ None
  inside_earlier place end start stop (holds f ns) t le = earlier place end t.0 stop ns t.2 le
  inside_earlier place end start stop (holds_fields f es) t le = fields_earlier place end f t.0 stop es t.2 le
  inside_earlier place end start stop n t le = refl

  earlier : (place end start stop : ℕ) (ns : NodeTrees) → Tiles start stop ns → stop ≤ place → search_nodes place end ns ≡ None
  earlier place end start stop no_more t le = refl
  earlier place end start stop (lost p why) t le = refl
  earlier place end start stop (node p n ns) t le =
      skipped place end p n ns (before p place (omega (arith, le, t.1, t.2, t.3))) (inside_earlier place (first_place end ns) p t.0 n t.4 (omega (arith, le, t.3)))
      ∙ (earlier place end t.0 stop ns t.5 le)

-- ---- the nodes of a list

abbrev nodes_left : List Placed → Option Lost → NodeTrees
nodes_left ps l = put_before ps (end_view l)

none_at_end : (place end : ℕ) (l : Option Lost) → search_nodes place end (end_view l) ≡ None
none_at_end place end None = refl
none_at_end place end (Some l) = refl

-- where the first of them begins, or where they end
first_is : (end : ℕ) (l : Option Lost) (ns : List Placed) → first_place end (nodes_left ns l) ≡ end_behind (option_map (λ (n : Placed). n.0) (slice_get ns 0)) l end
first_is end None [] = refl
first_is end (Some l) [] = refl
first_is end l (n ∷ ns) = refl

begins : (l : Option Lost) (start stop : ℕ) (ns : List Placed) → Tiles start stop (nodes_left ns l) → start ≡ end_behind (option_map (λ (n : Placed). n.0) (slice_get ns 0)) l stop
begins None start stop [] t = t
begins (Some l) start stop [] t = sym t.0
begins l start stop (n ∷ ns) t = sym t.1

at_least : (l : Option Lost) (start stop : ℕ) (ns : List Placed) (k : ℕ) (m : Placed) → Tiles start stop (nodes_left ns l) → slice_get ns k ≡ Some m → start ≤ m.0
at_least l start stop [] k m t e = absurd (cc e)
at_least l start stop (n ∷ ns) zero m t e = let same : n ≡ m = some_is e in omega (arith, t.1, ap (λ (n : Placed). n.0) same)
at_least l start stop (n ∷ ns) (suc k) m t e = omega (arith, t.2, at_least l t.0 stop ns k m t.5 e)

pub sorted : (l : Option Lost) (start stop : ℕ) (ns : List Placed) → Tiles start stop (nodes_left ns l) → IsNonDecreasingBy (λ (n : Placed). n.0) ns
sorted l start stop [] t i j d le lt = absurd (omega (arith, lt))
sorted l start stop (n ∷ ns) t zero zero d le lt = omega arith
sorted l start stop (n ∷ ns) t zero (suc j) d le lt =
    omega (arith, t.1, t.2, at_least l t.0 stop ns j (slice_index_or ns j d) t.5 (slice_get-get_or ns j d (omega (arith, lt))))
sorted l start stop (n ∷ ns) t (suc i) zero d le lt = absurd (omega (arith, le))
sorted l start stop (n ∷ ns) t (suc i) (suc j) d le lt = sorted l t.0 stop ns t.5 i j d (omega (arith, le)) (omega (arith, lt))

-- no node begins at the place or before it
pub found_none : (place end : ℕ) (l : Option Lost) (start stop : ℕ) (ns : List Placed) → Tiles start stop (nodes_left ns l)
    → ((n : Placed) → slice_get ns 0 ≡ Some n → place < n.0) → search_nodes place end (nodes_left ns l) ≡ None
found_none place end l start stop [] t after = none_at_end place end l
found_none place end l start stop (n ∷ ns) t after = later place end start stop (nodes_left (n ∷ ns) l) t (omega (arith, t.1, after n refl))

found_first : (place end : ℕ) (l : Option Lost) (n : Placed) (ns : List Placed) → search_nodes place end (nodes_left ns l) ≡ None
    → search_nodes place end (nodes_left (n ∷ ns) l)
    ≡ cond (n.0 == place) (Some (node_found (end_behind (option_map (λ (n : Placed). n.0) (slice_get ns 0)) l end) n.1))
    (search_node place (end_behind (option_map (λ (n : Placed). n.0) (slice_get ns 0)) l end) n.1)
found_first place end l n ns none =
    ap (λ o. cond (n.0 == place) (Some (node_found (first_place end (nodes_left ns l)) n.1)) (option_or (search_node place (first_place end (nodes_left ns l)) n.1) o)) none
    ∙ ap (λ o. cond (n.0 == place) (Some (node_found (first_place end (nodes_left ns l)) n.1)) o) (or_none (search_node place (first_place end (nodes_left ns l)) n.1))
    ∙ ap (λ to. cond (n.0 == place) (Some (node_found to n.1)) (search_node place to n.1)) (first_is end l ns)

-- the node of that number is the last that begins at the place or before it
pub found_last : (place end : ℕ) (l : Option Lost) (start stop : ℕ) (ns : List Placed) (k : ℕ) (m : Placed) → Tiles start stop (nodes_left ns l) → slice_get ns k ≡ Some m
    → m.0 ≤ place → ((p : Placed) → slice_get ns (suc k) ≡ Some p → place < p.0)
    → search_nodes place end (nodes_left ns l)
    ≡ cond (m.0 == place) (Some (node_found (end_behind (option_map (λ (n : Placed). n.0) (slice_get ns (suc k))) l end) m.1))
    (search_node place (end_behind (option_map (λ (n : Placed). n.0) (slice_get ns (suc k))) l end) m.1)
found_last place end l start stop [] k m t e le after = absurd (cc e)
found_last place end l start stop (n ∷ ns) zero m t e le after =
    let same : n ≡ m = some_is e in
    subst (λ (m : Placed). search_nodes place end (nodes_left (n ∷ ns) l)
    ≡ cond (m.0 == place) (Some (node_found (end_behind (option_map (λ (n : Placed). n.0) (slice_get ns 0)) l end) m.1))
    (search_node place (end_behind (option_map (λ (n : Placed). n.0) (slice_get ns 0)) l end) m.1)) same
    (found_first place end l n ns (found_none place end l t.0 stop ns t.5 after))
found_last place end l start stop (n ∷ ns) (suc k) m t e le after =
    let from : t.0 ≤ m.0 = at_least l t.0 stop ns k m t.5 e in
    skipped place end n.0 n.1 (nodes_left ns l) (before n.0 place (omega (arith, t.1, t.2, from, le)))
    (inside_earlier place (first_place end (nodes_left ns l)) n.0 t.0 n.1 t.4 (omega (arith, from, le)))
    ∙ found_last place end l t.0 stop ns k m t.5 e le after

-- what stands in it tiles
pub tiles_last : (l : Option Lost) (start stop : ℕ) (ns : List Placed) (k : ℕ) (m : Placed) → Tiles start stop (nodes_left ns l) → slice_get ns k ≡ Some m
    → TilesInside m.0 (end_behind (option_map (λ (n : Placed). n.0) (slice_get ns (suc k))) l stop) m.1
tiles_last l start stop [] k m t e = absurd (cc e)
tiles_last l start stop (n ∷ ns) zero m t e =
    let same : n ≡ m = some_is e in
    subst (λ (m : Placed). TilesInside m.0 (end_behind (option_map (λ (n : Placed). n.0) (slice_get ns 0)) l stop) m.1) same
    (subst (λ to. TilesInside n.0 to n.1) (begins l t.0 stop ns t.5) t.4)
tiles_last l start stop (n ∷ ns) (suc k) m t e = tiles_last l t.0 stop ns k m t.5 e

-- ---- the nodes in a node are fewer than all

pub inner_shorter : (ns : List Placed) (l : NodeTrees) (k : ℕ) (m : Placed) → slice_get ns k ≡ Some m
    → count_inside m.1 < count_nodes (put_before ns l)
inner_shorter [] l k m e = absurd (cc e)
inner_shorter (n ∷ ns) l zero m e =
    let same : n ≡ m = some_is e in
    omega (arith, ap (λ (n : Placed). count_inside n.1) same)
inner_shorter (n ∷ ns) l (suc k) m e =
    omega (arith, inner_shorter ns l k m e)

-- ---- nodes as the code keeps them

placed_is : (n : PlacedNode) → placed_view n ≡ (n.place, node_view n.node)
placed_is n = fold_out-PlacedNode NodeTree NodeTrees Placed node_step nodes_step placed_step n

place_is : (n : PlacedNode) → (placed_view n).0 ≡ n.place
place_is n = ap (λ (p : Placed). p.0) (placed_is n)

got_node : (ns : List PlacedNode) (k : ℕ) (p : Placed) → slice_get (placed_views ns) k ≡ Some p → (n : PlacedNode) × (slice_get ns k ≡ Some n) × (p ≡ placed_view n)
got_node [] k p e = absurd (cc e)
got_node (n ∷ ns) zero p e = (n, refl, sym (some_is e))
got_node (n ∷ ns) (suc k) p e = got_node ns k p e

put_node : (ns : List PlacedNode) (k : ℕ) (m : PlacedNode) → slice_get ns k ≡ Some m → slice_get (placed_views ns) k ≡ Some (placed_view m)
put_node ns k m e = slice_get-map placed_view ns k ∙ ap (option_map placed_view) e

places_of : (o : Option PlacedNode) → option_map (λ (n : PlacedNode). n.place) o ≡ option_map (λ (p : Placed). p.0) (option_map placed_view o)
places_of None = refl
places_of (Some n) = ap Some (sym (place_is n))

place_got : (ns : List PlacedNode) (k : ℕ) → option_map (λ (n : PlacedNode). n.place) (slice_get ns k) ≡ option_map (λ (p : Placed). p.0) (slice_get (placed_views ns) k)
place_got ns k = places_of (slice_get ns k) ∙ ap (option_map (λ (p : Placed). p.0)) (sym (slice_get-map placed_view ns k))

sorted_nodes : (l : Option Lost) (start stop : ℕ) (ns : List PlacedNode) → Tiles start stop (nodes_before ns l) → IsNonDecreasingBy (λ (n : PlacedNode). n.place) ns
sorted_nodes l start stop ns t i j d le lt =
    let on = ordered_mapped placed_view (λ (p : Placed). p.0) ns (sorted l start stop (placed_views ns) t) i j d le lt in
    omega (arith, on, place_is (slice_index_or ns i d), place_is (slice_index_or ns j d))

abbrev IsCount : ℕ → List PlacedNode → ℕ → Type 0
IsCount place ns count = IsNonDecreasingBy (λ (n : PlacedNode). n.place) ns → IsPartitionPoint (λ (n : PlacedNode). nat_le n.place place ≡ true) (λ (n : PlacedNode). nat_le n.place place ≡ false) ns count

behind_count : (place count : ℕ) (ns : List PlacedNode) (p : PlacedNode) → AllWithin (λ (n : PlacedNode). nat_le n.place place ≡ false) ns count (length ns) → slice_get ns count ≡ Some p → place < p.place
behind_count place count ns p after e =
    let at : nat_le (slice_index_or ns count p).place place ≡ false = after count p (omega arith) (slice_get_within ns count p e) in
    let same : slice_index_or ns count p ≡ p = get_or_from_slice_get ns count p p e in
    leb-false p.place place (subst (λ (n : PlacedNode). nat_le n.place place ≡ false) same at)

before_count : (place count k : ℕ) (ns : List PlacedNode) (m : PlacedNode) → AllWithin (λ (n : PlacedNode). nat_le n.place place ≡ true) ns 0 count → k < count → slice_get ns k ≡ Some m → m.place ≤ place
before_count place count k ns m before lt e =
    let at : nat_le (slice_index_or ns k m).place place ≡ true = before k m (omega arith) lt in
    let same : slice_index_or ns k m ≡ m = get_or_from_slice_get ns k m m e in
    leb-true m.place place (subst (λ (n : PlacedNode). nat_le n.place place ≡ true) same at)

-- the nodes from that number on stand behind the place
behind_place : (place count k : ℕ) (ns : List PlacedNode) → AllWithin (λ (n : PlacedNode). nat_le n.place place ≡ false) ns count (length ns) → count ≡ k
    → (p : Placed) → slice_get (placed_views ns) k ≡ Some p → place < p.0
behind_place place count k ns after same p e =
    let got = got_node ns k p e in
    let lt : place < (got.0).place = behind_count place count ns got.0 after (subst (λ c. slice_get ns c ≡ Some got.0) (sym same) got.1) in
    omega (arith, lt, place_is got.0, ap (λ (p : Placed). p.0) got.2)

pub none_before : (place end start count : ℕ) (l : Option Lost) (ns : List PlacedNode) → Tiles start end (nodes_before ns l) → IsCount place ns count → count ≡ 0
    → search_nodes place end (nodes_before ns l) ≡ None
none_before place end start count l ns t is none =
    let point = is (sorted_nodes l start end ns t) in
    found_none place end l start end (placed_views ns) t (behind_place place count 0 ns point.1 none)

abbrev IsLast : ℕ → ℕ → Option Lost → List PlacedNode → Option ℕ → Placed → Type 0
IsLast place end l ns next p =
    (search_nodes place end (nodes_before ns l) ≡ cond (p.0 == place) (Some (node_found (end_behind next l end) p.1)) (search_node place (end_behind next l end) p.1))
    × TilesInside p.0 (end_behind next l end) p.1

last_before_next : (place end start count k : ℕ) (l : Option Lost) (ns : List PlacedNode) (m : PlacedNode) (next : Option ℕ) → Tiles start end (nodes_before ns l) → IsCount place ns count → count ≡ suc k
    → slice_get ns k ≡ Some m → next ≡ option_map (λ (n : PlacedNode). n.place) (slice_get ns count)
    → (search_nodes place end (nodes_before ns l)
    ≡ cond (m.place == place) (Some (node_found (end_behind next l end) (node_view m.node))) (search_node place (end_behind next l end) (node_view m.node)))
    × TilesInside m.place (end_behind next l end) (node_view m.node)
last_before_next place end start count k l ns m next t is number e next_is =
    let point = is (sorted_nodes l start end ns t) in
    let ps : List Placed = placed_views ns in
    let to : next ≡ option_map (λ (p : Placed). p.0) (slice_get ps (suc k)) =
    next_is ∙ ap (λ c. option_map (λ (n : PlacedNode). n.place) (slice_get ns c)) number ∙ place_got ns (suc k) in
    let le : (placed_view m).0 ≤ place = omega (arith, before_count place count k ns m point.0 (omega (arith, number)) e, place_is m) in
    let last : IsLast place end l ns (option_map (λ (p : Placed). p.0) (slice_get ps (suc k))) (placed_view m) =
    (found_last place end l start end ps k (placed_view m) t (put_node ns k m e) le (behind_place place count (suc k) ns point.1 number), tiles_last l start end ps k (placed_view m) t (put_node ns k m e)) in
    subst (IsLast place end l ns next) (placed_is m) (subst (λ next. IsLast place end l ns next (placed_view m)) (sym to) last)

pub last_before : (place end start count k : ℕ) (l : Option Lost) (ns : List PlacedNode) (m : PlacedNode) (next : Option ℕ) (to : ℕ) → Tiles start end (nodes_before ns l) → IsCount place ns count → count ≡ suc k
    → slice_get ns k ≡ Some m → next ≡ option_map (λ (n : PlacedNode). n.place) (slice_get ns count) → to ≡ end_behind next l end
    → (search_nodes place end (nodes_before ns l) ≡ cond (m.place == place) (Some (node_found to (node_view m.node))) (search_node place to (node_view m.node)))
    × TilesInside m.place to (node_view m.node)
last_before place end start count k l ns m next to t is number e next_is to_is =
    subst (λ (to : ℕ). (search_nodes place end (nodes_before ns l) ≡ cond (m.place == place) (Some (node_found to (node_view m.node))) (search_node place to (node_view m.node)))
    × TilesInside m.place to (node_view m.node)) (sym to_is) (last_before_next place end start count k l ns m next t is number e next_is)

pub fewer_inside : (ns : List PlacedNode) (l : NodeTrees) (k : ℕ) (m : PlacedNode) → slice_get ns k ≡ Some m
    → count_inside (node_view m.node) < count_nodes (put_before (placed_views ns) l)
fewer_inside ns l k m e =
    let less : count_inside (placed_view m).1 < count_nodes (put_before (placed_views ns) l) = inner_shorter (placed_views ns) l k (placed_view m) (put_node ns k m e) in
    subst (λ (p : Placed). count_inside p.1 < count_nodes (put_before (placed_views ns) l)) (placed_is m) less

-- ---- elements

-- so many elements begin before the place
abbrev pub AreBefore : ℕ → ℕ → List PlacedField → Type 0
AreBefore place k fs = (i : ℕ) (u : PlacedField) → i < k → slice_get fs i ≡ Some u → u.place < place

-- an element that begins before the place
passed : (place end : ℕ) (f : FixedTree) (l : Option Lost) (u : PlacedField) (fs : List PlacedField) → u.place < place
    → search_fields place end f (elements_before (u ∷ fs) l) ≡ search_fields place end f (elements_before fs l)
passed place end f l u fs lt =
    ap (λ b. cond b (Some (element_found (first_field_place end (elements_before fs l)) f u.offset (field_view u.element))) (search_fields place end f (elements_before fs l)))
    (before u.place place lt)

-- the next one begins behind it, if there is one
pub no_element : (place end k start stop : ℕ) (f : FixedTree) (l : Option Lost) (fs : List PlacedField) → TilesFields start stop (elements_before fs l) → AreBefore place k fs
    → ((u : PlacedField) → slice_get fs k ≡ Some u → place < u.place) → search_fields place end f (elements_before fs l) ≡ None
no_element place end k start stop f None [] t are after = refl
no_element place end k start stop f (Some l) [] t are after = refl
no_element place end zero start stop f l (u ∷ fs) t are after =
    fields_later place end f start stop (elements_before (u ∷ fs) l) t (omega (arith, t.1, after u refl))
no_element place end (suc k) start stop f l (u ∷ fs) t are after =
    passed place end f l u fs (are 0 u (omega arith) refl)
    ∙ no_element place end k t.0 stop f l fs t.4 (λ i v lt e. are (suc i) v (omega (arith, lt)) e) after

first_field_is : (end : ℕ) (l : Option Lost) (fs : List PlacedField) → first_field_place end (elements_before fs l) ≡ end_behind (option_map (λ (u : PlacedField). u.place) (slice_get fs 0)) l end
first_field_is end None [] = refl
first_field_is end (Some l) [] = refl
first_field_is end l (u ∷ fs) = refl

-- the next one begins there
pub element_there : (place end k : ℕ) (f : FixedTree) (l : Option Lost) (fs : List PlacedField) (u : PlacedField) → AreBefore place k fs → slice_get fs k ≡ Some u → u.place ≡ place
    → search_fields place end f (elements_before fs l)
    ≡ Some (element_found (end_behind (option_map (λ (u : PlacedField). u.place) (slice_get fs (suc k))) l end) f u.offset (field_view u.element))
element_there place end k f l [] u are e same = absurd (cc e)
element_there place end zero f l (v ∷ fs) u are e same =
    let is : v ≡ u = some_is e in
    let to = end_behind (option_map (λ (u : PlacedField). u.place) (slice_get fs 0)) l end in
    ap (λ b. cond b (Some (element_found (first_field_place end (elements_before fs l)) f v.offset (field_view v.element))) (search_fields place end f (elements_before fs l)))
    (same_eqb v.place place (ap (λ (u : PlacedField). u.place) is ∙ same))
    ∙ ap (λ to. Some (element_found to f v.offset (field_view v.element))) (first_field_is end l fs)
    ∙ ap (λ (u : PlacedField). Some (element_found to f u.offset (field_view u.element))) is
element_there place end (suc k) f l (v ∷ fs) u are e same =
    passed place end f l v fs (are 0 v (omega arith) refl)
    ∙ element_there place end k f l fs u (λ i w lt e. are (suc i) w (omega (arith, lt)) e) e same

-- ---- elements are in order

fields_from : (start stop : ℕ) (l : Option Lost) (fs : List PlacedField) (k : ℕ) (u : PlacedField) → TilesFields start stop (elements_before fs l) → slice_get fs k ≡ Some u → start ≤ u.place
fields_from start stop l [] k u t e = absurd (cc e)
fields_from start stop l (v ∷ fs) zero u t e = let same : v ≡ u = some_is e in omega (arith, t.1, ap (λ (u : PlacedField). u.place) same)
fields_from start stop l (v ∷ fs) (suc k) u t e = omega (arith, t.2, fields_from t.0 stop l fs k u t.4 e)

sorted_fields : (start stop : ℕ) (l : Option Lost) (fs : List PlacedField) → TilesFields start stop (elements_before fs l) → IsNonDecreasingBy (λ (f : PlacedField). f.place) fs
sorted_fields start stop l [] t i j d le lt = absurd (omega (arith, lt))
sorted_fields start stop l (u ∷ fs) t zero zero d le lt = omega arith
sorted_fields start stop l (u ∷ fs) t zero (suc j) d le lt =
    omega (arith, t.1, t.2, fields_from t.0 stop l fs j (slice_index_or fs j d) t.4 (slice_get-get_or fs j d (omega (arith, lt))))
sorted_fields start stop l (u ∷ fs) t (suc i) zero d le lt = absurd (omega (arith, le))
sorted_fields start stop l (u ∷ fs) t (suc i) (suc j) d le lt = sorted_fields t.0 stop l fs t.4 i j d (omega (arith, le)) (omega (arith, lt))

abbrev IsFieldCount : ℕ → List PlacedField → ℕ → Type 0
IsFieldCount place fs count = IsNonDecreasingBy (λ (f : PlacedField). f.place) fs
    → IsPartitionPoint (λ (f : PlacedField). nat_lt f.place place ≡ true) (λ (f : PlacedField). nat_lt f.place place ≡ false) fs count

pub are_before : (place start stop count : ℕ) (l : Option Lost) (fs : List PlacedField) → TilesFields start stop (elements_before fs l) → IsFieldCount place fs count → AreBefore place count fs
are_before place start stop count l fs t is i u lt e =
    let at : nat_lt (slice_index_or fs i u).place place ≡ true = (is (sorted_fields start stop l fs t)).0 i u (omega arith) lt in
    ltb-true u.place place (subst (λ (u : PlacedField). nat_lt u.place place ≡ true) (get_or_from_slice_get fs i u u e) at)

pub is_behind : (place start stop count : ℕ) (l : Option Lost) (fs : List PlacedField) (u : PlacedField) → TilesFields start stop (elements_before fs l) → IsFieldCount place fs count
    → slice_get fs count ≡ Some u → (u.place ≡ place → ⊥) → place < u.place
is_behind place start stop count l fs u t is e differs =
    let at : nat_lt (slice_index_or fs count u).place place ≡ false = (is (sorted_fields start stop l fs t)).1 count u (omega arith) (slice_get_within fs count u e) in
    let le : place ≤ u.place = ltb-false u.place place (subst (λ (u : PlacedField). nat_lt u.place place ≡ false) (get_or_from_slice_get fs count u u e) at) in
    strictly place u.place le differs
  where
    strictly : (a b : ℕ) → a ≤ b → (b ≡ a → ⊥) → a < b
    strictly a b le ne = omega (arith, le, ne)

-- ---- the node before a place

pub is_there : (place : ℕ) (r : NodeRange) (found : Option Found) → IsBefore place (Some r) found → r.from ≡ place → found ≡ Some (node_found r.to (node_view r.node.now))
is_there place r found h same =
    h.0 ∙ ap (λ b. cond b (Some (node_found r.to (node_view r.node.now))) (search_node place r.to (node_view r.node.now))) (same_eqb r.from place same)

pub is_inside : (place : ℕ) (r : NodeRange) (found : Option Found) → IsBefore place (Some r) found → (r.from ≡ place → ⊥) → found ≡ search_node place r.to (node_view r.node.now)
is_inside place r found h other =
    h.0 ∙ ap (λ b. cond b (Some (node_found r.to (node_view r.node.now))) (search_node place r.to (node_view r.node.now))) (ne_eqb r.from place other)
