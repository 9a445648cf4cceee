-- The strict listings of item trees are listings of their nodes.
use Rattle.std.proofs.Common.{◌≡◌, ℕ, suc, ◌+◌, List, [], ◌∷◌, ◌++◌, map, length, Option, Some, None, refl, sym, ap, subst, ◌∙◌, append_assoc, append-nil, length-append, arith}
use Rattle.std.specs.List.{AllZip}
use Rattle.acpi_name.specs.Names.{Segment, NameParts}
use Rattle.acpi_space.specs.Lookups.{union}
use Rattle.acpi_tree.specs.Tree.{ItemTree, scope, ItemTrees, no_items, item}
use Rattle.acpi_tree.specs.Objects.{ObjectTree, opens_scope}
use Rattle.acpi_declare.specs.Namespace.{Namespace}
use Rattle.acpi_declare.specs.Sites.{Effect, declares, opens, expects, Step, step, kind_object, scope_effect, own_steps, Site, site_in, item_sites, items_sites, sites}
use Rattle.acpi_declare.specs.Placing.{IsPlaced}
use Rattle.acpi_declare.specs.Listing.{Placement, object_of, objects_of, scope_within, IsJustified, IsListing, paths_of}
use Rattle.acpi_pass.proofs.Unions.{union-nothing, union_assoc}
use Rattle.acpi_pass.proofs.Listings.{length-paths, length-justified, inside_later, inside_now, inside_newest, Inside}
use Rattle.acpi_conditions.specs.Nodes.{Nodes, no_nodes}
use Rattle.acpi_conditions.specs.Entries as entries
use Rattle.acpi_conditions.specs.Known.{Known}
use Rattle.acpi_conditions.specs.Survey.{surveys}
use Rattle.acpi_conditions.specs.Laws.{IsAllOf, IsStrict}
use Rattle.acpi_conditions.specs.Listings as conditions
use Rattle.acpi_conditions.specs.Listings.{with_object, made_behind}
use Rattle.acpi_conditions.proofs.Strict.{strict_is_survey}
use Rattle.acpi_conservative.specs.Strict.{node_of, steps_nodes, item_nodes, items_nodes, nodes_of, placed_by, placed, all_placed, Agrees, AreItemListings}
use Rattle.acpi_conservative.proofs.Agreeing.{agrees_makes, agrees_finds, agrees_behind}

-- ---- lists

behind_both : (terms : entries.Namespace) (ds es : List conditions.Placement) → made_behind terms (ds ++ es) ≡ made_behind (made_behind terms ds) es
behind_both terms [] es = refl
behind_both terms (d ∷ ds) es = behind_both (with_object terms d.path d.term) ds es

placed_both : (es fs : List Placement) → all_placed (es ++ fs) ≡ all_placed es ++ all_placed fs
placed_both [] fs = refl
placed_both (e ∷ es) fs = ap (λ ds. placed e ++ ds) (placed_both es fs) ∙ sym (append_assoc (placed e) (all_placed es) (all_placed fs))

-- ---- a listing in two parts

pub record Parts (objects : Namespace) (before : List (List Segment)) (xs ys : List Site) (es : List Placement) : Type 0 where
  pub front : List Placement
  pub back : List Placement
  pub whole : es ≡ front ++ back
  pub justified_front : IsJustified objects before xs front
  pub justified_back : IsJustified (union objects (objects_of front)) (before ++ paths_of front) ys back

pub parts : (objects : Namespace) (before : List (List Segment)) (xs ys : List Site) (es : List Placement) → IsJustified objects before (xs ++ ys) es → Parts objects before xs ys es
parts objects before [] ys es h = record {
  front = [];
  back = es;
  whole = refl;
  justified_front = tt;
  justified_back = subst (λ (m : Namespace). IsJustified m (before ++ []) ys es) (sym (union-nothing objects)) (subst (λ ps. IsJustified objects ps ys es) (sym (append-nil before)) h);
}
parts objects before (x ∷ xs) ys [] h = absurd h
parts objects before (x ∷ xs) ys (e ∷ es) h =
    let r : Parts (union objects (object_of e)) (before ++ e.path ∷ []) xs ys es = parts (union objects (object_of e)) (before ++ e.path ∷ []) xs ys es h.3 in record {
      front = e ∷ r.front;
      back = r.back;
      whole = ap (λ fs. e ∷ fs) r.whole;
      justified_front = (h.0, h.1, h.2, r.justified_front);
      justified_back = subst (λ (m : Namespace). IsJustified m (before ++ e.path ∷ paths_of r.front) ys r.back) (union_assoc objects (object_of e) (objects_of r.front))
          (subst (λ ps. IsJustified (union (union objects (object_of e)) (objects_of r.front)) ps ys r.back) (append_assoc before (e.path ∷ []) (paths_of r.front)) r.justified_back);
    }

agrees_all : (objects : Namespace) (terms : entries.Namespace) → Agrees objects terms → (es : List Placement) → Agrees (union objects (objects_of es)) (made_behind terms (all_placed es))
agrees_all objects terms h [] = subst (λ (m : Namespace). Agrees m terms) (sym (union-nothing objects)) h
agrees_all objects terms h (e ∷ es) =
    subst (λ (m : entries.Namespace). Agrees (union objects (objects_of (e ∷ es))) m) (sym (behind_both terms (placed e) (all_placed es)))
    (subst (λ (m : Namespace). Agrees m (made_behind (made_behind terms (placed e)) (all_placed es))) (union_assoc objects (object_of e) (objects_of es))
    (agrees_all (union objects (object_of e)) (made_behind terms (placed e)) (agrees_behind objects terms h e.step.effect e.step.name e.scope e.path) es))

-- ---- one term

-- a term that stands there, with what stands inside it and the rest
node_listing : (objects : Namespace) (terms : entries.Namespace) → Agrees objects terms → (d : Effect) (n : NameParts) (s p : List Segment) (inside rest : Nodes) (xs ys : List conditions.Placement)
    → IsPlaced d objects s n p → ((count : ℕ) → d ≡ expects count → xs ≡ [])
    → conditions.IsListing inside p (made_behind terms (placed_by d n s p)) xs → conditions.IsListing rest s (made_behind (made_behind terms (placed_by d n s p)) xs) ys
    → conditions.IsListing (node_of d n inside rest) s terms (placed_by d n s p ++ (xs ++ ys))
node_listing objects terms h (declares o links code) n s p inside rest xs ys is no_inside li lr = (p, xs, ys, agrees_makes objects terms h s n (opens_scope o) p is, li, lr, refl)
node_listing objects terms h opens n s p inside rest xs ys is no_inside li lr = (p, xs, ys, agrees_finds objects terms h s n p is, li, lr, refl)
node_listing objects terms h (expects count) n s p inside rest xs ys is no_inside li lr =
    let none : xs ≡ [] = no_inside count refl in
    subst (λ (xs : List conditions.Placement). conditions.IsListing rest s terms (xs ++ ys)) (sym none) (subst (λ (xs : List conditions.Placement). conditions.IsListing rest s (made_behind terms xs) ys) none lr)

module _ (objects : Namespace) (terms : entries.Namespace) (h : Agrees objects terms) (before : List (List Segment)) (inside : Option ℕ) (s : List Segment) (at : Inside before inside s) (x : Step) (e : Placement)
    (same : e.step ≡ x) (scoped : e.scope ≡ scope_within before inside) (is : IsPlaced e.step.effect objects e.scope e.step.name e.path) where
  in_scope : e.scope ≡ s
  in_scope = scoped ∙ inside_now before inside s at

  -- the term of a placement
  term_listing : (under rest : Nodes) (xs ys : List conditions.Placement) → ((count : ℕ) → x.effect ≡ expects count → xs ≡ [])
      → conditions.IsListing under e.path (made_behind terms (placed e)) xs → conditions.IsListing rest s (made_behind (made_behind terms (placed e)) xs) ys
      → conditions.IsListing (node_of x.effect x.name under rest) s terms (placed e ++ (xs ++ ys))
  term_listing under rest xs ys no_inside li lr =
      subst (λ (x : Step). conditions.IsListing (node_of x.effect x.name under rest) s terms (placed e ++ (xs ++ ys))) same
      (subst (λ (t : List Segment). conditions.IsListing (node_of e.step.effect e.step.name under rest) t terms (placed e ++ (xs ++ ys))) in_scope
      (node_listing objects terms h e.step.effect e.step.name e.scope e.path under rest xs ys is (λ count f. no_inside count (ap (λ (x : Step). x.effect) (sym same) ∙ f)) li
      (subst (λ (t : List Segment). conditions.IsListing rest t (made_behind (made_behind terms (placed e)) xs) ys) (sym in_scope) lr)))

-- ---- steps in one scope

steps_listing : (objects : Namespace) (terms : entries.Namespace) → Agrees objects terms → (before : List (List Segment)) (inside : Option ℕ) (s : List Segment) → Inside before inside s
    → (xs : List Step) (es : List Placement) → IsJustified objects before (map (site_in inside) xs) es
    → (rest : Nodes) (ys : List conditions.Placement) → conditions.IsListing rest s (made_behind terms (all_placed es)) ys → conditions.IsListing (steps_nodes xs rest) s terms (all_placed es ++ ys)
steps_listing objects terms h before inside s at [] [] j rest ys l = l
steps_listing objects terms h before inside s at [] (e ∷ es) j rest ys l = absurd j
steps_listing objects terms h before inside s at (x ∷ xs) [] j rest ys l = absurd j
steps_listing objects terms h before inside s at (x ∷ xs) (e ∷ es) j rest ys l =
    let next : entries.Namespace = made_behind terms (placed e) in
    let later : conditions.IsListing (steps_nodes xs rest) s next (all_placed es ++ ys) =
    steps_listing (union objects (object_of e)) next (agrees_behind objects terms h e.step.effect e.step.name e.scope e.path) (before ++ e.path ∷ []) inside s (inside_later before (e.path ∷ []) inside s at)
    xs es j.3 rest ys (subst (λ (m : entries.Namespace). conditions.IsListing rest s m ys) (behind_both terms (placed e) (all_placed es)) l) in
    subst (λ (ds : List conditions.Placement). conditions.IsListing (steps_nodes (x ∷ xs) rest) s terms ds) (sym (append_assoc (placed e) (all_placed es) ys))
    (term_listing objects terms h before inside s at x e j.0 j.1 j.2 no_nodes (steps_nodes xs rest) [] (all_placed es ++ ys) (λ count f. refl) refl later)

-- ---- the tree

-- a term that holds others
holder_listing : (objects : Namespace) (terms : entries.Namespace) → Agrees objects terms → (before : List (List Segment)) (inside : Option ℕ) (s : List Segment) → Inside before inside s
    → (x : Step) → ((count : ℕ) → x.effect ≡ expects count → ⊥) → (is : ItemTrees) (es : List Placement) → IsJustified objects before (site_in inside x ∷ items_sites (suc (length before)) (Some (length before)) is) es
    → ((objects : Namespace) (terms : entries.Namespace) → Agrees objects terms → (k : ℕ) (before : List (List Segment)) (inside : Option ℕ) (s : List Segment) → k ≡ length before → Inside before inside s
    → (es : List Placement) → IsJustified objects before (items_sites k inside is) es → (rest : Nodes) (ys : List conditions.Placement) → conditions.IsListing rest s (made_behind terms (all_placed es)) ys
    → conditions.IsListing (items_nodes is rest) s terms (all_placed es ++ ys))
    → (rest : Nodes) (ys : List conditions.Placement) → conditions.IsListing rest s (made_behind terms (all_placed es)) ys
    → conditions.IsListing (node_of x.effect x.name (items_nodes is no_nodes) rest) s terms (all_placed es ++ ys)
holder_listing objects terms h before inside s at x holds is [] j ih rest ys l = absurd j
holder_listing objects terms h before inside s at x holds is (e ∷ es) j ih rest ys l =
    let next : entries.Namespace = made_behind terms (placed e) in
    let deep : conditions.IsListing (items_nodes is no_nodes) e.path next (all_placed es ++ []) =
    ih (union objects (object_of e)) next (agrees_behind objects terms h e.step.effect e.step.name e.scope e.path) (suc (length before)) (before ++ e.path ∷ []) (Some (length before)) e.path
    (omega (arith, length-append before (e.path ∷ []))) (inside_newest before e.path) es j.3 no_nodes [] refl in
    subst (λ (ds : List conditions.Placement). conditions.IsListing (node_of x.effect x.name (items_nodes is no_nodes) rest) s terms ds) (sym (append_assoc (placed e) (all_placed es) ys))
    (term_listing objects terms h before inside s at x e j.0 j.1 j.2 (items_nodes is no_nodes) rest (all_placed es) ys (λ count f. absurd (holds count f))
    (subst (λ (ds : List conditions.Placement). conditions.IsListing (items_nodes is no_nodes) e.path next ds) (append-nil (all_placed es)) deep)
    (subst (λ (m : entries.Namespace). conditions.IsListing rest s m ys) (behind_both terms (placed e) (all_placed es)) l))

scope_holds : (o : Option ObjectTree) (count : ℕ) → scope_effect o ≡ expects count → ⊥
scope_holds None count e = cc
scope_holds (Some o) count e = cc

mutual
  item_listing : (i : ItemTree) (objects : Namespace) (terms : entries.Namespace) → Agrees objects terms → (k : ℕ) (before : List (List Segment)) (inside : Option ℕ) (s : List Segment) → k ≡ length before → Inside before inside s
      → (es : List Placement) → IsJustified objects before (item_sites k inside i) es → (rest : Nodes) (ys : List conditions.Placement) → conditions.IsListing rest s (made_behind terms (all_placed es)) ys
      → conditions.IsListing (item_nodes i rest) s terms (all_placed es ++ ys)
  item_listing (scope kind n is) objects terms h k before inside s e at es j rest ys l =
      holder_listing objects terms h before inside s at (step n (scope_effect (kind_object kind))) (scope_holds (kind_object kind)) is es
      (subst (λ k. IsJustified objects before (item_sites k inside (scope kind n is)) es) e j) (items_listing is) rest ys l
  item_listing i objects terms h k before inside s e at es j rest ys l = steps_listing objects terms h before inside s at (own_steps i) es j rest ys l

  items_listing : (is : ItemTrees) (objects : Namespace) (terms : entries.Namespace) → Agrees objects terms → (k : ℕ) (before : List (List Segment)) (inside : Option ℕ) (s : List Segment) → k ≡ length before → Inside before inside s
      → (es : List Placement) → IsJustified objects before (items_sites k inside is) es → (rest : Nodes) (ys : List conditions.Placement) → conditions.IsListing rest s (made_behind terms (all_placed es)) ys
      → conditions.IsListing (items_nodes is rest) s terms (all_placed es ++ ys)
  items_listing no_items objects terms h k before inside s e at [] j rest ys l = l
  items_listing no_items objects terms h k before inside s e at (d ∷ es) j rest ys l = absurd j
  items_listing (item i is) objects terms h k before inside s e at es j rest ys l =
      let r : Parts objects before (item_sites k inside i) (items_sites (k + length (item_sites k inside i)) inside is) es = parts objects before (item_sites k inside i) (items_sites (k + length (item_sites k inside i)) inside is) es j in
      let front : List Placement = r.front in
      let back : List Placement = r.back in
      let count : length front ≡ length (item_sites k inside i) = length-justified objects before (item_sites k inside i) front r.justified_front in
      let split : all_placed es ≡ all_placed front ++ all_placed back = ap all_placed r.whole ∙ placed_both front back in
      let behind : conditions.IsListing rest s (made_behind (made_behind terms (all_placed front)) (all_placed back)) ys =
      subst (λ (m : entries.Namespace). conditions.IsListing rest s m ys) (ap (made_behind terms) split ∙ behind_both terms (all_placed front) (all_placed back)) l in
      let later : conditions.IsListing (items_nodes is rest) s (made_behind terms (all_placed front)) (all_placed back ++ ys) =
      items_listing is (union objects (objects_of front)) (made_behind terms (all_placed front)) (agrees_all objects terms h front) (k + length (item_sites k inside i)) (before ++ paths_of front) inside s
      (omega (arith, length-append before (paths_of front), length-paths front)) (inside_later before (paths_of front) inside s at) back r.justified_back rest ys behind in
      subst (λ (ds : List conditions.Placement). conditions.IsListing (items_nodes (item i is) rest) s terms ds)
      (sym (append_assoc (all_placed front) (all_placed back) ys) ∙ ap (λ ds. ds ++ ys) (sym split))
      (item_listing i objects terms h k before inside s e at front r.justified_front (items_nodes is rest) (all_placed back ++ ys) later)

-- ---- tables

table_listing : (is : ItemTrees) (objects : Namespace) (terms : entries.Namespace) → Agrees objects terms → (es : List Placement) → IsListing objects (sites is) es → conditions.IsListing (nodes_of is) [] terms (all_placed es)
table_listing is objects terms h es l =
    subst (λ (ds : List conditions.Placement). conditions.IsListing (nodes_of is) [] terms ds) (append-nil (all_placed es)) (items_listing is objects terms h 0 [] None [] refl (λ more. refl) es l no_nodes [] refl)

pub strict_is_listing : (objects : Namespace) (terms : entries.Namespace) → Agrees objects terms → (iss : List ItemTrees) (ts : List (List Placement)) → AreItemListings objects iss ts
    → conditions.AreListings (map nodes_of iss) terms (map all_placed ts)
strict_is_listing objects terms h [] [] l = tt
strict_is_listing objects terms h [] (t ∷ ts) l = absurd l
strict_is_listing objects terms h (is ∷ iss) [] l = absurd l
strict_is_listing objects terms h (is ∷ iss) (t ∷ ts) l =
    (table_listing is objects terms h t l.0, strict_is_listing (union objects (objects_of t)) (made_behind terms (all_placed t)) (agrees_all objects terms h t) iss ts l.1)

pub strict_load_is_survey : (objects : Namespace) (terms : entries.Namespace) (k : Known) → Agrees objects terms → IsAllOf terms k → (iss : List ItemTrees) (ts : List (List Placement)) → AreItemListings objects iss ts
    → AllZip IsStrict (map all_placed ts) (surveys k (map nodes_of iss))
strict_load_is_survey objects terms k h all iss ts l = strict_is_survey k terms (map nodes_of iss) (map all_placed ts) all (strict_is_listing objects terms h iss ts l)
