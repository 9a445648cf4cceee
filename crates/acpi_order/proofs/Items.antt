-- What placements give to paths: each path has one value at most, and those of all tables are those of the single loads.
use Rattle.std.proofs.Common.{◌≡◌, ◌≢◌, ◌↔◌, ℕ, suc, Bool, true, false, cond, List, [], ◌∷◌, ◌++◌, Option, Some, None, ◌⊎◌, inl, inr, refl, sym, ap, subst, ◌∙◌, append_assoc}
use Rattle.std.specs.Option.{option_or}
use Rattle.acpi_name.specs.Names.{Segment}
use Rattle.acpi_space.specs.Laws.{Among}
use Rattle.acpi_space.specs.Lookups.{Lookup, is_same_path, nothing, singleton, union}
use Rattle.acpi_space.proofs.Elements.{among_append, among_both, not_both, one_some}
use Rattle.acpi_tree.specs.Objects.{ObjectTree}
use Rattle.acpi_declare.specs.Namespace.{Namespace}
use Rattle.acpi_declare.specs.Sites.{Site, sites}
use Rattle.acpi_declare.specs.Placing.{IsPlaced}
use Rattle.acpi_declare.specs.Listing.{Placement, object_of, objects_of, IsJustified}
use Rattle.acpi_declare.specs.Notes.{external_counts}
use Rattle.acpi_declare.specs.Loads.{AreListings}
use Rattle.acpi_pass.proofs.Unions.{path_same, or_assoc}
use Rattle.acpi_order.specs.Misses.{Listing}
use Rattle.acpi_order.proofs.Lists.{or_nones}
use Rattle.acpi_order.proofs.Listings.{path_itself}

abbrev pub AreDistinct : {X : Type 0} → (X → List Segment) → List X → Type 0
AreDistinct at [] = Unit {0}
AreDistinct at (w ∷ ws) = ((x : _) → Among ws x → at x ≢ at w) × AreDistinct at ws

-- what a placement gives: nothing, or one thing for a path that it declares
pub record Source (X : Type 0) : Type 0 where
  pub at : X → List Segment
  pub from : Lookup ℕ → Placement → List X
  pub frees : (c : Lookup ℕ) (e : Placement) (x : X) (N : Namespace) → Among (from c e) x → IsPlaced e.step.effect N e.scope e.step.name e.path → N (at x) ≡ None
  pub gives : (c : Lookup ℕ) (e : Placement) (x : X) → Among (from c e) x → (o : ObjectTree) × (object_of e (at x) ≡ Some o)
  pub alone : (c : Lookup ℕ) (e : Placement) (ys : List X) → ((y w : X) → Among (from c e) w → Among ys y → at y ≢ at w) → AreDistinct at ys → AreDistinct at (from c e ++ ys)

-- ---- the values of a list of such things

abbrev pub values_of : {X V : Type 0} → (X → List Segment) → (X → V) → List X → Lookup V
values_of at value [] = nothing
values_of at value (x ∷ xs) = union (values_of at value xs) (singleton (at x) (value x))

module _ {X V : Type 0} (at : X → List Segment) (value : X → V) where
  abbrev Has : List X → List Segment → V → Type 0
  Has xs p v = (x : X) × Among xs x × (at x ≡ p) × (v ≡ value x)

  only_at : (w : X) (ws : List X) (p : List Segment) (v : V) → (values_of at value ws p ≡ Some v → Has ws p v)
      → (a : Option V) → values_of at value ws p ≡ a → (b : Bool) → is_same_path p (at w) ≡ b → option_or a (cond b (Some (value w)) None) ≡ Some v → Has (w ∷ ws) p v
  only_at w ws p v rest (Some u) there b eb e = let r = rest (there ∙ e) in (r.0, inr r.1, r.2, r.3)
  only_at w ws p v rest None there true eb e = (w, inl refl, sym (path_same p (at w) eb), sym (one_some _ _ e))
  only_at w ws p v rest None there false eb e = cc

  values_only : (ws : List X) (p : List Segment) (v : V) → values_of at value ws p ≡ Some v → Has ws p v
  values_only [] p v e = cc
  values_only (w ∷ ws) p v e = only_at w ws p v (values_only ws p v) (values_of at value ws p) refl (is_same_path p (at w)) refl e

  none_there : (ws : List X) (p : List Segment) → ((x : X) → Among ws x → at x ≢ p) → values_of at value ws p ≡ None
  none_there ws p apart = by (values_of at value ws p) refl
    where
      by : (a : Option V) → values_of at value ws p ≡ a → values_of at value ws p ≡ None
      by None e = e
      by (Some v) e = let r = values_only ws p v e in absurd (apart r.0 r.1 r.2)

  values_each : (ws : List X) → AreDistinct at ws → (w : X) → Among ws w → values_of at value ws (at w) ≡ Some (value w)
  values_each [] d w m = absurd m
  values_each (x ∷ ws) d w (inl e) =
      subst (λ (y : X). values_of at value (x ∷ ws) (at y) ≡ Some (value y)) e
      (ap (λ a. option_or a (singleton (at x) (value x) (at x))) (none_there ws (at x) d.0) ∙ ap (λ b. cond b (Some (value x)) None) (path_itself (at x)))
  values_each (x ∷ ws) d w (inr m) = ap (λ a. option_or a (singleton (at x) (value x) (at w))) (values_each ws d.1 w m)

-- ---- the things that tables give

abbrev pub items_in : {X : Type 0} → Source X → Lookup ℕ → List Placement → List X
items_in S c [] = []
items_in S c (e ∷ es) = S.from c e ++ items_in S c es

abbrev pub items : {X : Type 0} → Source X → Listing → List X
items S t = items_in S (external_counts t) t

abbrev pub all_items : {X : Type 0} → Source X → List Listing → List X
all_items S [] = []
all_items S (t ∷ ts) = items S t ++ all_items S ts

module _ {X : Type 0} (S : Source X) where
  -- what a listing gives later was free before it
  later_free : (c : Lookup ℕ) (N : Namespace) (before : List (List Segment)) (xs : List Site) (es : List Placement) → IsJustified N before xs es → (w : X)
      → Among (items_in S c es) w → N (S.at w) ≡ None
  later_free c N before [] [] h w m = absurd m
  later_free c N before [] (e ∷ es) h w m = absurd h
  later_free c N before (x ∷ xs) [] h w m = absurd m
  later_free c N before (x ∷ xs) (e ∷ es) h w m =
      by (λ k. later_free c (union N (object_of e)) (before ++ e.path ∷ []) xs es h.3 w k) (among_append (S.from c e) (items_in S c es) w m)
    where
      by : (Among (items_in S c es) w → union N (object_of e) (S.at w) ≡ None) → Among (S.from c e) w ⊎ Among (items_in S c es) w → N (S.at w) ≡ None
      by more (inl k) = S.frees c e w N k h.2
      by more (inr k) = (or_nones (N (S.at w)) (object_of e (S.at w)) (more k)).0

  -- a listing's paths are distinct from each other and from those behind it
  distinct : (c : Lookup ℕ) (N : Namespace) (before : List (List Segment)) (xs : List Site) (es : List Placement) (ws : List X) → IsJustified N before xs es
      → ((w : X) → Among ws w → union N (objects_of es) (S.at w) ≡ None) → AreDistinct S.at ws → AreDistinct S.at (items_in S c es ++ ws)
  distinct c N before [] [] ws h free d = d
  distinct c N before [] (e ∷ es) ws h free d = absurd h
  distinct c N before (x ∷ xs) [] ws h free d = absurd h
  distinct c N before (x ∷ xs) (e ∷ es) ws h free d =
      subst (AreDistinct S.at) (sym (append_assoc (S.from c e) (items_in S c es) ws))
      (S.alone c e (items_in S c es ++ ws)
      (λ y w k m same.
      let g = S.gives c e w k in
      not_both (object_of e (S.at y)) g.0 (ap (object_of e) same ∙ g.1) (by y (among_append (items_in S c es) ws y m)))
      (distinct c (union N (object_of e)) (before ++ e.path ∷ []) xs es ws h.3 (λ w m. or_assoc (N (S.at w)) (object_of e (S.at w)) (objects_of es (S.at w)) ∙ free w m) d))
    where
      by : (y : X) → Among (items_in S c es) y ⊎ Among ws y → object_of e (S.at y) ≡ None
      by y (inl k) = (or_nones (N (S.at y)) (object_of e (S.at y)) (later_free c (union N (object_of e)) (before ++ e.path ∷ []) xs es h.3 y k)).1
      by y (inr k) = (or_nones (object_of e (S.at y)) (objects_of es (S.at y)) (or_nones (N (S.at y)) _ (free y k)).1).0

  items_later : (depth number : ℕ) (N : Namespace) (tables : List (List ℕ)) (ts : List Listing) → AreListings depth number N tables ts → (w : X) → Among (all_items S ts) w
      → N (S.at w) ≡ None
  items_later depth number N [] [] h w m = absurd m
  items_later depth number N [] (t ∷ ts) h w m = absurd h
  items_later depth number N (b ∷ bs) [] h w m = absurd m
  items_later depth number N (b ∷ bs) (t ∷ ts) h w m =
      by (λ k. items_later depth (suc number) (union N (objects_of t)) bs ts h.1 w k) (among_append (items S t) (all_items S ts) w m)
    where
      by : (Among (all_items S ts) w → union N (objects_of t) (S.at w) ≡ None) → Among (items S t) w ⊎ Among (all_items S ts) w → N (S.at w) ≡ None
      by more (inl k) = later_free (external_counts t) N [] (sites h.0.0) t h.0.2 w k
      by more (inr k) = (or_nones (N (S.at w)) (objects_of t (S.at w)) (more k)).0

  pub all_distinct : (depth number : ℕ) (N : Namespace) (tables : List (List ℕ)) (ts : List Listing) → AreListings depth number N tables ts → AreDistinct S.at (all_items S ts)
  all_distinct depth number N [] [] h = tt
  all_distinct depth number N [] (t ∷ ts) h = absurd h
  all_distinct depth number N (b ∷ bs) [] h = tt
  all_distinct depth number N (b ∷ bs) (t ∷ ts) h =
      let O : Namespace = union N (objects_of t) in
      distinct (external_counts t) N [] (sites h.0.0) t (all_items S ts) h.0.2 (λ w m. items_later depth (suc number) O bs ts h.1 w m) (all_distinct depth (suc number) O bs ts h.1)

  -- the table that gives it
  giver : (ts : List Listing) (w : X) → Among (all_items S ts) w → (t : Listing) × Among ts t × Among (items S t) w
  giver [] w m = absurd m
  giver (t ∷ ts) w m = by (giver ts w) (among_append (items S t) (all_items S ts) w m)
    where
      by : (Among (all_items S ts) w → (u : Listing) × Among ts u × Among (items S u) w) → Among (items S t) w ⊎ Among (all_items S ts) w
          → (u : Listing) × Among (t ∷ ts) u × Among (items S u) w
      by more (inl k) = (t, inl refl, k)
      by more (inr k) = let r = more k in (r.0, inr r.1, r.2)

  among_items : (ts : List Listing) (t : Listing) (w : X) → Among ts t → Among (items S t) w → Among (all_items S ts) w
  among_items [] t w m k = absurd m
  among_items (u ∷ ts) t w (inl e) k = among_both (items S u) (all_items S ts) w (inl (subst (λ (x : Listing). Among (items S x) w) (sym e) k))
  among_items (u ∷ ts) t w (inr m) k = among_both (items S u) (all_items S ts) w (inr (among_items ts t w m k))

module _ {X V : Type 0} (S : Source X) (first t₀ : Listing) (ts : List Listing) (whole : X → V) (single : Listing → X → V)
    (kept : (t : Listing) → Among (t₀ ∷ ts) t → (x : X) → Among (all_items S (first ∷ t ∷ [])) x → whole x ≡ single t x)
    (all : AreDistinct S.at (all_items S (first ∷ t₀ ∷ ts)))
    (parts : (t : Listing) → Among (t₀ ∷ ts) t → AreDistinct S.at (all_items S (first ∷ t ∷ []))) where
  in_single : (x : X) → Among (all_items S (first ∷ t₀ ∷ ts)) x → (t : Listing) × Among (t₀ ∷ ts) t × Among (all_items S (first ∷ t ∷ [])) x
  in_single x m = by (giver S (first ∷ t₀ ∷ ts) x m)
    where
      by : (u : Listing) × Among (first ∷ t₀ ∷ ts) u × Among (items S u) x → (t : Listing) × Among (t₀ ∷ ts) t × Among (all_items S (first ∷ t ∷ [])) x
      by (u, inl e, k) = (t₀, inl refl, among_items S (first ∷ t₀ ∷ []) u x (inl e) k)
      by (u, inr i, k) = (u, i, among_items S (first ∷ u ∷ []) u x (inr (inl refl)) k)

  in_all : (t : Listing) → Among (t₀ ∷ ts) t → (x : X) → Among (all_items S (first ∷ t ∷ [])) x → Among (all_items S (first ∷ t₀ ∷ ts)) x
  in_all t m x i = by (giver S (first ∷ t ∷ []) x i)
    where
      by : (u : Listing) × Among (first ∷ t ∷ []) u × Among (items S u) x → Among (all_items S (first ∷ t₀ ∷ ts)) x
      by (u, inl e, k) = among_items S (first ∷ t₀ ∷ ts) u x (inl e) k
      by (u, inr (inl e), k) = among_items S (first ∷ t₀ ∷ ts) u x (inr (subst (Among (t₀ ∷ ts)) e m)) k
      by (u, inr (inr n), k) = absurd n

  pub items_join : (p : List Segment) (v : V) → (values_of S.at whole (all_items S (first ∷ t₀ ∷ ts)) p ≡ Some v)
      ↔ ((t : Listing) × Among (t₀ ∷ ts) t × (values_of S.at (single t) (all_items S (first ∷ t ∷ [])) p ≡ Some v))
  items_join p v = (
    (λ e.
        let o = values_only S.at whole (all_items S (first ∷ t₀ ∷ ts)) p v e in
        let r = in_single o.0 o.1 in
        let each = values_each S.at (single r.0) (all_items S (first ∷ r.0 ∷ [])) (parts r.0 r.1) o.0 r.2 in
        (r.0, r.1, ap (values_of S.at (single r.0) (all_items S (first ∷ r.0 ∷ []))) (sym o.2) ∙ each ∙ ap (λ (u : V). Some u) (sym (kept r.0 r.1 o.0 r.2) ∙ sym o.3))),
    (λ g.
        let o = values_only S.at (single g.0) (all_items S (first ∷ g.0 ∷ [])) p v g.2 in
        let each = values_each S.at whole (all_items S (first ∷ t₀ ∷ ts)) all o.0 (in_all g.0 g.1 o.0 o.1) in
        ap (values_of S.at whole (all_items S (first ∷ t₀ ∷ ts))) (sym o.2) ∙ each ∙ ap (λ (u : V). Some u) (kept g.0 g.1 o.0 o.1 ∙ sym o.3)),
  )
