-- The pass over a tree makes a justified listing of its sites, or stops at the first that is refused.
use Rattle.std.proofs.Common.{◌≡◌, ℕ, suc, ◌+◌, List, [], ◌∷◌, ◌++◌, map, length, Option, Some, Result, Ok, Err, refl, sym, ap, subst, ◌∙◌, append_assoc, append-nil, length-append, arith}
use Rattle.acpi_name.specs.Names.{Segment}
use Rattle.acpi_tree.specs.Tree.{ItemTree, scope, ItemTrees, no_items, item}
use Rattle.acpi_space.specs.Lookups.{union}
use Rattle.acpi_pass.specs.Listing.{Placement, object_of, objects_of, path_at, scope_within, IsJustified, paths_of}
use Rattle.acpi_pass.specs.Namespace.{Namespace}
use Rattle.acpi_pass.specs.Placing.{RefusedAt, placed_path}
use Rattle.acpi_pass.specs.Sites.{Step, step, kind_object, scope_effect, own_steps, Site, site_in, item_sites, items_sites}
use Rattle.acpi_pass.specs.steps.Pass.{Pass, Passing, after, after_all, placement, ◌>>=◌, take_steps, enter, pass_item, pass_items}
use Rattle.acpi_pass.proofs.Unions.{union-nothing, union_assoc}
use Rattle.acpi_pass.proofs.Places.{placed_ok}

-- ---- entries one after another

pub after_all_append : (t : Pass) (es fs : List Placement) → after_all t (es ++ fs) ≡ after_all (after_all t es) fs
after_all_append t [] fs = refl
after_all_append t (e ∷ es) fs = after_all_append (after t e) es fs

-- the objects after some entries
pub objects_after : (t : Pass) (es : List Placement) → (after_all t es).objects ≡ union t.objects (objects_of es)
objects_after t [] = sym (union-nothing t.objects)
objects_after t (e ∷ es) = objects_after (after t e) es ∙ union_assoc t.objects (object_of e) (objects_of es)

pub justified_append : (objects : Namespace) (before : List (List Segment)) (xs ys : List Site) (es fs : List Placement)
    → IsJustified objects before xs es → IsJustified (union objects (objects_of es)) (before ++ paths_of es) ys fs → IsJustified objects before (xs ++ ys) (es ++ fs)
justified_append objects before [] ys [] fs h k =
    subst (λ ps. IsJustified objects ps ys fs) (append-nil before) (subst (λ (m : Namespace). IsJustified m (before ++ []) ys fs) (union-nothing objects) k)
justified_append objects before (x ∷ xs) ys (e ∷ es) fs h k = (
  h.0,
  h.1,
  h.2,
  justified_append (union objects (object_of e)) (before ++ e.path ∷ []) xs ys es fs h.3
      (subst (λ ps. IsJustified (union (union objects (object_of e)) (objects_of es)) ps ys fs) (sym (append_assoc before (e.path ∷ []) (paths_of es)))
      (subst (λ (m : Namespace). IsJustified m (before ++ e.path ∷ paths_of es) ys fs) (sym (union_assoc objects (object_of e) (objects_of es))) k)),
)
justified_append objects before [] ys (e ∷ es) fs h k = absurd h
justified_append objects before (x ∷ xs) ys [] fs h k = absurd h

pub length-justified : (objects : Namespace) (before : List (List Segment)) (xs : List Site) (es : List Placement) → IsJustified objects before xs es → length es ≡ length xs
length-justified objects before [] [] h = refl
length-justified objects before (x ∷ xs) (e ∷ es) h = ap suc (length-justified (union objects (object_of e)) (before ++ e.path ∷ []) xs es h.3)
length-justified objects before [] (e ∷ es) h = absurd h
length-justified objects before (x ∷ xs) [] h = absurd h

pub length-paths : (es : List Placement) → length (paths_of es) ≡ length es
length-paths [] = refl
length-paths (e ∷ es) = ap suc (length-paths es)

-- ---- the current scope

-- inside that site the scope is s, whatever follows
abbrev pub Inside : List (List Segment) → Option ℕ → List Segment → Type 0
Inside before inside s = (more : List (List Segment)) → scope_within (before ++ more) inside ≡ s

pub inside_later : (before new : List (List Segment)) (inside : Option ℕ) (s : List Segment) → Inside before inside s → Inside (before ++ new) inside s
inside_later before new inside s h more = ap (λ ps. scope_within ps inside) (append_assoc before new more) ∙ h (new ++ more)

pub inside_now : (before : List (List Segment)) (inside : Option ℕ) (s : List Segment) → Inside before inside s → scope_within before inside ≡ s
inside_now before inside s h = ap (λ ps. scope_within ps inside) (sym (append-nil before)) ∙ h []

path_at_seam : (ps qs : List (List Segment)) (p : List Segment) → path_at (ps ++ p ∷ qs) (length ps) ≡ p
path_at_seam [] qs p = refl
path_at_seam (x ∷ ps) qs p = path_at_seam ps qs p

-- inside the newest site the scope is its path
pub inside_newest : (before : List (List Segment)) (p : List Segment) → Inside (before ++ p ∷ []) (Some (length before)) p
inside_newest before p more = ap (λ ps. path_at ps (length before)) (append_assoc before (p ∷ []) more) ∙ path_at_seam before more p

-- ---- outcomes

pub record Ran (t : Pass) (before : List (List Segment)) (xs : List Site) (u : Pass) : Type 0 where
  pub placements : List Placement
  pub listing : IsJustified t.objects before xs placements
  pub after_them : u ≡ after_all t placements

pub record Stopped (t : Pass) (before : List (List Segment)) (xs : List Site) (f : RefusedAt) : Type 0 where
  pub earlier : List Site
  pub site : Site
  pub later : List Site
  pub placements : List Placement
  pub splits : xs ≡ earlier ++ site ∷ later
  pub listing : IsJustified t.objects before earlier placements
  pub refused : placed_path site.step.effect (after_all t placements).objects (scope_within (before ++ paths_of placements) site.inside) site.step.name ≡ Err f

abbrev pub Outcome : Pass → List (List Segment) → List Site → Passing → Type 0
Outcome t before xs (Ok u) = Ran t before xs u
Outcome t before xs (Err f) = Stopped t before xs f

nothing_ran : (t : Pass) (before : List (List Segment)) → Ran t before [] t
nothing_ran t before = record { placements = []; listing = tt; after_them = refl }

paths-append : (es fs : List Placement) → paths_of (es ++ fs) ≡ paths_of es ++ paths_of fs
paths-append [] fs = refl
paths-append (e ∷ es) fs = ap (λ ps. e.path ∷ ps) (paths-append es fs)

-- what follows a run
behind : (t : Pass) (before : List (List Segment)) (es : List Placement) (xs ys : List Site) (r : Passing)
    → IsJustified t.objects before xs es → Outcome (after_all t es) (before ++ paths_of es) ys r → Outcome t before (xs ++ ys) r
behind t before es xs ys (Ok u) h o = record {
  placements = es ++ o.placements;
  listing = justified_append t.objects before xs ys es o.placements h (subst (λ (m : Namespace). IsJustified m (before ++ paths_of es) ys o.placements) (objects_after t es) o.listing);
  after_them = o.after_them ∙ sym (after_all_append t es o.placements);
}
behind t before es xs ys (Err f) h o = record {
  earlier = xs ++ o.earlier;
  site = o.site;
  later = o.later;
  placements = es ++ o.placements;
  splits = ap (λ l. xs ++ l) o.splits ∙ sym (append_assoc xs o.earlier (o.site ∷ o.later));
  listing = justified_append t.objects before xs o.earlier es o.placements h (subst (λ (m : Namespace). IsJustified m (before ++ paths_of es) o.earlier o.placements) (objects_after t es) o.listing);
  refused =
      ap (λ (v : Pass). placed_path o.site.step.effect v.objects (scope_within (before ++ paths_of (es ++ o.placements)) o.site.inside) o.site.step.name) (after_all_append t es o.placements)
      ∙ ap (λ ps. placed_path o.site.step.effect (after_all (after_all t es) o.placements).objects (scope_within ps o.site.inside) o.site.step.name)
      (ap (λ ps. before ++ ps) (paths-append es o.placements) ∙ sym (append_assoc before (paths_of es) (paths_of o.placements)))
      ∙ o.refused;
}

-- one after the other
follow : (t : Pass) (before : List (List Segment)) (xs ys : List Site) (r : Passing) (f : Pass → Passing) → Outcome t before xs r
    → ((es : List Placement) → length es ≡ length xs → Outcome (after_all t es) (before ++ paths_of es) ys (f (after_all t es))) → Outcome t before (xs ++ ys) (r >>= f)
follow t before xs ys (Ok u) f o k =
    behind t before o.placements xs ys (f u) o.listing
    (subst (λ v. Outcome (after_all t o.placements) (before ++ paths_of o.placements) ys (f v)) (sym o.after_them) (k o.placements (length-justified t.objects before xs o.placements o.listing)))
follow t before xs ys (Err e) f o k = record {
  earlier = o.earlier;
  site = o.site;
  later = o.later ++ ys;
  placements = o.placements;
  splits = ap (λ l. l ++ ys) o.splits ∙ append_assoc o.earlier (o.site ∷ o.later) ys;
  listing = o.listing;
  refused = o.refused;
}

-- ---- one site

-- a site that is refused
stops : (t : Pass) (before : List (List Segment)) (inside : Option ℕ) (s : List Segment) (x : Step) (ys : List Site) (f : RefusedAt)
    → Inside before inside s → placed_path x.effect t.objects s x.name ≡ Err f → Stopped t before (site_in inside x ∷ ys) f
stops t before inside s x ys f h e = record {
  earlier = [];
  site = site_in inside x;
  later = ys;
  placements = [];
  splits = refl;
  listing = tt;
  refused = ap (λ c. placed_path x.effect t.objects c x.name) (h []) ∙ e;
}

-- one that is placed
settles : (t : Pass) (before : List (List Segment)) (inside : Option ℕ) (s p : List Segment) (x : Step)
    → Inside before inside s → placed_path x.effect t.objects s x.name ≡ Ok p → IsJustified t.objects before (site_in inside x ∷ []) (placement s x p ∷ [])
settles t before inside s p x h e = (refl, sym (inside_now before inside s h), placed_ok x.effect t.objects s x.name p e, tt)

-- ---- steps in one scope

steps_outcome : (t : Pass) (before : List (List Segment)) (inside : Option ℕ) (s : List Segment) (xs : List Step) → Inside before inside s
    → Outcome t before (map (site_in inside) xs) (take_steps t s xs)
steps_outcome t before inside s [] h = nothing_ran t before
steps_outcome t before inside s (x ∷ xs) h = by (placed_path x.effect t.objects s x.name) refl
    (λ p. steps_outcome (after t (placement s x p)) (before ++ p ∷ []) inside s xs (inside_later before (p ∷ []) inside s h))
  where
    by : (r : Result (List Segment) RefusedAt) → placed_path x.effect t.objects s x.name ≡ r
        → ((p : List Segment) → Outcome (after t (placement s x p)) (before ++ p ∷ []) (map (site_in inside) xs) (take_steps (after t (placement s x p)) s xs))
        → Outcome t before (site_in inside x ∷ map (site_in inside) xs) ((r >>= λ p. Ok (after t (placement s x p))) >>= λ u. take_steps u s xs)
    by (Err f) e ih = stops t before inside s x (map (site_in inside) xs) f h e
    by (Ok p) e ih = behind t before (placement s x p ∷ []) (site_in inside x ∷ []) (map (site_in inside) xs) (take_steps (after t (placement s x p)) s xs)
        (settles t before inside s p x h e) (ih p)

-- ---- the tree

-- a term with others inside
enter_outcome : (t : Pass) (before : List (List Segment)) (inside : Option ℕ) (s : List Segment) (x : Step) (ys : List Site) (f : Pass → List Segment → Passing) → Inside before inside s
    → ((p : List Segment) → Outcome (after t (placement s x p)) (before ++ p ∷ []) ys (f (after t (placement s x p)) p))
    → Outcome t before (site_in inside x ∷ ys) (enter t s x f)
enter_outcome t before inside s x ys f h ih = by (placed_path x.effect t.objects s x.name) refl
  where
    by : (r : Result (List Segment) RefusedAt) → placed_path x.effect t.objects s x.name ≡ r → Outcome t before (site_in inside x ∷ ys) (r >>= λ p. f (after t (placement s x p)) p)
    by (Err g) e = stops t before inside s x ys g h e
    by (Ok p) e = behind t before (placement s x p ∷ []) (site_in inside x ∷ []) ys (f (after t (placement s x p)) p) (settles t before inside s p x h e) (ih p)

-- the list inside a term: its sites count from the term's own
newest : (t : Pass) (before : List (List Segment)) (p : List Segment) (is : ItemTrees)
    → ((k : ℕ) (inside : Option ℕ) → k ≡ length (before ++ p ∷ []) → Inside (before ++ p ∷ []) inside p
    → Outcome t (before ++ p ∷ []) (items_sites k inside is) (pass_items t p is))
    → Outcome t (before ++ p ∷ []) (items_sites (suc (length before)) (Some (length before)) is) (pass_items t p is)
newest t before p is ih = ih (suc (length before)) (Some (length before)) (omega (arith, length-append before (p ∷ []))) (inside_newest before p)

mutual
  pub item_outcome : (i : ItemTree) (t : Pass) (before : List (List Segment)) (k : ℕ) (inside : Option ℕ) (s : List Segment) → k ≡ length before → Inside before inside s
      → Outcome t before (item_sites k inside i) (pass_item t s i)
  item_outcome (scope kind n is) t before k inside s e h =
      subst (λ k. Outcome t before (item_sites k inside (scope kind n is)) (pass_item t s (scope kind n is))) (sym e)
      (enter_outcome t before inside s (step n (scope_effect (kind_object kind))) (items_sites (suc (length before)) (Some (length before)) is) (λ u p. pass_items u p is) h
      (λ p. newest _ before p is (λ k inside e h. items_outcome is _ (before ++ p ∷ []) k inside p e h)))
  item_outcome i t before k inside s e h = steps_outcome t before inside s (own_steps i) h

  pub items_outcome : (is : ItemTrees) (t : Pass) (before : List (List Segment)) (k : ℕ) (inside : Option ℕ) (s : List Segment) → k ≡ length before → Inside before inside s
      → Outcome t before (items_sites k inside is) (pass_items t s is)
  items_outcome no_items t before k inside s e h = nothing_ran t before
  items_outcome (item i is) t before k inside s e h =
      follow t before (item_sites k inside i) (items_sites (k + length (item_sites k inside i)) inside is) (pass_item t s i) (λ u. pass_items u s is)
      (item_outcome i t before k inside s e h)
      (λ es same. items_outcome is (after_all t es) (before ++ paths_of es) (k + length (item_sites k inside i)) inside s
      (omega (arith, length-append before (paths_of es), length-paths es)) (inside_later before (paths_of es) inside s h))
