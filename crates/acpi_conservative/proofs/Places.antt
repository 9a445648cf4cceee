-- Nodes, terms and placements with all places 0: a listing of these is one of the nodes at their places.
use Rattle.std.proofs.Common.{◌≡◌, Bool, true, false, cond, List, [], ◌∷◌, ◌++◌, map, is_some, Option, Some, None, refl, sym, ap, subst, ◌∙◌}
use Rattle.std.proofs.lemmas.List.{map-append}
use Rattle.std.specs.List.{AllByRecursion}
use Rattle.std.specs.Option.{option_map, option_or}
use Rattle.std.specs.Prelude.{IsTrue}
use Rattle.acpi_name.specs.Names.{NameParts}
use Rattle.acpi_name.specs.Paths.{parent_of}
use Rattle.acpi_space.specs.Lookups.{is_same_path, is_defined_in, singleton}
use Rattle.acpi_space.specs.Search.{answer}
use Rattle.acpi_conditions.specs.Nodes.{Term, Nodes, no_nodes, declares, opens, branch, loop, stop}
use Rattle.acpi_conditions.specs.Entries.{Path, Namespace, IsScopeIn}
use Rattle.acpi_conditions.specs.Runs.{Makes, Finds}
use Rattle.acpi_conditions.specs.Listings.{Placement, with_object, made_behind, IsListing, AreListings}

abbrev pub without_place : Term → Term
without_place t = record t { place = 0 }

abbrev pub without_places : Nodes → Nodes
without_places no_nodes = no_nodes
without_places (declares t inside rest) = declares (without_place t) (without_places inside) (without_places rest)
without_places (opens place n inside rest) = opens 0 n (without_places inside) (without_places rest)
without_places (branch place first other rest) = branch 0 (without_places first) (without_places other) (without_places rest)
without_places (loop place body rest) = loop 0 (without_places body) (without_places rest)
without_places (stop place kind rest) = stop 0 kind (without_places rest)

abbrev pub placement_without : Placement → Placement
placement_without d = record d { term = without_place d.term }

abbrev pub terms_without : Namespace → Namespace
terms_without terms p = option_map without_place (terms p)

-- ---- namespaces

same_defined : (o : Option Term) → is_some (option_map without_place o) ≡ is_some o
same_defined None = refl
same_defined (Some t) = refl

defined_alike : (terms : Namespace) → is_defined_in (terms_without terms) ≡ is_defined_in terms
defined_alike terms = λ i p. same_defined (terms p) i

map_or : (a b : Option Term) → option_map without_place (option_or a b) ≡ option_or (option_map without_place a) (option_map without_place b)
map_or None b = refl
map_or (Some t) b = refl

map_one : (b : Bool) (t : Term) → option_map without_place (cond b (Some t) None) ≡ cond b (Some (without_place t)) None
map_one true t = refl
map_one false t = refl

one_without : (terms : Namespace) (p : Path) (t : Term) → terms_without (with_object terms p t) ≡ with_object (terms_without terms) p (without_place t)
one_without terms p t = λ i q. (map_or (terms q) (singleton p t q) ∙ ap (option_or (option_map without_place (terms q))) (map_one (is_same_path q p) t)) i

pub made_without : (terms : Namespace) (ds : List Placement) → terms_without (made_behind terms ds) ≡ made_behind (terms_without terms) (map placement_without ds)
made_without terms [] = refl
made_without terms (d ∷ ds) =
    made_without (with_object terms d.path d.term) ds ∙ ap (λ (m : Namespace). made_behind m (map placement_without ds)) (one_without terms d.path d.term)

-- ---- one term

scope_of : (o : Option Term) (t : Term) → option_map without_place o ≡ Some t → IsTrue t.is_scope → (u : Term) × (o ≡ Some u) × IsTrue u.is_scope
scope_of None t e is = let h : ⊥ = cc in absurd h
scope_of (Some u) t e is = let same : without_place u ≡ t = cc in (u, refl, ap (λ (t : Term). t.is_scope) same ∙ is)

none_of : (o : Option Term) → option_map without_place o ≡ None → o ≡ None
none_of None e = refl
none_of (Some t) e = let h : ⊥ = cc in absurd h

scope_there : (terms : Namespace) (p : Path) → IsScopeIn (terms_without terms) p → IsScopeIn terms p
scope_there terms p s = scope_of (terms p) s.0 s.1 s.2

makes : (terms : Namespace) (s : Path) (t : Term) (p : Path) → Makes (terms_without terms) s (without_place t) p → Makes terms s t p
makes terms s t p m = record {
  has_segments = m.has_segments;
  placed = m.placed;
  parent = scope_there terms (parent_of p) m.parent;
  free = none_of (terms p) m.free;
  needs = subst (λ (d : Path → Bool). AllByRecursion (λ (n : NameParts). (q : Path) × (answer d s n ≡ Some q)) t.needs) (defined_alike terms) m.needs;
}

finds : (terms : Namespace) (s : Path) (n : NameParts) (p : Path) → Finds (terms_without terms) s n p → Finds terms s n p
finds terms s n p f = (subst (λ (d : Path → Bool). answer d s n ≡ Some p) (defined_alike terms) f.0, scope_there terms p f.1)

-- ---- listings

-- a listing whose placements are these but for their places
pub record PlacedListing (ns : Nodes) (s : Path) (terms : Namespace) (ds : List Placement) : Type 0 where
  pub placements : List Placement
  pub listing : IsListing ns s terms placements
  pub alike : ds ≡ map placement_without placements

both_without : (ds es xs ys : List Placement) → ds ≡ map placement_without xs → es ≡ map placement_without ys → ds ++ es ≡ map placement_without (xs ++ ys)
both_without ds es xs ys e f = ap (λ zs. zs ++ es) e ∙ ap (λ zs. map placement_without xs ++ zs) f ∙ sym (map-append placement_without xs ys)

pub placed_listing : (ns : Nodes) (s : Path) (terms : Namespace) (ds : List Placement) → IsListing (without_places ns) s (terms_without terms) ds → PlacedListing ns s terms ds
placed_listing no_nodes s terms ds l = record { placements = []; listing = refl; alike = l }
placed_listing (declares t inside rest) s terms ds l =
    let p : Path = l.0 in
    let now : Namespace = with_object terms p t in
    let inner : PlacedListing inside p now l.1 = placed_listing inside p now l.1 (subst (λ (m : Namespace). IsListing (without_places inside) p m l.1) (sym (one_without terms p t)) l.4) in
    let behind : terms_without (made_behind now inner.placements) ≡ made_behind (with_object (terms_without terms) p (without_place t)) l.1 =
    made_without now inner.placements ∙ ap (λ (m : Namespace). made_behind m (map placement_without inner.placements)) (one_without terms p t)
    ∙ ap (made_behind (with_object (terms_without terms) p (without_place t))) (sym inner.alike) in
    let later : PlacedListing rest s (made_behind now inner.placements) l.2 =
    placed_listing rest s (made_behind now inner.placements) l.2 (subst (λ (m : Namespace). IsListing (without_places rest) s m l.2) (sym behind) l.5) in
    record {
      placements = record { term = t; scope = s; path = p } ∷ (inner.placements ++ later.placements);
      listing = (p, inner.placements, later.placements, makes terms s t p l.3, inner.listing, later.listing, refl);
      alike = l.6 ∙ ap (λ zs. record { term = without_place t; scope = s; path = p } ∷ zs) (both_without l.1 l.2 inner.placements later.placements inner.alike later.alike);
    }
placed_listing (opens place n inside rest) s terms ds l =
    let p : Path = l.0 in
    let inner : PlacedListing inside p terms l.1 = placed_listing inside p terms l.1 l.4 in
    let behind : terms_without (made_behind terms inner.placements) ≡ made_behind (terms_without terms) l.1 =
    made_without terms inner.placements ∙ ap (made_behind (terms_without terms)) (sym inner.alike) in
    let later : PlacedListing rest s (made_behind terms inner.placements) l.2 =
    placed_listing rest s (made_behind terms inner.placements) l.2 (subst (λ (m : Namespace). IsListing (without_places rest) s m l.2) (sym behind) l.5) in
    record {
      placements = inner.placements ++ later.placements;
      listing = (p, inner.placements, later.placements, finds terms s n p l.3, inner.listing, later.listing, refl);
      alike = l.6 ∙ both_without l.1 l.2 inner.placements later.placements inner.alike later.alike;
    }
placed_listing (branch place first other rest) s terms ds l = absurd l
placed_listing (loop place body rest) s terms ds l = absurd l
placed_listing (stop place kind rest) s terms ds l = absurd l

-- .. of tables
pub record PlacedListings (ts : List Nodes) (terms : Namespace) (dss : List (List Placement)) : Type 0 where
  pub placements : List (List Placement)
  pub listings : AreListings ts terms placements
  pub alike : dss ≡ map (map placement_without) placements

pub placed_listings : (ts : List Nodes) (terms : Namespace) (dss : List (List Placement)) → AreListings (map without_places ts) (terms_without terms) dss → PlacedListings ts terms dss
placed_listings [] terms [] l = record { placements = []; listings = tt; alike = refl }
placed_listings [] terms (ds ∷ dss) l = absurd l
placed_listings (t ∷ ts) terms [] l = absurd l
placed_listings (t ∷ ts) terms (ds ∷ dss) l =
    let here : PlacedListing t [] terms ds = placed_listing t [] terms ds l.0 in
    let behind : terms_without (made_behind terms here.placements) ≡ made_behind (terms_without terms) ds =
    made_without terms here.placements ∙ ap (made_behind (terms_without terms)) (sym here.alike) in
    let later : PlacedListings ts (made_behind terms here.placements) dss =
    placed_listings ts (made_behind terms here.placements) dss (subst (λ (m : Namespace). AreListings (map without_places ts) m dss) (sym behind) l.1) in
    record {
      placements = here.placements ∷ later.placements;
      listings = (here.listing, later.listings);
      alike = ap (λ zs. zs ∷ dss) here.alike ∙ ap (λ zss. map placement_without here.placements ∷ zss) later.alike;
    }
