-- What two single loads tell decides what they say of each other.
use Rattle.std.proofs.Common.{◌≡◌, ◌≢◌, ◌↔◌, ℕ, zero, suc, ◌<◌, Bool, true, false, cond, List, [], ◌∷◌, ◌++◌, Option, Some, None, ◌⊎◌, inl, inr, refl, sym, ap, subst, ◌∙◌}
use Rattle.std.specs.Option.{option_or}
use Rattle.acpi_name.specs.Names.{Segment, NameParts}
use Rattle.acpi_space.specs.Laws.{Among}
use Rattle.acpi_space.specs.Lookups.{is_same_path, union}
use Rattle.acpi_space.proofs.Elements.{one_some}
use Rattle.acpi_tree.specs.Objects.{ObjectTree}
use Rattle.acpi_declare.specs.Namespace.{Namespace}
use Rattle.acpi_declare.specs.Sites.{Effect, declares, opens, expects, Site, sites}
use Rattle.acpi_declare.specs.Placing.{IsPlaced}
use Rattle.acpi_declare.specs.Listing.{Placement, object_by, object_of, objects_of, IsJustified}
use Rattle.acpi_pass.proofs.Unions.{path_same}
use Rattle.acpi_order.specs.Bodies.{methods_of}
use Rattle.acpi_order.specs.Machines.{Machine}
use Rattle.acpi_order.specs.Misses.{Listing, objects_of_first, objects_of_both, IsAwaited}
use Rattle.acpi_order.specs.Independent.{StandsAt, AreSingleListings, is_method_of}
use Rattle.acpi_order.specs.Verdicts.{IsSsdt, IsSame, IsUnmet, IsMissed}
use Rattle.acpi_order.specs.Singles.{IsUnmetBy, IsAwaitedBy, IsSingle}
use Rattle.acpi_order.proofs.Lists.{of_two, first_of, second_of, or_none, or_nones}
use Rattle.acpi_order.proofs.Once.{same_first, same_second}
use Rattle.acpi_order.proofs.Joined.{load_is}

-- ---- what a table declares was free before

given_free : (d : Effect) (N : Namespace) (s : List Segment) (n : NameParts) (q p : List Segment) (o : ObjectTree) → IsPlaced d N s n q → object_by d q p ≡ Some o → N p ≡ None
given_free (declares x links code) N s n q p o h e = by (is_same_path p q) refl e
  where
    by : (b : Bool) → is_same_path p q ≡ b → cond b (Some x) None ≡ Some o → N p ≡ None
    by true same e = subst (λ r. N r ≡ None) (sym (path_same p q same)) h.free
    by false same e = cc
given_free opens N s n q p o h e = cc
given_free (expects k) N s n q p o h e = cc

declared_free : (N : Namespace) (before : List (List Segment)) (xs : List Site) (es : List Placement) → IsJustified N before xs es → (p : List Segment) (o : ObjectTree)
    → objects_of es p ≡ Some o → N p ≡ None
declared_free N before [] [] h p o e = cc
declared_free N before [] (f ∷ fs) h p o e = absurd h
declared_free N before (x ∷ xs) [] h p o e = absurd h
declared_free N before (x ∷ xs) (f ∷ fs) h p o e = by (λ d. declared_free (union N (object_of f)) (before ++ f.path ∷ []) xs fs h.3 p o d) (object_of f p) refl e
  where
    by : (objects_of fs p ≡ Some o → union N (object_of f) p ≡ None) → (a : Option ObjectTree) → object_of f p ≡ a → option_or a (objects_of fs p) ≡ Some o → N p ≡ None
    by rest None at e = (or_nones (N p) (object_of f p) (rest e)).0
    by rest (Some a) at e = given_free f.step.effect N f.scope f.step.name f.path p a h.2 at

-- what an SSDT declares stands in the machine of its single load
pub declared_there : (depth : ℕ) (dsdt b : List ℕ) (first t : Listing) → AreSingleListings depth dsdt b first t → (p : List Segment) (o : ObjectTree) → objects_of t p ≡ Some o
    → objects_of_both first t p ≡ Some o
declared_there depth dsdt b first t h p o e =
    ap (λ a. option_or a (objects_of t p)) (declared_free (objects_of_first first) [] (sites h.1.0.0) t h.1.0.2 p o e) ∙ e

-- what stood there before an object of the SSDT was taken away
abbrev pub taken_away : Option ObjectTree → Option ObjectTree → Option ObjectTree
taken_away None there = there
taken_away (Some o) there = None

gone : (a there : Option ObjectTree) (o : Option ObjectTree) → ((x : ObjectTree) → a ≡ Some x → o ≡ None) → there ≡ option_or o a → taken_away a there ≡ o
gone None there o free e = e ∙ sym (or_none o)
gone (Some x) there o free e = sym (free x refl)

-- an SSDT's objects taken away by their paths leave those of the DSDT, as they were
pub taken_back : (depth : ℕ) (dsdt b : List ℕ) (first t : Listing) → AreSingleListings depth dsdt b first t → (p : List Segment)
    → taken_away (objects_of t p) (objects_of_both first t p) ≡ objects_of_first first p
taken_back depth dsdt b first t h p =
    gone (objects_of t p) (objects_of_both first t p) (objects_of_first first p) (λ x e. declared_free (objects_of_first first) [] (sites h.1.0.0) t h.1.0.2 p x e) refl

-- ---- the SSDT of a number is one

one_there : {X : Type 0} (xs : List X) (i : ℕ) (x y : X) → StandsAt xs i x → StandsAt xs i y → x ≡ y
one_there [] i x y h k = absurd h
one_there (z ∷ zs) zero x y h k = sym h ∙ k
one_there (z ∷ zs) (suc i) x y h k = one_there zs i x y h k

pub one_ssdt : (ssdts : List (List ℕ)) (i : ℕ) (b c : List ℕ) → IsSsdt ssdts i b → IsSsdt ssdts i c → b ≡ c
one_ssdt ssdts zero b c h k = absurd h
one_ssdt ssdts (suc i) b c h k = one_there ssdts i b c h k

-- ---- which table awaits

module _ (depth : ℕ) (first t : Listing) where
  awaited_by : (p : List Segment) (args : ℕ) → IsAwaited depth first t p args → (k : ℕ) × IsAwaitedBy depth first t k p args
  awaited_by p args (m, i, h) = by (of_two (methods_of first) (methods_of t) m i)
    where
      by : Among (methods_of first) m ⊎ Among (methods_of t) m → (k : ℕ) × IsAwaitedBy depth first t k p args
      by (inl j) = (0, (m, j, h))
      by (inr j) = (1, (m, j, h))

  by_awaited : (k : ℕ) (p : List Segment) (args : ℕ) → IsAwaitedBy depth first t k p args → IsAwaited depth first t p args
  by_awaited zero p args (m, j, h) = (m, first_of (methods_of first) (methods_of t) m j, h)
  by_awaited (suc zero) p args (m, j, h) = (m, second_of (methods_of first) (methods_of t) m j, h)
  by_awaited (suc (suc k)) p args h = absurd h

module _ (depth : ℕ) (dsdt : List ℕ) (ssdts : List (List ℕ)) (i j : ℕ) (b c : List ℕ) (at : IsSsdt ssdts i b) (there : IsSsdt ssdts j c)
    (m n : Machine) (ds ds' ms ms' : List (List Segment)) (ws ws' : List (ℕ × List Segment × ℕ))
    (s : IsSingle depth dsdt b m ds ms ws) (r : IsSingle depth dsdt c n ds' ms' ws') where
  -- any listings of the SSDT are those of its single load
  first_is : (x : List ℕ) (first t : Listing) → IsSsdt ssdts i x → AreSingleListings depth dsdt x first t → first ≡ s.first
  first_is x first t is h = same_first depth dsdt x b first s.first t s.t h s.listings

  table_is : (x : List ℕ) (first t : Listing) → IsSsdt ssdts i x → AreSingleListings depth dsdt x first t → t ≡ s.t
  table_is x first t is h =
      same_second depth dsdt b s.first t s.t
      (subst (λ (f : Listing). AreSingleListings depth dsdt b f t) (first_is x first t is h)
      (subst (λ y. AreSingleListings depth dsdt y first t) (one_ssdt ssdts i x b is at) h)) s.listings

  other_is : (x : List ℕ) (first t : Listing) → IsSsdt ssdts j x → AreSingleListings depth dsdt x first t → t ≡ r.t
  other_is x first t is h =
      same_second depth dsdt c r.first t r.t
      (subst (λ (f : Listing). AreSingleListings depth dsdt c f t) (same_first depth dsdt x c first r.first t r.t h r.listings)
      (subst (λ y. AreSingleListings depth dsdt y first t) (one_ssdt ssdts j x c is there) h)) r.listings

  -- the other's listing behind the same first
  other_listings : AreSingleListings depth dsdt c s.first r.t
  other_listings = subst (λ (f : Listing). AreSingleListings depth dsdt c f r.t) (same_first depth dsdt c b r.first s.first r.t s.t r.listings s.listings) r.listings

  other_objects : (p : List Segment) (o : ObjectTree) → objects_of r.t p ≡ Some o → n.objects p ≡ Some o
  other_objects p o e =
      ap (λ (x : Machine). x.objects p) (load_is depth (dsdt ∷ c ∷ []) (r.first ∷ r.t ∷ []) n r.listings r.load) ∙ declared_there depth dsdt c r.first r.t r.listings p o e

  pub same_by_lists : i < j → (p : List Segment) → IsSame depth dsdt ssdts i j p ↔ (Among ds p × Among ds' p)
  same_by_lists below p = (
    (λ h.
        let o = h.6 in
        let x = h.7 in (
          (s.defined_are p).1 (o, subst (λ (t : Listing). objects_of t p ≡ Some o) (table_is h.4.0 h.1 h.2 h.4.1 h.4.2) h.8),
          (r.defined_are p).1 (x, subst (λ (t : Listing). objects_of t p ≡ Some x) (other_is h.5.0 h.1 h.3 h.5.1 h.5.2) h.9),
        )),
    (λ g.
        let d = (s.defined_are p).0 g.0 in
        let e = (r.defined_are p).0 g.1 in
        (below, s.first, s.t, r.t, (b, at, s.listings), (c, there, other_listings), d.0, e.0, d.1, e.1)),
  )

  unmet_to : (p : List Segment) (o : ObjectTree) → n.objects p ≡ Some o → IsUnmet depth s.first s.t p o
      → Among ms p ⊎ ((k : ℕ) × (args : ℕ) × (o : ObjectTree) × Among ws (k, p, args) × (n.objects p ≡ Some o) × (is_method_of o args ≡ false))
  unmet_to p o e (inl miss) = inl ((s.missed_are p).1 miss)
  unmet_to p o e (inr (args, awaited, other)) = let w = awaited_by depth s.first s.t p args awaited in inr (w.0, args, o, (s.awaited_are w.0 p args).1 w.1, e, other)

  unmet_from : (p : List Segment) (o : ObjectTree) → n.objects p ≡ Some o
      → Among ms p ⊎ ((k : ℕ) × (args : ℕ) × (o : ObjectTree) × Among ws (k, p, args) × (n.objects p ≡ Some o) × (is_method_of o args ≡ false)) → IsUnmet depth s.first s.t p o
  unmet_from p o e (inl miss) = inl ((s.missed_are p).0 miss)
  unmet_from p o e (inr (k, args, x, i, f, other)) =
      inr (args, by_awaited depth s.first s.t k p args ((s.awaited_are k p args).0 i), subst (λ y. is_method_of y args ≡ false) (one_some x o (sym f ∙ e)) other)

  pub missed_by_lists : i ≢ j → (p : List Segment) → IsMissed depth dsdt ssdts i j p ↔ IsUnmetBy ms ws ds' n.objects p
  missed_by_lists ne p = (
    (λ h.
        let o = h.6 in
        let d : objects_of r.t p ≡ Some o = subst (λ (t : Listing). objects_of t p ≡ Some o) (other_is h.5.0 h.1 h.3 h.5.1 h.5.2) h.7 in
        let unmet : IsUnmet depth s.first s.t p o =
        subst (λ (t : Listing). IsUnmet depth s.first t p o) (table_is h.4.0 h.1 h.2 h.4.1 h.4.2)
        (subst (λ (f : Listing). IsUnmet depth f h.2 p o) (first_is h.4.0 h.1 h.2 h.4.1 h.4.2) h.8) in
        ((r.defined_are p).1 (o, d), unmet_to p o (other_objects p o d) unmet)),
    (λ g.
        let d = (r.defined_are p).0 g.0 in
        (ne, s.first, s.t, r.t, (b, at, s.listings), (c, there, other_listings), d.0, d.1, unmet_from p d.0 (other_objects p d.0 d.1) g.1)),
  )
