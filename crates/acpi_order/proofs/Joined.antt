-- Independent tables load, to the join of their single loads.
use Rattle.std.proofs.Common.{◌≡◌, ◌≢◌, ◌↔◌, ℕ, suc, List, [], ◌∷◌, map, Option, Some, None, inl, inr, refl, sym, ap, subst, ◌∙◌, arith}
use Rattle.std.specs.List.{AllByRecursion}
use Rattle.std.specs.Option.{option_or}
use Rattle.acpi_name.specs.Names.{Segment}
use Rattle.acpi_space.specs.Laws.{Among}
use Rattle.acpi_space.specs.Lookups.{Lookup, union}
use Rattle.acpi_tree.specs.Objects.{ObjectTree}
use Rattle.acpi_declare.specs.Namespace.{Namespace}
use Rattle.acpi_declare.specs.Listing.{objects_of}
use Rattle.acpi_declare.specs.Loads.{AreListings, objects_after}
use Rattle.acpi_declare.specs.Links.{links_of, all_pending}
use Rattle.acpi_declare.specs.Predefined.{predefined}
use Rattle.acpi_declare.proofs.Refusals.{same_listings}
use Rattle.acpi_order.specs.Bodies.{all_methods}
use Rattle.acpi_order.specs.Machines.{Machine, IsMachine}
use Rattle.acpi_order.specs.Joins.{IsUnion, IsJoin, IsSingleLoad}
use Rattle.acpi_order.specs.Misses.{Listing, objects_of_first, objects_of_both, IsMiss, IsAwaited}
use Rattle.acpi_order.specs.Independent.{StandsAt, AllDifferent, AreSingleListings, LoadsAlone, IsApart, AreApart, IsIndependent}
use Rattle.acpi_order.proofs.Once.{same_first, same_second}
use Rattle.acpi_order.proofs.Listings.{AreAlone, AreAllApart, in_order}
use Rattle.acpi_order.proofs.Picked.{all_declared, after_is, picks, some_declares, IsKept, single_kept}
use Rattle.acpi_order.proofs.ReadBodies.{body_of, bodies_of, are_bodies, bodies_are}
use Rattle.acpi_order.proofs.Counted.{kept_answers, kept_body_of}
use Rattle.acpi_order.proofs.Items.{all_distinct, items_join}
use Rattle.acpi_order.proofs.Sources.{link_source, link_value, all_pending_are, links_of_tables, method_source, all_methods_are, bodies_of_tables}

-- ---- the machine of listings

abbrev pub machine_of : ℕ → List Listing → Machine
machine_of depth ts = record {
  objects = objects_after predefined ts;
  links = links_of (objects_after predefined ts) (all_pending ts);
  bodies = bodies_of depth (objects_after predefined ts) (all_methods ts);
}

pub machine_is : (depth : ℕ) (tables : List (List ℕ)) (ts : List Listing) → AreListings depth 0 predefined tables ts → IsMachine depth tables (machine_of depth ts)
machine_is depth tables ts h = record {
  placements = ts;
  listings = h;
  objects_are = refl;
  links_are = refl;
  trees = map (body_of depth (objects_after predefined ts)) (all_methods ts);
  read = are_bodies depth (objects_after predefined ts) (all_methods ts);
  bodies_are = sym (bodies_are depth (objects_after predefined ts) (all_methods ts) _ (are_bodies depth (objects_after predefined ts) (all_methods ts)));
}

-- a machine of the tables is that of their listings
pub load_is : (depth : ℕ) (tables : List (List ℕ)) (ts : List Listing) (m : Machine) → AreListings depth 0 predefined tables ts → IsMachine depth tables m → m ≡ machine_of depth ts
load_is depth tables ts m h load =
    let same = same_listings depth 0 predefined tables load.placements ts load.listings h in
    let objects : m.objects ≡ objects_after predefined ts = load.objects_are ∙ ap (objects_after predefined) same in
    let links : m.links ≡ links_of (objects_after predefined ts) (all_pending ts) =
    load.links_are ∙ ap (λ (N : Namespace). links_of N (all_pending load.placements)) objects
    ∙ ap (λ (es : List Listing). links_of (objects_after predefined ts) (all_pending es)) same in
    let bodies : m.bodies ≡ bodies_of depth (objects_after predefined ts) (all_methods ts) =
    load.bodies_are ∙ bodies_are depth m.objects (all_methods load.placements) load.trees load.read
    ∙ ap (λ (N : Namespace). bodies_of depth N (all_methods load.placements)) objects
    ∙ ap (λ (es : List Listing). bodies_of depth (objects_after predefined ts) (all_methods es)) same in
    λ i. record { objects = objects i; links = links i; bodies = bodies i }

pub one_machine : (depth : ℕ) (tables : List (List ℕ)) (m n : Machine) → IsMachine depth tables m → IsMachine depth tables n → m ≡ n
one_machine depth tables m n h k = load_is depth tables k.placements m k.listings h ∙ sym (load_is depth tables k.placements n k.listings k)

-- ---- the tables of independent SSDTs

alone_tables : (depth : ℕ) (dsdt b : List ℕ) (first t : Listing) → AreSingleListings depth dsdt b first t → (bs : List (List ℕ)) → AllByRecursion (LoadsAlone depth dsdt) bs
    → (ts : List Listing) × AreAlone depth dsdt first bs ts
alone_tables depth dsdt b first t h [] all = ([], tt)
alone_tables depth dsdt b first t h (c ∷ cs) all =
    let r = alone_tables depth dsdt b first t h cs all.1 in
    let same = same_first depth dsdt c b all.0.0 first all.0.1 t all.0.2 h in
    (all.0.1 ∷ r.0, (subst (λ (f : Listing). AreSingleListings depth dsdt c f all.0.1) same all.0.2, r.1))

module _ (depth : ℕ) (dsdt : List ℕ) (first : Listing) where
  apart_with : (b : List ℕ) (t : Listing) → AreSingleListings depth dsdt b first t → (cs : List (List ℕ)) (us : List Listing) → AreAlone depth dsdt first cs us
      → ((k : ℕ) (c : List ℕ) → StandsAt cs k c → AreApart depth dsdt b c × AreApart depth dsdt c b) → AllByRecursion (λ u. IsApart depth first t u × IsApart depth first u t) us
  apart_with b t h [] [] alone apart = tt
  apart_with b t h [] (u ∷ us) alone apart = absurd alone
  apart_with b t h (c ∷ cs) [] alone apart = tt
  apart_with b t h (c ∷ cs) (u ∷ us) alone apart =
      let both = apart 0 c refl in
      ((both.0 first t u h alone.0, both.1 first u t alone.0 h), apart_with b t h cs us alone.1 (λ k d at. apart (suc k) d at))

  all_apart : (bs : List (List ℕ)) (ts : List Listing) → AreAlone depth dsdt first bs ts → AllDifferent (AreApart depth dsdt) bs → AreAllApart depth first ts
  all_apart [] [] alone all = tt
  all_apart [] (t ∷ ts) alone all = absurd alone
  all_apart (b ∷ bs) [] alone all = tt
  all_apart (b ∷ bs) (t ∷ ts) alone all = (
    apart_with b t alone.0 bs ts alone.1 (λ k c at. (all 0 (suc k) b c (omega arith) refl at, all (suc k) 0 c b (omega arith) at refl)),
    all_apart bs ts alone.1 (λ i j x y ne at there. all (suc i) (suc j) x y (omega arith) at there),
  )

ssdt_of : (depth : ℕ) (dsdt : List ℕ) (first : Listing) (bs : List (List ℕ)) (ts : List Listing) → AreAlone depth dsdt first bs ts → (t : Listing) → Among ts t
    → (b : List ℕ) × Among bs b × AreSingleListings depth dsdt b first t
ssdt_of depth dsdt first [] [] alone t m = absurd m
ssdt_of depth dsdt first [] (u ∷ us) alone t m = absurd alone
ssdt_of depth dsdt first (b ∷ bs) [] alone t m = absurd m
ssdt_of depth dsdt first (b ∷ bs) (u ∷ us) alone t (inl e) = (b, inl refl, subst (λ (x : Listing). AreSingleListings depth dsdt b first x) e alone.0)
ssdt_of depth dsdt first (b ∷ bs) (u ∷ us) alone t (inr m) = let r = ssdt_of depth dsdt first bs us alone.1 t m in (r.0, inr r.1, r.2)

table_of : (depth : ℕ) (dsdt : List ℕ) (first : Listing) (bs : List (List ℕ)) (ts : List Listing) → AreAlone depth dsdt first bs ts → (b : List ℕ) → Among bs b
    → (t : Listing) × Among ts t × AreSingleListings depth dsdt b first t
table_of depth dsdt first [] ts alone b m = absurd m
table_of depth dsdt first (c ∷ cs) [] alone b m = absurd alone
table_of depth dsdt first (c ∷ cs) (u ∷ us) alone b (inl e) = (u, inl refl, subst (λ (x : List ℕ). AreSingleListings depth dsdt x first u) e alone.0)
table_of depth dsdt first (c ∷ cs) (u ∷ us) alone b (inr m) = let r = table_of depth dsdt first cs us alone.1 b m in (r.0, inr r.1, r.2)

-- ---- the join

module _ (depth : ℕ) (dsdt b₀ : List ℕ) (bs : List (List ℕ)) (first t₀ : Listing) (ts : List Listing)
    (alone : AreAlone depth dsdt first (b₀ ∷ bs) (t₀ ∷ ts)) (apart : AreAllApart depth first (t₀ ∷ ts)) where
  abbrev N : Namespace
  N = objects_of_first first

  abbrev M : Namespace
  M = objects_after N (t₀ ∷ ts)

  abbrev Single : Machine → Type 0
  Single = IsSingleLoad depth dsdt (b₀ ∷ bs)

  pub in_list_order : AreListings depth 0 predefined (dsdt ∷ b₀ ∷ bs) (first ∷ t₀ ∷ ts)
  in_list_order = in_order depth dsdt first b₀ bs t₀ ts alone apart

  listings_of : (t : Listing) → Among (t₀ ∷ ts) t → (b : List ℕ) × Among (b₀ ∷ bs) b × AreSingleListings depth dsdt b first t
  listings_of t m = ssdt_of depth dsdt first (b₀ ∷ bs) (t₀ ∷ ts) alone t m

  kept_there : (t : Listing) → Among (t₀ ∷ ts) t → IsKept (objects_of_both first t) M (IsMiss depth first t) (IsAwaited depth first t)
  kept_there t m = single_kept depth first (picks (t₀ ∷ ts) t m).1 apart

  -- the values of the tables' machines are those of the single loads
  from_tables : {V : Type 0} (values : Machine → Lookup V) (whole : Lookup V)
      → ((p : List Segment) (v : V) → (whole p ≡ Some v) ↔ ((t : Listing) × Among (t₀ ∷ ts) t × (values (machine_of depth (first ∷ t ∷ [])) p ≡ Some v)))
      → IsUnion Single values whole
  from_tables {V} values whole h p v = (
    (λ e.
        let r = (h p v).0 e in
        let b = listings_of r.0 r.1 in
        (machine_of depth (first ∷ r.0 ∷ []), record { ssdt = b.0; one_of = b.1; load = machine_is depth (dsdt ∷ b.0 ∷ []) (first ∷ r.0 ∷ []) b.2 }, r.2)),
    (λ g.
        let t = table_of depth dsdt first (b₀ ∷ bs) (t₀ ∷ ts) alone g.1.ssdt g.1.one_of in
        let same = load_is depth (dsdt ∷ g.1.ssdt ∷ []) (first ∷ t.0 ∷ []) g.0 t.2 g.1.load in
        (h p v).1 (t.0, t.1, subst (λ (x : Machine). values x p ≡ Some v) same g.2)),
  )

  objects_at : (p : List Segment) (o : ObjectTree) (a : Option ObjectTree) → N p ≡ a → union N (all_declared (t₀ ∷ ts)) p ≡ Some o
      → (t : Listing) × Among (t₀ ∷ ts) t × (objects_of_both first t p ≡ Some o)
  objects_at p o (Some a) at e = (t₀, inl refl, ap (λ b. option_or b (objects_of t₀ p)) at ∙ sym (ap (λ b. option_or b (all_declared (t₀ ∷ ts) p)) at) ∙ e)
  objects_at p o None at e =
      let r = some_declares (t₀ ∷ ts) p o (sym (ap (λ b. option_or b (all_declared (t₀ ∷ ts) p)) at) ∙ e) in
      (r.0, r.1, ap (λ b. option_or b (objects_of r.0 p)) at ∙ r.2)

  join_objects : IsUnion Single (λ x. x.objects) M
  join_objects = from_tables (λ x. x.objects) M (λ p o. (
    (λ e. objects_at p o (N p) refl (sym (after_is N (t₀ ∷ ts) p) ∙ e)),
    (λ g. (kept_there g.0 g.1).up p o g.2),
  ))

  join_links : IsUnion Single (λ x. x.links) (links_of M (all_pending (first ∷ t₀ ∷ ts)))
  join_links = from_tables (λ x. x.links) (links_of M (all_pending (first ∷ t₀ ∷ ts))) (λ p v.
      let r = items_join link_source first t₀ ts (link_value M) (λ t. link_value (objects_of_both first t))
      (λ t m w i. kept_answers (objects_of_both first t) M (IsMiss depth first t) (IsAwaited depth first t) (kept_there t m) w.scope w.names
      (λ q n k miss. inr (inl (w, subst (λ ws. Among ws w) (sym (all_pending_are (first ∷ t ∷ []))) i, (n, k, miss)))))
      (all_distinct link_source depth 0 predefined (dsdt ∷ b₀ ∷ bs) (first ∷ t₀ ∷ ts) in_list_order)
      (λ t m. all_distinct link_source depth 0 predefined (dsdt ∷ (listings_of t m).0 ∷ []) (first ∷ t ∷ []) (listings_of t m).2)
      p v in (
        (λ e. let g = r.0 (sym (links_of_tables M (first ∷ t₀ ∷ ts) p) ∙ e) in (g.0, g.1, links_of_tables (objects_of_both first g.0) (first ∷ g.0 ∷ []) p ∙ g.2)),
        (λ g. links_of_tables M (first ∷ t₀ ∷ ts) p ∙ r.1 (g.0, g.1, sym (links_of_tables (objects_of_both first g.0) (first ∷ g.0 ∷ []) p) ∙ g.2)),
      ))

  join_bodies : IsUnion Single (λ x. x.bodies) (bodies_of depth M (all_methods (first ∷ t₀ ∷ ts)))
  join_bodies = from_tables (λ x. x.bodies) (bodies_of depth M (all_methods (first ∷ t₀ ∷ ts))) (λ p v.
      let r = items_join method_source first t₀ ts (body_of depth M) (λ t. body_of depth (objects_of_both first t))
      (λ t m w i.
      let among : Among (all_methods (first ∷ t ∷ [])) w = subst (λ ws. Among ws w) (sym (all_methods_are (first ∷ t ∷ []))) i in
      kept_body_of (objects_of_both first t) M (IsMiss depth first t) (IsAwaited depth first t) (kept_there t m) w depth
      (λ q miss. inr (inr (w, among, miss))) (λ q k wait. (w, among, wait)))
      (all_distinct method_source depth 0 predefined (dsdt ∷ b₀ ∷ bs) (first ∷ t₀ ∷ ts) in_list_order)
      (λ t m. all_distinct method_source depth 0 predefined (dsdt ∷ (listings_of t m).0 ∷ []) (first ∷ t ∷ []) (listings_of t m).2)
      p v in (
        (λ e. let g = r.0 (sym (bodies_of_tables depth M (first ∷ t₀ ∷ ts) p) ∙ e) in (g.0, g.1, bodies_of_tables depth (objects_of_both first g.0) (first ∷ g.0 ∷ []) p ∙ g.2)),
        (λ g. bodies_of_tables depth M (first ∷ t₀ ∷ ts) p ∙ r.1 (g.0, g.1, sym (bodies_of_tables depth (objects_of_both first g.0) (first ∷ g.0 ∷ []) p) ∙ g.2)),
      ))

  pub joins : IsJoin Single (machine_of depth (first ∷ t₀ ∷ ts))
  joins = record { objects_join = join_objects; links_join = join_links; bodies_join = join_bodies }

-- ---- independent SSDTs

-- all of them are listed as each is alone
pub listed_alone : (depth : ℕ) (dsdt : List ℕ) (ssdts : List (List ℕ)) → ssdts ≢ [] → IsIndependent depth dsdt ssdts
    → (first : Listing) × (ts : List Listing) × AreAlone depth dsdt first ssdts ts × AreListings depth 0 predefined (dsdt ∷ ssdts) (first ∷ ts)
listed_alone depth dsdt [] some h = absurd (some refl)
listed_alone depth dsdt (b ∷ bs) some h =
    let first = h.alone.0.0 in
    let t = h.alone.0.1 in
    let r = alone_tables depth dsdt b first t h.alone.0.2 bs h.alone.1 in
    let alone : AreAlone depth dsdt first (b ∷ bs) (t ∷ r.0) = (h.alone.0.2, r.1) in
    let apart = all_apart depth dsdt first (b ∷ bs) (t ∷ r.0) alone h.apart in
    (first, t ∷ r.0, alone, in_list_order depth dsdt b bs first t r.0 alone apart)

pub load_exists : (depth : ℕ) (dsdt : List ℕ) (ssdts : List (List ℕ)) → ssdts ≢ [] → IsIndependent depth dsdt ssdts
    → (m : Machine) × IsMachine depth (dsdt ∷ ssdts) m × IsJoin (IsSingleLoad depth dsdt ssdts) m
load_exists depth dsdt [] some h = absurd (some refl)
load_exists depth dsdt (b ∷ bs) some h =
    let first = h.alone.0.0 in
    let t = h.alone.0.1 in
    let r = alone_tables depth dsdt b first t h.alone.0.2 bs h.alone.1 in
    let alone : AreAlone depth dsdt first (b ∷ bs) (t ∷ r.0) = (h.alone.0.2, r.1) in
    let apart = all_apart depth dsdt first (b ∷ bs) (t ∷ r.0) alone h.apart in (
      machine_of depth (first ∷ t ∷ r.0),
      machine_is depth (dsdt ∷ b ∷ bs) (first ∷ t ∷ r.0) (in_list_order depth dsdt b bs first t r.0 alone apart),
      joins depth dsdt b bs first t r.0 alone apart,
    )

pub load_joins : (depth : ℕ) (dsdt : List ℕ) (ssdts : List (List ℕ)) (m : Machine) → ssdts ≢ [] → IsIndependent depth dsdt ssdts
    → IsMachine depth (dsdt ∷ ssdts) m → IsJoin (IsSingleLoad depth dsdt ssdts) m
load_joins depth dsdt ssdts m some h load =
    let r = load_exists depth dsdt ssdts some h in
    subst (IsJoin (IsSingleLoad depth dsdt ssdts)) (one_machine depth (dsdt ∷ ssdts) r.0 m r.1 load) r.2

-- the objects of a single load stay in the load of all
pub kept_in_load : (depth : ℕ) (dsdt : List ℕ) (ssdts : List (List ℕ)) (m : Machine) → IsIndependent depth dsdt ssdts → IsMachine depth (dsdt ∷ ssdts) m
    → (b : List ℕ) → Among ssdts b → (first t : Listing) → AreSingleListings depth dsdt b first t
    → IsKept (objects_of_both first t) m.objects (IsMiss depth first t) (IsAwaited depth first t)
kept_in_load depth dsdt [] m h load b i first t k = absurd i
kept_in_load depth dsdt (c ∷ cs) m h load b i first t k =
    let other = h.alone.0.0 in
    let u = h.alone.0.1 in
    let r = alone_tables depth dsdt c other u h.alone.0.2 cs h.alone.1 in
    let alone : AreAlone depth dsdt other (c ∷ cs) (u ∷ r.0) = (h.alone.0.2, r.1) in
    let apart = all_apart depth dsdt other (c ∷ cs) (u ∷ r.0) alone h.apart in
    let x = table_of depth dsdt other (c ∷ cs) (u ∷ r.0) alone b i in
    let f : other ≡ first = same_first depth dsdt b b other first x.0 t x.2 k in
    let g : x.0 ≡ t = same_second depth dsdt b other x.0 t x.2 (subst (λ (y : Listing). AreSingleListings depth dsdt b y t) (sym f) k) in
    let same = load_is depth (dsdt ∷ c ∷ cs) (other ∷ u ∷ r.0) m (in_list_order depth dsdt c cs other u r.0 alone apart) load in
    let all : Namespace = objects_after (objects_of_first other) (u ∷ r.0) in
    subst (λ (N : Namespace). IsKept (objects_of_both first t) N (IsMiss depth first t) (IsAwaited depth first t)) (sym (ap (λ (y : Machine). y.objects) same))
    (subst (λ (y : Listing). IsKept (objects_of_both y t) all (IsMiss depth y t) (IsAwaited depth y t)) f
    (subst (λ (y : Listing). IsKept (objects_of_both other y) all (IsMiss depth other y) (IsAwaited depth other y)) g
    (kept_there depth dsdt c cs other u r.0 alone apart x.0 x.1)))
