-- What SSDTs declare, one SSDT after another.
use Rattle.std.proofs.Common.{◌≡◌, ◌⊎◌, inl, inr, ℕ, zero, suc, ◌+◌, ◌<◌, ◌≤◌, List, [], ◌∷◌, length, Option, Some, None, refl, sym, ap, subst, ◌∙◌, arith}
use Rattle.std.specs.FinMap.{empty, get, get-empty}
use Rattle.std.specs.BTreeMap.{is_at}
use Rattle.std.specs.Map.{lookup}
use Rattle.std.specs.List.{AllByRecursion}
use Rattle.acpi_name.specs.Names.{Segment}
use Rattle.acpi_name.specs.Paths.{path_cmp}
use Rattle.acpi_space.proofs.Elements.{not_both}
use Rattle.acpi_tree.specs.Objects.{ObjectTree}
use Rattle.acpi_declare.specs.Listing.{objects_of}
use Rattle.acpi_declare.specs.Namespace.{Namespace}
use Rattle.acpi_order.specs.Independent.{StandsAt, AreSingleListings, LoadsAlone}
use Rattle.acpi_order.specs.Misses.{Listing}
use Rattle.acpi_order.specs.Verdicts.{IsSsdt, IsSame}
use Rattle.acpi_order.proofs.Once.{same_first, same_second}
use Rattle.acpi_order.proofs.Singles.{one_ssdt, declared_there}
use Rattle.acpi_verdict.specs.declared.clashes.Clash.{Clash}
use Rattle.acpi_verdict.specs.declared.ssdt_paths.SsdtPaths.{SsdtPaths}
use Rattle.acpi_verdict.specs.declared.definers.Definer.{Definer}
use Rattle.acpi_verdict.specs.steps.Clashing.{IsLeastOf}
use Rattle.acpi_verdict.specs.steps.Defining.{method_args, args_at, IsNoted}
use Rattle.acpi_verdict.specs.steps.Declaring.{args_in, IsNewAt, IsSameAt, AddsSsdt, IsDefiner, AreFirst, AreDeclaredTo, AreDeclared}
use Rattle.acpi_verdict.specs.steps.Overlays.{OverlayTree, IsOverlay}
use Rattle.acpi_verdict.proofs.AloneLoads.{ssdt_within}
use Rattle.acpi_verdict.proofs.Offers.{IsUpTo, least_covers, least_offered}

-- ---- none

pub none_declared : (depth : ℕ) (dsdt : List ℕ) (ssdts : List (List ℕ)) (d : SsdtPaths) → d.definers.first ≡ empty → d.definers.others.entries ≡ [] → d.same ≡ None
    → AreDeclaredTo depth dsdt ssdts 0 d
none_declared depth dsdt ssdts d no_first no_others no_same = record {
  alone = alone;
  noted = λ p x. ((λ k. absurd (none p x k)), (λ k. absurd (no_ssdt p x k.0 k.1)));
  firsts = λ p x k. absurd (none p x k);
  same = subst (λ (o : Option Clash). IsLeastOf (λ i j p. IsSame depth dsdt ssdts i j p × (j ≤ 0)) o) (sym no_same) (λ i j p k. no_same_yet i j p k.0 k.1);
}
  where
    alone : (k : ℕ) (b : List ℕ) → k ≤ 0 → IsSsdt ssdts k b → LoadsAlone depth dsdt b
    alone zero b h at = absurd at
    alone (suc k) b h at = absurd (omega arith)

    none : (p : List Segment) (x : Definer) → IsNoted d.definers p x → ⊥
    none p x (inl e) = not_both (get d.definers.first p) x e (ap (λ m. get m p) no_first ∙ get-empty path_cmp p)
    none p x (inr (xs, is, m)) = absurd (not_both (lookup (is_at (path_cmp p)) d.definers.others.entries) xs is (ap (lookup (is_at (path_cmp p))) no_others))

    at_least_one : (i : ℕ) (b : List ℕ) → IsSsdt ssdts i b → i ≤ 0 → ⊥
    at_least_one zero b at h = at
    at_least_one (suc k) b at h = absurd (omega arith)

    no_ssdt : (p : List Segment) (x : Definer) → IsDefiner depth dsdt ssdts p x → x.number ≤ 0 → ⊥
    no_ssdt p x h within = at_least_one x.number h.ssdt h.is_ssdt within

    no_same_yet : (i j : ℕ) (p : List Segment) → IsSame depth dsdt ssdts i j p → j ≤ 0 → ⊥
    no_same_yet i j p h within = at_least_one j h.5.0 h.5.1 within

-- ---- one SSDT more

up_to : (k n : ℕ) → k ≤ n + 1 → (k ≤ n) ⊎ (k ≡ n + 1)
up_to k n h = grind arith

module _ (depth : ℕ) (dsdt : List ℕ) (ssdts : List (List ℕ)) (n : ℕ) (d now : SsdtPaths) (before : AreDeclaredTo depth dsdt ssdts n d) (b : List ℕ) (is_ssdt : IsSsdt ssdts (n + 1) b)
    (l : OverlayTree) (overlay : IsOverlay depth dsdt b l) (added : AddsSsdt (n + 1) l.defined (args_in l) d now) where
  abbrev first : Listing
  first = overlay.over.first

  abbrev t : Listing
  t = overlay.over.t

  abbrev IsNew : List Segment → Definer → Type 0
  IsNew = IsNewAt (n + 1) l.defined (args_in l)

  -- the object at a path that it declares
  args_are : (p : List Segment) (o : ObjectTree) → objects_of t p ≡ Some o → args_in l p ≡ method_args o
  args_are p o e = ap (λ (N : Namespace). args_at (N p)) overlay.over.objects_are ∙ ap args_at (declared_there depth dsdt b first t overlay.over.listings p o e)

  -- ---- they load alone

  alone_now : (k : ℕ) (c : List ℕ) → k ≤ n + 1 → IsSsdt ssdts k c → LoadsAlone depth dsdt c
  alone_now k c h at = by (up_to k n h)
    where
      by : (k ≤ n) ⊎ (k ≡ n + 1) → LoadsAlone depth dsdt c
      by (inl less) = before.alone k c less at
      by (inr is) =
          let same : c ≡ b = one_ssdt ssdts (n + 1) c b (subst (λ (i : ℕ). IsSsdt ssdts i c) is at) is_ssdt in
          subst (LoadsAlone depth dsdt) (sym same) (first, t, overlay.over.listings)

  -- ---- they are noted

  definer_new : (p : List Segment) (x : Definer) → IsNew p x → IsDefiner depth dsdt ssdts p x
  definer_new p x (m, number, args) =
      let o = (overlay.defined_are p).0 m in
      record {
        ssdt = b;
        is_ssdt = subst (λ (i : ℕ). IsSsdt ssdts i b) number is_ssdt;
        first = first;
        t = t;
        listings = overlay.over.listings;
        object = o.0;
        declares = o.1;
        args_are = sym (args_are p o.0 o.1) ∙ args;
      }

  new_definer : (p : List Segment) (x : Definer) → IsDefiner depth dsdt ssdts p x → x.number ≡ n + 1 → IsNew p x
  new_definer p x h is =
      let same : h.ssdt ≡ b = one_ssdt ssdts (n + 1) h.ssdt b (subst (λ (i : ℕ). IsSsdt ssdts i h.ssdt) is h.is_ssdt) is_ssdt in
      let of_b : AreSingleListings depth dsdt b h.first h.t = subst (λ (c : List ℕ). AreSingleListings depth dsdt c h.first h.t) same h.listings in
      let one_first : h.first ≡ first = same_first depth dsdt b b h.first first h.t t of_b overlay.over.listings in
      let one_t : h.t ≡ t = same_second depth dsdt b first h.t t (subst (λ (f : Listing). AreSingleListings depth dsdt b f h.t) one_first of_b) overlay.over.listings in
      let declares : objects_of t p ≡ Some h.object = subst (λ (u : Listing). objects_of u p ≡ Some h.object) one_t h.declares in
      ((overlay.defined_are p).1 (h.object, declares), sym is, args_are p h.object declares ∙ h.args_are)

  noted_to : (p : List Segment) (x : Definer) → IsNoted now.definers p x → IsDefiner depth dsdt ssdts p x × (x.number ≤ n + 1)
  noted_to p x k = by ((added.noted p x).0 k)
    where
      by : IsNoted d.definers p x ⊎ IsNew p x → IsDefiner depth dsdt ssdts p x × (x.number ≤ n + 1)
      by (inl m) = let r = (before.noted p x).0 m in let within = r.1 in (r.0, omega arith)
      by (inr m) = let is = m.1 in (definer_new p x m, omega arith)

  noted_from : (p : List Segment) (x : Definer) → IsDefiner depth dsdt ssdts p x × (x.number ≤ n + 1) → IsNoted now.definers p x
  noted_from p x h = by (up_to x.number n h.1)
    where
      by : (x.number ≤ n) ⊎ (x.number ≡ n + 1) → IsNoted now.definers p x
      by (inl less) = (added.noted p x).1 (inl ((before.noted p x).1 (h.0, less)))
      by (inr is) = (added.noted p x).1 (inr (new_definer p x h.0 is))

  firsts_now : AreFirst now.definers
  firsts_now p x k = by ((added.noted p x).0 k)
    where
      of_new : IsNew p x → (o : Option Definer) → get d.definers.first p ≡ o → (y : Definer) × (get now.definers.first p ≡ Some y) × (y.number ≤ x.number)
      of_new m None e = (x, (added.firsts p x).1 (inr (e, m)), omega arith)
      of_new m (Some y) e =
          let within = ((before.noted p y).0 (inl e)).1 in
          let is = m.1 in
          (y, (added.firsts p y).1 (inl e), omega arith)

      by : IsNoted d.definers p x ⊎ IsNew p x → (y : Definer) × (get now.definers.first p ≡ Some y) × (y.number ≤ x.number)
      by (inl m) = let r = before.firsts p x m in (r.0, (added.firsts p r.0).1 (inl r.1), r.2)
      by (inr m) = of_new m (get d.definers.first p) refl

  -- ---- where two declare one path

  abbrev Before : ℕ → ℕ → List Segment → Type 0
  Before i j p = IsSame depth dsdt ssdts i j p × (j ≤ n)

  abbrev Now : ℕ → ℕ → List Segment → Type 0
  Now i j p = IsSame depth dsdt ssdts i j p × (j ≤ n + 1)

  abbrev Here : ℕ → ℕ → List Segment → Type 0
  Here = IsSameAt (n + 1) l.defined d.definers

  same_to : (i j : ℕ) (p : List Segment) → Before i j p ⊎ Here i j p → Now i j p
  same_to i j p (inl h) = let within = h.1 in (h.0, omega arith)
  same_to i j p (inr (number, less, m, x, is, k)) =
      let earlier = ((before.noted p x).0 (inl is)).0 in
      let o = (overlay.defined_are p).0 m in
      let one_first : earlier.first ≡ first = same_first depth dsdt earlier.ssdt b earlier.first first earlier.t t earlier.listings overlay.over.listings in (
        (
          less,
          earlier.first,
          earlier.t,
          t,
          (earlier.ssdt, subst (λ (a : ℕ). IsSsdt ssdts a earlier.ssdt) k earlier.is_ssdt, earlier.listings),
          (
            b,
            subst (λ (a : ℕ). IsSsdt ssdts a b) number is_ssdt,
            subst (λ (f : Listing). AreSingleListings depth dsdt b f t) (sym one_first) overlay.over.listings,
          ),
          earlier.object,
          o.0,
          earlier.declares,
          o.1,
        ),
        omega arith,
      )

  same_from : (i j : ℕ) (p : List Segment) → Now i j p → (a : ℕ) × (c : ℕ) × (q : List Segment) × (Before a c q ⊎ Here a c q) × IsUpTo a c q i j p
  same_from i j p (h, within) = by (up_to j n within)
    where
      later : j ≡ n + 1 → (a : ℕ) × (c : ℕ) × (q : List Segment) × (Before a c q ⊎ Here a c q) × IsUpTo a c q i j p
      later is =
          let below = h.0 in
          let this : Definer = record { number = i; args = method_args h.6 } in
          let that : Definer = record { number = j; args = method_args h.7 } in
          let noted : IsNoted d.definers p this = (before.noted p this).1 (
            record { ssdt = h.4.0; is_ssdt = h.4.1; first = h.1; t = h.2; listings = h.4.2; object = h.6; declares = h.8; args_are = refl },
            omega arith,
          ) in
          let new = new_definer p that (record { ssdt = h.5.0; is_ssdt = h.5.1; first = h.1; t = h.3; listings = h.5.2; object = h.7; declares = h.9; args_are = refl }) is in
          let r = before.firsts p this noted in
          let at_most = r.2 in
          (r.0.number, j, p, inr (sym is, omega arith, new.0, r.0, r.1, refl), up r.0.number at_most)
        where
          which : (a : ℕ) → a ≤ i → (a < i) ⊎ (a ≡ i)
          which a less = grind arith

          of_which : (a : ℕ) → (a < i) ⊎ (a ≡ i) → IsUpTo a j p i j p
          of_which a (inl less) = inl (inl less)
          of_which a (inr is) = inr (is, refl, refl)

          up : (a : ℕ) → a ≤ i → IsUpTo a j p i j p
          up a less = of_which a (which a less)

      by : (j ≤ n) ⊎ (j ≡ n + 1) → (a : ℕ) × (c : ℕ) × (q : List Segment) × (Before a c q ⊎ Here a c q) × IsUpTo a c q i j p
      by (inl less) = (i, j, p, inl (h, less), inr (refl, refl, refl))
      by (inr is) = later is

  pub one_declared : AreDeclaredTo depth dsdt ssdts (n + 1) now
  one_declared = record {
    alone = alone_now;
    noted = λ p x. (noted_to p x, noted_from p x);
    firsts = firsts_now;
    same = least_covers (λ i j p. Before i j p ⊎ Here i j p) Now same_to same_from now.same (least_offered Before Here d.same now.same before.same added.same);
  }

-- ---- all

pub all_declared : (depth : ℕ) (dsdt : List ℕ) (ssdts : List (List ℕ)) (n : ℕ) (d : SsdtPaths) → length ssdts ≤ n → AreDeclaredTo depth dsdt ssdts n d → AreDeclared depth dsdt ssdts d
all_declared depth dsdt ssdts n d all h = record {
  alone = each ssdts (λ k b at. h.alone (suc k) b (let within = ssdt_within ssdts (suc k) b at in omega arith) at);
  definers = record { noted = λ p x. ((λ k. ((h.noted p x).0 k).0), (λ k. (h.noted p x).1 (k, let within = ssdt_within ssdts x.number k.ssdt k.is_ssdt in omega arith))); firsts = h.firsts };
  same = least_covers (λ i j p. IsSame depth dsdt ssdts i j p × (j ≤ n)) (IsSame depth dsdt ssdts) (λ i j p k. k.0)
      (λ i j p k. (i, j, p, (k, let within = ssdt_within ssdts j k.5.0 k.5.1 in omega arith), inr (refl, refl, refl))) d.same h.same;
}
  where
    each : (bs : List (List ℕ)) → ((k : ℕ) (b : List ℕ) → StandsAt bs k b → LoadsAlone depth dsdt b) → AllByRecursion (LoadsAlone depth dsdt) bs
    each [] f = tt
    each (b ∷ bs) f = (f zero b refl, each bs (λ k c at. f (suc k) c at))
