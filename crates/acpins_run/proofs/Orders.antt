-- Why a body isn't read is the same for every order of independent SSDTs.
use Rattle.std.proofs.Common.{◌≡◌, ◌≢◌, ℕ, List, [], ◌∷◌, IsPermutation, Option, Some, None, ◌⊎◌, inl, inr, refl, sym, ap, subst, ◌∙◌}
use Rattle.std.proofs.lemmas.List.Sorted.{IsPermutation-sym}
use Rattle.acpi_name.specs.Names.{Segment}
use Rattle.acpi_space.specs.Laws.{Among}
use Rattle.acpi_space.proofs.Elements.{among_append, among_both}
use Rattle.acpi_declare.specs.Loads.{AreListings, objects_after}
use Rattle.acpi_declare.specs.Namespace.{Namespace}
use Rattle.acpi_declare.specs.Predefined.{predefined}
use Rattle.acpi_declare.proofs.Refusals.{same_listings}
use Rattle.acpi_values.specs.Arguments.{BodyGrammar}
use Rattle.acpi_values.specs.declared.fault.BodyFault.{BodyFault}
use Rattle.acpi_body.specs.Reasons.{IsReason}
use Rattle.acpi_body.proofs.ReadBodies.{one_refusal}
use Rattle.acpi_order.specs.Bodies.{Method, methods_of, all_methods, grammar_of}
use Rattle.acpi_order.specs.Independent.{AreSingleListings, IsIndependent}
use Rattle.acpi_order.specs.Machines.{Machine}
use Rattle.acpi_order.specs.Misses.{Listing}
use Rattle.acpi_order.proofs.Items.{AreDistinct, all_distinct}
use Rattle.acpi_order.proofs.Joined.{listed_alone, machine_of, machine_is}
use Rattle.acpi_order.proofs.Listings.{AreAlone}
use Rattle.acpi_order.proofs.Once.{same_second}
use Rattle.acpi_order.proofs.Orders.{among_in_any_order, independent_in_any_order, one_in_any_order, some_in_any_order}
use Rattle.acpi_order.proofs.Sources.{body_at, method_source, all_methods_are}
use Rattle.acpi_machine.specs.Explaining.{IsReasonAt, IsExplained}

-- ---- of the same bytes

one_reason : (g : BodyGrammar) (s : List Segment) (depth : ℕ) (bytes : List ℕ) (w v : Option BodyFault) → IsReason g s depth bytes w → IsReason g s depth bytes v → w ≡ v
one_reason g s depth bytes None v h k = sym (k.read.1 (h.read.0 refl))
one_reason g s depth bytes (Some f) None h k = h.read.1 (k.read.0 refl)
one_reason g s depth bytes (Some f) (Some e) h k =
    let one = (one_refusal g s depth bytes f.reason f.place h.shown).0 e.reason e.place k.shown in
    let reason = sym one.0 in
    let place = sym one.1 in
    λ i. Some (record { reason = reason i; place = place i })

-- ---- the methods of the tables in one order are those in another

one_at : {X : Type 0} (at : X → List Segment) (xs : List X) (x y : X) → AreDistinct at xs → Among xs x → Among xs y → at x ≡ at y → x ≡ y
one_at at [] x y d m n e = absurd m
one_at at (z ∷ zs) x y d (inl a) (inl b) e = sym a ∙ b
one_at at (z ∷ zs) x y d (inl a) (inr n) e = absurd (d.0 y n (sym e ∙ sym (ap at a)))
one_at at (z ∷ zs) x y d (inr m) (inl b) e = absurd (d.0 x m (e ∙ sym (ap at b)))
one_at at (z ∷ zs) x y d (inr m) (inr n) e = one_at at zs x y d.1 m n e

first_is : (t u : Listing) (ts us : List Listing) → t ∷ ts ≡ u ∷ us → t ≡ u
first_is t u ts us e = cc

module _ (depth : ℕ) (dsdt : List ℕ) where
  -- one of the SSDTs declares the method
  abbrev Declare : Listing → List (List ℕ) → Method → Type 0
  Declare first bs m = (b : List ℕ) × (t : Listing) × Among bs b × AreSingleListings depth dsdt b first t × Among (methods_of t) m

  declared : (first : Listing) (bs : List (List ℕ)) (ts : List Listing) → AreAlone depth dsdt first bs ts → (m : Method) → Among (all_methods ts) m → Declare first bs m
  declared first [] [] alone m i = absurd i
  declared first [] (t ∷ ts) alone m i = absurd alone
  declared first (b ∷ bs) [] alone m i = absurd i
  declared first (b ∷ bs) (t ∷ ts) alone m i = by (declared first bs ts alone.1 m) (among_append (methods_of t) (all_methods ts) m i)
    where
      by : (Among (all_methods ts) m → Declare first bs m) → Among (methods_of t) m ⊎ Among (all_methods ts) m → Declare first (b ∷ bs) m
      by later (inl k) = (b, t, inl refl, alone.0, k)
      by later (inr k) = let d = later k in (d.0, d.1, inr d.2, d.3, d.4)

  there : (first : Listing) (bs : List (List ℕ)) (ts : List Listing) → AreAlone depth dsdt first bs ts → (m : Method) → Declare first bs m → Among (all_methods ts) m
  there first [] ts alone m (b, t, i, h, k) = absurd i
  there first (c ∷ bs) [] alone m (b, t, i, h, k) = absurd alone
  there first (c ∷ bs) (u ∷ ts) alone m (b, t, inl e, h, k) =
      let same : u ≡ t = same_second depth dsdt b first u t (subst (λ (x : List ℕ). AreSingleListings depth dsdt x first u) e alone.0) h in
      among_both (methods_of u) (all_methods ts) m (inl (subst (λ (x : Listing). Among (methods_of x) m) (sym same) k))
  there first (c ∷ bs) (u ∷ ts) alone m (b, t, inr i, h, k) = among_both (methods_of u) (all_methods ts) m (inr (there first bs ts alone.1 m (b, t, i, h, k)))

  module _ (xs ys : List (List ℕ)) (some : xs ≢ []) (order : IsPermutation xs ys) (independent : IsIndependent depth dsdt xs)
      (ts us : List Listing) (listed : AreListings depth 0 predefined (dsdt ∷ xs) ts) (relisted : AreListings depth 0 predefined (dsdt ∷ ys) us) where
    moved : (m : Method) → Among (all_methods ts) m → Among (all_methods us) m
    moved m i =
        by (among_append (methods_of x.0) (all_methods x.1) m (subst (λ (l : List Listing). Among (all_methods l) m) (same_listings depth 0 predefined (dsdt ∷ xs) ts (x.0 ∷ x.1) listed x.3) i))
      where
        x : (first : Listing) × (rest : List Listing) × AreAlone depth dsdt first xs rest × AreListings depth 0 predefined (dsdt ∷ xs) (first ∷ rest)
        x = listed_alone depth dsdt xs some independent

        y : (first : Listing) × (rest : List Listing) × AreAlone depth dsdt first ys rest × AreListings depth 0 predefined (dsdt ∷ ys) (first ∷ rest)
        y = listed_alone depth dsdt ys (some_in_any_order depth dsdt xs ys order some) (independent_in_any_order depth dsdt xs ys order independent)

        first : x.0 ≡ y.0
        first = first_is x.0 y.0 [] [] (same_listings depth 0 predefined (dsdt ∷ []) (x.0 ∷ []) (y.0 ∷ []) (x.3.0, tt) (y.3.0, tt))

        back : Among (all_methods (y.0 ∷ y.1)) m → Among (all_methods us) m
        back = subst (λ (l : List Listing). Among (all_methods l) m) (same_listings depth 0 predefined (dsdt ∷ ys) (y.0 ∷ y.1) us y.3 relisted)

        by : Among (methods_of x.0) m ⊎ Among (all_methods x.1) m → Among (all_methods us) m
        by (inl k) = back (among_both (methods_of y.0) (all_methods y.1) m (inl (subst (λ (t : Listing). Among (methods_of t) m) first k)))
        by (inr k) =
            let d = declared x.0 xs x.1 x.2 m k in
            let again : Declare y.0 ys m = (d.0, d.1, among_in_any_order xs ys order d.0 d.2, subst (λ (t : Listing). AreSingleListings depth dsdt d.0 t d.1) first d.3, d.4) in
            back (among_both (methods_of y.0) (all_methods y.1) m (inr (there y.0 ys y.1 y.2 m again)))

-- ---- the reason

module _ (depth : ℕ) (dsdt : List ℕ) (xs ys : List (List ℕ)) (some : xs ≢ []) (order : IsPermutation xs ys) (independent : IsIndependent depth dsdt xs)
    (p : List Segment) (w v : Option BodyFault) (h : IsExplained depth (dsdt ∷ xs) p w) (k : IsExplained depth (dsdt ∷ ys) p v) where
  abbrev N : Namespace
  N = objects_after predefined h.placements

  abbrev M : Namespace
  M = objects_after predefined k.placements

  objects : N ≡ M
  objects =
      ap (λ (m : Machine). m.objects)
      (one_in_any_order depth dsdt xs ys (machine_of depth h.placements) (machine_of depth k.placements) some order independent
      (machine_is depth (dsdt ∷ xs) h.placements h.listings) (machine_is depth (dsdt ∷ ys) k.placements k.listings))

  distinct : AreDistinct body_at (all_methods k.placements)
  distinct = subst (AreDistinct body_at) (sym (all_methods_are k.placements)) (all_distinct method_source depth 0 predefined (dsdt ∷ ys) k.placements k.listings)

  to : (m : Method) → Among (all_methods h.placements) m → Among (all_methods k.placements) m
  to = moved depth dsdt xs ys some order independent h.placements k.placements h.listings k.listings

  from : (m : Method) → Among (all_methods k.placements) m → Among (all_methods h.placements) m
  from =
      moved depth dsdt ys xs (some_in_any_order depth dsdt xs ys order some) (IsPermutation-sym xs ys order) (independent_in_any_order depth dsdt xs ys order independent)
      k.placements h.placements k.listings h.listings

  pub explained_alike : w ≡ v
  explained_alike =
      by h.reason k.reason
    where
      by : IsReasonAt depth N (all_methods h.placements) p w → IsReasonAt depth M (all_methods k.placements) p v → w ≡ v
      by (inl (m, i, at, reason)) (inl (n, j, here, other)) =
          let same : m ≡ n = one_at body_at (all_methods k.placements) m n distinct (to m i) j (at ∙ sym here) in
          let over : IsReason (grammar_of M m) m.path depth m.code w = subst (λ (o : Namespace). IsReason (grammar_of o m) m.path depth m.code w) objects reason in
          one_reason (grammar_of M n) n.path depth n.code w v (subst (λ (x : Method). IsReason (grammar_of M x) x.path depth x.code w) same over) other
      by (inl (m, i, at, reason)) (inr (none, is)) = absurd (none m (to m i) at)
      by (inr (none, is)) (inl (n, j, here, other)) = absurd (none n (from n j) here)
      by (inr (none, is)) (inr (nowhere, also)) = is ∙ sym also
