-- A justified listing stays justified when another's listing is laid under it.
use Rattle.std.proofs.Common.{◌≡◌, ℕ, suc, true, false, List, [], ◌∷◌, ◌++◌, is_some, Option, Some, None, inl, inr, refl, sym, ap, subst, ◌∙◌}
use Rattle.std.specs.List.{AllByRecursion}
use Rattle.std.specs.Option.{option_or}
use Rattle.std.proofs.lemmas.Cmp.{eq_by_cmp_equiv}
use Rattle.acpi_name.specs.Names.{Segment, NameParts}
use Rattle.acpi_name.specs.Paths.{parent_of}
use Rattle.acpi_name.specs.steps.PathOrder.{path_cmp_total}
use Rattle.acpi_space.specs.Search.{answer, missed, tries}
use Rattle.acpi_space.specs.Laws.{Among}
use Rattle.acpi_space.specs.Lookups.{is_defined_in, is_same_path, union}
use Rattle.acpi_space.proofs.KeptSearches.{kept_find}
use Rattle.acpi_space.proofs.Elements.{among_both, among_all, none_of}
use Rattle.acpi_space.proofs.Maps.{none_of_not_some}
use Rattle.acpi_tree.specs.Objects.{ObjectTree}
use Rattle.acpi_declare.specs.Namespace.{Namespace, IsOpen}
use Rattle.acpi_declare.specs.Sites.{Effect, declares, opens, expects, Site, sites}
use Rattle.acpi_declare.specs.Placing.{IsPlaced}
use Rattle.acpi_declare.specs.Listing.{Placement, object_by, object_of, objects_of, IsJustified}
use Rattle.acpi_declare.specs.Notes.{missed_by, scope_misses}
use Rattle.acpi_declare.specs.Loads.{AreListings}
use Rattle.acpi_declare.specs.Predefined.{predefined}
use Rattle.acpi_pass.proofs.Unions.{or_assoc}
use Rattle.acpi_order.specs.Misses.{Listing, objects_of_first}
use Rattle.acpi_order.specs.Independent.{AreSingleListings, IsApart}
use Rattle.acpi_order.proofs.Lists.{all_among, skipped_fail, or_none}

pub path_itself : (p : List Segment) → is_same_path p p ≡ true
path_itself p = (eq_by_cmp_equiv path_cmp_total).refl p

pub other_path : (p q : List Segment) → is_same_path p q ≡ false → p ≡ q → ⊥
other_path p q e is =
    let never : is_same_path p p ≡ false = subst (λ x. is_same_path p x ≡ false) (sym is) e in
    let always : is_same_path p p ≡ true = path_itself p in
    cc

-- M is N with X under it
abbrev pub IsOver : Namespace → Namespace → Namespace → Type 0
IsOver N X M = (q : List Segment) → M q ≡ union N X q

pub some_up : (a x : Option ObjectTree) → is_some a ≡ true → is_some (option_or a x) ≡ true
some_up (Some o) x e = refl
some_up None x e = cc

over_up : (N X M : Namespace) → IsOver N X M → (p : List Segment) → is_defined_in N p ≡ true → is_defined_in M p ≡ true
over_up N X M is p e = ap (λ (a : Option ObjectTree). is_some a) (is p) ∙ some_up (N p) (X p) e

over_keeps : (N X M : Namespace) → IsOver N X M → (p : List Segment) (o : ObjectTree) → N p ≡ Some o → M p ≡ Some o
over_keeps N X M is p o e = is p ∙ ap (λ a. option_or a (X p)) e

over_free : (N X M : Namespace) → IsOver N X M → (p : List Segment) → N p ≡ None → X p ≡ None → M p ≡ None
over_free N X M is p a b = is p ∙ ap (λ a. option_or a (X p)) a ∙ b

kept_search : (N X M : Namespace) → IsOver N X M → (s : List Segment) (n : NameParts) → ((p : List Segment) → Among (missed (is_defined_in N) s n) p → X p ≡ None)
    → answer (is_defined_in M) s n ≡ answer (is_defined_in N) s n
kept_search N X M is s n free = kept_find (is_defined_in N) (is_defined_in M) (over_up N X M is) (tries s n)
    (all_among (λ p. is_defined_in M p ≡ false) _ (λ p m.
    let none : N p ≡ None = none_of_not_some (N p) (among_all (λ q. is_defined_in N q ≡ false) _ (skipped_fail (is_defined_in N) (tries s n)) p m) in
    ap (λ (a : Option ObjectTree). is_some a) (over_free N X M is p none (free p m))))

kept_open : (N X M : Namespace) → IsOver N X M → (p : List Segment) → IsOpen N p → IsOpen M p
kept_open N X M is p h = (h.0, over_keeps N X M is p h.0 h.1, h.2)

kept_placed : (N X M : Namespace) → IsOver N X M → (d : Effect) (s : List Segment) (n : NameParts) (p : List Segment)
    → ((q : List Segment) → Among (missed_by d N s n) q → X q ≡ None) → ((o : ObjectTree) → object_by d p p ≡ Some o → X p ≡ None) → IsPlaced d N s n p → IsPlaced d M s n p
kept_placed N X M is (declares o links code) s n p quiet apart h = record {
  has_segments = h.has_segments;
  placed = h.placed;
  parent = kept_open N X M is (parent_of p) h.parent;
  free = over_free N X M is p h.free (apart o (rw (path_itself p) refl));
}
kept_placed N X M is opens s n p quiet apart h = record {
  found = kept_search N X M is s n quiet ∙ h.found;
  open_there = kept_open N X M is p h.open_there;
}
kept_placed N X M is (expects k) s n p quiet apart h = h

swapped : (a b c : Option ObjectTree) → ((o : ObjectTree) → b ≡ Some o → c ≡ None) → option_or (option_or a c) b ≡ option_or (option_or a b) c
swapped (Some o) b c apart = refl
swapped None None None apart = refl
swapped None None (Some o) apart = refl
swapped None (Some o) c apart = let e : c ≡ None = apart o refl in rw e refl

kept_over : (N X M : Namespace) → IsOver N X M → (g : Namespace) → ((q : List Segment) (o : ObjectTree) → g q ≡ Some o → X q ≡ None) → IsOver (union N g) X (union M g)
kept_over N X M is g apart q = ap (λ a. option_or a (g q)) (is q) ∙ swapped (N q) (g q) (X q) (apart q)

or_second : (a b : Option ObjectTree) (P : Type 0) → ((o : ObjectTree) → option_or a b ≡ Some o → P) → (o : ObjectTree) → b ≡ Some o → P
or_second None b P f o e = f o e
or_second (Some a) b P f o e = f a refl

kept_listing : (N X M : Namespace) → IsOver N X M → (before : List (List Segment)) (xs : List Site) (es : List Placement)
    → ((p : List Segment) → Among (scope_misses N es) p → X p ≡ None) → ((p : List Segment) (o : ObjectTree) → objects_of es p ≡ Some o → X p ≡ None)
    → IsJustified N before xs es → IsJustified M before xs es
kept_listing N X M is before [] [] quiet apart h = tt
kept_listing N X M is before [] (e ∷ es) quiet apart h = absurd h
kept_listing N X M is before (x ∷ xs) [] quiet apart h = absurd h
kept_listing N X M is before (x ∷ xs) (e ∷ es) quiet apart h =
    let here : (q : List Segment) (o : ObjectTree) → object_of e q ≡ Some o → X q ≡ None = λ q o g. apart q o (rw g refl) in
    let now : List (List Segment) = missed_by e.step.effect N e.scope e.step.name in
    let later : List (List Segment) = scope_misses (union N (object_of e)) es in (
      h.0,
      h.1,
      kept_placed N X M is e.step.effect e.scope e.step.name e.path (λ q m. quiet q (among_both now later q (inl m))) (λ o g. here e.path o g) h.2,
      kept_listing (union N (object_of e)) X (union M (object_of e)) (kept_over N X M is (object_of e) here) (before ++ e.path ∷ []) xs es
          (λ p m. quiet p (among_both now later p (inr m))) (λ p. or_second (object_of e p) (objects_of es p) (X p ≡ None) (apart p)) h.3,
    )

-- ---- listings over each other

-- nothing in X is declared by the table, or missed by its Scope terms
abbrev IsQuietAt : Namespace → Namespace → Listing → Type 0
IsQuietAt N X t = (p : List Segment) (o : ObjectTree) → X p ≡ Some o → (objects_of t p ≡ None) × (Among (scope_misses N t) p → ⊥)

both_none : (a b : Option ObjectTree) → (P : Type 0) → ((o : ObjectTree) → a ≡ Some o → P) → ((o : ObjectTree) → b ≡ Some o → P) → (o : ObjectTree)
    → option_or a b ≡ Some o → P
both_none None b P f g o e = g o e
both_none (Some a) b P f g o e = f a refl

-- each loads alone behind the first
abbrev pub AreAlone : ℕ → List ℕ → Listing → List (List ℕ) → List Listing → Type 0
AreAlone depth dsdt first [] [] = Unit {0}
AreAlone depth dsdt first (b ∷ bs) (t ∷ ts) = AreSingleListings depth dsdt b first t × AreAlone depth dsdt first bs ts
AreAlone depth dsdt first [] (t ∷ ts) = ⊥
AreAlone depth dsdt first (b ∷ bs) [] = ⊥

-- any two are apart, both ways
abbrev pub AreAllApart : ℕ → Listing → List Listing → Type 0
AreAllApart depth first [] = Unit {0}
AreAllApart depth first (t ∷ ts) = AllByRecursion (λ u. IsApart depth first t u × IsApart depth first u t) ts × AreAllApart depth first ts

module _ (depth : ℕ) (dsdt : List ℕ) (first : Listing) where
  abbrev N : Namespace
  N = objects_of_first first

  more_quiet : (X : Namespace) (t : Listing) (ts : List Listing) → AllByRecursion (IsQuietAt N X) ts
      → AllByRecursion (λ u. IsApart depth first t u × IsApart depth first u t) ts → AllByRecursion (IsQuietAt N (union X (objects_of t))) ts
  more_quiet X t [] quiet apart = tt
  more_quiet X t (u ∷ us) quiet apart =
      (λ p. both_none (X p) (objects_of t p) _ (quiet.0 p) (λ o e. ((apart.0.1 p o e).0, λ m. (apart.0.1 p o e).1 (inl m))), more_quiet X t us quiet.1 apart.1)

  listings_over : (number : ℕ) (X M : Namespace) → IsOver N X M → (bs : List (List ℕ)) (ts : List Listing) → AreAlone depth dsdt first bs ts
      → AllByRecursion (IsQuietAt N X) ts → AreAllApart depth first ts → AreListings depth (suc number) M bs ts
  listings_over number X M is [] [] alone quiet apart = tt
  listings_over number X M is [] (t ∷ ts) alone quiet apart = alone
  listings_over number X M is (b ∷ bs) [] alone quiet apart = alone
  listings_over number X M is (b ∷ bs) (t ∷ ts) alone quiet apart =
      let a = alone.0.1.0 in (
        (
          a.0,
          record { numbered = record { table = a.1.numbered.table; signed = a.1.numbered.signed }; spelled = a.1.spelled; height = a.1.height },
          kept_listing N X M is [] (sites a.0) t (λ p m. none_of (X p) (λ o e. (quiet.0 p o e).1 m))
              (λ p o d. none_of (X p) (λ x e. let none : objects_of t p ≡ None = (quiet.0 p x e).0 in cc)) a.2,
        ),
        listings_over (suc number) (union X (objects_of t)) (union M (objects_of t)) (λ q. ap (λ a. option_or a (objects_of t q)) (is q) ∙ or_assoc (N q) (X q) (objects_of t q))
            bs ts alone.1 (more_quiet X t ts quiet.1 apart.0) apart.1,
      )

  quiet_at_first : (ts : List Listing) → AllByRecursion (IsQuietAt N (λ q. None)) ts
  quiet_at_first [] = tt
  quiet_at_first (t ∷ ts) = (λ p o e. let f : ⊥ = cc in absurd f, quiet_at_first ts)

  pub in_order : (b : List ℕ) (bs : List (List ℕ)) (t : Listing) (ts : List Listing) → AreAlone depth dsdt first (b ∷ bs) (t ∷ ts) → AreAllApart depth first (t ∷ ts)
      → AreListings depth 0 predefined (dsdt ∷ b ∷ bs) (first ∷ t ∷ ts)
  in_order b bs t ts alone apart =
      (alone.0.0, listings_over 0 (λ q. None) N (λ q. or_none (N q)) (b ∷ bs) (t ∷ ts) alone (quiet_at_first (t ∷ ts)) apart)
