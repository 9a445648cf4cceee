-- What is gathered of an SSDT is what its single load missed and awaits, of the wanted paths.
use Rattle.std.proofs.Common.{◌≡◌, ◌⊎◌, ◌↔◌, ◌||◌, inl, inr, ℕ, Bool, true, false, List, [], ◌∷◌, is_some, Some, refl, sym, ap, subst, ◌∙◌}
use Rattle.std.specs.Prelude.{IsTrue}
use Rattle.std.specs.FinMap.{get, empty}
use Rattle.std.proofs.lemmas.List.{append-nil}
use Rattle.acpi_name.specs.Names.{Segment}
use Rattle.acpi_space.specs.Laws.{Among}
use Rattle.acpi_space.specs.Spaces.{is_defined}
use Rattle.acpi_space.specs.Wanted.{Wants}
use Rattle.acpi_tree.specs.Objects.{ObjectTree}
use Rattle.acpi_declare.specs.Declaring.{State, HasTables}
use Rattle.acpi_declare.specs.Links.{PendingLink, pending_links, all_pending}
use Rattle.acpi_declare.specs.Listing.{objects_of}
use Rattle.acpi_declare.specs.Loads.{AreListings, objects_after}
use Rattle.acpi_declare.specs.Namespace.{Namespace}
use Rattle.acpi_declare.specs.Notes.{Notes, notes_on, all_notes, scope_misses}
use Rattle.acpi_declare.specs.Predefined.{predefined}
use Rattle.acpi_declare.proofs.Refusals.{same_listings}
use Rattle.acpi_body.specs.steps.Gathering.{Grows}
use Rattle.acpi_body.proofs.Grown.{from_none}
use Rattle.acpi_order.specs.Bodies.{Method, methods_of}
use Rattle.acpi_order.specs.Misses.{Listing, objects_of_first, objects_of_both, IsLinkMiss, IsBodyMiss, IsAwaiting, IsMiss, IsAwaited}
use Rattle.acpi_order.proofs.Lists.{of_two, first_of, second_of}
use Rattle.acpi_order.proofs.Stays.{links_stay, body_stays}
use Rattle.acpi_verdict.specs.steps.Overlays.{IsOver}
use Rattle.acpi_verdict.specs.steps.PairMisses.{PairTree, ArePairMisses, IsMissedIn, IsAwaitedIn, AreLoadMisses, AreAwaitsAlone}
use Rattle.acpi_verdict.specs.steps.AffectedSsdts.{is_miss}
use Rattle.acpi_verdict.specs.declared.misses.Misses.{Misses}
use Rattle.acpi_verdict.specs.steps.Misses.{AreMisses, IsMissedScope, IsTableMiss, IsAwaitedByAny}
use Rattle.acpi_verdict.proofs.TableMisses.{table_missed, table_awaited}

or_left : (a b : Bool) → IsTrue a → a || b ≡ true
or_left true b e = refl
or_left false b e = cc

or_right : (a b : Bool) → IsTrue b → a || b ≡ true
or_right true b e = refl
or_right false b e = e

-- ---- what one more table leaves as it was

module _ (depth : ℕ) (first t : Listing) where
  abbrev Alone : Namespace
  Alone = objects_of_first first

  abbrev N : Namespace
  N = objects_of_both first t

  -- the table declares no path that the other misses or awaits alone
  abbrev IsQuiet : Type 0
  IsQuiet = (p : List Segment) (o : ObjectTree) → objects_of t p ≡ Some o → (IsTableMiss depth Alone first p → ⊥) × ((n : ℕ) → IsAwaitedByAny depth Alone (methods_of first) p n → ⊥)

  module _ (quiet : IsQuiet) where
    link_same : (w : PendingLink) → Among (pending_links first) w → (p : List Segment) → IsLinkMiss N w p ↔ IsLinkMiss Alone w p
    link_same w i = (links_stay Alone (objects_of t) w (λ p o e m. (quiet p o e).0 (inl (w, i, m.0, m.1, m.2)))).1

    body_same : (m : Method) → Among (methods_of first) m → ((p : List Segment) → IsBodyMiss depth N m p ↔ IsBodyMiss depth Alone m p)
        × ((p : List Segment) (n : ℕ) → IsAwaiting depth N m p n ↔ IsAwaiting depth Alone m p n)
    body_same m i =
        let r = body_stays depth Alone (objects_of t) m (λ p o e. ((λ x. (quiet p o e).0 (inr (m, i, x))), (λ n x. (quiet p o e).1 n (m, i, x)))) in
        (r.1, r.2)

    to_alone : (p : List Segment) → IsTableMiss depth N first p → IsTableMiss depth Alone first p
    to_alone p (inl x) = let r = (link_same x.0 x.1 p).0 (x.2, x.3, x.4) in inl (x.0, x.1, r.0, r.1, r.2)
    to_alone p (inr x) = inr (x.0, x.1, ((body_same x.0 x.1).0 p).0 x.2)

    from_alone : (p : List Segment) → IsTableMiss depth Alone first p → IsTableMiss depth N first p
    from_alone p (inl x) = let r = (link_same x.0 x.1 p).1 (x.2, x.3, x.4) in inl (x.0, x.1, r.0, r.1, r.2)
    from_alone p (inr x) = inr (x.0, x.1, ((body_same x.0 x.1).0 p).1 x.2)

    awaits_same : (p : List Segment) (n : ℕ) → IsAwaitedByAny depth N (methods_of first) p n ↔ IsAwaitedByAny depth Alone (methods_of first) p n
    awaits_same p n = ((λ x. (x.0, x.1, ((body_same x.0 x.1).1 p n).0 x.2)), (λ x. (x.0, x.1, ((body_same x.0 x.1).1 p n).1 x.2)))

  -- ---- of which table a miss is

  abbrev IsOfTables : List Segment → Type 0
  IsOfTables p = Among (scope_misses Alone t) p ⊎ IsTableMiss depth N t p ⊎ IsTableMiss depth N first p

  to_miss : (p : List Segment) → IsOfTables p → IsMiss depth first t p
  to_miss p (inl x) = inl x
  to_miss p (inr (inl (inl x))) = inr (inl (x.0, second_of (pending_links first) (pending_links t) x.0 x.1, (x.2, x.3, x.4)))
  to_miss p (inr (inl (inr x))) = inr (inr (x.0, second_of (methods_of first) (methods_of t) x.0 x.1, x.2))
  to_miss p (inr (inr (inl x))) = inr (inl (x.0, first_of (pending_links first) (pending_links t) x.0 x.1, (x.2, x.3, x.4)))
  to_miss p (inr (inr (inr x))) = inr (inr (x.0, first_of (methods_of first) (methods_of t) x.0 x.1, x.2))

  of_link : (p : List Segment) (w : PendingLink) → Among (pending_links first) w ⊎ Among (pending_links t) w → IsLinkMiss N w p → IsOfTables p
  of_link p w (inl i) x = inr (inr (inl (w, i, x.0, x.1, x.2)))
  of_link p w (inr i) x = inr (inl (inl (w, i, x.0, x.1, x.2)))

  of_body : (p : List Segment) (m : Method) → Among (methods_of first) m ⊎ Among (methods_of t) m → IsBodyMiss depth N m p → IsOfTables p
  of_body p m (inl i) x = inr (inr (inr (m, i, x)))
  of_body p m (inr i) x = inr (inl (inr (m, i, x)))

  of_miss : (p : List Segment) → IsMiss depth first t p → IsOfTables p
  of_miss p (inl x) = inl x
  of_miss p (inr (inl x)) = of_link p x.0 (of_two (pending_links first) (pending_links t) x.0 x.1) x.2
  of_miss p (inr (inr x)) = of_body p x.0 (of_two (methods_of first) (methods_of t) x.0 x.1) x.2

  abbrev IsAwaitedOfTables : List Segment → ℕ → Type 0
  IsAwaitedOfTables p n = IsAwaitedByAny depth N (methods_of t) p n ⊎ IsAwaitedByAny depth N (methods_of first) p n

  to_awaited : (p : List Segment) (n : ℕ) → IsAwaitedOfTables p n → IsAwaited depth first t p n
  to_awaited p n (inl x) = (x.0, second_of (methods_of first) (methods_of t) x.0 x.1, x.2)
  to_awaited p n (inr x) = (x.0, first_of (methods_of first) (methods_of t) x.0 x.1, x.2)

  of_awaited : (p : List Segment) (n : ℕ) → IsAwaited depth first t p n → IsAwaitedOfTables p n
  of_awaited p n x = by (of_two (methods_of first) (methods_of t) x.0 x.1)
    where
      by : Among (methods_of first) x.0 ⊎ Among (methods_of t) x.0 → IsAwaitedOfTables p n
      by (inl i) = inr (x.0, i, x.2)
      by (inr i) = inl (x.0, i, x.2)

-- ---- an SSDT

module _ (wanted : Wants) (depth : ℕ) (dsdt : List ℕ) (one : State) (loads : HasTables depth (dsdt ∷ []) one) (alone : Misses) (alone_is : AreMisses wanted depth one.objects one empty alone) where
  module _ (b : List ℕ) (l : State) (over : IsOver depth dsdt b l) where
    abbrev first : Listing
    first = over.first

    abbrev t : Listing
    t = over.t

    abbrev Before : Namespace
    Before = objects_of_first first

    abbrev Both : Namespace
    Both = objects_of_both first t

    placements_are : loads.placements ≡ first ∷ []
    placements_are = same_listings depth 0 predefined (dsdt ∷ []) loads.placements (first ∷ []) loads.listings (over.listings.0, tt)

    one_objects : one.objects ≡ Before
    one_objects = loads.objects_are ∙ ap (objects_after predefined) placements_are

    one_links : one.links ≡ pending_links first
    one_links = loads.links_are ∙ ap all_pending placements_are ∙ append-nil (pending_links first)

    one_notes : one.notes ≡ notes_on predefined first ∷ []
    one_notes = loads.notes_are ∙ ap (all_notes predefined) placements_are

    -- what the DSDT tries over those objects
    module _ (objects : Namespace) (now : Misses) (h : AreMisses wanted depth objects one empty now) where
      dsdt_missed : (p : List Segment) → IsTrue (is_defined now.missed p) ↔ (IsTableMiss depth objects first p × IsTrue (wanted p))
      dsdt_missed = from_none now.missed (λ p. IsTableMiss depth objects first p × IsTrue (wanted p)) (table_missed wanted depth objects one predefined first one_links one_notes empty now h)

      dsdt_awaited : (p : List Segment) (n : ℕ) → (get now.awaited p ≡ Some n) ↔ (IsAwaitedByAny depth objects (methods_of first) p n × IsTrue (wanted p))
      dsdt_awaited = table_awaited wanted depth objects one predefined first one_links one_notes empty now h

    alone_there : AreMisses wanted depth Before one empty alone
    alone_there = subst (λ (objects : Namespace). AreMisses wanted depth objects one empty alone) one_objects alone_is

    module _ (affected : Bool) (s : PairTree) (pair : ArePairMisses wanted depth one alone affected l s)
        (untried : affected ≡ false → (p : List Segment) (o : ObjectTree) → objects_of over.t p ≡ Some o → IsTrue (wanted p) × (is_miss alone p ≡ true → ⊥)) where
      quiet : affected ≡ false → IsQuiet depth first t
      quiet none p o e =
          let r = untried none p o e in (
            (λ x. r.1 (or_left (is_defined alone.missed p) (is_defined alone.awaited p) ((dsdt_missed Before alone alone_there p).1 (x, r.0)))),
            (λ n x. r.1 (or_right (is_defined alone.missed p) (is_defined alone.awaited p) (ap is_some ((dsdt_awaited Before alone alone_there p n).1 (x, r.0))))),
          )

      over_both : AreMisses wanted depth l.objects one empty s.under → AreMisses wanted depth Both one empty s.under
      over_both h = subst (λ (objects : Namespace). AreMisses wanted depth objects one empty s.under) over.objects_are h

      under_missed : (p : List Segment) → IsTrue (is_defined s.under.missed p) ↔ (IsTableMiss depth Both first p × IsTrue (wanted p))
      under_missed p = by pair.under
        where
          by : ((affected ≡ false) × (s.under ≡ alone)) ⊎ AreMisses wanted depth l.objects one empty s.under
              → IsTrue (is_defined s.under.missed p) ↔ (IsTableMiss depth Both first p × IsTrue (wanted p))
          by (inl (none, same)) =
              let r = dsdt_missed Before alone alone_there p in
              let e : is_defined s.under.missed p ≡ is_defined alone.missed p = ap (λ (x : Misses). is_defined x.missed p) same in (
                (λ h. let x = r.0 (sym e ∙ h) in (from_alone depth first t (quiet none) p x.0, x.1)),
                (λ x. e ∙ r.1 (to_alone depth first t (quiet none) p x.0, x.1)),
              )
          by (inr h) = dsdt_missed Both s.under (over_both h) p

      under_awaited : (p : List Segment) (n : ℕ) → (get s.under.awaited p ≡ Some n) ↔ (IsAwaitedByAny depth Both (methods_of first) p n × IsTrue (wanted p))
      under_awaited p n = by pair.under
        where
          by : ((affected ≡ false) × (s.under ≡ alone)) ⊎ AreMisses wanted depth l.objects one empty s.under
              → (get s.under.awaited p ≡ Some n) ↔ (IsAwaitedByAny depth Both (methods_of first) p n × IsTrue (wanted p))
          by (inl (none, same)) =
              let r = dsdt_awaited Before alone alone_there p n in
              let e : get s.under.awaited p ≡ get alone.awaited p = ap (λ (x : Misses). get x.awaited p) same in (
                (λ h. let x = r.0 (sym e ∙ h) in ((awaits_same depth first t (quiet none) p n).1 x.0, x.1)),
                (λ x. e ∙ r.1 ((awaits_same depth first t (quiet none) p n).0 x.0, x.1)),
              )
          by (inr h) = dsdt_awaited Both s.under (over_both h) p n

      -- its own
      own : AreMisses wanted depth Both l pair.scopes s.own
      own = subst (λ (objects : Namespace). AreMisses wanted depth objects l pair.scopes s.own) over.objects_are pair.own

      own_awaited : (p : List Segment) (n : ℕ) → (get s.own.awaited p ≡ Some n) ↔ (IsAwaitedByAny depth Both (methods_of t) p n × IsTrue (wanted p))
      own_awaited = table_awaited wanted depth Both l Before t over.links_are over.notes_are pair.scopes s.own own

      scope_of : (p : List Segment) → IsMissedScope l.notes p ↔ Among (scope_misses Before t) p
      scope_of p = subst (λ (ns : List Notes). IsMissedScope ns p ↔ Among (scope_misses Before t) p) (sym over.notes_are) ((λ x. to x.0 x.1 x.2), (λ i. (notes_on Before t, inl refl, i)))
        where
          to : (n : Notes) → Among (notes_on Before t ∷ []) n → Among n.missed p → Among (scope_misses Before t) p
          to n (inl e) i = subst (λ (k : Notes). Among k.missed p) (sym e) i
          to n (inr x) i = absurd x

      scopes_are : (p : List Segment) → IsTrue (is_defined pair.scopes p) ↔ (IsMissedScope l.notes p × IsTrue (wanted p))
      scopes_are = from_none pair.scopes (λ p. IsMissedScope l.notes p × IsTrue (wanted p)) pair.scopes_are

      own_missed : Grows pair.scopes s.own.missed (λ p. IsTableMiss depth Both t p × IsTrue (wanted p))
      own_missed = table_missed wanted depth Both l Before t over.links_are over.notes_are pair.scopes s.own own

      abbrev IsWantedMiss : List Segment → Type 0
      IsWantedMiss p = IsMiss depth first t p × IsTrue (wanted p)

      of_own : (p : List Segment) → IsTrue (is_defined pair.scopes p) ⊎ (IsTableMiss depth Both t p × IsTrue (wanted p)) → IsWantedMiss p
      of_own p (inl h) = let x = (scopes_are p).0 h in (inl ((scope_of p).0 x.0), x.1)
      of_own p (inr x) = (to_miss depth first t p (inr (inl x.0)), x.1)

      missed_to : (p : List Segment) → IsMissedIn s p → IsWantedMiss p
      missed_to p (inl h) = of_own p ((own_missed p).0 h)
      missed_to p (inr h) = let x = (under_missed p).0 h in (to_miss depth first t p (inr (inr x.0)), x.1)

      of_wanted : (p : List Segment) → IsOfTables depth first t p → IsTrue (wanted p) → IsMissedIn s p
      of_wanted p (inl x) w = inl ((own_missed p).1 (inl ((scopes_are p).1 ((scope_of p).1 x, w))))
      of_wanted p (inr (inl x)) w = inl ((own_missed p).1 (inr (x, w)))
      of_wanted p (inr (inr x)) w = inr ((under_missed p).1 (x, w))

      awaited_to : (p : List Segment) (n : ℕ) → IsAwaitedIn s p n → IsAwaited depth first t p n × IsTrue (wanted p)
      awaited_to p n (inl h) = let x = (own_awaited p n).0 h in (to_awaited depth first t p n (inl x.0), x.1)
      awaited_to p n (inr h) = let x = (under_awaited p n).0 h in (to_awaited depth first t p n (inr x.0), x.1)

      awaited_of : (p : List Segment) (n : ℕ) → IsAwaitedOfTables depth first t p n → IsTrue (wanted p) → IsAwaitedIn s p n
      awaited_of p n (inl x) w = inl ((own_awaited p n).1 (x, w))
      awaited_of p n (inr x) w = inr ((under_awaited p n).1 (x, w))

      pub load_misses : AreLoadMisses wanted depth dsdt b s
      load_misses = record {
        first = first;
        t = t;
        listings = over.listings;
        missed_are = λ p. (missed_to p, λ x. of_wanted p (of_miss depth first t p x.0) x.1);
        awaited_are = λ p n. (awaited_to p n, λ x. awaited_of p n (of_awaited depth first t p n x.0) x.1);
        own_awaited = own_awaited;
      }

  -- ---- what bodies of the DSDT await alone

  pub alone_awaits : AreAwaitsAlone wanted depth dsdt alone.awaited
  alone_awaits = by loads.placements refl loads.listings
    where
      of_one : (u : Listing) → loads.placements ≡ u ∷ [] → AreListings depth 0 predefined (dsdt ∷ []) (u ∷ []) → AreAwaitsAlone wanted depth dsdt alone.awaited
      of_one u e a =
          let objects : one.objects ≡ objects_of_first u = loads.objects_are ∙ ap (objects_after predefined) e in
          let links : one.links ≡ pending_links u = loads.links_are ∙ ap all_pending e ∙ append-nil (pending_links u) in
          let notes : one.notes ≡ notes_on predefined u ∷ [] = loads.notes_are ∙ ap (all_notes predefined) e in
          let tries : AreMisses wanted depth (objects_of_first u) one empty alone = subst (λ (N : Namespace). AreMisses wanted depth N one empty alone) objects alone_is in
          record { first = u; listings = a; awaits_are = table_awaited wanted depth (objects_of_first u) one predefined u links notes empty alone tries }

      by : (us : List Listing) → loads.placements ≡ us → AreListings depth 0 predefined (dsdt ∷ []) us → AreAwaitsAlone wanted depth dsdt alone.awaited
      by [] e a = absurd a
      by (u ∷ []) e a = of_one u e a
      by (u ∷ v ∷ vs) e a = absurd a.1
