-- What an SSDT declares over a DSDT.
use Rattle.std.proofs.Common.{◌≡◌, ◌↔◌, ℕ, false, List, [], ◌∷◌, ◌++◌, is_some, refl, sym, ap, subst, ◌∙◌}
use Rattle.std.specs.Prelude.{IsTrue}
use Rattle.acpi_name.specs.Names.{Segment}
use Rattle.acpi_space.specs.Laws.{Among}
use Rattle.acpi_space.specs.Lookups.{union}
use Rattle.acpi_space.specs.Spaces.{PathMap, is_defined}
use Rattle.acpi_tree.specs.declared.object.Object.{Object}
use Rattle.acpi_declare.specs.Declaring.{State, HasTables, HasTableOver}
use Rattle.acpi_declare.specs.Listing.{objects_of}
use Rattle.acpi_declare.specs.Loads.{AreListings, objects_after}
use Rattle.acpi_declare.specs.Namespace.{Namespace, namespace_of}
use Rattle.acpi_declare.specs.Notes.{notes_on}
use Rattle.acpi_declare.specs.Predefined.{predefined}
use Rattle.acpi_declare.proofs.Refusals.{same_listings}
use Rattle.acpi_order.specs.Misses.{Listing, objects_of_first, objects_of_both}
use Rattle.acpi_order.proofs.Singles.{taken_back}
use Rattle.acpi_verdict.specs.steps.Overlays.{IsOverlay, IsOver}
use Rattle.acpi_verdict.proofs.DefinedPaths.{new_object, there}

module _ (depth : ℕ) (dsdt b : List ℕ) (one now : State) (loads : HasTables depth (dsdt ∷ []) one) (over : HasTableOver depth (dsdt ∷ []) loads.placements b now) where
  abbrev t : Listing
  t = over.placements

  of_one : (first : Listing) → loads.placements ≡ first ∷ [] → IsOver depth dsdt b now
  of_one first e = record {
    first = first;
    t = t;
    listings = subst (λ (ts : List Listing). AreListings depth 0 predefined (dsdt ∷ b ∷ []) (ts ++ t ∷ [])) e over.listings;
    objects_are = over.objects_are ∙ ap (λ (ts : List Listing). union (objects_after predefined ts) (objects_of t)) e;
    links_are = over.links_are;
    notes_are = over.notes_are ∙ ap (λ (ts : List Listing). notes_on (objects_after predefined ts) t ∷ []) e;
  }

  pub is_over : IsOver depth dsdt b now
  is_over = by loads.placements refl loads.listings
    where
      by : (ts : List Listing) → loads.placements ≡ ts → AreListings depth 0 predefined (dsdt ∷ []) ts → IsOver depth dsdt b now
      by [] e a = absurd a
      by (first ∷ []) e a = of_one first e
      by (u ∷ v ∷ vs) e a = absurd a.1

module _ (depth : ℕ) (dsdt b : List ℕ) (one now : State) (loads : HasTables depth (dsdt ∷ []) one) (over : IsOver depth dsdt b now) (below both : PathMap Object)
    (below_is : namespace_of below ≡ one.objects) (both_is : namespace_of both ≡ now.objects) (items : List (List Segment))
    (are : (p : List Segment) → Among items p ↔ (IsTrue (is_defined both p) × (is_defined below p ≡ false))) where
  placements_are : loads.placements ≡ over.first ∷ []
  placements_are = same_listings depth 0 predefined (dsdt ∷ []) loads.placements (over.first ∷ []) loads.listings (over.listings.0, tt)

  now_at : (p : List Segment) → is_defined both p ≡ is_some (objects_of_both over.first over.t p)
  now_at p = sym (there both p) ∙ ap (λ (N : Namespace). is_some (N p)) (both_is ∙ over.objects_are)

  before_at : (p : List Segment) → is_defined below p ≡ is_some (objects_of_first over.first p)
  before_at p = sym (there below p) ∙ ap (λ (N : Namespace). is_some (N p)) (below_is ∙ loads.objects_are ∙ ap (objects_after predefined) placements_are)

  pub is_overlay : IsOverlay depth dsdt b (record { state = now; defined = items })
  is_overlay = record {
    over = over;
    defined_are = λ p.
        let r = new_object (objects_of_first over.first p) (objects_of over.t p) (taken_back depth dsdt b over.first over.t over.listings p) in (
          (λ i. let x = (are p).0 i in r.0 (sym (now_at p) ∙ x.0, sym (before_at p) ∙ x.1)),
          (λ o. let x = r.1 o in (are p).1 (now_at p ∙ x.0, before_at p ∙ x.1)),
        );
  }
