-- The paths that the second of two tables declares: those of both that the first alone has not.
use Rattle.std.proofs.Common.{◌≡◌, ◌↔◌, ℕ, Bool, true, false, not, List, is_some, filter, Option, Some, None, true≢false, refl, sym, ap, subst, ◌∙◌}
use Rattle.std.specs.Prelude.{IsTrue}
use Rattle.std.specs.Option.{option_or}
use Rattle.std.specs.FinMap.{empty, get, keys}
use Rattle.std.specs.List.Sorted.{IsStrictlySortedBy}
use Rattle.std.proofs.lemmas.List.Kept.{IsStrictlySortedBy-filter}
use Rattle.acpi_name.specs.Names.{Segment}
use Rattle.acpi_name.specs.Paths.{path_cmp}
use Rattle.acpi_space.specs.Laws.{Among}
use Rattle.acpi_space.specs.Spaces.{PathMap, is_defined}
use Rattle.acpi_space.proofs.Filters.{among_filter}
use Rattle.acpi_space.proofs.Keys.{key_is, keys_ascend}
use Rattle.acpi_space.proofs.Laid.{is_some-map}
use Rattle.acpi_tree.specs.Objects.{ObjectTree, object_view}
use Rattle.acpi_tree.specs.declared.object.Object.{Object}
use Rattle.acpi_declare.specs.Listing.{objects_of}
use Rattle.acpi_declare.specs.Namespace.{Namespace, namespace_of}
use Rattle.acpi_body.specs.steps.Gathering.{Paths, Grows}
use Rattle.acpi_body.proofs.Grown.{from_none}
use Rattle.acpi_order.specs.Misses.{Listing, objects_of_first, objects_of_both}
use Rattle.acpi_order.specs.Independent.{AreSingleListings}
use Rattle.acpi_order.proofs.Singles.{taken_away, taken_back}

-- whether an object is there
pub there : (m : PathMap Object) (p : List Segment) → is_some (namespace_of m p) ≡ is_defined m p
there m p = is_some-map object_view (get m p)

-- what is there with the second table, and not without it
pub new_object : (b a : Option ObjectTree) → taken_away a (option_or b a) ≡ b → (IsTrue (is_some (option_or b a)) × (is_some b ≡ false)) ↔ ((o : ObjectTree) × (a ≡ Some o))
new_object None None e = (λ r. absurd (true≢false (sym r.0)), λ r. absurd (true≢false (sym (ap is_some r.1))))
new_object None (Some x) e = (λ r. (x, refl), λ r. (refl, refl))
new_object (Some y) None e = (λ r. absurd (true≢false r.1), λ r. absurd (true≢false (sym (ap is_some r.1))))
new_object (Some y) (Some x) e = absurd (true≢false (sym (ap is_some e)))

module _ (depth : ℕ) (dsdt ssdt : List ℕ) (first t : Listing) (alone : AreSingleListings depth dsdt ssdt first t) (before now : PathMap Object)
    (first_are : namespace_of before ≡ objects_of_first first) (both_are : namespace_of now ≡ objects_of_both first t) (none known : Paths) (is_none : none ≡ empty)
    (grown : Grows none known (Among (keys before))) (items : List (List Segment)) (kept : items ≡ filter (λ p. not (is_defined known p)) (keys now)) where
  known_is : (p : List Segment) → is_defined known p ≡ is_some (objects_of_first first p)
  known_is p = same (is_defined known p) (is_defined before p) (from_none known (Among (keys before)) (subst (λ (m : Paths). Grows m known (Among (keys before))) is_none grown) p) (key_is before p)
      ∙ sym (there before p) ∙ ap (λ (N : Namespace). is_some (N p)) first_are
    where
      same : (a b : Bool) → IsTrue a ↔ Among (keys before) p → Among (keys before) p ↔ IsTrue b → a ≡ b
      same true b f g = sym (g.0 (f.0 refl))
      same false true f g = absurd (true≢false (sym (f.1 (g.1 refl))))
      same false false f g = refl

  now_is : (p : List Segment) → IsTrue (is_defined now p) ↔ IsTrue (is_some (objects_of_both first t p))
  now_is p = let e = sym (there now p) ∙ ap (λ (N : Namespace). is_some (N p)) both_are in (λ h. sym e ∙ h, λ h. e ∙ h)

  not_true : (b : Bool) → (not b ≡ true) ↔ (b ≡ false)
  not_true true = (λ e. absurd (true≢false (sym e)), λ e. absurd (true≢false e))
  not_true false = (λ e. refl, λ e. refl)

  pub defined_are : (p : List Segment) → Among items p ↔ ((o : ObjectTree) × (objects_of t p ≡ Some o))
  defined_are p = (
    (λ i.
        let r = (among_filter (λ q. not (is_defined known q)) (keys now) p).0 (subst (λ (l : List (List Segment)). Among l p) kept i) in
        declared.0 ((now_is p).0 ((key_is now p).0 r.0), sym (known_is p) ∙ (not_true (is_defined known p)).0 r.1)),
    (λ r.
        let d = declared.1 r in
        subst (λ (l : List (List Segment)). Among l p) (sym kept)
        ((among_filter (λ q. not (is_defined known q)) (keys now) p).1 ((key_is now p).1 ((now_is p).1 d.0), (not_true (is_defined known p)).1 (known_is p ∙ d.1)))),
  )
    where
      declared : (IsTrue (is_some (objects_of_both first t p)) × (is_some (objects_of_first first p) ≡ false)) ↔ ((o : ObjectTree) × (objects_of t p ≡ Some o))
      declared = new_object (objects_of_first first p) (objects_of t p) (taken_back depth dsdt ssdt first t alone p)

  pub defined_ascend : IsStrictlySortedBy path_cmp items
  defined_ascend = subst (IsStrictlySortedBy path_cmp) (sym kept) (IsStrictlySortedBy-filter path_cmp (λ p. not (is_defined known p)) (keys now) (keys_ascend now))
