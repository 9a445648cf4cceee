-- The paths that a load of two tables missed: by links, by Scope terms of the second, and by bodies of both.
use Rattle.std.proofs.Common.{◌≡◌, ◌⊎◌, ◌↔◌, inl, inr, ℕ, List, [], ◌∷◌, subst}
use Rattle.std.specs.Prelude.{IsTrue}
use Rattle.std.specs.FinMap.{empty, keys}
use Rattle.acpi_name.specs.Names.{Segment}
use Rattle.acpi_space.specs.Laws.{Among}
use Rattle.acpi_space.specs.Spaces.{is_defined}
use Rattle.acpi_pass.specs.Pending.{IsMissedLink}
use Rattle.acpi_declare.specs.Links.{all_pending}
use Rattle.acpi_declare.specs.Notes.{scope_misses}
use Rattle.acpi_body.specs.steps.Gathering.{Paths, Grows}
use Rattle.acpi_body.proofs.Grown.{from_none, grows_then}
use Rattle.acpi_body.proofs.Listed.{paths_among}
use Rattle.acpi_order.specs.Bodies.{Method, methods_of}
use Rattle.acpi_order.specs.Misses.{Listing, objects_of_first, objects_of_both, IsBodyMiss, IsMiss}
use Rattle.acpi_order.proofs.Lists.{of_two, first_of, second_of}
use Rattle.acpi_verdict.specs.steps.Misses.{IsMissedByAny}

module _ (depth : ℕ) (first t : Listing) where
  -- missed by links or Scope terms; by a body of the first table too; by a body of one of the two
  abbrev IsScoped : (List Segment → Type 0) → List Segment → Type 0
  IsScoped Linked p = Linked p ⊎ Among (scope_misses (objects_of_first first) t) p

  abbrev IsOnce : (List Segment → Type 0) → List Segment → Type 0
  IsOnce Linked p = IsScoped Linked p ⊎ IsMissedByAny depth (objects_of_both first t) (methods_of first) p

  abbrev IsFound : (List Segment → Type 0) → List Segment → Type 0
  IsFound Linked p = IsOnce Linked p ⊎ IsMissedByAny depth (objects_of_both first t) (methods_of t) p

  to_miss : (Linked : List Segment → Type 0) → ((p : List Segment) → Linked p ↔ IsMissedLink (objects_of_both first t) (all_pending (first ∷ t ∷ [])) p)
      → (p : List Segment) → IsFound Linked p → IsMiss depth first t p
  to_miss Linked links p (inl (inl (inl h))) = let r = (links p).0 h in inr (inl (r.0, r.1, (r.2, r.3, r.4)))
  to_miss Linked links p (inl (inl (inr h))) = inl h
  to_miss Linked links p (inl (inr h)) = inr (inr (h.0, first_of (methods_of first) (methods_of t) h.0 h.1, h.2))
  to_miss Linked links p (inr h) = inr (inr (h.0, second_of (methods_of first) (methods_of t) h.0 h.1, h.2))

  of_body : (Linked : List Segment → Type 0) (p : List Segment) (m : Method) → Among (methods_of first) m ⊎ Among (methods_of t) m → IsBodyMiss depth (objects_of_both first t) m p
      → IsFound Linked p
  of_body Linked p m (inl i) h = inl (inr (m, i, h))
  of_body Linked p m (inr i) h = inr (m, i, h)

  from_miss : (Linked : List Segment → Type 0) → ((p : List Segment) → Linked p ↔ IsMissedLink (objects_of_both first t) (all_pending (first ∷ t ∷ [])) p)
      → (p : List Segment) → IsMiss depth first t p → IsFound Linked p
  from_miss Linked links p (inl h) = inl (inl (inr h))
  from_miss Linked links p (inr (inl (w, i, h))) = inl (inl (inl ((links p).1 (w, i, h.0, h.1, h.2))))
  from_miss Linked links p (inr (inr (m, i, h))) = of_body Linked p m (of_two (methods_of first) (methods_of t) m i) h

  -- what was gathered, in turn, is what the load missed
  pub missed_are : (none linked scoped once twice : Paths) (links : List (List Segment)) → none ≡ empty → Grows none linked (Among links)
      → ((p : List Segment) → Among links p ↔ IsMissedLink (objects_of_both first t) (all_pending (first ∷ t ∷ [])) p)
      → Grows linked scoped (Among (scope_misses (objects_of_first first) t))
      → Grows scoped once (IsMissedByAny depth (objects_of_both first t) (methods_of first)) → Grows once twice (IsMissedByAny depth (objects_of_both first t) (methods_of t))
      → (items : List (List Segment)) → items ≡ keys twice → (p : List Segment) → Among items p ↔ IsMiss depth first t p
  missed_are none linked scoped once twice links is_none with_links are with_scopes with_first with_second items list =
      paths_among twice (IsMiss depth first t) items list (λ p. let r = all p in (λ h. to_miss (Among links) are p (r.0 h), λ h. r.1 (from_miss (Among links) are p h)))
    where
      all : (p : List Segment) → IsTrue (is_defined twice p) ↔ IsFound (Among links) p
      all = from_none twice (IsFound (Among links))
          (grows_then empty once twice (IsOnce (Among links)) (IsMissedByAny depth (objects_of_both first t) (methods_of t))
          (grows_then empty scoped once (IsScoped (Among links)) (IsMissedByAny depth (objects_of_both first t) (methods_of first))
          (grows_then empty linked scoped (Among links) (Among (scope_misses (objects_of_first first) t))
          (subst (λ (m : Paths). Grows m linked (Among links)) is_none with_links) with_scopes) with_first) with_second)
