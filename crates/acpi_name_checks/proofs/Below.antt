-- The tries of a plain name, from a scope to the root.
use Rattle.std.proofs.Common.{◌≡◌, ◌≤◌, suc, Bool, true, false, not, List, [], ◌∷◌, ◌++◌, map, length, is_some, Option, Some, None, true≢false, sym, ap, ◌∙◌, arith, append_assoc, length-append}
use Rattle.std.specs.List.{last_or}
use Rattle.acpi_name.specs.Names.{Segment}
use Rattle.acpi_name.specs.Paths.{parent_of}
use Rattle.acpi_name.proofs.Parents.{parent_of_last}
use Rattle.acpi_space.proofs.Beginnings.{beginnings_push}
use Rattle.acpi_space.proofs.Climbing.{no_last}
use Rattle.acpi_conditions.specs.Entries.{Path}
use Rattle.acpi_name_checks.specs.steps.Below.{below}

below_push : (p : Path) (x g : Segment) → below (p ++ x ∷ []) g ≡ ((p ++ x ∷ []) ++ g ∷ []) ∷ below p g
below_push p x g = ap (map (λ q. q ++ g ∷ [])) (beginnings_push p x)

module _ (g : Segment) (scope path tried shorter : Path) (found more : List Path) (h : found ++ below path g ≡ below scope g) (e : tried ≡ path ++ g ∷ []) (new : more ≡ found ++ tried ∷ [])
    (o : Option Segment) (l : o ≡ last_or None path) (m : shorter ≡ parent_of path) where
  pub ends_at_root : (none : Bool) → is_some o ≡ not none → none ≡ true → more ≡ below scope g
  ends_at_root none n nt = by o n l
    where
      by : (o : Option Segment) → is_some o ≡ not none → o ≡ last_or None path → more ≡ below scope g
      by (Some x) n l = absurd (true≢false (n ∙ ap not nt))
      by None n l =
          let nil : path ≡ [] = no_last path (sym l) in
          new ∙ ap (λ t. found ++ t ∷ []) (e ∙ ap (λ p. p ++ g ∷ []) nil) ∙ ap (λ p. found ++ below p g) (sym nil) ∙ h

  last_is : (none : Bool) → is_some o ≡ not none → none ≡ false → (x : Segment) × (path ≡ shorter ++ x ∷ [])
  last_is none n nf = by o n l
    where
      by : (o : Option Segment) → is_some o ≡ not none → o ≡ last_or None path → (x : Segment) × (path ≡ shorter ++ x ∷ [])
      by None n l = absurd (true≢false (sym (n ∙ ap not nf)))
      by (Some x) n l = (x, parent_of_last path x (sym l) ∙ ap (λ q. q ++ x ∷ []) (sym m))

  pub goes_on : (none : Bool) → is_some o ≡ not none → none ≡ false → more ++ below shorter g ≡ below scope g
  goes_on none n nf =
      let x : (x : Segment) × (path ≡ shorter ++ x ∷ []) = last_is none n nf in
      ap (λ q. q ++ below shorter g) new ∙ append_assoc found (tried ∷ []) (below shorter g)
      ∙ ap (λ t. found ++ t ∷ below shorter g) (e ∙ ap (λ p. p ++ g ∷ []) x.1)
      ∙ ap (λ q. found ++ q) (sym (below_push shorter x.0 g)) ∙ ap (λ p. found ++ below p g) (sym x.1) ∙ h

  pub shrinks : (none : Bool) → is_some o ≡ not none → none ≡ false → suc (length shorter) ≤ length path
  shrinks none n nf =
      let x : (x : Segment) × (path ≡ shorter ++ x ∷ []) = last_is none n nf in
      omega (arith, ap length x.1, length-append shorter (x.0 ∷ []))
