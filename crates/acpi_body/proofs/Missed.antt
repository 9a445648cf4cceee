-- What the search of a name misses where locals are laid over the namespace.
use Rattle.std.proofs.Common.{◌≡◌, ℕ, ◌+◌, ◌-◌, Bool, true, false, List, [], ◌∷◌, ◌++◌, map, find, length, take, Option, Some, None, is_some, Result, Ok, Err, sym, ap, ◌∙◌}
use Rattle.std.specs.Prelude.{IfOk}
use Rattle.std.specs.List.{filter}
use Rattle.std.specs.Option.{option_map}
use Rattle.acpi_name.specs.Names.{Segment}
use Rattle.acpi_space.specs.Search.{beginnings, skipped}
use Rattle.acpi_space.proofs.Beginnings.{find_map, found_there, not_found}
use Rattle.acpi_space.specs.Wanted.{Wants}
use Rattle.acpi_space.proofs.MissedPaths.{missed_none, missed_some, skipped_map}
use Rattle.acpi_body.specs.Misses.{unless_found}

-- whether a plain name is found, by what the nearest scope is
module _ (p : List Segment → Bool) (g : Segment) (xs : List Segment) (r : Option ℕ) (e : r ≡ option_map length (find (λ q. p (q ++ g ∷ [])) (beginnings xs))) where
  found_as : (o : Option (List Segment)) → find (λ q. p (q ++ g ∷ [])) (beginnings xs) ≡ o → find p (map (λ q. q ++ g ∷ []) (beginnings xs)) ≡ option_map (λ q. q ++ g ∷ []) o
  found_as o f = find_map p (λ q. q ++ g ∷ []) (beginnings xs) ∙ ap (option_map (λ q. q ++ g ∷ [])) f

  pub is_found : (depth : ℕ) → r ≡ Some depth → true ≡ is_some (find p (map (λ q. q ++ g ∷ []) (beginnings xs)))
  is_found depth f = sym (ap is_some (found_as (Some (take depth xs)) (found_there (λ q. p (q ++ g ∷ [])) xs r depth e f)))

  pub is_not_found : r ≡ None → false ≡ is_some (find p (map (λ q. q ++ g ∷ []) (beginnings xs)))
  is_not_found f = sym (ap is_some (found_as None (not_found (find (λ q. p (q ++ g ∷ [])) (beginnings xs)) length r e f)))

  abbrev below_each : List (List Segment) → List (List Segment)
  below_each = map (λ q. q ++ g ∷ [])

  -- what is asked for of the paths that are missed
  asked : (w : Wants) (n : ℕ) (m : List Segment) (items : List (List Segment)) → skipped (λ q. p (q ++ g ∷ [])) (beginnings xs) ≡ take (length xs + 1 - n) (beginnings xs)
      → items ≡ filter w (below_each (take (length m + 1 - n) (beginnings m))) → m ≡ xs → items ≡ filter w (skipped p (below_each (beginnings xs)))
  asked w n m items k i s =
      i ∙ ap (λ (t : List Segment). filter w (below_each (take (length t + 1 - n) (beginnings t)))) s
      ∙ ap (λ (l : List (List Segment)). filter w (below_each l)) (sym k) ∙ ap (filter w) (sym (skipped_map p (λ q. q ++ g ∷ []) (beginnings xs)))

  pub asked_inside : (w : Wants) (depth : ℕ) (m : List Segment) (items : List (List Segment)) → r ≡ Some depth
      → items ≡ filter w (below_each (take (length m + 1 - (depth + 1)) (beginnings m))) → m ≡ xs → items ≡ filter w (skipped p (below_each (beginnings xs)))
  asked_inside w depth m items f = asked w (depth + 1) m items (missed_some (λ q. p (q ++ g ∷ [])) xs r depth e f)

  pub asked_everywhere : (w : Wants) (m : List Segment) (items : List (List Segment)) → r ≡ None
      → items ≡ filter w (below_each (take (length m + 1 - 0) (beginnings m))) → m ≡ xs → items ≡ filter w (skipped p (below_each (beginnings xs)))
  asked_everywhere w m items f = asked w 0 m items (missed_none (λ q. p (q ++ g ∷ [])) xs r e f)

pub awaited_there : {E : Type 0} (r : Result (Option (List Segment)) E) (answered place : Option (List Segment)) → answered ≡ None
    → IfOk r (λ p. p ≡ place) → IfOk r (λ p. p ≡ unless_found answered place)
awaited_there (Ok p) answered place e h = h ∙ ap (λ o. unless_found o place) (sym e)
awaited_there (Err f) answered place e h = tt
