-- The nearest scope in a tree, by one walk down.
use Rattle.std.proofs.Common.{◌≡◌, ℕ, suc, ◌+◌, ◌<◌, Bool, true, false, cond, List, [], ◌∷◌, ◌++◌, find, length, drop, Option, Some, None, is_some, slice_get, slice_index_or, refl, sym, ap, ◌∙◌, arith}
use Rattle.std.specs.Option.{option_map, option_or, option_and_then}
use Rattle.std.proofs.lemmas.List.{drop_more, drop_all}
use Rattle.acpi_name.specs.Names.{Segment}
use Rattle.acpi_space.specs.declared.nodes.Node.{Node}
use Rattle.acpi_space.specs.Search.{beginnings}
use Rattle.acpi_space.specs.steps.Tree.{child_at, node_value, reached, value_below}
use Rattle.acpi_space.proofs.Beginnings.{found_cons}

-- whether a node has a child at the segment with a value
abbrev pub has_child : {V : Type 0} → List (Node V) → ℕ → Segment → Bool
has_child nodes n g = is_some (value_below nodes n (g ∷ []))

abbrev pub nearest_of : {V : Type 0} → List (Node V) → List Segment → Segment → Option ℕ
nearest_of nodes scope g = option_map length (find (λ q. is_some (value_below nodes 0 (q ++ g ∷ []))) (beginnings scope))

-- what the walk finds from a node on, at a depth and with what was found above it
abbrev pub nearest_from : {V : Type 0} → List (Node V) → ℕ → Segment → ℕ → List Segment → Option ℕ → Option ℕ
nearest_from nodes n g depth xs found = option_or (option_map (λ q. depth + length q) (find (λ q. is_some (value_below nodes n (q ++ g ∷ []))) (beginnings xs))) found

pub nearest_start : {V : Type 0} (nodes : List (Node V)) (scope : List Segment) (g : Segment) → nearest_from nodes 0 g 0 scope None ≡ nearest_of nodes scope g
nearest_start nodes scope g = by (find (λ q. is_some (value_below nodes 0 (q ++ g ∷ []))) (beginnings scope))
  where
    by : (o : Option (List Segment)) → option_or (option_map (λ q. 0 + length q) o) None ≡ option_map length o
    by None = refl
    by (Some q) = let e : 0 + length q ≡ length q = omega arith in ap Some e

one_deeper : (o : Option (List Segment)) (x : Segment) (hit : Bool) (depth : ℕ) (found : Option ℕ)
    → option_or (option_map (λ q. depth + length q) (option_or (option_map (λ q. x ∷ q) o) (cond hit (Some []) None))) found
    ≡ option_or (option_map (λ q. (depth + 1) + length q) o) (cond hit (Some depth) found)
one_deeper (Some q) x hit depth found = let e : depth + suc (length q) ≡ (depth + 1) + length q = omega arith in ap Some e
one_deeper None x true depth found = let e : depth + 0 ≡ depth = omega arith in ap Some e
one_deeper None x false depth found = refl

never : {A : Type 0} (l : List A) → find (λ _. false) l ≡ None
never [] = refl
never (x ∷ l) = never l

-- what is found below a node, by its child
abbrev below_child : {V : Type 0} → List (Node V) → Segment → List Segment → Option ℕ → Option (List Segment)
below_child nodes g xs o = find (λ q. is_some (option_and_then (λ k. node_value (slice_get nodes k)) (option_and_then (λ m. reached nodes m (q ++ g ∷ [])) o))) (beginnings xs)

pub nearest_step : {V : Type 0} (nodes : List (Node V)) (n m : ℕ) (g x : Segment) (depth : ℕ) (xs : List Segment) (found : Option ℕ) → child_at nodes n x ≡ Some m
    → nearest_from nodes n g depth (x ∷ xs) found ≡ nearest_from nodes m g (depth + 1) xs (cond (has_child nodes n g) (Some depth) found)
nearest_step nodes n m g x depth xs found e =
    ap (λ o. option_or (option_map (λ q. depth + length q) o) found) (found_cons (λ q. is_some (value_below nodes n (q ++ g ∷ []))) x xs)
    ∙ one_deeper _ x (has_child nodes n g) depth found
    ∙ ap (λ o. option_or (option_map (λ q. (depth + 1) + length q) (below_child nodes g xs o)) (cond (has_child nodes n g) (Some depth) found)) e

pub nearest_stop : {V : Type 0} (nodes : List (Node V)) (n : ℕ) (g x : Segment) (depth : ℕ) (xs : List Segment) (found : Option ℕ) → child_at nodes n x ≡ None
    → nearest_from nodes n g depth (x ∷ xs) found ≡ cond (has_child nodes n g) (Some depth) found
nearest_stop nodes n g x depth xs found e =
    ap (λ o. option_or (option_map (λ q. depth + length q) o) found) (found_cons (λ q. is_some (value_below nodes n (q ++ g ∷ []))) x xs)
    ∙ one_deeper _ x (has_child nodes n g) depth found
    ∙ ap (λ o. option_or (option_map (λ q. (depth + 1) + length q) (below_child nodes g xs o)) (cond (has_child nodes n g) (Some depth) found)) e
    ∙ ap (λ o. option_or (option_map (λ q. (depth + 1) + length q) o) (cond (has_child nodes n g) (Some depth) found)) (never (beginnings xs))

abbrev root_if : Bool → Option (List Segment)
root_if hit = cond hit (Some []) None

pub nearest_end : {V : Type 0} (nodes : List (Node V)) (n : ℕ) (g : Segment) (depth : ℕ) (found : Option ℕ)
    → nearest_from nodes n g depth [] found ≡ cond (has_child nodes n g) (Some depth) found
nearest_end nodes n g depth found = by (has_child nodes n g)
  where
    by : (hit : Bool) → option_or (option_map (λ q. depth + length q) (root_if hit)) found ≡ cond hit (Some depth) found
    by true = let e : depth + 0 ≡ depth = omega arith in ap Some e
    by false = refl

-- .. in the middle of a scope
scope_at : (scope : List Segment) (depth : ℕ) (x : Segment) → depth < length scope → x ≡ slice_index_or scope depth x → drop depth scope ≡ x ∷ drop (depth + 1) scope
scope_at scope depth x h e = drop_more scope depth x h ∙ ap (λ y. y ∷ drop (depth + 1) scope) (sym e)

pub walked_on : {V : Type 0} (nodes : List (Node V)) (n m : ℕ) (g x : Segment) (depth : ℕ) (scope : List Segment) (found : Option ℕ)
    → depth < length scope → x ≡ slice_index_or scope depth x → child_at nodes n x ≡ Some m
    → nearest_from nodes n g depth (drop depth scope) found ≡ nearest_of nodes scope g
    → nearest_from nodes m g (depth + 1) (drop (depth + 1) scope) (cond (has_child nodes n g) (Some depth) found) ≡ nearest_of nodes scope g
walked_on nodes n m g x depth scope found h i e inv =
    sym (nearest_step nodes n m g x depth (drop (depth + 1) scope) found e) ∙ ap (λ xs. nearest_from nodes n g depth xs found) (sym (scope_at scope depth x h i)) ∙ inv

pub walk_stopped : {V : Type 0} (nodes : List (Node V)) (n : ℕ) (g x : Segment) (depth : ℕ) (scope : List Segment) (found : Option ℕ)
    → depth < length scope → x ≡ slice_index_or scope depth x → child_at nodes n x ≡ None
    → nearest_from nodes n g depth (drop depth scope) found ≡ nearest_of nodes scope g
    → cond (has_child nodes n g) (Some depth) found ≡ nearest_of nodes scope g
walk_stopped nodes n g x depth scope found h i e inv =
    sym (nearest_stop nodes n g x depth (drop (depth + 1) scope) found e) ∙ ap (λ xs. nearest_from nodes n g depth xs found) (sym (scope_at scope depth x h i)) ∙ inv

pub walk_through : {V : Type 0} (nodes : List (Node V)) (n : ℕ) (g : Segment) (depth : ℕ) (scope : List Segment) (found : Option ℕ)
    → length scope ≡ depth
    → nearest_from nodes n g depth (drop depth scope) found ≡ nearest_of nodes scope g
    → cond (has_child nodes n g) (Some (length scope)) found ≡ nearest_of nodes scope g
walk_through nodes n g depth scope found h inv =
    ap (λ d. cond (has_child nodes n g) (Some d) found) h
    ∙ sym (nearest_end nodes n g depth found) ∙ ap (λ xs. nearest_from nodes n g depth xs found) (sym (drop_all depth scope (omega arith))) ∙ inv
