-- Paths, and a namespace and the map that holds it.
use Rattle.std.proofs.Common.{◌≡◌, Bool, true, false, cond, List, [], ◌∷◌, ◌++◌, find, option_to_list, is_some, Option, Some, None, Ok, refl, sym, ap, ap₂, ◌∙◌}
use Rattle.std.specs.FinMap.{get}
use Rattle.std.specs.List.{last_or}
use Rattle.std.specs.Option.{option_map}
use Rattle.acpi_name.specs.Names.{Segment, NameParts}
use Rattle.acpi_name.specs.Paths.{place_of, parent_of}
use Rattle.acpi_space.specs.Spaces.{PathMap, is_defined}
use Rattle.acpi_space.specs.Search.{answer, tries}
use Rattle.acpi_space.proofs.Laid.{is_some-map}
use Rattle.acpi_tree.specs.declared.object.Object.{Object}
use Rattle.acpi_tree.specs.Objects.{object_view}
use Rattle.acpi_space.specs.Lookups.{is_defined_in}
use Rattle.acpi_pass.specs.Namespace.{namespace_of}
use Rattle.acpi_pass.specs.Placing.{if_open, opened_in, opened_path}

-- the same paths are defined in both
pub is_defined-namespace : (m : PathMap Object) → is_defined_in (namespace_of m) ≡ is_defined m
is_defined-namespace m = λ i p. is_some-map object_view (get m p) i

pub opened_is : (m : PathMap Object) (s : List Segment) (n : NameParts) (a : Option (List Segment)) → answer (is_defined m) s n ≡ a
    → opened_path (namespace_of m) s n ≡ opened_in (namespace_of m) s (place_of s n) a
opened_is m s n a e =
    ap (λ d. opened_in (namespace_of m) s (place_of s n) (answer d s n)) (is_defined-namespace m) ∙ ap (opened_in (namespace_of m) s (place_of s n)) e

-- where the search has an answer, the scope that opens is there
pub opened_found : (m : PathMap Object) (s : List Segment) (n : NameParts) (t : List Segment) → answer (is_defined m) s n ≡ Some t → ¬ (place_of s n ≡ None)
    → opened_path (namespace_of m) s n ≡ if_open t (option_map object_view (get m t)) (Ok t)
opened_found m s n t e placed = opened_is m s n (Some t) e ∙ by (place_of s n) placed
  where
    by : (place : Option (List Segment)) → ¬ (place ≡ None) → opened_in (namespace_of m) s place (Some t) ≡ if_open t (option_map object_view (get m t)) (Ok t)
    by None h = absurd (h refl)
    by (Some p) h = refl

-- a path is its parent and its last segment, where it has one
pub rejoined_parts : (p : List Segment) → parent_of p ++ option_to_list (last_or None p) ≡ p
rejoined_parts [] = refl
rejoined_parts (s ∷ []) = refl
rejoined_parts (s ∷ t ∷ ts) = ap (λ r. s ∷ r) (rejoined_parts (t ∷ ts) ∙ refl)

abbrev chosen : Bool → List Segment → Option (List Segment) → Option (List Segment)
chosen b p o = cond b (Some p) o

abbrev no_object : Option Object
no_object = None

found_defined : (defined : List Segment → Bool) (paths : List (List Segment)) (t : List Segment) → find defined paths ≡ Some t → defined t ≡ true
found_defined defined [] t e = cc
found_defined defined (p ∷ paths) t e = by (defined p) refl e (found_defined defined paths t)
  where
    by : (b : Bool) → defined p ≡ b → chosen b p (find defined paths) ≡ Some t → (find defined paths ≡ Some t → defined t ≡ true) → defined t ≡ true
    by true h k later = let same : p ≡ t = cc in ap defined (sym same) ∙ h
    by false h k later = later k

-- the path that a search answers is defined
pub answer_defined : (m : PathMap Object) (s : List Segment) (n : NameParts) (t : List Segment) → answer (is_defined m) s n ≡ Some t → ¬ (get m t ≡ None)
answer_defined m s n t e none = let never : is_some no_object ≡ true = ap is_some (sym none) ∙ found_defined (is_defined m) (tries s n) t e in cc

-- a path, by its parent and the segment that is its last
pub joined_parts : (p q : List Segment) (g : Segment) → parent_of p ≡ q → last_or None p ≡ Some g → q ++ g ∷ [] ≡ p
joined_parts p q g parent last = ap₂ (λ (r : List Segment) (o : Option Segment). r ++ option_to_list o) (sym parent) (sym last) ∙ rejoined_parts p
