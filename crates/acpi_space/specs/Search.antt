-- The search of a name from a scope, over any test of paths (ACPI 6.5, 5.3).
use Rattle.std.specs.Prelude.{Bool, cond, List, [], ◌∷◌, ◌++◌, map, find, option_to_list, Option, None, Some}
use Rattle.acpi_name.specs.Names.{Segment, NameParts, plain_segment}
use Rattle.acpi_name.specs.Paths.{place_of}

-- the beginnings of a path, the longest first: a scope, its parent and so on to the root
abbrev pub beginnings : {A : Type 0} → List A → List (List A)
beginnings [] = [] ∷ []
beginnings (x ∷ xs) = map (λ q. x ∷ q) (beginnings xs) ++ [] ∷ []

abbrev pub tries_of : List Segment → NameParts → Option Segment → List (List Segment)
tries_of s n (Some g) = map (λ q. q ++ g ∷ []) (beginnings s)
tries_of s n None = option_to_list (place_of s n)

-- where a name may stand, the innermost first: a plain name in the scope and in each of its parents, any other at its
-- place
abbrev pub tries : List Segment → NameParts → List (List Segment)
tries s n = tries_of s n (plain_segment n)

-- what the search of a name from a scope finds: the first of these paths that is defined
abbrev pub answer : (List Segment → Bool) → List Segment → NameParts → Option (List Segment)
answer defined s n = find defined (tries s n)

-- what stands before the first element that passes the test; all, where none does
abbrev pub skipped : {A : Type 0} → (A → Bool) → List A → List A
skipped test [] = []
skipped test (x ∷ xs) = cond (test x) [] (x ∷ skipped test xs)

-- the paths that the search tried in vain, the innermost first
abbrev pub missed : (List Segment → Bool) → List Segment → NameParts → List (List Segment)
missed defined s n = skipped defined (tries s n)

-- the innermost beginning of the scope below which the segment is defined
abbrev pub nearest_scope : (List Segment → Bool) → List Segment → Segment → Option (List Segment)
nearest_scope defined s g = find (λ q. defined (q ++ g ∷ [])) (beginnings s)
