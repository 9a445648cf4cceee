-- Justified listings: the scope and the path of each site of a table, and the first site that has none (ACPI 6.5, 5.3).
use Rattle.std.specs.Prelude.{◌≡◌, ℕ, zero, suc, List, [], ◌∷◌, ◌++◌, map, Option, Some, None, Err, ⊤}
use Rattle.acpi_name.specs.Names.{Segment}
use Rattle.acpi_space.specs.Lookups.{nothing, singleton, union}
use Rattle.acpi_pass.specs.Namespace.{Namespace}
use Rattle.acpi_pass.specs.Sites.{Effect, declares, opens, expects, Step, Site}
use Rattle.acpi_pass.specs.Placing.{RefusedAt, IsPlaced, placed_path}

-- a step, the scope in which it was made, and the path that it declares or opens
pub record Placement : Type 0 where
  pub step : Step
  pub scope : List Segment
  pub path : List Segment

abbrev pub object_by : Effect → List Segment → Namespace
object_by (declares o links code) p = singleton p o
object_by opens p = nothing
object_by (expects count) p = nothing

-- the one object that an entry declares
abbrev pub object_of : Placement → Namespace
object_of e = object_by e.step.effect e.path

-- the objects that the entries declare
abbrev pub objects_of : List Placement → Namespace
objects_of [] = nothing
objects_of (e ∷ es) = union (object_of e) (objects_of es)

abbrev pub path_at : List (List Segment) → ℕ → List Segment
path_at [] k = []
path_at (p ∷ ps) zero = p
path_at (p ∷ ps) (suc k) = path_at ps k

-- the scope inside the site at that place, by the paths of the sites; the root, where there is none
abbrev pub scope_within : List (List Segment) → Option ℕ → List Segment
scope_within paths None = []
scope_within paths (Some k) = path_at paths k

-- each entry is of its site and right in the namespace of its moment; `before` are the paths of the earlier entries
abbrev pub IsJustified : Namespace → List (List Segment) → List Site → List Placement → Type 0
IsJustified objects before [] [] = ⊤
IsJustified objects before (x ∷ xs) (e ∷ es) =
    (e.step ≡ x.step) × (e.scope ≡ scope_within before x.inside)
    × IsPlaced e.step.effect objects e.scope e.step.name e.path
    × IsJustified (union objects (object_of e)) (before ++ e.path ∷ []) xs es
IsJustified objects before [] (e ∷ es) = ⊥
IsJustified objects before (x ∷ xs) [] = ⊥

-- the entries of a table's sites
abbrev pub IsListing : Namespace → List Site → List Placement → Type 0
IsListing objects xs es = IsJustified objects [] xs es

abbrev pub paths_of : List Placement → List (List Segment)
paths_of es = map (λ e. e.path) es

-- the sites up to one have a listing, and that one is refused behind it
pub record IsFirstRefusal (objects : Namespace) (xs : List Site) (f : RefusedAt) : Type 0 where
  pub earlier : List Site
  pub site : Site
  pub later : List Site
  pub placements : List Placement
  pub splits : xs ≡ earlier ++ site ∷ later
  pub listing : IsListing objects earlier placements
  pub refused : placed_path site.step.effect (union objects (objects_of placements))
      (scope_within (paths_of placements) site.inside) site.step.name ≡ Err f
