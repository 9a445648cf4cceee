-- Where one term puts its object or which scope it opens, or the first refusal and the path that it names (ACPI 6.5,
-- 5.3).
use Rattle.std.specs.Prelude.{◌≡◌, ◌≢◌, cond, List, [], ◌∷◌, Option, Some, None, Result, Ok, Err}
use Rattle.acpi_name.specs.Names.{Segment, NameParts}
use Rattle.acpi_name.specs.Paths.{place_of, parent_of}
use Rattle.acpi_space.specs.Lookups.{is_defined_in}
use Rattle.acpi_space.specs.Search.{answer}
use Rattle.acpi_tree.specs.Objects.{ObjectTree, opens_scope}
use Rattle.acpi_pass.specs.declared.refusal.Refusal.{Refusal}
use Rattle.acpi_pass.specs.declared.refusal.Refusal.TheVariants.{EmptyName, AboveRoot, Missing, NoParent, NotAScope, Taken}
use Rattle.acpi_pass.specs.Namespace.{Namespace, IsOpen}
use Rattle.acpi_pass.specs.Sites.{Effect, declares, opens, expects}

-- ---- in plain facts

-- in the scope, the name declares the path
pub record IsDeclared (objects : Namespace) (scope : List Segment) (name : NameParts)
    (path : List Segment) : Type 0 where
  pub has_segments : name.segments ≢ []
  pub placed : place_of scope name ≡ Some path
  pub parent : IsOpen objects (parent_of path)
  pub free : objects path ≡ None

-- .. and the name opens the scope at the path
pub record IsOpened (objects : Namespace) (scope : List Segment) (name : NameParts)
    (path : List Segment) : Type 0 where
  pub found : answer (is_defined_in objects) scope name ≡ Some path
  pub open_there : IsOpen objects path

-- an External stands for no path
abbrev pub IsExpected : Namespace → List Segment → NameParts → List Segment → Type 0
IsExpected objects scope name path = path ≡ []

abbrev pub IsPlaced : Effect → Namespace → List Segment → NameParts → List Segment → Type 0
IsPlaced (declares o links code) = IsDeclared
IsPlaced opens = IsOpened
IsPlaced (expects count) = IsExpected

-- ---- with the refusals, in their order

abbrev pub RefusedAt : Type 0
RefusedAt = Refusal × List Segment

abbrev pub Placed : Type 0
Placed = Result (List Segment) RefusedAt

abbrev pub if_open : List Segment → Option ObjectTree → Placed → Placed
if_open p None r = Err (NotAScope, p)
if_open p (Some o) r = cond (opens_scope o) r (Err (NotAScope, p))

abbrev pub if_free : Namespace → List Segment → Placed
if_free objects p = cond (is_defined_in objects p) (Err (Taken, p)) (Ok p)

abbrev pub below : Namespace → List Segment → Option ObjectTree → Placed
below objects p None = Err (NoParent, parent_of p)
below objects p (Some o) = if_open (parent_of p) (Some o) (if_free objects p)

abbrev pub declared_in : Namespace → List Segment → List Segment → Option (List Segment) → Placed
declared_in objects s [] place = Err (EmptyName, s)
declared_in objects s (g ∷ gs) None = Err (AboveRoot, s)
declared_in objects s (g ∷ gs) (Some p) = below objects p (objects (parent_of p))

abbrev pub declared_path : Namespace → List Segment → NameParts → Placed
declared_path objects s n = declared_in objects s n.segments (place_of s n)

abbrev pub opened_in : Namespace → List Segment → Option (List Segment) → Option (List Segment)
    → Placed
opened_in objects s None found = Err (AboveRoot, s)
opened_in objects s (Some p) None = Err (Missing, p)
opened_in objects s (Some p) (Some t) = if_open t (objects t) (Ok t)

abbrev pub opened_path : Namespace → List Segment → NameParts → Placed
opened_path objects s n = opened_in objects s (place_of s n) (answer (is_defined_in objects) s n)

abbrev pub placed_path : Effect → Namespace → List Segment → NameParts → Placed
placed_path (declares o links code) objects s n = declared_path objects s n
placed_path opens objects s n = opened_path objects s n
placed_path (expects count) objects s n = Ok []
