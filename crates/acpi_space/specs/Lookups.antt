-- Maps from paths as lookups: what stands at each path, whatever keeps it (ACPI 6.5, 5.3).
use Rattle.std.specs.Prelude.{Bool, cond, List, is_some, Option, Some, None}
use Rattle.std.specs.Option.{option_or}
use Rattle.std.specs.Ordering.{eq_by_cmp}
use Rattle.acpi_name.specs.Names.{Segment}
use Rattle.acpi_name.specs.Paths.{path_cmp}

abbrev pub Lookup : Type 0 → Type 0
Lookup V = List Segment → Option V

abbrev pub is_same_path : List Segment → List Segment → Bool
is_same_path = eq_by_cmp path_cmp

abbrev pub is_defined_in : {V : Type 0} → Lookup V → List Segment → Bool
is_defined_in values p = is_some (values p)

-- no value at any path
abbrev pub nothing : {V : Type 0} → Lookup V
nothing q = None

-- one value at one path
abbrev pub singleton : {V : Type 0} → List Segment → V → Lookup V
singleton p v q = cond (is_same_path q p) (Some v) None

-- the values of both; where both have one, that of the first stands
abbrev pub union : {V : Type 0} → Lookup V → Lookup V → Lookup V
union older newer q = option_or (older q) (newer q)
