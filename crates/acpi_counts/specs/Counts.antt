-- Argument counts by path, where the first count of a path stays (ACPI 6.5, 20.2.5.2 External).
use Rattle.std.specs.Prelude.{◌≡◌, ◌≤◌, ℕ, List, Option, Some, None}
use Rattle.std.specs.FinMap.{get, insert}
use Rattle.acpi_name.specs.Names.{Segment}
use Rattle.acpi_space.specs.Spaces.{PathMap}

-- a method takes at most 7 arguments
abbrev pub AreSmall : PathMap ℕ → Type 0
AreSmall counts = (p : List Segment) (n : ℕ) → get counts p ≡ Some n → n ≤ 7

abbrev pub first_of : PathMap ℕ → List Segment → ℕ → Option ℕ → PathMap ℕ
first_of counts p n None = insert counts p n
first_of counts p n (Some m) = counts

-- the counts with one more, where the path has none
abbrev pub with_first : PathMap ℕ → List Segment → ℕ → PathMap ℕ
with_first counts p n = first_of counts p n (get counts p)
