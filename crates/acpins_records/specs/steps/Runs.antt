-- Objects one after another that stand below one.
use Rattle.std.specs.Prelude.{◌≡◌, ◌<◌, ◌≤◌, ℕ, List, length, Some, slice_get, slice_index}
use Rattle.std.specs.declared.cmp.Ordering.TheVariants.{Less}
use Rattle.acpi_name.specs.Names.{Segment}
use Rattle.acpi_name.specs.Paths.{path_cmp}
use Rattle.acpins_records.specs.Tree.{IsBelow, IsParent}

-- each path is before those behind it
abbrev pub Ascend : List (List Segment) → Type 0
Ascend paths = (i j : ℕ) (p q : List Segment) → i < j → slice_get paths i ≡ Some p
    → slice_get paths j ≡ Some q → path_cmp p q ≡ Less

-- the number at each place is that of the object in which that place's stands
abbrev pub AreParents : List (List Segment) → List ℕ → Type 0
AreParents paths parents = (k : ℕ) → k < length paths → IsParent paths k (slice_index parents k)

-- those behind place k, up to place n, stand below that of place k
pub record RunTo (paths : List (List Segment)) (k n : ℕ) : Type 0 where
  pub within : (k < n) × (n ≤ length paths)
  pub below : (i : ℕ) (p q : List Segment) → slice_get paths k ≡ Some p → slice_get paths i ≡ Some q
      → k < i → i < n → IsBelow p q

-- .. and that of place n doesn't
pub record RunsTo (paths : List (List Segment)) (k n : ℕ) : Type 0 where
  pub run : RunTo paths k n
  pub next : (p q : List Segment) → slice_get paths k ≡ Some p → slice_get paths n ≡ Some q
      → IsBelow p q → ⊥
