-- Paths and the numbers of their entries, by path (ACPI 6.5, 5.3).
use Rattle.std.specs.Prelude.{ℕ, suc, List, [], ◌∷◌}
use Rattle.std.specs.Borrow.{Bor}
use Rattle.std.specs.List.Sorted.{IsPermutation, IsSorted}
use Rattle.std.specs.Ordering.{ordering_then, nat_cmp}
use Rattle.std.specs.declared.cmp.Ordering.{Ordering}
use Rattle.acpi_name.specs.Paths.{path_cmp}
use Rattle.acpi_conditions.specs.Entries.{Path}

-- paths and numbers, in the order of the paths, those of one path in the order of the numbers
abbrev pub numbered_from : ℕ → List Path → List (Path × ℕ)
numbered_from n [] = []
numbered_from n (p ∷ ps) = (p, n) ∷ numbered_from (suc n) ps

abbrev pub numbered_cmp : Path × ℕ → Path × ℕ → Ordering
numbered_cmp x y = ordering_then (path_cmp x.0 y.0) (nat_cmp x.1 y.1)

-- each of the paths is there once, with its number
pub record AreByPath (paths : List Path) (order : List (Path × ℕ)) : Type 0 where
  pub each : IsPermutation (numbered_from 0 paths) order
  pub ascending : IsSorted numbered_cmp order

-- a path that is lent, and a number
abbrev pub lent_pair : Bor Path × ℕ → Path × ℕ
lent_pair x = (x.0.now, x.1)
