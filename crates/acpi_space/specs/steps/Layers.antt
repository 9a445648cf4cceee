-- What the two parts of a namespace give together.
use Rattle.std.specs.Prelude.{◌≡◌, ◌++◌, ℕ, max, List, map, filter, not, Option, None, Some}
use Rattle.std.specs.Borrow.{Bor}
use Rattle.std.specs.FinMap.{from_entries}
use Rattle.acpi_name.specs.Names.{Segment}
use Rattle.acpi_space.specs.Overlays.{lent}
use Rattle.acpi_space.specs.Spaces.{PathMap, is_defined}
use Rattle.acpi_space.specs.declared.overlay.OwnPaths.{OwnPaths}

-- the greater of two lengths, where both are there
abbrev pub longer : Option ℕ → Option ℕ → Option ℕ
longer None b = b
longer (Some a) None = Some a
longer (Some a) (Some b) = Some (max a b)

-- pairs whose values are lent, as a finite map
abbrev pub pairs_of : {V : Type 0} → List (List Segment × Bor V) → PathMap V
pairs_of es = from_entries (map (λ e. (e.0, e.1.now)) es)

-- the paths of these pairs that the lent space has not stand behind the first ones
pub record AddsOwn {V S : Type 0} (contents : S → PathMap V) (first : OwnPaths S)
    (pairs : List (List Segment × V)) (now : OwnPaths S) : Type 0 where
  pub lower : now.lower ≡ first.lower
  pub paths : now.paths.items
      ≡ first.paths.items
      ++ filter (λ p. not (is_defined (lent contents first.lower) p)) (map (λ e. e.0) pairs)
