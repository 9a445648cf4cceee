-- How values are kept by their places.
use Rattle.std.specs.Prelude.{ℕ, Option}
use Rattle.std.specs.Option.{option_map}
use Rattle.std.specs.Ordering.{nat_cmp}
use Rattle.std.specs.BTreeMap.{get}
use Rattle.acpi_ranges.specs.declared.by_place.ByPlace.{ByPlace}

abbrev pub kept_at : {T : Type 0} → ByPlace T → ℕ → Option T
kept_at m place = option_map (λ x. x.now) (get nat_cmp m.kept place)
