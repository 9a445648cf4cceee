-- Names that predicates around and before a line show to be declared (ACPI 6.5, 5.3 and 19.6.14).
use Rattle.std.specs.Prelude.{◌-◌, ℕ, Bool, cond, is_some, nat_eq, List, [], Option, Some, None, slice_get}
use Rattle.std.specs.List.{list_any, starts_with}
use Rattle.std.specs.Cmp.Lexicographic.{pointwise}
use Rattle.acpi_name.specs.Names.{NameParts, plain_segment}
use Rattle.acpi_space.specs.Lookups.{is_same_path}
use Rattle.acpi_space.specs.Search.{tries}
use Rattle.acpi_conditions.specs.Entries.{Path}
use Rattle.acpi_uses.specs.Guards.{GuardedTree}

abbrev pub is_plain : NameParts → Bool
is_plain n = is_some (plain_segment n)

-- what is searched for at a path is shown by what stands there; a name that isn't plain also by what stands above
abbrev pub is_shown_by : (plain : Bool) → (tried shown : Path) → Bool
is_shown_by plain tried shown =
    cond plain (is_same_path tried shown) (starts_with (pointwise nat_eq) tried shown)

-- at one of some paths, by one of others
abbrev pub is_one_shown : (plain : Bool) → (tried shown : List Path) → Bool
is_one_shown plain tried shown = list_any (λ p. list_any (is_shown_by plain p) shown) tried

-- a name is guarded, from a scope, where these names are shown
abbrev pub is_guarded : Path → (shown : List NameParts) → NameParts → Bool
is_guarded s shown n = list_any (λ m. is_one_shown (is_plain n) (tries s n) (tries s m)) shown

-- the names that are shown at a line of a body, from 1
abbrev pub shown_in : Option GuardedTree → List NameParts
shown_in None = []
shown_in (Some g) = g.0

abbrev pub shown_at : List GuardedTree → (line : ℕ) → List NameParts
shown_at gs line = cond (nat_eq line 0) [] (shown_in (slice_get gs (line - 1)))
