-- How many values follow a name, by what it may be (ACPI 6.5, 5.3 and 20.2.5).
use Rattle.std.specs.Prelude.{ℕ, Bool, false, cond, nat_eq, List, [], ◌∷◌, map, Option, Some, None, slice_index_or}
use Rattle.std.specs.List.{flat_map, list_all}
use Rattle.acpi_name.specs.Names.{NameParts}
use Rattle.acpi_space.specs.Lookups.{Lookup}
use Rattle.acpi_body.specs.Arguments.{expected_at, expected_place}
use Rattle.acpi_conditions.specs.Entries.{Path}

abbrev pub is_count : ℕ → Option ℕ → Bool
is_count n None = false
is_count n (Some m) = nat_eq n m

-- the one count, if there is one and all are equal
abbrev pub agreed : List (Option ℕ) → Option ℕ
agreed [] = None
agreed (None ∷ cs) = None
agreed (Some n ∷ cs) = cond (list_all (is_count n) cs) (Some n) None

-- the counts of the entries of these numbers
abbrev pub counts_numbered : List (Option ℕ) → List ℕ → List (Option ℕ)
counts_numbered cs ns = map (λ n. slice_index_or cs n None) ns

-- by the counts of what is at a path, of a name that is searched from a scope and may be at these paths; where it is
-- nowhere, what Externals say
abbrev pub count_of : Lookup ℕ → Path → (Path → List (Option ℕ)) → NameParts → List Path → Option ℕ
count_of externals s counts n [] = Some (expected_at externals (expected_place externals s n))
count_of externals s counts n (p ∷ ps) = agreed (flat_map counts (p ∷ ps))
