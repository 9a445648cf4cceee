-- The paths of Aliases, as the code keeps them.
use Rattle.std.specs.Prelude.{◌++◌, ◌∷◌, ℕ, zero, suc, List, [], map, None, slice_get, slice_index_or}
use Rattle.acpi_conditions.specs.Entries.{Entry}
use Rattle.acpi_conditions.specs.EntryForms.{entry_view}
use Rattle.acpi_conditions.specs.declared.walk.Entries.{Entries}
use Rattle.acpi_locals.specs.declared.callables.AliasPaths.{AliasPaths}
use Rattle.acpi_locals.specs.Callables.{numbers_seen}

-- what is said of each number below one
abbrev pub each_below : {X : Type 0} → (ℕ → X) → ℕ → List X
each_below f zero = []
each_below f (suc n) = each_below f n ++ f n ∷ []

abbrev pub entries_in : Entries → List Entry
entries_in es = map (entry_view es.ways.now) es.paths.now.entries

abbrev pub alias_next : AliasPaths → ℕ → List ℕ
alias_next a n = numbers_seen (entries_in a.entries) (slice_get (entries_in a.entries) n)
    (slice_index_or a.paths.now n None)
