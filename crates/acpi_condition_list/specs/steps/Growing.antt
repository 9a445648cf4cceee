-- Lists that grow at their end, and the names for which a term asks.
use Rattle.std.specs.Prelude.{◌≡◌, ◌++◌, List, Option, Some}
use Rattle.acpi_name.specs.Names.{NameParts}
use Rattle.acpi_conditions.specs.Entries.{Entry}
use Rattle.acpi_entries.specs.Condition.{PlacedParts, literal_at, needs}

abbrev pub Grows : {X : Type 0} → List X → List X → Type 0
Grows {X} old new = (more : List X) × (new ≡ old ++ more)

-- that the term of an entry asks for a name
abbrev pub needs_literal : Entry → NameParts → Option PlacedParts
needs_literal e n = Some (literal_at e.term.place (needs n))
