-- A namespace laid over another, which stays as it is (ACPI 6.5, 5.3: a table declares over those loaded before it).
use Rattle.std.specs.Prelude.{◌++◌, Option, None, Some}
use Rattle.std.specs.Borrow.{Bor}
use Rattle.std.specs.FinMap.{empty, entries, from_entries}
use Rattle.acpi_space.specs.Spaces.{PathMap}
use Rattle.acpi_space.specs.declared.overlay.Overlay.{Overlay}

-- the pairs of both; where both have a path, that of the first stands
abbrev pub both : {V : Type 0} → PathMap V → PathMap V → PathMap V
both lower upper = from_entries (entries lower ++ entries upper)

-- what a borrowed space has, by what a space has; nothing, where there is none
abbrev pub lent : {V S : Type 0} → (S → PathMap V) → Option (Bor S) → PathMap V
lent contents None = empty
lent contents (Some s) = contents s.now

-- what the space below has
abbrev pub lower_of : {V S : Type 0} → (S → PathMap V) → Overlay S → PathMap V
lower_of contents o = lent contents o.lower

-- what the space below has, and what is added
abbrev pub contents_over : {V S : Type 0} → (S → PathMap V) → Overlay S → PathMap V
contents_over contents o = both (lower_of contents o) (contents o.own)
