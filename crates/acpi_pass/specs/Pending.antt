-- Links that are searched when all tables are declared (ACPI 6.5, 5.3).
use Rattle.std.specs.Prelude.{List, [], ◌∷◌, ◌++◌, map}
use Rattle.acpi_name.specs.Names.{Segment, NameParts}
use Rattle.acpi_space.specs.Lookups.{is_defined_in}
use Rattle.acpi_space.specs.Search.{missed}
use Rattle.acpi_space.specs.Laws.{Among}
use Rattle.acpi_pass.specs.declared.pending.LinkedPaths.{LinkedPaths}
use Rattle.acpi_pass.specs.declared.pending.PendingLinks as code_links
use Rattle.acpi_pass.specs.Namespace.{Namespace}
use Rattle.acpi_pass.specs.Links.{PendingLink}

-- a search of one of the links misses the path
abbrev pub IsMissedLink : Namespace → List PendingLink → List Segment → Type 0
IsMissedLink objects ws p = (w : PendingLink) × Among ws w × (n : NameParts) × Among w.names n
    × Among (missed (is_defined_in objects) w.scope n) p

-- ---- as the code keeps them

abbrev pub pending_for : List Segment → List Segment → List NameParts → PendingLink
pending_for p s names = record { path = p; scope = s; names = names }

-- the links of several paths that have the same names, searched from one scope
abbrev pub pending_from : List Segment → List NameParts → List (List Segment) → List PendingLink
pending_from s names paths = map (λ p. pending_for p s names) paths

-- units of a scope, by their segments
abbrev pub unit_paths : List Segment → List Segment → List (List Segment)
unit_paths s segs = map (λ g. s ++ g ∷ []) segs

abbrev pub linked_paths : List Segment → LinkedPaths → List (List Segment)
linked_paths s (LinkedPaths.One p) = p ∷ []
linked_paths s (LinkedPaths.Units v) = unit_paths s v.items

abbrev pub pending_of : code_links.PendingLinks → List PendingLink
pending_of w = pending_from w.scope w.names.items (linked_paths w.scope w.paths)

abbrev pub all_pending_of : List code_links.PendingLinks → List PendingLink
all_pending_of [] = []
all_pending_of (w ∷ ws) = pending_of w ++ all_pending_of ws
