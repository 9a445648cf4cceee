-- The links of fields and buffer fields, searched over the final objects (ACPI 6.5, 20.2.5.2).
use Rattle.std.specs.Prelude.{List, [], ◌∷◌, ◌++◌, map, Option}
use Rattle.std.specs.FinMap.{entries, get}
use Rattle.std.specs.Option.{option_map}
use Rattle.acpi_name.specs.Names.{Segment, NameParts}
use Rattle.acpi_space.specs.Lookups.{Lookup, is_defined_in, nothing, singleton, union}
use Rattle.acpi_space.specs.Search.{answer}
use Rattle.acpi_pass.specs.Namespace.{Namespace}
use Rattle.acpi_pass.specs.Sites.{Effect, declares, opens, expects}
use Rattle.acpi_pass.specs.Listing.{Placement}
use Rattle.acpi_pass.specs.declared.link_map.LinkMap.{LinkMap}

-- the links of a declared path: names that are searched from the scope when all tables are declared
pub record PendingLink : Type 0 where
  pub path : List Segment
  pub scope : List Segment
  pub names : List NameParts

abbrev pub pending_by : Effect → List Segment → List Segment → List PendingLink
pending_by (declares o [] code) s p = []
pending_by (declares o (n ∷ ns) code) s p = record { path = p; scope = s; names = n ∷ ns } ∷ []
pending_by opens s p = []
pending_by (expects count) s p = []

-- the links of a table, and of all tables
abbrev pub pending_links : List Placement → List PendingLink
pending_links [] = []
pending_links (e ∷ es) = pending_by e.step.effect e.scope e.path ++ pending_links es

abbrev pub all_pending : List (List Placement) → List PendingLink
all_pending [] = []
all_pending (t ∷ ts) = pending_links t ++ all_pending ts

-- what the names of a path answer, each a path or nothing
abbrev pub Links : Type 0
Links = List (Option (List Segment))

abbrev pub answers : Namespace → List Segment → List NameParts → Links
answers objects scope names = map (answer (is_defined_in objects) scope) names

abbrev pub one_link : Namespace → PendingLink → Lookup Links
one_link objects w = singleton w.path (answers objects w.scope w.names)

-- what the links of each path answer
abbrev pub links_of : Namespace → List PendingLink → Lookup Links
links_of objects [] = nothing
links_of objects (w ∷ ws) = union (links_of objects ws) (one_link objects w)

-- ---- the map that holds them

abbrev pub links_at : LinkMap → Lookup Links
links_at m p = option_map (λ a. a.value.items) (get m.answers p)

-- its pairs, in the order of the paths
abbrev pub link_pairs : LinkMap → List (List Segment × Links)
link_pairs m = map (λ e. (e.0, e.1.value.items)) (entries m.answers)
