-- Strict listings: each term declares its path and each Scope opens one, in the namespace of its moment. Only nodes
-- without If, While and stops have one (ACPI 6.5, 5.3).
use Rattle.std.specs.Prelude.{◌≡◌, false, List, [], ◌∷◌, ◌++◌, ⊤}
use Rattle.acpi_space.specs.Lookups.{singleton, union}
use Rattle.acpi_conditions.specs.Nodes.{Term, Nodes, no_nodes, declares, opens}
use Rattle.acpi_conditions.specs.Entries.{Path, Namespace, Asks, Entry}
use Rattle.acpi_conditions.specs.Runs.{Makes, Finds}

-- a term, the scope in which it stands, and the path that it declares
pub record Placement : Type 0 where
  pub term : Term
  pub scope : Path
  pub path : Path

abbrev pub with_object : Namespace → Path → Term → Namespace
with_object objects p t = union objects (singleton p t)

-- the namespace behind the placements
abbrev pub made_behind : Namespace → List Placement → Namespace
made_behind objects [] = objects
made_behind objects (d ∷ ds) = made_behind (with_object objects d.path d.term) ds

abbrev pub IsListing : Nodes → Path → Namespace → List Placement → Type 0
IsListing no_nodes s objects ds = ds ≡ []
IsListing (declares t inside rest) s objects ds =
    (p : Path) × (xs : List Placement) × (ys : List Placement) × Makes objects s t p
    × IsListing inside p (with_object objects p t) xs
    × IsListing rest s (made_behind (with_object objects p t) xs) ys
    × (ds ≡ record { term = t; scope = s; path = p } ∷ (xs ++ ys))
IsListing (opens place n inside rest) s objects ds =
    (p : Path) × (xs : List Placement) × (ys : List Placement) × Finds objects s n p
    × IsListing inside p objects xs × IsListing rest s (made_behind objects xs) ys
    × (ds ≡ xs ++ ys)
IsListing _ s objects ds = ⊥

-- .. of tables, one after another
abbrev pub AreListings : List Nodes → Namespace → List (List Placement) → Type 0
AreListings [] objects [] = ⊤
AreListings (t ∷ ts) objects (ds ∷ dss) =
    IsListing t [] objects ds × AreListings ts (made_behind objects ds) dss
AreListings _ objects _ = ⊥

abbrev pub nothing_asked : Asks
nothing_asked = record { has = false; no = false; needs = [] }

-- the entry without a condition
abbrev pub entry_of : Placement → Entry
entry_of d =
    record { term = d.term; scope = d.scope; path = d.path; way = []; asks = nothing_asked }
