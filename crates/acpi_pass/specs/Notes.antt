-- What a table says that matters when all tables are declared: the argument counts that its Externals give,
-- its methods with their code, and the paths that its Scope terms missed (ACPI 6.5, 5.3 and 20.2.5).
use Rattle.std.specs.Prelude.{ℕ, List, [], ◌∷◌, ◌++◌, map, Option, Some, None}
use Rattle.std.specs.FinMap.{get}
use Rattle.acpi_name.specs.Names.{Segment, NameParts}
use Rattle.acpi_name.specs.Paths.{place_of}
use Rattle.acpi_space.specs.Lookups.{Lookup, is_defined_in, nothing, singleton, union}
use Rattle.acpi_space.specs.Search.{missed}
use Rattle.acpi_pass.specs.declared.notes.Method as code
use Rattle.acpi_pass.specs.declared.notes.TableNotes as code_notes
use Rattle.acpi_pass.specs.Namespace.{Namespace}
use Rattle.acpi_pass.specs.Sites.{Effect, declares, opens, expects}
use Rattle.acpi_pass.specs.Listing.{Placement, object_of, objects_of}

-- ---- External counts

abbrev pub count_at : ℕ → List Segment → Option (List Segment) → Lookup ℕ
count_at count [] place = nothing
count_at count (g ∷ gs) None = nothing
count_at count (g ∷ gs) (Some p) = singleton p count

-- an External of a method gives its count to the place of its name
abbrev pub counts_by : Effect → List Segment → NameParts → Lookup ℕ
counts_by (declares o links code) s n = nothing
counts_by opens s n = nothing
counts_by (expects count) s n = count_at count n.segments (place_of s n)

-- the argument counts that a table's Externals give, the first in byte order
abbrev pub external_counts : List Placement → Lookup ℕ
external_counts [] = nothing
external_counts (e ∷ es) = union (counts_by e.step.effect e.scope e.step.name) (external_counts es)

-- ---- methods

pub record Method : Type 0 where
  pub path : List Segment
  pub code : List ℕ

abbrev pub methods_by : Effect → List Segment → List Method
methods_by (declares o links None) p = []
methods_by (declares o links (Some code)) p = record { path = p; code = code } ∷ []
methods_by opens p = []
methods_by (expects count) p = []

-- the methods that a table declares, in byte order
abbrev pub methods : List Placement → List Method
methods [] = []
methods (e ∷ es) = methods_by e.step.effect e.path ++ methods es

-- ---- misses

abbrev pub missed_by : Effect → Namespace → List Segment → NameParts → List (List Segment)
missed_by (declares o links code) objects s n = []
missed_by opens objects s n = missed (is_defined_in objects) s n
missed_by (expects count) objects s n = []

-- the paths that the searches of a table's Scope terms tried in vain, each in the namespace of its moment
abbrev pub scope_misses : Namespace → List Placement → List (List Segment)
scope_misses objects [] = []
scope_misses objects (e ∷ es) = missed_by e.step.effect objects e.scope e.step.name
    ++ scope_misses (union objects (object_of e)) es

-- ---- all of it

pub record Notes : Type 0 where
  pub counts : Lookup ℕ
  pub methods : List Method
  pub missed : List (List Segment)

-- the notes of a table that is listed over those objects
abbrev pub notes_on : Namespace → List Placement → Notes
notes_on objects es =
    record { counts = external_counts es; methods = methods es; missed = scope_misses objects es }

-- the notes of each of several tables
abbrev pub all_notes : Namespace → List (List Placement) → List Notes
all_notes objects [] = []
all_notes objects (t ∷ ts) = notes_on objects t ∷ all_notes (union objects (objects_of t)) ts

-- ---- as the code keeps them

abbrev pub method_of : code.Method → Method
method_of m = record { path = m.path; code = m.code }

abbrev pub notes_of : code_notes.TableNotes → Notes
notes_of t =
    record {
      counts = get t.counts;
      methods = map method_of t.methods.items;
      missed = t.missed.items;
    }
