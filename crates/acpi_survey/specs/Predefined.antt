-- What is known before any table (ACPI 6.5, 5.3.1 and 5.7).
use Rattle.std.specs.Prelude.{ℕ, Bool, true, false, List, [], ◌∷◌, ◌++◌, Some, codes}
use Rattle.std.specs.FinMap as finite
use Rattle.acpi_conditions.specs.Nodes.{Term}
use Rattle.acpi_conditions.specs.Entries.{Path}
use Rattle.acpi_conditions.specs.Walk.{first_walk, predefine}
use Rattle.acpi_survey.specs.Reading.{Reading}

-- an object that is there before any table, by the segments of its path: whether others may be declared below it, and
-- how many arguments it takes
pub record Predefined : Type 0 where
  pub path : Path
  pub is_scope : Bool
  pub args : ℕ

abbrev pub term_of : Predefined → Term
term_of o =
    record {
      place = 0;
      name = record { rooted = false; parents = 0; segments = o.path };
      is_scope = o.is_scope;
      needs = [];
    }

unfoldable pub with_object : Reading → Predefined → Reading
with_object s o =
    record s { walk = predefine (term_of o) o.path s.walk; counts = s.counts ++ Some o.args ∷ [] }

abbrev pub with_objects : Reading → List Predefined → Reading
with_objects s [] = s
with_objects s (o ∷ os) = with_objects (with_object s o) os

abbrev pub nothing_read : Reading
nothing_read =
    record {
      walk = first_walk;
      base = 0;
      counts = [];
      expected = finite.empty;
      opened = [];
      sources = [];
      unknown = [];
    }

abbrev pub scope_named : List ℕ → Predefined
scope_named g = record { path = g ∷ []; is_scope = true; args = 0 }

abbrev pub object_named : List ℕ → ℕ → Predefined
object_named g n = record { path = g ∷ []; is_scope = false; args = n }

-- scopes
abbrev pub predefined_scopes : List Predefined
predefined_scopes = scope_named (codes "_GPE") ∷ scope_named (codes "_PR_")
    ∷ scope_named (codes "_SB_") ∷ scope_named (codes "_SI_") ∷ scope_named (codes "_TZ_") ∷ []

-- a mutex, a method, and objects of which nothing more is known
abbrev pub predefined_objects : List Predefined
predefined_objects = object_named (codes "_GL_") 0 ∷ object_named (codes "_OSI") 1
    ∷ object_named (codes "_OS_") 0 ∷ object_named (codes "_REV") 0 ∷ []

abbrev pub predefined_root : Predefined
predefined_root = record { path = []; is_scope = true; args = 0 }

unfoldable pub first_reading : Reading
first_reading = with_objects
    (with_objects (with_object nothing_read predefined_root) predefined_scopes) predefined_objects

-- the ten objects that are there before all tables are the first entries; nothing in the tables declares them
abbrev pub predefined_count : ℕ
predefined_count = 10
