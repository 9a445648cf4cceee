-- The paths that a method body searches in vain: a declaration at one of them may change what the body means (ACPI 6.5,
-- 5.3).
use Rattle.std.specs.Prelude.{◌≡◌, ◌≢◌, ℕ, List, Option, Some, None}
use Rattle.std.specs.FinMap as finite
use Rattle.acpi_name.specs.Names.{Segment, NameParts}
use Rattle.acpi_space.specs.Lookups.{Lookup, is_defined_in}
use Rattle.acpi_space.specs.Search.{answer, missed}
use Rattle.acpi_space.specs.Laws.{Among}
use Rattle.acpi_tree.specs.Terms.{TermTrees}
use Rattle.acpi_values.specs.Arguments.{Locals}
use Rattle.acpi_body.specs.Arguments.{Namespace, defined_with, expected_place}
use Rattle.acpi_body.specs.Searches.{all_searches, IsSpelledIn}
use Rattle.acpi_body.specs.Bodies.{BodyTree, read, unread}

abbrev pub unless_found : Option (List Segment) → Option (List Segment) → Option (List Segment)
unless_found None place = place
unless_found (Some p) place = None

-- the path whose External gave the count of a name that the search, with the locals laid over, does not find
abbrev pub awaited_place : Namespace → Lookup ℕ → List Segment → Locals → NameParts
    → Option (List Segment)
awaited_place objects externals s locals n =
    unless_found (answer (defined_with objects locals) s n) (expected_place externals s n)

-- ---- firm misses

-- a search of the statements missed the path, and no External of the path gave the name's count
pub record IsMissedIn (objects : Namespace) (externals : Lookup ℕ) (s : List Segment)
    (ts : TermTrees) (p : List Segment) : Type 0 where
  pub locals : Locals
  pub name : NameParts
  pub searched : Among (all_searches s finite.empty ts) (locals, name)
  pub misses : Among (missed (defined_with objects locals) s name) p
  pub firm : awaited_place objects externals s locals name ≢ Some p

-- the search of a name that is spelled at some place of the bytes misses the path
pub record IsMissedBy (objects : Namespace) (s : List Segment) (bytes : List ℕ)
    (p : List Segment) : Type 0 where
  pub name : NameParts
  pub spelled : IsSpelledIn bytes name
  pub misses : Among (missed (is_defined_in objects) s name) p

-- a body of a method at the path `s` misses the path, whatever is declared there
abbrev pub IsFirmMiss : Namespace → Lookup ℕ → List Segment → BodyTree → List Segment → Type 0
IsFirmMiss objects externals s (read ts) p = IsMissedIn objects externals s ts p
IsFirmMiss objects externals s (unread bytes) p = IsMissedBy objects s bytes p

-- ---- open misses

-- a search of the statements found nothing, and the External of the path gave the name's count
pub record IsAwaitedIn (objects : Namespace) (externals : Lookup ℕ) (s : List Segment)
    (ts : TermTrees) (p : List Segment) (count : ℕ) : Type 0 where
  pub locals : Locals
  pub name : NameParts
  pub searched : Among (all_searches s finite.empty ts) (locals, name)
  pub awaits : awaited_place objects externals s locals name ≡ Some p
  pub expects : externals p ≡ Some count

-- a body of a method at the path `s` misses the path, unless a method of so many arguments is declared there
abbrev pub IsOpenMiss : Namespace → Lookup ℕ → List Segment → BodyTree → List Segment → ℕ → Type 0
IsOpenMiss objects externals s (read ts) p count = IsAwaitedIn objects externals s ts p count
IsOpenMiss objects externals s (unread bytes) p count = ⊥
