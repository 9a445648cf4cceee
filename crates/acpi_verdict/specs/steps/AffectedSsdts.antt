-- Which SSDTs declare a path that the DSDT missed or awaits in its load alone.
use Rattle.std.specs.Prelude.{◌≡◌, ◌||◌, ℕ, Bool, true, List, Some, get_or}
use Rattle.std.specs.FinMap.{get}
use Rattle.acpi_name.specs.Names.{Segment}
use Rattle.acpi_space.specs.Laws.{Among}
use Rattle.acpi_space.specs.Spaces.{is_defined}
use Rattle.acpi_verdict.specs.declared.definers.Definer.{Definer}
use Rattle.acpi_verdict.specs.declared.definers.Definers.{Definers}
use Rattle.acpi_verdict.specs.steps.Defining.{IsNoted}
use Rattle.acpi_verdict.specs.declared.misses.Misses.{Misses}

-- the path was missed or is awaited
abbrev pub is_miss : Misses → List Segment → Bool
is_miss t p = is_defined t.missed p || is_defined t.awaited p

-- the number is marked; a number that is none of an SSDT counts as marked
abbrev pub IsMarked : List Bool → ℕ → Type 0
IsMarked flags number = get_or flags number true ≡ true

-- what is marked stays so, and the numbers of those SSDTs are marked
pub record Marks (old new : List Bool) (P : Definer → Type 0) : Type 0 where
  pub keeps : (k : ℕ) → IsMarked old k → IsMarked new k
  pub adds : (x : Definer) → P x → IsMarked new x.number

-- the SSDT is the first that is noted at the path
abbrev pub IsFirst : Definers → List Segment → Definer → Type 0
IsFirst d p x = get d.first p ≡ Some x

-- the SSDT is noted at one of the paths
abbrev pub IsNotedAtAny : {V : Type 0} → Definers → List (List Segment × V) → Definer → Type 0
IsNotedAtAny {V} d es x = (p : List Segment) × (v : V) × Among es (p, v) × IsNoted d p x

-- each SSDT is marked that is noted at a path that was missed or is awaited
abbrev pub AreAffected : Definers → Misses → List Bool → Type 0
AreAffected d t flags =
    (p : List Segment) (x : Definer) → is_miss t p ≡ true → IsNoted d p x → IsMarked flags x.number
