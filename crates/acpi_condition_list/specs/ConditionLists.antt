-- Conditions as a list of literals, in which each has the number of the one before it (ACPI 6.5, 5.3 and 19.6).
use Rattle.std.specs.Prelude.{◌≡◌, ℕ, List, [], ◌∷◌, ◌++◌, map, Option, Some, None, slice_get, unwrap_or}
use Rattle.std.specs.Option.{option_and_then, option_map}
use Rattle.acpi_name.specs.Paths.{parent_of}
use Rattle.acpi_conditions.specs.Entries.{Path, Entry}
use Rattle.acpi_entries.specs.Condition.{PlacedParts, condition, if_taken, if_missed, while_taken, stop_missed, has, free, needs, literal_at, predicate_at}
use Rattle.acpi_survey.specs.declared.machine_survey.Survey.{Survey}
use Rattle.acpi_condition_list.specs.declared.list.ConditionStep.{ConditionStep}
use Rattle.acpi_condition_list.specs.declared.list.ConditionedEntry.{ConditionedEntry}
use Rattle.acpi_condition_list.specs.declared.sources.LiteralSource.{LiteralSource}
use Rattle.acpi_condition_list.specs.declared.sources.LiteralSource.TheVariants as sources

-- ---- literals, by what they come from

abbrev pub entry_numbered : Survey → ℕ → Option Entry
entry_numbered s n = slice_get s.reading.walk.entries n

-- the name of that number for which the term of an entry asks
abbrev pub name_asked : ℕ → Entry → Option PlacedParts
name_asked i e = option_map (λ n. literal_at e.term.place (needs n)) (slice_get e.asks.needs i)

abbrev pub source_literal : Survey → LiteralSource → Option PlacedParts
source_literal s (sources.If place) =
    Some (literal_at place (if_taken (predicate_at s.tables.items place)))
source_literal s (sources.Not place) =
    Some (literal_at place (if_missed (predicate_at s.tables.items place)))
source_literal s (sources.While place) =
    Some (literal_at place (while_taken (predicate_at s.tables.items place)))
source_literal s (sources.Past place) = Some (literal_at place stop_missed)
source_literal s (sources.Target n) =
    option_map (λ (o : ℕ × Path). literal_at o.0 (has o.1)) (slice_get s.reading.opened n)
source_literal s (sources.Has n) =
    option_map (λ e. literal_at e.term.place (has (parent_of e.path))) (entry_numbered s n)
source_literal s (sources.No n) =
    option_map (λ e. literal_at e.term.place (free e.path)) (entry_numbered s n)
source_literal s (sources.Needs n i) = option_and_then (name_asked i) (entry_numbered s n)

-- ---- conditions

-- what the literals of a condition come from: the last has this number, and each stands behind the one before it
pub data IsWay : List ConditionStep → Option ℕ → List LiteralSource → Type 0 where
  nothing : {steps : List ConditionStep} → IsWay steps None []
  behind : {steps : List ConditionStep} {xs : List LiteralSource} (n : ℕ) (x : ConditionStep)
      → slice_get steps n ≡ Some x → IsWay steps x.before xs
      → IsWay steps (Some n) (xs ++ x.source ∷ [])

-- these literals are the condition whose last one has this number
pub record IsCondition (s : Survey) (steps : List ConditionStep) (last : Option ℕ)
    (literals : List PlacedParts) : Type 0 where
  pub from : List LiteralSource
  pub way : IsWay steps last from
  pub literals_are : map (source_literal s) from ≡ map (λ l. Some l) literals

-- the condition of the entry of that number
abbrev pub condition_numbered : Survey → ℕ → List PlacedParts
condition_numbered s n = unwrap_or
    (option_map (condition s.tables.items s.reading.opened s.reading.walk.entries)
    (entry_numbered s n)) []

-- ---- entries

-- an entry, and the last literal of its condition
pub record Conditioned : Type 0 where
  pub path : Path
  pub number : ℕ
  pub condition : Option ℕ

abbrev pub conditioned_view : ConditionedEntry → Conditioned
conditioned_view e = record { path = e.path.now; number = e.number; condition = e.condition }

abbrev pub numbered_pair : Conditioned → Path × ℕ
numbered_pair e = (e.path, e.number)
