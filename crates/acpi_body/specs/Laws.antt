-- Laws of the readings of method bodies.
use Rattle.std.specs.Prelude.{◌≡◌, ◌⊎◌, ◌<◌, ℕ, List, [], ◌∷◌}
use Rattle.std.specs.List.{AllByRecursion}
use Rattle.acpi_name.specs.Names.{Segment, NameParts}
use Rattle.acpi_tree.specs.Terms.{TermTrees}
use Rattle.acpi_values.specs.declared.fault.BodyReason.{BodyReason}
use Rattle.acpi_values.specs.declared.fault.BodyReason.TheVariants.{NotValue}
use Rattle.acpi_values.specs.Arguments.{Locals, BodyGrammar}
use Rattle.acpi_body.specs.Statements.{AreStatements, ReadsBody}
use Rattle.acpi_body.specs.Faults.{ShowsBody}
use Rattle.acpi_body.specs.Loads.{have_load, KeepsLoads}
use Rattle.acpi_body.specs.Searches.{all_searches, IsSpelledIn}

-- Bytes have at most one reading.
abbrev pub AtMostOneReading : Type 0
AtMostOneReading =
    (g : BodyGrammar) (s : List Segment) (depth : ℕ) (bytes : List ℕ) (ts us : TermTrees)
    → ReadsBody g s depth bytes ts → ReadsBody g s depth bytes us → ts ≡ us

-- Bytes are read, or have no reading.
abbrev pub ReadOrNot : Type 0
ReadOrNot = (g : BodyGrammar) (s : List Segment) (depth : ℕ) (bytes : List ℕ)
    → ((ts : TermTrees) × ReadsBody g s depth bytes ts)
    ⊎ ((ts : TermTrees) → ¬ ReadsBody g s depth bytes ts)

-- Bytes that have a fault have no other, and no reading.
abbrev pub OneRefusal : Type 0
OneRefusal = (g : BodyGrammar) (s : List Segment) (depth : ℕ) (bytes : List ℕ) (why : BodyReason)
    (place : ℕ) → ShowsBody g s depth bytes why place
    → ((other : BodyReason) (elsewhere : ℕ) → ShowsBody g s depth bytes other elsewhere
    → (other ≡ why) × (elsewhere ≡ place))
    × ((ts : TermTrees) → ¬ ReadsBody g s depth bytes ts)

-- Bytes are read, or have a fault.
abbrev pub ReadOrRefused : Type 0
ReadOrRefused = (g : BodyGrammar) (s : List Segment) (depth : ℕ) (bytes : List ℕ)
    → ((ts : TermTrees) × ReadsBody g s depth bytes ts)
    ⊎ ((why : BodyReason) × (place : ℕ) × ShowsBody g s depth bytes why place)

-- Return(Noop), whose bytes are A4 A3: Noop has no value (20.2.5.3).
abbrev pub ReturnsNoValue : Type 0
ReturnsNoValue = (g : BodyGrammar) (s : List Segment) (depth : ℕ) → 1 < depth
    → ShowsBody g s depth (0xA4 ∷ 0xA3 ∷ []) NotValue 1

abbrev pub AgreeAt : BodyGrammar → BodyGrammar → Locals × NameParts → Type 0
AgreeAt a b e = (a e.0).args e.1 ≡ (b e.0).args e.1

-- A reading stays one under a grammar that agrees at each name that it searches, and keeps its loads.
abbrev pub ReadingIsKept : Type 0
ReadingIsKept =
    (a b : BodyGrammar) (s : List Segment) (locals : Locals) (ts : TermTrees) (bytes : List ℕ)
    → KeepsLoads a b (have_load ts)
    → AllByRecursion (AgreeAt a b) (all_searches s locals ts) → AreStatements a s locals ts bytes
    → AreStatements b s locals ts bytes

-- Each name that a reading searches is spelled in its bytes.
abbrev pub SearchesAreSpelled : Type 0
SearchesAreSpelled =
    (a : BodyGrammar) (s : List Segment) (locals : Locals) (ts : TermTrees) (bytes : List ℕ)
    → AreStatements a s locals ts bytes
    → AllByRecursion (λ e. IsSpelledIn bytes e.1) (all_searches s locals ts)

-- Under grammars that agree at every name that is spelled in the bytes, with any locals, and keep loads, they have the
-- same readings.
abbrev pub ReadingsAreSame : Type 0
ReadingsAreSame =
    (a b : BodyGrammar) (s : List Segment) (locals : Locals) (ts : TermTrees) (bytes : List ℕ)
    → KeepsLoads a b (have_load ts) → ((n : NameParts) → IsSpelledIn bytes n → (locals : Locals)
    → (a locals).args n ≡ (b locals).args n)
    → AreStatements a s locals ts bytes → AreStatements b s locals ts bytes
