-- Where terms end, and calls and loads stand, by the bytes that spell them (ACPI 6.5, 20.2.5).
use Rattle.std.specs.Prelude.{◌≡◌, ◌-◌, ℕ, true, List, ◌++◌, length}
use Rattle.acpi_name.specs.Spelling.{BeginsWithName}
use Rattle.acpi_space.specs.Laws.{Among}
use Rattle.acpi_tree.specs.declared.op.Op.{Op}
use Rattle.acpi_tree.specs.Operators.{is_load}
use Rattle.acpi_tree.specs.Terms.{TermTree}
use Rattle.acpi_code.specs.Opcodes.{operator_bytes}
use Rattle.acpi_values.specs.Grammars.{Grammar}
use Rattle.acpi_values.specs.Spelling.{Spells}
use Rattle.acpi_findings.specs.Marks.{MarkTree, called, load, PlacedMark, behind, marks_in}

-- behind the bytes that spell a term stand those that follow them
abbrev pub TermsEndWhereSpelled : Type 0
TermsEndWhereSpelled = (g : Grammar) (t : TermTree) (bytes rest : List ℕ) → Spells g t bytes
    → behind t (bytes ++ rest) ≡ rest

-- bytes begin with the name that is called, or with the opcode of a load
abbrev pub BeginsMark : MarkTree → List ℕ → Type 0
BeginsMark (called n) bytes = (count : ℕ) × BeginsWithName n count bytes
BeginsMark load bytes =
    (op : Op) × (is_load op ≡ true) × (rest : List ℕ) × (bytes ≡ operator_bytes op ++ rest)

-- a mark stands at its place, in bytes that end at another
abbrev pub StandsAt : (end : ℕ) → List ℕ → PlacedMark → Type 0
StandsAt end bytes m = (before : List ℕ) × (after : List ℕ) × (bytes ≡ before ++ after)
    × (m.0 ≡ end - length after) × BeginsMark m.1 after

-- so does each mark of a term that is spelled there
abbrev pub MarksStandWhereSpelled : Type 0
MarksStandWhereSpelled = (g : Grammar) (t : TermTree) (end : ℕ) (bytes rest : List ℕ)
    → Spells g t bytes → (m : PlacedMark) → Among (marks_in end t (bytes ++ rest)) m
    → StandsAt end (bytes ++ rest) m
