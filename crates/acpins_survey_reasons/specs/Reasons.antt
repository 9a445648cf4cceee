-- Why something is lost, refused or noticed, in words (ACPI 6.5, 5.2.6, 5.3 and 20.2.5).
use Rattle.std.specs.Prelude.{ℕ, List, [], ◌∷◌, ◌++◌, Option, Some, None, codes}
use Rattle.acpi_name.specs.Names.{Segment, NameParts}
use Rattle.acpi_name.specs.Text.{name_text, path_text}
use Rattle.acpi_table.specs.Texts.{table_fault_text}
use Rattle.acpi_body.specs.Texts.{body_reason_text}
use Rattle.acpi_values.specs.declared.fault.BodyReason.{BodyReason}
use Rattle.acpi_values.specs.declared.fault.BodyReason.TheVariants as terms
use Rattle.acpi_outline.specs.declared.fault.LostReason.{LostReason}
use Rattle.acpi_outline.specs.declared.fault.LostReason.TheVariants as losses
use Rattle.acpi_conditions.specs.Entries.{Why, empty_name, above_root, missing, no_parent, not_a_scope, taken, unsure}
use Rattle.acpi_conditions.specs.EntryForms.{why_of}
use Rattle.acpi_pieces.specs.declared.tables.TableReason.{TableReason}
use Rattle.acpi_pieces.specs.declared.tables.TableReason.TheVariants as tables
use Rattle.acpi_findings.specs.declared.problems.ProblemReason.{ProblemReason}
use Rattle.acpi_findings.specs.declared.problems.ProblemReason.TheVariants as problems
use Rattle.acpi_findings.specs.declared.notes.NoteReason.{NoteReason}
use Rattle.acpi_findings.specs.declared.notes.NoteReason.TheVariants as notes
use Rattle.acpi_text.specs.Constants.{separated}

-- ---- numbers and names

-- of a table that isn't read
abbrev pub table_reason_text : TableReason → List ℕ
table_reason_text (tables.Table fault) = table_fault_text fault
table_reason_text tables.NotDsdt = codes "L1 NotDsdt"
table_reason_text tables.NotSsdt = codes "L2 NotSsdt"

-- of a term of a table's code
abbrev pub term_reason_text : BodyReason → List ℕ
term_reason_text terms.Cut = codes "K1 Cut"
term_reason_text terms.BadOpcode = codes "K2 BadOpcode"
term_reason_text terms.ReservedBits = codes "K3 ReservedBits"
term_reason_text terms.BadName = codes "K4 BadName"
term_reason_text terms.Overrun = codes "K5 Overrun"
term_reason_text terms.NotStatement = codes "B7 NotValue"
term_reason_text terms.NotValue = codes "B7 NotValue"
term_reason_text terms.NotTarget = codes "B8 NotTarget"
term_reason_text terms.LeftOut = codes "B7 NotValue"
term_reason_text terms.BadString = codes "K13 BadString"
term_reason_text terms.TooDeep = codes "K12 TooDeep"
term_reason_text terms.NotData = codes "K11 NotData"
term_reason_text terms.BadPlace = codes "B13 BadPlace"
term_reason_text terms.Unsure = codes "S5 UnsureCount"

-- of what is lost of a table's code
abbrev pub lost_reason_text : LostReason → List ℕ
lost_reason_text (losses.Term reason) = term_reason_text reason
lost_reason_text losses.NoNode = codes "K2 BadOpcode"
lost_reason_text losses.ManyArguments = codes "K3 ReservedBits"
lost_reason_text losses.Computed = codes "K6 Computed"

-- of a term that declares nothing, or a Scope that isn't entered
abbrev pub why_name : Why → List ℕ
why_name (empty_name p) = codes "E1 EmptyName"
why_name (above_root p) = codes "E2 AboveRoot"
why_name (missing p) = codes "E3 Missing"
why_name (no_parent p) = codes "E4 NoParent"
why_name (not_a_scope p) = codes "E5 NotAScope"
why_name (taken p) = codes "E6 Taken"
why_name (unsure ps) = codes "S1 Unsure"

-- of a problem
abbrev pub problem_name : ProblemReason → List ℕ
problem_name (problems.Unread reason) = table_reason_text reason
problem_name problems.Cut = codes "T4 Cut"
problem_name problems.Trailing = codes "L3 Trailing"
problem_name (problems.Lost fault) = lost_reason_text fault.reason
problem_name (problems.Refused reason) = why_name (why_of reason)

-- of a note
abbrev pub note_name : NoteReason → List ℕ
note_name notes.BadSum = codes "T5 BadSum"
note_name notes.NotDsdt = codes "L1 NotDsdt"
note_name notes.NotSsdt = codes "L2 NotSsdt"
note_name (notes.Unknown n) = codes "S2 Unknown"
note_name notes.Stray = codes "S3 Stray"
note_name notes.StrayElse = codes "S4 StrayElse"
note_name notes.Loads = codes "S6 Loads"

-- ---- what a reason names

-- the paths that a refusal names
abbrev pub why_paths : Why → List (List Segment)
why_paths (empty_name p) = p ∷ []
why_paths (above_root p) = p ∷ []
why_paths (missing p) = p ∷ []
why_paths (no_parent p) = p ∷ []
why_paths (not_a_scope p) = p ∷ []
why_paths (taken p) = p ∷ []
why_paths (unsure ps) = ps

abbrev pub problem_paths : ProblemReason → List (List Segment)
problem_paths (problems.Refused reason) = why_paths (why_of reason)
problem_paths _ = []

-- a blank and a name; nothing where there is none
abbrev pub named_text : Option NameParts → List ℕ
named_text None = []
named_text (Some n) = codes " " ++ name_text n

-- a blank and paths with a comma between each two; nothing where there are none
abbrev pub paths_behind : List (List Segment) → List ℕ
paths_behind [] = []
paths_behind (p ∷ ps) = codes " " ++ separated (codes ", ") path_text (p ∷ ps)

-- the name that a note names
abbrev pub noted_name : NoteReason → Option NameParts
noted_name (notes.Unknown n) = Some n
noted_name _ = None

-- why a term declares nothing or a Scope isn't entered, with the paths that it names
abbrev pub why_text : Why → List ℕ
why_text why = why_name why ++ paths_behind (why_paths why)

-- why something is lost or refused, with what the reason names
abbrev pub problem_reason_text : ProblemReason → Option NameParts → List ℕ
problem_reason_text reason name =
    problem_name reason ++ paths_behind (problem_paths reason) ++ named_text name

-- what is noticed, with the name that it names
abbrev pub note_reason_text : NoteReason → List ℕ
note_reason_text reason = note_name reason ++ named_text (noted_name reason)

-- why a body can't be read, and the name of which it isn't sure how many values follow it
abbrev pub body_fault_text : BodyReason → Option NameParts → List ℕ
body_fault_text reason name = body_reason_text reason ++ named_text name
