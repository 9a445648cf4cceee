-- What is noticed of a table that loses nothing (ACPI 6.5, 5.2.6, 5.2.11, 5.3 and 20.2.5).
use Rattle.std.specs.Prelude.{◌==◌, ◌&&◌, not, ℕ, Bool, true, false, cond, List, [], ◌∷◌, ◌++◌, map, length, drop, Some, None}
use Rattle.std.specs.List.{flat_map}
use Rattle.acpi_name.specs.Names.{NameParts}
use Rattle.acpi_outline.specs.Nodes.{PlainTree, term, FixedTree, otherwise, NodeTree, plain, holds, holds_fields, NodeTrees}
use Rattle.acpi_outline.specs.Outline.{is_stray}
use Rattle.acpi_conditions.specs.Entries.{Path}
use Rattle.acpi_needs.specs.Needs.{is_among}
use Rattle.acpi_findings.specs.Marks.{PlacedMark, called, load, marks_in_plain, marks_in_fixed}
use Rattle.acpi_survey.specs.Survey.{place_in}
use Rattle.acpi_ranges.specs.Index.{Unknowns}
use Rattle.acpi_ranges.specs.Ranges.{Part, of_node, Range, Entered}
use Rattle.acpi_ranges.specs.Sites.{site_at}
use Rattle.acpi_findings.specs.Problems.{table_ranges}
use Rattle.acpi_pieces.specs.Tables.{code_read}
use Rattle.acpi_pieces.specs.declared.tables.TableContent.{TableContent}
use Rattle.acpi_pieces.specs.declared.tables.TableContent.TheVariants as judged
use Rattle.acpi_findings.specs.declared.notes.Note.{Note}
use Rattle.acpi_findings.specs.declared.notes.NoteReason.{NoteReason}
use Rattle.acpi_findings.specs.declared.notes.NoteReason.TheVariants.{BadSum, NotDsdt, NotSsdt, Unknown, Stray, StrayElse, Loads}

-- ---- the table as a whole

-- that a table has another signature than one of its number should
abbrev pub misplaced : ℕ → NoteReason
misplaced number = cond (number == 0) NotDsdt NotSsdt

-- its bytes don't sum to 0, or it is out of place
abbrev pub whole_reasons : ℕ → TableContent → List NoteReason
whole_reasons number (judged.Unread why) = []
whole_reasons number (judged.Read code is_cut has_bad_sum is_out_of_place trailing) =
    cond has_bad_sum (BadSum ∷ []) [] ++ cond is_out_of_place (misplaced number ∷ []) []

abbrev pub whole_note : (number : ℕ) → NoteReason → Note
whole_note number why =
    record { site = record { table = number; offset = 0 }; reason = why; scope = None }

abbrev pub whole_notes : (number : ℕ) → TableContent → List Note
whole_notes number j = map (whole_note number) (whole_reasons number j)

-- ---- the code

-- what is noticed, and the place of the code at which it stands
abbrev pub Noticed : Type 0
Noticed = ℕ × NoteReason

-- a load; or a call of a name, if it is one of these, of which nothing is known
abbrev pub mark_reasons : List NameParts → PlacedMark → List Noticed
mark_reasons unknown (place, called n) = cond (is_among unknown n) ((place, Unknown n) ∷ []) []
mark_reasons unknown (place, load) = (place, Loads) ∷ []

abbrev pub all_mark_reasons : List NameParts → List PlacedMark → List Noticed
all_mark_reasons unknown ms = flat_map (mark_reasons unknown) ms

abbrev pub stray_reasons : (place : ℕ) → PlainTree → List Noticed
stray_reasons place (term t) = cond (is_stray t) ((place, Stray) ∷ []) []
stray_reasons place _ = []

abbrev pub plain_reasons : List NameParts → (code : List ℕ) → (place : ℕ) → PlainTree
    → List Noticed
plain_reasons unknown code place p = stray_reasons place p
    ++ all_mark_reasons unknown (marks_in_plain (length code) p (drop place code))

abbrev pub fixed_reasons : List NameParts → (code : List ℕ) → (place : ℕ) → FixedTree
    → List Noticed
fixed_reasons unknown code place f =
    all_mark_reasons unknown (marks_in_fixed (length code) f (drop place code))

abbrev pub node_reasons : List NameParts → (code : List ℕ) → (place : ℕ) → NodeTree
    → List Noticed
node_reasons unknown code place (plain p) = plain_reasons unknown code place p
node_reasons unknown code place (holds f ns) = fixed_reasons unknown code place f
node_reasons unknown code place (holds_fields f es) = fixed_reasons unknown code place f
node_reasons unknown code place _ = []

abbrev pub is_else : NodeTree → Bool
is_else (holds otherwise ns) = true
is_else _ = false

-- an Else with no If directly before it belongs to none
abbrev pub else_reasons : (place : ℕ) → (behind_if : Bool) → NodeTree → List Noticed
else_reasons place behind_if n = cond (is_else n && not behind_if) ((place, StrayElse) ∷ []) []

abbrev pub part_reasons : List NameParts → (code : List ℕ) → (place : ℕ) → (behind_if : Bool)
    → Part → List Noticed
part_reasons unknown code place behind_if (of_node n) =
    else_reasons place behind_if n ++ node_reasons unknown code place n
part_reasons unknown code place behind_if _ = []

abbrev pub note_at : (number : ℕ) → Path → Noticed → Note
note_at number s (place, why) =
    record { site = site_at number place; reason = why; scope = Some s }

abbrev pub range_notes : Unknowns → (code : List ℕ) → (number : ℕ) → Range → List Note
range_notes unknowns code number r = map (note_at number r.scope)
    (part_reasons (unknowns (place_in number r.from)) code r.from r.behind_if r.part)

-- the notes of the table of that number, by what is entered at the places of its code, and the names of which nothing is
-- known there
abbrev pub table_notes : Entered → Unknowns → (number : ℕ) → TableContent → NodeTrees → List Note
table_notes entered unknowns number j ns = whole_notes number j
    ++ flat_map (range_notes unknowns (code_read j) number) (table_ranges entered j ns)
