-- The lines of problems and notes, and how they follow each other.
use Rattle.std.specs.Prelude.{ℕ, List, [], ◌∷◌, ◌++◌, Option, Some, None, codes, decimal, Bool, true, false, ◌&&◌, ◌||◌, not, nat_eq, nat_lt, if◌then◌else◌}
use Rattle.std.specs.List.{flat_map}
use Rattle.acpi_name.specs.Names.{Segment}
use Rattle.acpi_name.specs.Text.{path_text}
use Rattle.acpi_ranges.specs.declared.sites.Site.{Site}
use Rattle.acpi_ranges.specs.declared.lost_ranges.LostRange.{LostRange}
use Rattle.acpi_findings.specs.declared.problems.Problem.{Problem}
use Rattle.acpi_findings.specs.declared.problems.ProblemReason.{ProblemReason}
use Rattle.acpi_findings.specs.declared.problems.ProblemReason.TheVariants.{Refused}
use Rattle.acpi_findings.specs.declared.notes.Note.{Note}
use Rattle.acpins_survey_reasons.specs.Reasons.{problem_reason_text, note_reason_text}

-- a table's number and an offset, in bytes
abbrev pub site_text : Site → List ℕ
site_text site = decimal site.table ++ codes " at " ++ decimal site.offset ++ codes ": "

-- the first byte of a range, and the first behind it
abbrev pub range_text : (from to : ℕ) → List ℕ
range_text from to = decimal from ++ codes "-" ++ decimal to

abbrev pub lost_text : Option LostRange → List ℕ
lost_text None = []
lost_text (Some r) = codes " lost " ++ range_text r.from r.to

abbrev pub scope_text : Option (List Segment) → List ℕ
scope_text None = []
scope_text (Some p) = codes " in " ++ path_text p

-- a line of a problem: where, why, what is lost, and the scope around
abbrev pub problem_line : Problem → List ℕ
problem_line p = codes "! " ++ site_text p.site ++ problem_reason_text p.reason p.name
    ++ lost_text p.lost ++ scope_text p.scope ++ 10 ∷ []

-- a line of a note: where, what, and the scope around
abbrev pub note_line : Note → List ℕ
note_line n =
    codes "~ " ++ site_text n.site ++ note_reason_text n.reason ++ scope_text n.scope ++ 10 ∷ []

-- ---- problems and notes together

-- sites are in the order of the tables, and those of one table in the order of the offsets
abbrev pub is_before : Site → Site → Bool
is_before s t = nat_lt s.table t.table || nat_eq s.table t.table && nat_lt s.offset t.offset

abbrev pub is_refused : ProblemReason → Bool
is_refused (Refused reason) = true
is_refused _ = false

-- A problem is met before a note: at one site a refusal comes behind notes, and each other problem before them.
abbrev pub is_met_first : Problem → Note → Bool
is_met_first p n =
    if is_refused p.reason then is_before p.site n.site else not (is_before n.site p.site)

-- the lines of the notes up to the first that the problem is met before
abbrev pub notes_before : Problem → List Note → List ℕ
notes_before p [] = []
notes_before p (n ∷ ns) = if is_met_first p n then [] else note_line n ++ notes_before p ns

-- that note and those behind it
abbrev pub notes_behind : Problem → List Note → List Note
notes_behind p [] = []
notes_behind p (n ∷ ns) = if is_met_first p n then n ∷ ns else notes_behind p ns

-- a line for each problem and note, each by its site, those of one site in the order in which they are met
abbrev pub found_text : List Problem → List Note → List ℕ
found_text [] ns = flat_map note_line ns
found_text (p ∷ ps) ns = notes_before p ns ++ problem_line p ++ found_text ps (notes_behind p ns)
