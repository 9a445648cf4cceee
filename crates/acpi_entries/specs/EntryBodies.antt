-- The body of the method of an entry (ACPI 6.5, 20.2.5).
use Rattle.std.specs.Prelude.{◌≡◌, ◌↔◌, ◌-◌, ℕ, List, length, Option, Some, None, slice_get}
use Rattle.std.specs.Option.{option_and_then}
use Rattle.acpi_tree.specs.Terms.{TermTrees}
use Rattle.acpi_tree.specs.TermView.{terms_tree}
use Rattle.acpi_body.specs.Arguments.{BodyGrammar}
use Rattle.acpi_body.specs.Statements.{ReadsBody}
use Rattle.acpi_body.specs.Faults.{ShowsBody}
use Rattle.acpi_outline.specs.declared.fault.LostReason.TheVariants.{Term}
use Rattle.acpi_outline.specs.Nodes.{closed, method}
use Rattle.acpi_conditions.specs.Entries.{Path, Entry}
use Rattle.acpi_survey.specs.Bodies.{entry_grammar}
use Rattle.acpi_ranges.specs.Sites.{table_at}
use Rattle.acpi_ranges.specs.EntryParts.{part_declaring}
use Rattle.acpi_survey.specs.declared.machine_survey.SurveyedTable.{SurveyedTable}
use Rattle.acpi_ranges.specs.Lookup.{Found, node_found, element_found}
use Rattle.acpi_ranges.specs.Sites.{offset_of}
use Rattle.acpi_ranges.specs.LostRanges.{unsure_name}
use Rattle.acpi_entries.specs.declared.body.BodyReading.{BodyReading}
use Rattle.acpi_entries.specs.declared.body.BodyReading.TheVariants.{Terms, Opaque}
use Rattle.acpi_entries.specs.declared.body.MethodBody.{MethodBody}

-- The code of a method at a path is read as its terms; or it is opaque, and has no reading, for the reason and at the
-- place at which reading stops. Where that is that it isn't sure how many values follow a name, the name is told that
-- stands there.
abbrev pub IsBodyReading : BodyGrammar → Path → (depth : ℕ) → (code : List ℕ) → BodyReading → Type 0
IsBodyReading g p depth code (Terms v) =
    (ts : TermTrees) → (terms_tree v.items ≡ ts) ↔ ReadsBody g p depth code ts
IsBodyReading g p depth code (Opaque reason place name) =
    ShowsBody g p depth code reason place
    × ((ts : TermTrees) → ¬ ReadsBody g p depth code ts)
    × (name ≡ unsure_name code place (Term reason))

-- the code of a method, and where it begins
abbrev pub method_code : Found → Option (ℕ × List ℕ)
method_code (node_found to (closed (method n flags) content)) =
    Some (offset_of (to - length content), content)
method_code _ = None

-- the body of an entry at a path whose term is this part, if that is a method
abbrev pub IsBody : BodyGrammar → Path → (depth : ℕ) → Option (ℕ × List ℕ) → Option MethodBody
    → Type 0
IsBody g p depth None None = Unit {0}
IsBody g p depth None (Some b) = ⊥
IsBody g p depth (Some code) None = ⊥
IsBody g p depth (Some code) (Some b) =
    (b.code.now ≡ code.1) × (b.offset ≡ code.0) × IsBodyReading g p depth code.1 b.reading

-- by all entries and their counts, and what the Externals of the entry's table say
abbrev pub IsBodyIn : List Entry → List (Option ℕ) → (depth : ℕ) → Option Entry
    → Option SurveyedTable → Option Found → Option MethodBody → Type 0
IsBodyIn es counts depth (Some e) (Some t) part b =
    IsBody (entry_grammar es counts t.expected e) e.path depth (option_and_then method_code part) b
IsBodyIn es counts depth _ _ part b = b ≡ None

-- of the entry of that number
abbrev pub IsBodyOf : List Entry → List (Option ℕ) → List SurveyedTable → (depth number : ℕ)
    → Option MethodBody → Type 0
IsBodyOf es counts ts depth number b =
    IsBodyIn es counts depth (slice_get es number)
    (option_and_then (λ e. slice_get ts (table_at e.term.place)) (slice_get es number))
    (part_declaring ts es number) b
