-- What is noticed in the bodies of methods: that they load or unload a table (ACPI 6.5, 5.2.11 and 20.2.5).
use Rattle.std.specs.Prelude.{◌≡◌, ◌↔◌, ℕ, Bool, true, false, List, ◌++◌, Some, Contains, filter_map, slice_get}
use Rattle.std.specs.Option.{option_map}
use Rattle.std.specs.List.Sorted.{IsStrictlyIncreasing}
use Rattle.acpi_tree.specs.TermView.{terms_tree}
use Rattle.acpi_body.specs.Loads.{have_load}
use Rattle.acpi_conditions.specs.Entries.{Entry}
use Rattle.acpi_survey.specs.declared.machine_survey.Survey.{Survey}
use Rattle.acpi_ranges.specs.Sites.{site_of}
use Rattle.acpi_findings.specs.Findings.{notes_in}
use Rattle.acpi_findings.specs.FindingsOrder.{AreBySite}
use Rattle.acpi_findings.specs.declared.notes.Note.{Note}
use Rattle.acpi_findings.specs.declared.notes.NoteReason.TheVariants.{Loads}
use Rattle.acpi_entries.specs.EntryBodies.{IsBodyOf}
use Rattle.acpi_entries.specs.declared.body.BodyReading.{BodyReading}
use Rattle.acpi_entries.specs.declared.body.BodyReading.TheVariants.{Terms, Opaque}
use Rattle.acpi_entries.specs.declared.body.MethodBody.{MethodBody}

-- a body that is read has a LoadTable, Load or Unload
abbrev pub reading_loads : BodyReading → Bool
reading_loads (Terms v) = have_load (terms_tree v.items)
reading_loads (Opaque reason place name) = false

-- the entry of that number is a method with such a body
pub record LoadsTables (s : Survey) (number : ℕ) : Type 0 where
  pub body : MethodBody
  pub is : IsBodyOf s.reading.walk.entries s.reading.counts s.tables.items s.depth number (Some body)
  pub loads : reading_loads body.reading ≡ true

-- these are the numbers of all such entries, in their order
pub record AreLoading (s : Survey) (numbers : List ℕ) : Type 0 where
  pub exactly : (number : ℕ) → (Contains numbers number) ↔ (LoadsTables s number)
  pub ascending : IsStrictlyIncreasing numbers

-- the note of such an entry stands where its term stands, in the scope of the method
abbrev pub load_note : Entry → Note
load_note e = record { site = site_of e.term.place; reason = Loads; scope = Some e.path }

abbrev pub load_notes : List Entry → (numbers : List ℕ) → List Note
load_notes es numbers = filter_map (λ n. option_map load_note (slice_get es n)) numbers

-- what is noticed in the tables of a survey and in the bodies of their methods, by site
pub record AreSurveyNotes (s : Survey) (notes : List Note) : Type 0 where
  pub loading : List ℕ
  pub are_loading : AreLoading s loading
  pub by_site : AreBySite
      (notes_in s.reading s.tables.items ++ load_notes s.reading.walk.entries loading) notes
