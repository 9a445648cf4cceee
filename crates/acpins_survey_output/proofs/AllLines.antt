-- The text of all entries.
use Rattle.std.proofs.Common.{◌≡◌, ◌∙◌, ℕ, List, [], ◌++◌, map, ap, sym}
use Rattle.std.specs.Borrow.{Bor}
use Rattle.std.specs.List.{flat_map}
use Rattle.acpi_condition_list.specs.ConditionLists.{Conditioned, conditioned_view, numbered_pair}
use Rattle.acpi_condition_list.specs.declared.list.ConditionedEntry.{ConditionedEntry}
use Rattle.acpi_conditions.specs.Entries.{Path}
use Rattle.acpi_survey.specs.declared.machine_survey.Survey.{Survey}
use Rattle.acpi_findings.specs.declared.findings.Findings.{Findings}
use Rattle.acpi_findings.specs.declared.notes.Note.{Note}
use Rattle.acpi_findings.specs.declared.problems.Problem.{Problem}
use Rattle.acpins_survey_output.specs.Found.{found_text}
use Rattle.acpi_conditions.specs.ByPath.{lent_pair}
use Rattle.acpins_survey_output.specs.Listings.{numbered_line}
use Rattle.acpins_survey_output.proofs.Separating.{flat_mapped}

-- the pairs of entries are those of an order
lines_of_order : (line : Path × ℕ → List ℕ) (order : List (Path × ℕ)) (entries : List ConditionedEntry) → map numbered_pair (map conditioned_view entries) ≡ order
    → flat_map (λ e. line (numbered_pair (conditioned_view e))) entries ≡ flat_map line order
lines_of_order line order entries same =
    sym (flat_mapped (λ (x : Conditioned). line (numbered_pair x)) conditioned_view entries) ∙ sym (flat_mapped line numbered_pair (map conditioned_view entries)) ∙ ap (flat_map line) same

-- a line for each entry, and those of problems and notes behind
pub listed : (s : Survey) (f : Findings) (order lent : List (Bor Path × ℕ)) (entries given : List ConditionedEntry) (ps : List Problem) (ns : List Note) (start mid new : List ℕ) → start ≡ []
    → lent ≡ order → given ≡ entries → map numbered_pair (map conditioned_view entries) ≡ map lent_pair lent → ps ≡ f.problems.items → ns ≡ f.notes.items
    → mid ≡ start ++ flat_map (λ e. numbered_line s e.path.now e.number) given → new ≡ mid ++ found_text ps ns
    → new ≡ flat_map (λ (x : Path × ℕ). numbered_line s x.0 x.1) (map lent_pair order) ++ found_text f.problems.items f.notes.items
listed s f order lent entries given ps ns start mid new none same all pairs problems notes first last =
    let line = λ (x : Path × ℕ). numbered_line s x.0 x.1 in
    let lines : mid ≡ flat_map line (map lent_pair order) =
    first ∙ ap (λ t. t ++ flat_map (λ e. numbered_line s e.path.now e.number) given) none
    ∙ ap (λ xs. flat_map (λ (e : ConditionedEntry). numbered_line s e.path.now e.number) xs) all
    ∙ lines_of_order line (map lent_pair order) entries (pairs ∙ ap (map lent_pair) same) in
    last ∙ ap (λ qs. mid ++ found_text qs ns) problems ∙ ap (λ ms. mid ++ found_text f.problems.items ms) notes
    ∙ ap (λ t. t ++ found_text f.problems.items f.notes.items) lines
