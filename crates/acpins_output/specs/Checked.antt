-- What `check` prints of SSDTs over a DSDT, and its status (docs/COMMAND.md).
use Rattle.std.specs.Prelude.{◌≡◌, ℕ, List, [], ◌∷◌, ◌++◌, codes, decimal}
use Rattle.std.specs.List.{flat_map}
use Rattle.acpi_name.specs.Names.{Segment}
use Rattle.acpi_name.specs.Text.{path_text}
use Rattle.acpi_declare.specs.declared.fault.LoadReason.{LoadReason}
use Rattle.acpi_order.specs.Verdicts.{VerdictTree, commute, not_alone, same, missed, IsReasonAt, IsVerdict}
use Rattle.acpi_verdict.specs.declared.verdicts.Satisfied.{Satisfied}
use Rattle.acpi_verdict.specs.SatisfiedView.{AreSatisfied}
use Rattle.acpins_output.specs.FaultTexts.{fault_text}

-- two numbers of tables and a path, behind a word
abbrev pub triple_line : List ℕ → ℕ → ℕ → List Segment → List ℕ
triple_line word i j p =
    word ++ codes " " ++ decimal i ++ codes " " ++ decimal j ++ codes " " ++ path_text p ++ 10 ∷ []

-- an External of the user that the definer satisfies
abbrev pub satisfied_line : Satisfied → List ℕ
satisfied_line t = triple_line (codes "satisfied") t.user t.definer t.path

-- what is printed for a verdict: `commute` and a line for each satisfied External, with status 0; else its one line,
-- with status 3
abbrev pub ChecksAs : ℕ → List ℕ → List (List ℕ) → VerdictTree → ℕ → List ℕ → Type 0
ChecksAs depth dsdt ssdts commute status text =
    (status ≡ 0) × (triples : List Satisfied) × AreSatisfied depth dsdt ssdts triples
    × (text ≡ codes "commute" ++ (10 ∷ []) ++ flat_map satisfied_line triples)
ChecksAs depth dsdt ssdts (not_alone i) status text =
    (status ≡ 3) × (reason : LoadReason) × IsReasonAt depth dsdt ssdts i reason
    × (text ≡ codes "not alone " ++ decimal i ++ codes ": " ++ fault_text reason ++ 10 ∷ [])
ChecksAs depth dsdt ssdts (same i j p) status text =
    (status ≡ 3) × (text ≡ triple_line (codes "same") i j p)
ChecksAs depth dsdt ssdts (missed i j p) status text =
    (status ≡ 3) × (text ≡ triple_line (codes "missed") i j p)

-- the text and the status are those of the verdict
abbrev pub Checks : ℕ → List ℕ → List (List ℕ) → ℕ → List ℕ → Type 0
Checks depth dsdt ssdts status text =
    (v : VerdictTree) × IsVerdict depth dsdt ssdts v × ChecksAs depth dsdt ssdts v status text
