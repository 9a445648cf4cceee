-- What is written of the verdict on SSDTs (docs/LIBRARY.md).
use Rattle.std.specs.Prelude.{◌≡◌, ◌⊎◌, ◌<◌, ◌+◌, ℕ, List, [], ◌∷◌, length}
use Rattle.std.specs.List.{flat_map}
use Rattle.acpi_name.specs.Text.{path_text}
use Rattle.acpi_declare.specs.declared.fault.LoadReason.{LoadReason}
use Rattle.acpi_order.specs.Verdicts.{VerdictTree, commute, not_alone, same, missed, IsReasonAt, IsVerdict}
use Rattle.acpi_verdict.specs.declared.verdicts.Satisfied.{Satisfied}
use Rattle.acpi_verdict.specs.SatisfiedView.{AreSatisfied}
use Rattle.acpins_records.specs.declared.check.VerdictRecord.{VerdictRecord}
use Rattle.acpins_records.specs.declared.check.SatisfiedRecord.{SatisfiedRecord}
use Rattle.acpins_records.specs.declared.outcome.Outcome.{Outcome}
use Rattle.acpins_records.specs.Outcomes.{text_outcome, reason_code, place_of, reason_path}
use Rattle.acpins_records.specs.Written.{IsFront}

-- the paths of satisfied Externals, one behind the other
abbrev pub satisfied_text : List Satisfied → List ℕ
satisfied_text ts = flat_map (λ t. path_text t.path) ts

-- a record for each, the first of whose paths begins there
abbrev pub satisfied_from : ℕ → List Satisfied → List SatisfiedRecord
satisfied_from begin [] = []
satisfied_from begin (t ∷ ts) =
    record {
      user = t.user;
      definer = t.definer;
      path = begin;
      path_length = length (path_text t.path);
    }
    ∷ satisfied_from (begin + length (path_text t.path)) ts

abbrev pub verdict_record : (order first second reason place path_length satisfied : ℕ)
    → VerdictRecord
verdict_record order first second reason place path_length satisfied = record {
  order = order;
  first = first;
  second = second;
  reason = reason;
  place = place;
  path_length = path_length;
  satisfied = satisfied;
}

-- a verdict as a record, records of satisfied Externals, and text
abbrev pub Answers : ℕ → List ℕ → List (List ℕ) → VerdictTree → VerdictRecord → List SatisfiedRecord
    → List ℕ → Type 0
Answers depth dsdt ssdts commute r satisfied text =
    (triples : List Satisfied) × AreSatisfied depth dsdt ssdts triples
    × (r ≡ verdict_record 0 0 0 0 0 0 (length triples)) × (satisfied ≡ satisfied_from 0 triples)
    × (text ≡ satisfied_text triples)
Answers depth dsdt ssdts (not_alone i) r satisfied text =
    (reason : LoadReason) × IsReasonAt depth dsdt ssdts i reason
    × (r ≡ verdict_record 1 i 0 (reason_code reason) (place_of reason)
    (length (reason_path reason)) 0)
    × (satisfied ≡ []) × (text ≡ reason_path reason)
Answers depth dsdt ssdts (same i j p) r satisfied text =
    (r ≡ verdict_record 2 i j 0 0 (length (path_text p)) 0) × (satisfied ≡ [])
    × (text ≡ path_text p)
Answers depth dsdt ssdts (missed i j p) r satisfied text =
    (r ≡ verdict_record 3 i j 0 0 (length (path_text p)) 0) × (satisfied ≡ [])
    × (text ≡ path_text p)

-- .. of the verdict on the SSDTs
abbrev pub IsAnswerOf : ℕ → List ℕ → List (List ℕ) → VerdictRecord → List SatisfiedRecord → List ℕ
    → Type 0
IsAnswerOf depth dsdt ssdts r satisfied text =
    (v : VerdictTree) × IsVerdict depth dsdt ssdts v × Answers depth dsdt ssdts v r satisfied text

-- .. of tables, the first of which is the DSDT
abbrev pub IsAnswer : ℕ → List (List ℕ) → VerdictRecord → List SatisfiedRecord → List ℕ → Type 0
IsAnswer depth [] r satisfied text = ⊥
IsAnswer depth (dsdt ∷ ssdts) r satisfied text = IsAnswerOf depth dsdt ssdts r satisfied text

-- the answer stands at the fronts of the arrays
pub record IsVerdictWritten (depth : ℕ) (tables : List (List ℕ)) (old new : List SatisfiedRecord)
    (text text' : List ℕ) (r : VerdictRecord) (outcome : Outcome) : Type 0 where
  pub satisfied : List SatisfiedRecord
  pub said : List ℕ
  pub answer : IsAnswer depth tables r satisfied said
  pub records_are : IsFront satisfied old new
  pub text_is : IsFront said text text'
  pub outcome_is : outcome ≡ text_outcome (length said)

-- .. has no room there
pub record NeedsAnswerRoom (depth : ℕ) (tables : List (List ℕ)) (old : List SatisfiedRecord)
    (text : List ℕ) (r : VerdictRecord) (outcome : Outcome) : Type 0 where
  pub satisfied : List SatisfiedRecord
  pub said : List ℕ
  pub answer : IsAnswer depth tables r satisfied said
  pub short : (length old < length satisfied) ⊎ (length text < length said)
  pub outcome_is : outcome ≡ text_outcome (length said)
