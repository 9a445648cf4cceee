-- Refusals of a load.
use Rattle.std.proofs.Common.{◌≡◌, ◌≢◌, ℕ, Bool, true, false, List, Some, None, subst, sym, ◌∙◌}
use Rattle.std.specs.Prelude.{if◌then◌else◌}
use Rattle.acpi_declare.specs.Loads.{HasNoLoad}
use Rattle.acpi_declare.specs.Refusals.{IsLoadFault}
use Rattle.acpi_declare.specs.declared.fault.LoadFault.{LoadFault}
use Rattle.acpi_declare.specs.declared.fault.LoadFault.TheVariants.{At, Memory}
use Rattle.acpi_declare.specs.declared.fault.LoadReason.{LoadReason}
use Rattle.acpins_records.specs.declared.outcome.Outcome.{Outcome}
use Rattle.acpins_records.specs.Outcomes.{refused_as}
use Rattle.acpins_records.specs.Written.{IsRefusal, TellsPath}

pub refusal : (depth : ℕ) (tables copied : List (List ℕ)) (table : ℕ) (reason : LoadReason) (old new : List ℕ) (outcome : Outcome) → copied ≡ tables
    → IsLoadFault depth copied (At table reason) → HasNoLoad depth copied → outcome ≡ refused_as table reason outcome.text → TellsPath reason outcome.text old new
    → IsRefusal depth tables old new outcome
refusal depth tables copied table reason old new outcome same fault none outcome_is path_is = record {
  table = table;
  reason = reason;
  fault = subst (λ ts. IsLoadFault depth ts (At table reason)) same fault;
  none = subst (HasNoLoad depth) same none;
  outcome_is = outcome_is;
  path_is = path_is;
}

-- a depth that is given is the one that was asked for
pub given_depth : (b : Bool) (d n : ℕ) → Some d ≡ (if b then Some n else None) → d ≡ n
given_depth true d n e = cc
given_depth false d n e = absurd (cc)

-- a fault that was met, with its parts
pub refusal_of : (depth asked : ℕ) (tables copied : List (List ℕ)) (fault : LoadFault) (table : ℕ) (reason : LoadReason) (old new : List ℕ) (outcome : Outcome)
    → depth ≡ asked → copied ≡ tables → fault ≡ At table reason → IsLoadFault depth copied fault → (fault ≢ Memory → HasNoLoad depth copied)
    → outcome ≡ refused_as table reason outcome.text → TellsPath reason outcome.text old new → IsRefusal asked tables old new outcome
refusal_of depth asked tables copied fault table reason old new outcome same_depth same is told none outcome_is path_is =
    subst (λ d. IsRefusal d tables old new outcome) same_depth
    (refusal depth tables copied table reason old new outcome same (subst (IsLoadFault depth copied) is told) (none (λ memory. let bad : At table reason ≡ Memory = sym is ∙ memory in cc)) outcome_is path_is)
