-- What a run tells of a load's refusal.
use Rattle.std.proofs.Common.{◌≡◌, [], ◌∷◌, ℕ, List, Option, refl, sym, ap, subst}
use Rattle.std.proofs.KnownBytes.{Appends-nil}
use Rattle.std.specs.declared.io.ErrorKind.{ErrorKind}
use Rattle.acpi_declare.specs.Refusals.{IsLoadFault}
use Rattle.acpi_declare.specs.declared.fault.LoadFault.{LoadFault}
use Rattle.acpi_declare.specs.declared.fault.LoadFault.TheVariants.{At, Memory}
use Rattle.acpi_declare.specs.declared.fault.LoadReason.{LoadReason}
use Rattle.acpi_declare.specs.declared.fault.LoadReason.TheVariants as reasons
use Rattle.acpins_words.specs.Words.{Text, Command, listing, showing, checking, rewriting, Asked}
use Rattle.acpins_run.specs.Input.{FileBytes, AreTablesOf}
use Rattle.acpins_run.specs.Failures.{failure_of}
use Rattle.acpins_run.specs.Runs.{IsFailureOf, IsRunFailure, GetsBeginning, loaded_by}
use Rattle.acpins_run.specs.declared.failure.Failure.TheVariants.{Output}

-- a refusal of what the command loads is a failure of the run
pub refusal_of : (bytes_of : FileBytes) (last : Option ErrorKind) (asked : Asked) (tables loaded : List (List ℕ)) (e : LoadFault) → AreTablesOf bytes_of asked.hex asked.files tables
    → loaded_by asked.command tables ≡ loaded → IsLoadFault asked.depth loaded e → IsFailureOf bytes_of last asked (failure_of e)
refusal_of bytes_of last asked tables loaded Memory of_files same refused = tt
refusal_of bytes_of last asked tables loaded (At table reason) of_files same refused =
    by reason (subst (λ (ts : List (List ℕ)). IsLoadFault asked.depth ts (At table reason)) (sym same) refused)
  where
    by : (r : LoadReason) → IsLoadFault asked.depth (loaded_by asked.command tables) (At table r) → IsFailureOf bytes_of last asked (failure_of (At table r))
    by (reasons.Table f) h = record { tables = tables; of_files = of_files; fault = At table (reasons.Table f); refused = h; told = refl }
    by reasons.NotDsdt h = record { tables = tables; of_files = of_files; fault = At table reasons.NotDsdt; refused = h; told = refl }
    by reasons.NotSsdt h = record { tables = tables; of_files = of_files; fault = At table reasons.NotSsdt; refused = h; told = refl }
    by reasons.Trailing h = record { tables = tables; of_files = of_files; fault = At table reasons.Trailing; refused = h; told = refl }
    by (reasons.Item r p) h = record { tables = tables; of_files = of_files; fault = At table (reasons.Item r p); refused = h; told = refl }
    by (reasons.Refused r p) h = record { tables = tables; of_files = of_files; fault = At table (reasons.Refused r p); refused = h; told = refl }

-- ---- what each command loads

pub all_listed : (c : Command) (tables : List (List ℕ)) → c ≡ listing → loaded_by c tables ≡ tables
all_listed c tables is = ap (λ (x : Command). loaded_by x tables) is

pub all_shown : (c : Command) (word : Text) (tables : List (List ℕ)) → c ≡ showing word → loaded_by c tables ≡ tables
all_shown c word tables is = ap (λ (x : Command). loaded_by x tables) is

pub all_rewritten : (c : Command) (word : Text) (tables : List (List ℕ)) → c ≡ rewriting word → loaded_by c tables ≡ tables
all_rewritten c word tables is = ap (λ (x : Command). loaded_by x tables) is

pub first_checked : (c : Command) (dsdt : List ℕ) (ssdts : List (List ℕ)) → c ≡ checking → loaded_by c (dsdt ∷ ssdts) ≡ dsdt ∷ []
first_checked c dsdt ssdts is = ap (λ (x : Command). loaded_by x (dsdt ∷ ssdts)) is

-- ---- output that can't be written

-- nothing is a beginning of the output
pub begins_with_nothing : (bytes_of : FileBytes) (last : Option ErrorKind) (words : List Text) (old : Option (List ℕ)) → IsRunFailure bytes_of last words Output → GetsBeginning bytes_of words old old
begins_with_nothing bytes_of last words old h = (h.0, h.1, h.2, ([], h.1, refl, Appends-nil old))
