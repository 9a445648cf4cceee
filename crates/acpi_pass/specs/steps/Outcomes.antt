-- What the end of a pass tells.
use Rattle.std.specs.Prelude.{◌≡◌, Result, Ok, Err}
use Rattle.std.specs.Result.{MatchResult}
use Rattle.acpi_pass.specs.declared.refusal.PassError.{PassError}
use Rattle.acpi_pass.specs.declared.refusal.PassError.TheVariants.{Refused, Memory}
use Rattle.acpi_pass.specs.Placing.{RefusedAt}
use Rattle.acpi_pass.specs.steps.Pass.{Pass, Passing}

-- a refusal is the outcome's; want of memory tells nothing
abbrev pub IsPassErrorOf : {A : Type 0} → PassError → Result A RefusedAt → Type 0
IsPassErrorOf (Refused r p) outcome = outcome ≡ Err (r, p)
IsPassErrorOf Memory outcome = Unit {0}

-- a step answers the outcome's value, or tells its refusal
abbrev pub IsOutcome : {A : Type 0} → Result A PassError → Result A RefusedAt → Type 0
IsOutcome result outcome = MatchResult result (λ x. outcome ≡ Ok x) (λ f. IsPassErrorOf f outcome)

-- steps that succeed end in the outcome's state; steps that are refused tell its refusal
abbrev pub Ends : {A : Type 0} → Result A PassError → Passing → Pass → Type 0
Ends result outcome now = MatchResult result (λ _. outcome ≡ Ok now) (λ f. IsPassErrorOf f outcome)
