-- Where a walk over the lines of a body stands.
use Rattle.std.specs.Prelude.{◌≡◌, ◌≤◌, ℕ, Bool, true, List, length, map, take}
use Rattle.std.specs.Global.{Vec}
use Rattle.acpi_space.specs.Search.{tries}
use Rattle.acpi_conditions.specs.Entries.{Path}
use Rattle.acpi_uses.specs.declared.guards.GuardStep.{GuardStep}
use Rattle.acpi_uses.specs.steps.GuardWalks.{found_by, shown_by}
use Rattle.acpi_name_checks.specs.Guarding.{shown_at}

-- So many of the steps were taken, which gave so many lines; of each name that is shown behind them these are the tries. Where the
-- last of the steps was a statement, these names are shown at its line.
pub record Stands (scope : Path) (steps : List GuardStep) (next line : ℕ) (is_at_line : Bool) (shown : List (Vec Path)) : Type 0 where
  pub ahead : line ≤ next
  pub within : next ≤ length steps
  pub lines : line ≡ length (found_by (take next steps))
  pub tried : map (λ v. v.items) shown ≡ map (tries scope) (shown_by (take next steps))
  pub here : is_at_line ≡ true → shown_at (found_by steps) line ≡ shown_by (take next steps)
