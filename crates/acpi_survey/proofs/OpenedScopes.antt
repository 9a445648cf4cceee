-- The Scopes that were entered.
use Rattle.std.proofs.Common.{◌≡◌, ℕ, true, false, true≢false, List, [], ◌∷◌, ◌++◌, is_ok, Result, Ok, Err, refl, sym}
use Rattle.acpi_conditions.specs.Entries.{Path, Why}
use Rattle.acpi_conditions.specs.Walk.{Walk, enter_scope_as}
use Rattle.acpi_survey.specs.Reading.{with_opened}

-- a Scope that is entered has its target as the scope inside
pub opened_more : (place : ℕ) (w : Walk) (o : Result Path Why) (os : List (ℕ × Path)) → is_ok o ≡ true → with_opened place o os ≡ os ++ (place, (enter_scope_as place w o).around.scope) ∷ []
opened_more place w (Ok p) os e = refl
opened_more place w (Err why) os e = absurd (true≢false (sym e))

pub opened_same : (place : ℕ) (o : Result Path Why) (os : List (ℕ × Path)) → is_ok o ≡ false → with_opened place o os ≡ os
opened_same place (Ok p) os e = absurd (true≢false e)
opened_same place (Err why) os e = refl
