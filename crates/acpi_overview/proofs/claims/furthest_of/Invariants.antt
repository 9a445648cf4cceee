use Rattle.std.proofs.Common.{◌≡◌, ◌≤◌, ◌<◌, ◌+◌, ℕ, length, get_or}
use Rattle.acpi_overview.specs.steps.ClaimOrder.{IsLast}
use Rattle.acpi_overview.proofs.claims.furthest_of.Given as goal

abbrev pub invariant-places : goal.invariant-places
invariant-places l = record {
  behind : l.best ≤ l.place;
  counted : length l.furthest.items ≡ l.place;
  best : IsLast l.claims l.place l.best;
  furthest : (i : ℕ) → i < l.place
      → (get_or l.furthest.items i 0 ≤ i) × IsLast l.claims (i + 1) (get_or l.furthest.items i 0);
}
