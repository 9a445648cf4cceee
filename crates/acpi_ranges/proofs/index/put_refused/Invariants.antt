use Rattle.std.proofs.Common.{◌≡◌, ℕ, map, drop}
use Rattle.acpi_ranges.specs.Places.{last_or}
use Rattle.acpi_ranges.specs.steps.ByPlace.{kept_at}
use Rattle.acpi_ranges.proofs.index.put_refused.Given as goal

abbrev pub invariant-each : goal.invariant-each
invariant-each l =
    (q : ℕ) → last_or (kept_at l.reasons q) (map (λ r. (r.place, r.reason)) (drop l.refusal-index l.refused)) q
    ≡ last_or (kept_at l.initial.reasons q) (map (λ r. (r.place, r.reason)) l.refused) q
