use Rattle.std.proofs.Common.{◌≡◌, ℕ, map, drop}
use Rattle.acpi_ranges.specs.Places.{last_or}
use Rattle.acpi_ranges.specs.steps.ByPlace.{kept_at}
use Rattle.acpi_ranges.proofs.index.put_unknown.Given as goal

abbrev pub invariant-each : goal.invariant-each
invariant-each l =
    (q : ℕ) → last_or (kept_at l.names q) (map (λ u. (u.place, u.names)) (drop l.node-index l.unknown)) q
    ≡ last_or (kept_at l.initial.names q) (map (λ u. (u.place, u.names)) l.unknown) q
