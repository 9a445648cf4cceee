use Rattle.std.proofs.Common.{◌≡◌, ℕ, map, drop}
use Rattle.acpi_ranges.specs.Places.{last_or}
use Rattle.acpi_ranges.specs.steps.ByPlace.{kept_at}
use Rattle.acpi_ranges.proofs.scopes.put_opened.Given as goal

abbrev pub invariant-each : goal.invariant-each
invariant-each l =
    (q : ℕ) → last_or (kept_at l.paths q) (map (λ o. (o.place, o.path)) (drop l.scope-index l.opened)) q
    ≡ last_or (kept_at l.initial.paths q) (map (λ o. (o.place, o.path)) l.opened) q
