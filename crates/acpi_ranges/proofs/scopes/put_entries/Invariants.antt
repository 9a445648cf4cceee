use Rattle.std.proofs.Common.{◌≡◌, ℕ, map, drop}
use Rattle.acpi_ranges.specs.Places.{last_or}
use Rattle.acpi_ranges.specs.steps.ByPlace.{kept_at}
use Rattle.acpi_ranges.proofs.scopes.put_entries.Given as goal

abbrev pub invariant-each : goal.invariant-each
invariant-each l =
    (q : ℕ) → last_or (kept_at l.paths q) (map (λ e. (e.term.place, e.path)) (drop l.entry-index l.entries)) q
    ≡ last_or (kept_at l.initial.paths q) (map (λ e. (e.term.place, e.path)) l.entries) q
