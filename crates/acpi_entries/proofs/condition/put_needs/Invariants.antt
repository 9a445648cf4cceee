use Rattle.std.proofs.Common.{◌≡◌, ◌++◌, map, drop}
use Rattle.acpi_entries.specs.Condition.{literal_at, needs}
use Rattle.acpi_entries.specs.ConditionViews.{placed_views}
use Rattle.acpi_entries.proofs.condition.put_needs.Given as goal

abbrev pub invariant-each : goal.invariant-each
invariant-each l = placed_views l.literals.items ++ map (λ n. literal_at l.place (needs n)) (drop l.name-index l.names)
    ≡ placed_views l.initial.literals.items ++ map (λ n. literal_at l.place (needs n)) l.names
