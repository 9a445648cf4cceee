use Rattle.std.proofs.Common.{◌≡◌, ◌++◌, drop, map}
use Rattle.acpi_conditions.specs.ByPath.{lent_pair}
use Rattle.acpi_conditions.proofs.by_path.put_sights.Given as goal

-- the pairs so far and those that are left
abbrev pub invariant-each : goal.invariant-each
invariant-each l =
    map lent_pair l.order.items ++ map (λ x. (l.path, x.number)) (drop l.sight-index l.sights)
    ≡ map lent_pair l.initial.order.items ++ map (λ x. (l.path, x.number)) l.sights
