use Rattle.std.proofs.Common.{◌≡◌, ◌++◌, not, drop}
use Rattle.std.specs.List.{filter}
use Rattle.acpi_conditions.specs.Known.{is_certain_name}
use Rattle.acpi_conditions.proofs.placing.uncertain_names.Given as goal

abbrev pub invariant-loop-name : goal.invariant-loop-name
invariant-loop-name g l =
    l.asked.items ++ filter (λ n. not (is_certain_name (g.S.Statuses.known l.known) l.scope n)) (drop l.name-index l.names)
    ≡ filter (λ n. not (is_certain_name (g.S.Statuses.known l.known) l.scope n)) l.names
