use Rattle.std.proofs.Common.{◌≡◌, ◌++◌, drop}
use Rattle.std.specs.List.{flat_map}
use Rattle.acpi_survey.specs.Reading.{counts_at}
use Rattle.acpi_survey.proofs.reading.Reading.count_at.Given as goal

abbrev pub invariant-each : goal.invariant-each
invariant-each l =
    l.found.items ++ flat_map (counts_at (l.self)) (drop l.path-index l.path-items)
    ≡ flat_map (counts_at (l.self)) l.path-items
