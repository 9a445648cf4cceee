use Rattle.std.proofs.Common.{◌≡◌, ◌++◌, drop, filter}
use Rattle.acpi_survey.specs.NameUses.{lent_names}
use Rattle.acpi_survey.specs.Reading.{is_unknown}
use Rattle.acpi_survey.proofs.reading.Reading.unknown_among.Given as goal

abbrev pub invariant-each : goal.invariant-each
invariant-each l =
    l.unknown.items ++ filter (is_unknown l.self) (lent_names (drop l.name-index l.names))
    ≡ filter (is_unknown l.self) (lent_names l.names)
