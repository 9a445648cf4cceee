use Rattle.std.proofs.Common.{◌≡◌, ◌++◌, Some, drop, map}
use Rattle.acpi_conditions.specs.Entries.{Entry}
use Rattle.acpi_condition_list.specs.ConditionLists.{entry_numbered, source_literal}
use Rattle.acpi_condition_list.specs.steps.Growing.{needs_literal}
use Rattle.acpi_condition_list.proofs.sources.put_needs.Given as goal

abbrev pub invariant-each : goal.invariant-each
invariant-each l = (e : Entry) → entry_numbered l.survey l.number ≡ Some e → e.asks.needs ≡ l.names
    → map (source_literal l.survey) l.sources.items ++ map (needs_literal e) (drop l.name l.names)
    ≡ map (source_literal l.survey) l.initial.sources.items ++ map (needs_literal e) l.names
