use Rattle.std.proofs.Common.{◌≡◌, ◌++◌, drop}
use Rattle.std.specs.List.{flat_map}
use Rattle.acpi_conditions.specs.Met.{numbers_met}
use Rattle.acpi_survey.specs.Counts.{counts_numbered}
use Rattle.acpi_survey.specs.Bodies.{counts_behind}
use Rattle.acpi_entries.proofs.setting.SettingMethodCounting.count.Given as goal

abbrev pub invariant-each : goal.invariant-each
invariant-each l =
    l.found.items ++ flat_map (counts_behind l.locals (λ p. counts_numbered l.self.counts.now (numbers_met l.self.met p))) (drop l.path-index l.path-items)
    ≡ flat_map (counts_behind l.locals (λ p. counts_numbered l.self.counts.now (numbers_met l.self.met p))) l.path-items
