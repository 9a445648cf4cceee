use Rattle.std.proofs.Common.{take}
use Rattle.acpi_condition_list.specs.ConditionLists.{IsWay}
use Rattle.acpi_condition_list.specs.steps.Growing.{Grows}
use Rattle.acpi_condition_list.proofs.list.ConditionList.come_to_all.Given as goal

abbrev pub invariant-each : goal.invariant-each
invariant-each l = record {
  grown : Grows l.initial.self.steps.items l.self.steps.items;
  way : IsWay l.self.steps.items l.before (take l.source-index l.sources);
}
