use Rattle.std.proofs.Common.{◌≡◌, ◌++◌, map, reverse}
use Rattle.acpi_space.specs.steps.Walk.{enter}
use Rattle.acpi_space.proofs.children.push_entries.Given as goal

abbrev pub invariant-loop-seg : goal.invariant-loop-seg
invariant-loop-seg l = map enter l.seg-iterator.iter ++ reverse l.steps.items ≡ map enter l.numbers.entries ++ reverse l.fn.steps.items
