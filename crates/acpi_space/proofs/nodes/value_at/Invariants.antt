use Rattle.std.proofs.Common.{◌≡◌, drop}
use Rattle.acpi_space.specs.steps.Tree.{value_below}
use Rattle.acpi_space.proofs.nodes.value_at.Given as goal

abbrev pub invariant-loop-seg : goal.invariant-loop-seg
invariant-loop-seg g l = value_below l.nodes l.number (drop l.seg-index l.path) ≡ value_below l.nodes l.from l.path
