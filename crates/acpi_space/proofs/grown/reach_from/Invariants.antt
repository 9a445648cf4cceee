use Rattle.std.proofs.Common.{◌≡◌, ◌<◌, length, take, Some}
use Rattle.acpi_space.specs.steps.Grown.{IsGrown}
use Rattle.acpi_space.specs.steps.Trail.{IsTrail}
use Rattle.acpi_space.specs.steps.Tree.{reached}
use Rattle.acpi_space.proofs.grown.reach_from.Given as goal

abbrev pub invariant-loop-seg : goal.invariant-loop-seg
invariant-loop-seg g l = record {
  grown : IsGrown l.fn.nodes.items l.nodes.items;
  reached : reached l.nodes.items l.from (take l.seg-index l.path) ≡ Some l.number;
  within : l.number < length l.nodes.items;
  trail : IsTrail l.nodes.items 0 l.trail.items;
}
