use Rattle.std.proofs.Common.{◌≡◌, drop}
use Rattle.acpi_space.proofs.Nearest.{nearest_from, nearest_of}
use Rattle.acpi_space.proofs.nodes.nearest_to.Given as goal

abbrev pub invariant-loop-depth : goal.invariant-loop-depth
invariant-loop-depth g l = nearest_from l.nodes l.number l.seg l.depth (drop l.depth l.scope) l.found ≡ nearest_of l.nodes l.scope l.seg
