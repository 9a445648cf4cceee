use Rattle.std.proofs.Common.{◌≡◌, length}
use Rattle.acpi_space.specs.Spaces.{is_defined}
use Rattle.acpi_space.specs.Search.{nearest_scope}
use Rattle.acpi_space.proofs.space.Space.nearest.Given as goal

abbrev pub invariant-loop-path : goal.invariant-loop-path
invariant-loop-path g l = nearest_scope (is_defined (g.Self.Space.contents l.self)) l.path l.seg ≡ nearest_scope (is_defined (g.Self.Space.contents l.self)) l.scope l.seg

abbrev pub decreases-loop-path : goal.decreases-loop-path
decreases-loop-path g l = length l.path
