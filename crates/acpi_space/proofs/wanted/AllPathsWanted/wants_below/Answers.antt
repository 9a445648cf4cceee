use Rattle.std.proofs.Common.{sym}
use Rattle.acpi_space.proofs.AmongPaths.{some_beginning}
use Rattle.acpi_space.proofs.wanted.AllPathsWanted.wants_below.Goals as goal

pub returns : goal.returns
returns c = sym (some_beginning c.args._scope.now)
