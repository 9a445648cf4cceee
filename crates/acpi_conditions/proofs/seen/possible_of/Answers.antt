use Rattle.std.proofs.Common.{map, sym}
use Rattle.acpi_conditions.specs.Turns.{turn_of}
use Rattle.acpi_conditions.proofs.Viewing.{scope_is_possible}
use Rattle.acpi_conditions.proofs.seen.possible_of.Goals as goal

pub returns-then-any_passes-clause-something : goal.returns-then-any_passes-clause-something
returns-then-any_passes-clause-something c = sym (scope_is_possible c.args.ways.now (map turn_of c.args.turns.now) c.args.entries.now c.args.sights.now cc)
