use Rattle.std.proofs.Common.{sym}
use Rattle.acpi_conditions.proofs.FactLists.{scope_is_seen}
use Rattle.acpi_conditions.proofs.facts.seen_of.Goals as goal

pub returns-then-is_scope_seen-clause-something : goal.returns-then-is_scope_seen-clause-something
returns-then-is_scope_seen-clause-something c = sym (scope_is_seen c.args.ranges.now c.args.sights.now cc)
