use Rattle.std.proofs.Common.{◌+◌, ◌*◌, length}
use Rattle.acpi_tree.specs.TermView.{terms_view}
use Rattle.acpi_body.specs.steps.Reading.{statement_at}
use Rattle.acpi_body.proofs.Stated.{Stated}
use Rattle.acpi_body.proofs.statement.+statement.Given as goal

abbrev pub decreases-statement : goal.decreases-statement
decreases-statement g l = 8 * l.level

abbrev pub decreases-statements : goal.decreases-statements
decreases-statements g l = 8 * l.level + 1

abbrev pub decreases-else_statements : goal.decreases-else_statements
decreases-else_statements g l = 8 * l.level + 2

abbrev pub decreases-while_statement : goal.decreases-while_statement
decreases-while_statement g l = 8 * l.level + 2

abbrev pub decreases-if_statement : goal.decreases-if_statement
decreases-if_statement g l = 8 * l.level + 3

abbrev pub decreases-form : goal.decreases-form
decreases-form g l = 8 * l.level + 4

abbrev pub invariant-statements-each : goal.invariant-statements-each
invariant-statements-each g l = Stated (statement_at (g.M.MethodCounting.grammar l.counting) (g.M.MethodCounting.method l.counting) l.level) (g.M.MethodCounting.method l.counting) l.initial.locals l.fn.code l.locals l.code (terms_view l.found.items)

abbrev pub decreases-statements-each : goal.decreases-statements-each
decreases-statements-each g l = length l.code.bytes
