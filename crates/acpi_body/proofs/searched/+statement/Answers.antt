-- What a wrong body leaves open is named here: its refusal then names it, and needs no second search.
use Rattle.std.proofs.Common.{rules}
use Rattle.acpi_body.proofs.searched.+statement.Goals as goal

pub else_statements-returns-in-Some-clause-gathered : goal.else_statements-returns-in-Some-clause-gathered
else_statements-returns-in-Some-clause-gathered g t c = search rules

pub else_statements-returns-in-Some-clause-locals : goal.else_statements-returns-in-Some-clause-locals
else_statements-returns-in-Some-clause-locals g t c = search rules
