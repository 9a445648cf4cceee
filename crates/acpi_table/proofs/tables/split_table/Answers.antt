-- What a wrong body leaves open is named here: its refusal then names it, and needs no second search.
use Rattle.std.proofs.Common.{rules, arith}
use Rattle.std.proofs.lemmas.Grind.{common_steps}
use Rattle.acpi_table.specs.Tables.{table_at}
use Rattle.acpi_table.proofs.tables.split_table.Goals as goal

pub returns-then-byte_sum-ne0-clause-found : goal.returns-then-byte_sum-ne0-clause-found
returns-then-byte_sum-ne0-clause-found c = tt

pub returns-then-byte_sum-ne0-clause-refused : goal.returns-then-byte_sum-ne0-clause-refused
unfolding table_at
returns-then-byte_sum-ne0-clause-refused c = search rules

pub returns-then-byte_sum-ne0-clause-exact : goal.returns-then-byte_sum-ne0-clause-exact
unfolding table_at
returns-then-byte_sum-ne0-clause-exact c = search rules

pub invariant_of-result : goal.invariant_of-result
invariant_of-result c = grind (arith, common_steps)
