-- What a wrong body leaves open is named here: its refusal then names it, and needs no second search.
use Rattle.std.proofs.Common.{rules, arith}
use Rattle.acpi_table.specs.PkgLength.{shortest_pkg_length}
use Rattle.acpi_table.proofs.PkgLengths.{shortest_is}
use Rattle.acpi_table.proofs.lengths.write_pkg_length.Goals as goal

pub returns-clause-shortest : goal.returns-clause-shortest
unfolding shortest_pkg_length
returns-clause-shortest c = grind (arith, shortest_is)

pub returns-clause-exact : goal.returns-clause-exact
unfolding shortest_pkg_length
returns-clause-exact c = search rules
