-- What a wrong body leaves open is named here: its refusal then names it, and needs no second search.
use Rattle.std.proofs.Common.{rules}
use Rattle.acpi_tree.proofs.object.Object.args.Goals as goal

pub returns-in-Method-clause-count : goal.returns-in-Method-clause-count
returns-in-Method-clause-count c = search rules

pub returns-in-Method-clause-few : goal.returns-in-Method-clause-few
returns-in-Method-clause-few c = search rules
