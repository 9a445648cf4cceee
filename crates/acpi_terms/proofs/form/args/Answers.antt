-- What a wrong body leaves open is named here: its refusal then names it, and needs no second search.
use Rattle.std.proofs.Common.{rules}
use Rattle.acpi_terms.specs.steps.Reading.{args_in}
use Rattle.acpi_terms.proofs.form.args.Goals as goal

pub returns-clause-exact : goal.returns-clause-exact
unfolding args_in
returns-clause-exact c = search rules

pub returns-clause-few : goal.returns-clause-few
returns-clause-few c = search rules
