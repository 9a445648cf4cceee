use Rattle.std.proofs.Common.{◌∙◌}
use Rattle.std.specs.Ordering.{eq_by_cmp}
use Rattle.acpi_name.specs.NameEqual.{name_eq}
use Rattle.acpi_name_checks.specs.steps.NameOrder.{name_cmp}
use Rattle.acpi_name_checks.specs.steps.NameSets.{has_name}
use Rattle.acpi_name_checks.proofs.NameOrders.{names_tied, one_more}
use Rattle.acpi_name_checks.proofs.name_set.NameSet.insert.Goals as goal

pub returns : goal.returns
returns c n =
    c.in_ok-insert.ensures.updates.0 n
    ∙ one_more (name_eq c.args.name.now n) (eq_by_cmp name_cmp c.args.name.now n) (has_name c.args.self.now n) (names_tied c.args.name.now n)
