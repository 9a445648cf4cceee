use Rattle.acpi_order.proofs.Orders.{independent_in_any_order, join_in_any_order}
use Rattle.acpi_order.proofs.laws.order_is_free.Goals as goal

pub returns-clause-independent : goal.returns-clause-independent
returns-clause-independent c = independent_in_any_order

pub returns-clause-join : goal.returns-clause-join
returns-clause-join c = join_in_any_order
