use Rattle.acpi_order.proofs.Joined.{load_exists}
use Rattle.acpi_order.proofs.Orders.{joins_in_any_order, one_in_any_order}
use Rattle.acpi_order.proofs.Told.{load_tells_join, each_order_loads}
use Rattle.acpi_order.proofs.laws.independent_tables_load.Goals as goal

pub returns-clause-exists : goal.returns-clause-exists
returns-clause-exists c = load_exists

pub returns-clause-join : goal.returns-clause-join
returns-clause-join c = λ depth dsdt ssdts given m. joins_in_any_order depth dsdt ssdts given m

pub returns-clause-alike : goal.returns-clause-alike
returns-clause-alike c = one_in_any_order

pub returns-clause-told : goal.returns-clause-told
returns-clause-told c = load_tells_join

pub returns-clause-orders : goal.returns-clause-orders
returns-clause-orders c = each_order_loads
