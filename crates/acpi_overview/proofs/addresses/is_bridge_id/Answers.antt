use Rattle.std.proofs.Common.{rules, tests}
use Rattle.std.proofs.lemmas.Iterator.{YieldsList-from_slice}
use Rattle.std.proofs.lemmas.Iterator.Search.{any_from_yields_List}
use Rattle.acpi_overview.specs.HostBridges.{is_bridge_term}
use Rattle.acpi_overview.proofs.addresses.is_bridge_id.Goals as goal

pub returns-in-Package : goal.returns-in-Package
returns-in-Package c = rw c.in-Package.is (any_from_yields_List is_bridge_term _ _ _ c.any.ensures.ran
    (YieldsList-from_slice c.in-Package.elements.now cc) (λ x b q k. search (rules, tests)))
