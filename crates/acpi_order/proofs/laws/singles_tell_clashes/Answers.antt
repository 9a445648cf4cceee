use Rattle.acpi_order.proofs.Singles.{same_by_lists, missed_by_lists}
use Rattle.acpi_order.proofs.laws.singles_tell_clashes.Goals as goal

pub returns-clause-same : goal.returns-clause-same
returns-clause-same c depth dsdt ssdts i j b b' below at there m n ds ds' ms ms' ws ws' s r =
    same_by_lists depth dsdt ssdts i j b b' at there m n ds ds' ms ms' ws ws' s r below

pub returns-clause-missed : goal.returns-clause-missed
returns-clause-missed c depth dsdt ssdts i j b b' ne at there m n ds ds' ms ms' ws ws' s r =
    missed_by_lists depth dsdt ssdts i j b b' at there m n ds ds' ms ms' ws ws' s r ne
