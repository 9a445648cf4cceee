use Rattle.std.proofs.Common.{refl, subst}
use Rattle.acpi_verdict.specs.VerdictView.{IsSinglesFault}
use Rattle.acpi_verdict.proofs.CheckedTables.{refused_checked}
use Rattle.acpi_verdict.proofs.checking.refused.Goals as goal

pub returns-in-At-clause-ok : goal.returns-in-At-clause-ok
returns-in-At-clause-ok c = λ depth dsdt ssdts h.
    refused_checked depth dsdt ssdts c.in-At.table c.in-At.table c.in-At.reason c.in-At.table c.in-At.reason c.new.result refl refl refl
    (subst (IsSinglesFault depth dsdt ssdts) c.in-At.is h) c.new.ensures.items
