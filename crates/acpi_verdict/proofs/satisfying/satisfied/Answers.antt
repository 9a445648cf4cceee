use Rattle.acpi_verdict.proofs.satisfying.satisfied.Goals as goal

pub returns-clause-ok : goal.returns-clause-ok
returns-clause-ok g c = rw (c.deref.ensures.value, c.in_ok-ssdts.ensures, c.in_ok-dsdt.ensures) at c.satisfied_shared.ensures.ok
