use Rattle.std.proofs.Common.{List, Bool, drop}
use Rattle.acpi_space.specs.Laws.{Among}
use Rattle.acpi_verdict.specs.steps.AffectedSsdts.{Marks}
use Rattle.acpi_verdict.proofs.affected_ssdts.mark_all.Given as goal

-- with the marks of the SSDTs that are left, all of them are marked
abbrev pub invariant-loop-definer : goal.invariant-loop-definer
invariant-loop-definer l =
    (now : List Bool) → Marks l.affected.items now (Among (drop l.definer-index l.definers)) → Marks l.initial.affected.items now (Among l.definers)
