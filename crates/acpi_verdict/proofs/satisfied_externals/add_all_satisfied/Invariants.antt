use Rattle.std.proofs.Common.{List, drop}
use Rattle.acpi_verdict.specs.declared.verdicts.Satisfied.{Satisfied}
use Rattle.acpi_verdict.specs.steps.Finding.{AddsSatisfied, IsSatisfiedByAny}
use Rattle.acpi_verdict.proofs.satisfied_externals.add_all_satisfied.Given as goal

-- with what the SSDTs that are left add, all of them add
abbrev pub invariant-loop-definer : goal.invariant-loop-definer
invariant-loop-definer l =
    (now : List Satisfied) → AddsSatisfied l.found.items now (IsSatisfiedByAny l.user l.path l.count (drop l.definer-index l.definers))
    → AddsSatisfied l.initial.found.items now (IsSatisfiedByAny l.user l.path l.count l.definers)
