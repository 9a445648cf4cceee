use Rattle.std.proofs.Common.{List, map}
use Rattle.std.specs.Vec.Iter.{into_iter_items}
use Rattle.acpi_verdict.specs.declared.verdicts.Satisfied.{Satisfied}
use Rattle.acpi_verdict.specs.steps.Finding.{AddsSatisfied, IsSatisfiedOf}
use Rattle.acpi_verdict.proofs.satisfied_externals.add_awaited.Given as goal

-- with what the methods that are left add, all of them add
abbrev pub invariant-loop-path : goal.invariant-loop-path
invariant-loop-path l =
    (now : List Satisfied) → AddsSatisfied l.found.items now (IsSatisfiedOf l.definers l.user (map (λ e. (e.0, e.1.now)) (into_iter_items l.path-iterator)))
    → AddsSatisfied l.initial.found.items now (IsSatisfiedOf l.definers l.user (map (λ e. (e.0, e.1.now)) (into_iter_items l.initial.path-iterator)))
