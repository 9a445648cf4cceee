use Rattle.std.proofs.Common.{List, Bool, map}
use Rattle.std.specs.Vec.Iter.{into_iter_items}
use Rattle.acpi_verdict.specs.steps.AffectedSsdts.{Marks, IsNotedAtAny}
use Rattle.acpi_verdict.proofs.affected_ssdts.mark_paths.Given as goal

-- with the marks of the paths that are left, those of all are marked
abbrev pub invariant-loop-path : goal.invariant-loop-path
invariant-loop-path g l =
    (now : List Bool) → Marks l.affected.items now (IsNotedAtAny l.definers (map (λ e. (e.0, e.1.now)) (into_iter_items l.path-iterator)))
    → Marks l.initial.affected.items now (IsNotedAtAny l.definers (map (λ e. (e.0, e.1.now)) (into_iter_items l.initial.path-iterator)))
