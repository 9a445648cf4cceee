use Rattle.std.proofs.Common.{◌++◌, List, map}
use Rattle.acpi_name.specs.Names.{Segment}
use Rattle.acpi_space.proofs.space.Space.visit_pairs.Given as goal

abbrev pub invariant-loop-path : goal.invariant-loop-path
invariant-loop-path g l =
    (first : g.row.T.Denot) (pairs : List (List Segment × g.row.V.Denot)) → g.T.Visitor.was_shown first pairs l.initial.visitor
    → g.T.Visitor.was_shown first (pairs ++ map (λ p. (p.0, p.1.now)) l.yielded) l.visitor
