use Rattle.std.proofs.Common.{map, drop}
use Rattle.std.specs.FinMap.{get}
use Rattle.acpi_declare.specs.Namespace.{namespace_of}
use Rattle.acpi_declare.specs.Notes.{method_of}
use Rattle.acpi_space.specs.Spaces.{is_defined}
use Rattle.acpi_order.specs.Bodies.{with_counts}
use Rattle.acpi_verdict.specs.declared.misses.Misses.{Misses}
use Rattle.acpi_verdict.specs.steps.Misses.{AddsMethods}
use Rattle.acpi_verdict.proofs.table_misses.search_methods.Given as goal

-- what the methods that are left add, all of them add
abbrev pub invariant-loop-method : goal.invariant-loop-method
invariant-loop-method g l =
    (now : Misses)
    → AddsMethods (is_defined (g.T.Space.contents l.among)) l.depth (namespace_of (g.O.Space.contents l.objects))
    (map (with_counts (get l.notes.counts)) (map method_of (drop l.method-index l.notes.methods.items)))
    l.misses now
    → AddsMethods (is_defined (g.T.Space.contents l.among)) l.depth (namespace_of (g.O.Space.contents l.objects))
    (map (with_counts (get l.notes.counts)) (map method_of l.notes.methods.items)) l.initial.misses now
