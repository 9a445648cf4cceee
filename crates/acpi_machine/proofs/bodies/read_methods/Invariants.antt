use Rattle.std.proofs.Common.{map}
use Rattle.std.specs.FinMap.{get}
use Rattle.std.specs.Vec.Iter.{into_iter_items}
use Rattle.acpi_space.specs.Lookups.{Lookup}
use Rattle.acpi_declare.specs.Namespace.{namespace_of}
use Rattle.acpi_declare.specs.Notes.{method_of}
use Rattle.acpi_body.specs.Bodies.{BodyTree}
use Rattle.acpi_order.specs.Bodies.{with_counts}
use Rattle.acpi_machine.specs.MachineView.{bodies_of}
use Rattle.acpi_machine.specs.steps.Adding.{AddsBodies}
use Rattle.acpi_machine.proofs.bodies.read_methods.Given as goal

-- what the methods that are left add, all of them add
abbrev pub invariant-loop-method : goal.invariant-loop-method
invariant-loop-method g l =
    (now : Lookup BodyTree)
    → AddsBodies l.depth (namespace_of (g.S.Space.contents l.objects)) (map (with_counts (get l.fn.notes.counts)) (map method_of (into_iter_items l.method-iterator))) (bodies_of l.bodies) now
    → AddsBodies l.depth (namespace_of (g.S.Space.contents l.objects))
    (map (with_counts (get l.fn.notes.counts)) (map method_of (into_iter_items l.initial.method-iterator))) (bodies_of l.initial.bodies) now
