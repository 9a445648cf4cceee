use Rattle.std.proofs.Common.{map}
use Rattle.std.specs.Vec.Iter.{into_iter_items}
use Rattle.acpi_space.specs.Lookups.{Lookup, nothing}
use Rattle.acpi_declare.specs.Namespace.{namespace_of}
use Rattle.acpi_declare.specs.Notes.{notes_of}
use Rattle.acpi_body.specs.Bodies.{BodyTree}
use Rattle.acpi_machine.specs.MachineView.{bodies_of}
use Rattle.acpi_order.specs.steps.Noted.{all_noted}
use Rattle.acpi_machine.specs.steps.Adding.{AddsBodies}
use Rattle.acpi_machine.proofs.bodies.read_bodies.Given as goal

-- what the tables that are left add, all of them add
abbrev pub invariant-loop-table : goal.invariant-loop-table
invariant-loop-table g l =
    (now : Lookup BodyTree)
    → AddsBodies l.depth (namespace_of (g.S.Space.contents l.objects)) (all_noted (map notes_of (into_iter_items l.table-iterator))) (bodies_of l.bodies) now
    → AddsBodies l.depth (namespace_of (g.S.Space.contents l.objects)) (all_noted (map notes_of (into_iter_items l.initial.table-iterator))) nothing now
