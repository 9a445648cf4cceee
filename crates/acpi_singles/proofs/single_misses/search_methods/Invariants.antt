use Rattle.std.proofs.Common.{List, map}
use Rattle.std.specs.FinMap.{get}
use Rattle.std.specs.Vec.Iter.{into_iter_items}
use Rattle.acpi_space.specs.Lookups.{Lookup}
use Rattle.acpi_declare.specs.Namespace.{namespace_of}
use Rattle.acpi_declare.specs.Notes.{method_of}
use Rattle.acpi_body.specs.Bodies.{BodyTree}
use Rattle.acpi_order.specs.Bodies.{Method, with_counts}
use Rattle.acpi_machine.specs.MachineView.{bodies_of}
use Rattle.acpi_machine.specs.steps.Adding.{AddsBodies}
use Rattle.acpi_verdict.specs.declared.misses.Misses.{Misses}
use Rattle.acpi_verdict.specs.steps.Misses.{all_paths, AddsMethods}
use Rattle.acpi_singles.proofs.single_misses.search_methods.Given as goal

-- what the methods that are left add, all of them add
abbrev pub invariant-loop-method : goal.invariant-loop-method
invariant-loop-method g l =
    let objects = namespace_of (g.S.Space.contents l.objects) in
    let left : List Method = map (with_counts (get l.counts)) (map method_of (into_iter_items l.method-iterator)) in
    let all : List Method = map (with_counts (get l.counts)) (map method_of (into_iter_items l.initial.method-iterator)) in
    ((now : Lookup BodyTree) → AddsBodies l.depth objects left (bodies_of l.bodies) now → AddsBodies l.depth objects all (bodies_of l.initial.bodies) now)
    × ((now : Misses) → AddsMethods all_paths l.depth objects left l.misses now → AddsMethods all_paths l.depth objects all l.initial.misses now)
