use Rattle.std.proofs.Common.{◌≡◌, ◌∷◌, List, map, ap, sym, subst, rules}
use Rattle.std.specs.Vec.Iter.{into_iter_items}
use Rattle.acpi_space.specs.Lookups.{Lookup}
use Rattle.acpi_pass.specs.declared.notes.TableNotes.{TableNotes}
use Rattle.acpi_declare.specs.Namespace.{namespace_of}
use Rattle.acpi_declare.specs.Notes.{notes_of}
use Rattle.acpi_pass.proofs.ValuesByPath.{get_none}
use Rattle.acpi_body.specs.Bodies.{BodyTree, body_view}
use Rattle.acpi_machine.specs.MachineView.{bodies_of}
use Rattle.acpi_order.specs.steps.Noted.{noted, all_noted}
use Rattle.acpi_machine.specs.steps.Adding.{AddsBodies}
use Rattle.acpi_machine.proofs.AddedBodies.{adds_both}
use Rattle.acpi_machine.proofs.bodies.read_bodies.Goals as goal

pub loop-table-init : goal.loop-table-init
loop-table-init g c = λ now h.
    let objects = namespace_of (g.S.Space.contents c.args.objects.now) in
    let all = all_noted (map notes_of (into_iter_items c.into_iter-table-iterator.result)) in
    subst (λ (l : Lookup BodyTree). AddsBodies c.args.depth objects all l now)
    (get_none (map (λ e. (e.0, body_view e.1)) c.new-bodies.result.entries) (ap (map (λ e. (e.0, body_view e.1))) c.new-bodies.ensures.empty)) h

pub loop-table-preserved : goal.loop-table-preserved
loop-table-preserved g c = λ now h.
    let objects = namespace_of (g.S.Space.contents c.args.objects.now) in
    let before = bodies_of c.loop-table.bodies in
    let t = c.in-Some.table in
    let later = into_iter_items c.next.new.self in
    let front : into_iter_items c.loop-table.table-iterator ≡ t ∷ later = search rules in
    c.loop-table.invariant now
    (subst (λ (l : List TableNotes). AddsBodies c.args.depth objects (all_noted (map notes_of l)) before now) (sym front)
    (adds_both c.args.depth objects (noted (notes_of t)) (all_noted (map notes_of later)) before (bodies_of c.read_methods.new.bodies) now c.in_ok-read_methods.ensures h))
