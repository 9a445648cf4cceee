use Rattle.std.proofs.Common.{◌≡◌, ◌∷◌, List, map, sym, subst, rules}
use Rattle.std.specs.FinMap.{get}
use Rattle.std.specs.Vec.Iter.{into_iter_items}
use Rattle.acpi_pass.specs.declared.notes.Method.{Method}
use Rattle.acpi_declare.specs.Namespace.{namespace_of}
use Rattle.acpi_declare.specs.Notes.{method_of}
use Rattle.acpi_body.specs.Bodies.{body_view}
use Rattle.acpi_order.specs.Bodies.{with_counts}
use Rattle.acpi_machine.specs.MachineView.{body_map, bodies_of}
use Rattle.acpi_machine.specs.steps.Adding.{AddsBodies}
use Rattle.acpi_machine.proofs.AddedBodies.{adds_one}
use Rattle.acpi_machine.proofs.bodies.read_methods.Goals as goal

pub loop-method-preserved-in_ok-put_body : goal.loop-method-preserved-in_ok-put_body
loop-method-preserved-in_ok-put_body g c = λ now h.
    let objects = namespace_of (g.S.Space.contents c.args.objects.now) in
    let counts = get c.args.notes.counts in
    let m = c.in-Some.method in
    let later = into_iter_items c.next.new.self in
    let front : into_iter_items c.loop-method.method-iterator ≡ m ∷ later = search rules in
    let code : c.deref.result.now ≡ m.code = search rules in
    c.loop-method.invariant now
    (subst (λ (l : List Method). AddsBodies c.args.depth objects (map (with_counts counts) (map method_of l)) (bodies_of c.loop-method.bodies) now) (sym front)
    (adds_one c.args.depth objects counts (method_of m) (map method_of later) c.deref.result.now (body_view c.in_ok-body.body) (body_map c.loop-method.bodies) (body_map c.put_body.new.bodies) now
    code c.in_ok-body.ensures.body c.in_ok-put_body.ensures h))

pub loop-method-preserved : goal.loop-method-preserved
loop-method-preserved g c = λ now h.
    let objects = namespace_of (g.S.Space.contents c.args.objects.now) in
    let counts = get c.args.notes.counts in
    let m = c.in-Some.method in
    let later = into_iter_items c.next.new.self in
    let front : into_iter_items c.loop-method.method-iterator ≡ m ∷ later = search rules in
    let code : c.deref.result.now ≡ m.code = search rules in
    c.loop-method.invariant now
    (subst (λ (l : List Method). AddsBodies c.args.depth objects (map (with_counts counts) (map method_of l)) (bodies_of c.loop-method.bodies) now) (sym front)
    (adds_one c.args.depth objects counts (method_of m) (map method_of later) c.deref.result.now (body_view c.in_ok-body.body) (body_map c.loop-method.bodies) (body_map c.put_body.new.bodies) now
    code c.in_ok-body.ensures.body c.in_ok-put_body.ensures h))
