use Rattle.std.proofs.Common.{◌≡◌, [], ℕ, List, refl, subst, rules}
use Rattle.std.specs.FinMap.{get}
use Rattle.acpi_declare.specs.Namespace.{namespace_of}
use Rattle.acpi_declare.specs.Notes.{method_of}
use Rattle.acpi_body.specs.Arguments.{body_grammar}
use Rattle.acpi_body.specs.Bodies.{body_view, IsBodyOf}
use Rattle.acpi_order.specs.Bodies.{with_counts}
use Rattle.acpi_machine.specs.MachineView.{body_map, bodies_of}
use Rattle.acpi_machine.proofs.AddedBodies.{adds_one}
use Rattle.acpi_verdict.specs.steps.Misses.{all_paths}
use Rattle.acpi_verdict.proofs.TableMisses.{adds_method, asked_of_all}
use Rattle.acpi_singles.proofs.single_misses.search_method.Goals as goal

pub returns-clause-bodies : goal.returns-clause-bodies
returns-clause-bodies g c =
    let m = c.args.method in
    let code : c.deref.result.now ≡ m.code = search rules in
    adds_one c.args.depth (namespace_of (g.S.Space.contents c.args.objects.now)) (get c.args.counts.now) (method_of m) [] c.deref.result.now (body_view c.in_ok-body.body) (body_map c.args.bodies.now)
    (body_map c.put_body.new.bodies) (bodies_of c.put_body.new.bodies) code c.in_ok-body.ensures.body c.in_ok-put_body.ensures refl

pub returns-clause-misses : goal.returns-clause-misses
returns-clause-misses g c =
    let objects = namespace_of (g.S.Space.contents c.args.objects.now) in
    let m = c.args.method in
    let counts = get c.args.counts.now in
    let b = body_view c.in_ok-body.body in
    let code : c.deref.result.now ≡ m.code = search rules in
    let body = subst (λ (bytes : List ℕ). IsBodyOf (body_grammar objects counts m.path) m.path c.args.depth bytes b) code c.in_ok-body.ensures.body in
    adds_method all_paths c.args.depth objects (with_counts counts (method_of m)) b body c.in_ok-missed.missed c.args.misses.now c.add.new.self
    (λ p. asked_of_all (c.in_ok-missed.ensures.firm p)) (λ p n. asked_of_all (c.in_ok-missed.ensures.«open» p n)) c.in_ok-add.ensures
