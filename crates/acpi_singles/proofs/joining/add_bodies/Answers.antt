use Rattle.std.proofs.Common.{◌≡◌, ◌∙◌, ap}
use Rattle.acpi_body.specs.Bodies.{body_view}
use Rattle.acpi_machine.specs.MachineView.{bodies_of}
use Rattle.acpi_singles.proofs.JoinedValues.{mapped, ordered_pairs, pair_joined, pair_clashes, pairs_joined}
use Rattle.acpi_singles.proofs.joining.add_bodies.Goals as goal

pub loop-path-preserved : goal.loop-path-preserved
loop-path-preserved c =
    pair_joined (bodies_of c.args.bodies.now) (bodies_of c.loop-path.bodies) (bodies_of c.add_body.new.bodies) (mapped (body_view) c.into_iter-path-iterator.result)
    (mapped (body_view) c.loop-path.path-iterator)
    (mapped (body_view) c.next.new.self) c.in-Some.path.now (body_view c.in-Some.body.now) c.loop-path.invariant
    (ap (mapped (body_view)) c.in-Some.ensures.steps) c.in_ok-add_body.field-0 c.if-not-branch.false c.in_ok-add_body.ensures

pub returns-then-not-branch : goal.returns-then-not-branch
returns-then-not-branch c =
    let all : c.into_iter-path-iterator.result ≡ c.args.part.now.entries = c.into_iter-path-iterator.ensures.into_iter_gives ∙ c.iter-path-items.ensures.rest in
    pair_clashes (bodies_of c.args.bodies.now) (bodies_of c.loop-path.bodies) (bodies_of c.add_body.new.bodies) (mapped (body_view) c.into_iter-path-iterator.result)
    (mapped (body_view) c.loop-path.path-iterator)
    (mapped (body_view) c.next.new.self) c.in-Some.path.now (body_view c.in-Some.body.now) c.loop-path.invariant (ap (mapped (body_view)) c.in-Some.ensures.steps) (bodies_of c.args.part.now)
    (rw all (ordered_pairs (body_view) c.args.part.now.entries c.iter-path-items.ensures.ordered)) c.in_ok-add_body.field-0 c.if-not-branch.true c.in_ok-add_body.ensures

pub returns : goal.returns
returns c =
    let all : c.into_iter-path-iterator.result ≡ c.args.part.now.entries = c.into_iter-path-iterator.ensures.into_iter_gives ∙ c.iter-path-items.ensures.rest in
    pairs_joined (bodies_of c.args.bodies.now) (bodies_of c.loop-path.bodies) (bodies_of c.args.part.now) (mapped (body_view) c.into_iter-path-iterator.result)
    (mapped (body_view) c.loop-path.path-iterator) c.loop-path.invariant
    (ap (mapped (body_view)) c.in-None.ensures.steps.0) (rw all (ordered_pairs (body_view) c.args.part.now.entries c.iter-path-items.ensures.ordered))
