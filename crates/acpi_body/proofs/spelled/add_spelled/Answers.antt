use Rattle.std.proofs.Common.{ℕ, List, subst}
use Rattle.acpi_body.specs.steps.Gathering.{Asked, Grows, IsFrontMiss}
use Rattle.acpi_body.specs.Arguments.{namespace_of}
use Rattle.acpi_body.proofs.SpelledNames.{rest_is, none_before, one_place_more, every_place}
use Rattle.acpi_body.proofs.spelled.add_spelled.Goals as goal

pub loop-place-init : goal.loop-place-init
loop-place-init g c = none_before (g.Q.Wanted.wanted c.args.wanted.now) (namespace_of c.args.context.now.objects) c.args.context.now.method c.args.bytes.now c.args.firm.now

pub loop-place-preserved : goal.loop-place-preserved
loop-place-preserved g c =
    let objects = namespace_of c.args.context.now.objects in
    let s = c.args.context.now.method in
    one_place_more (g.Q.Wanted.wanted c.args.wanted.now) objects s c.args.bytes.now c.loop-place.place c.args.firm.now c.loop-place.firm c.add_front.new.firm c.loop-place.invariant
    (subst (λ (rest : List ℕ). Grows c.loop-place.firm c.add_front.new.firm (Asked (g.Q.Wanted.wanted c.args.wanted.now) (IsFrontMiss objects s rest))) (rest_is c.loop-place.place c.args.bytes.now) c.in_ok-add_front.ensures)

pub returns : goal.returns
returns g c =
    every_place (g.Q.Wanted.wanted c.args.wanted.now) (namespace_of c.args.context.now.objects) c.args.context.now.method c.args.bytes.now c.loop-place.place c.args.firm.now c.loop-place.firm
    c.loop-place-test.false c.loop-place.invariant
