use Rattle.std.proofs.Common.{◌≡◌, ◌∙◌, None, ap}
use Rattle.std.specs.Option.{option_copied, option_map}
use Rattle.acpi_tree.specs.steps.Equality.{decides}
use Rattle.acpi_body.specs.Bodies.{body_view}
use Rattle.acpi_body.specs.steps.BodyEquality.{body_tells}
use Rattle.acpi_machine.specs.MachineView.{bodies_of}
use Rattle.acpi_singles.proofs.JoinedValues.{value_at, inserted, same_or_other}
use Rattle.acpi_singles.proofs.joining.add_body.Goals as goal

pub returns-in-Some : goal.returns-in-Some
returns-in-Some c =
    same_or_other (bodies_of c.args.bodies.now) c.args.path.now (body_view c.args.body.now) (body_view c.in-Some.other.now) c.eq.result
    (value_at body_view c.args.bodies.now.entries c.args.path.now _ c.in-Some.ensures.value) (rw c.eq.ensures (decides body_tells (body_view c.in-Some.other.now) (body_view c.args.body.now)))

pub returns-in-Ok : goal.returns-in-Ok
returns-in-Ok c =
    let free : bodies_of c.args.bodies.now c.args.path.now ≡ None =
    value_at body_view c.args.bodies.now.entries c.args.path.now _ c.get.ensures.value ∙ ap (λ o. option_map body_view (option_copied o)) c.in_default.is in
    inserted body_view c.args.bodies.now.entries c.args.path.now c.insert.new.self.entries c.in_ok-copy.field-0 c.in_ok-copy-2.field-0 (body_view c.args.body.now) c.in_ok-copy.ensures
    c.in_ok-copy-2.ensures c.in-Ok.ensures.updates.0 free
