use Rattle.acpi_name.specs.NameRefs.{name_parts}
use Rattle.std.proofs.Common.{length, sym, ap, ◌∙◌, rules}
use Rattle.acpi_name.specs.Names.{Segment}
use Rattle.acpi_name.specs.Spelling.{BeginsWithName}
use Rattle.std.specs.Prelude.{List}
use Rattle.acpi_body.specs.Arguments.{namespace_of}
use Rattle.acpi_body.specs.steps.Gathering.{goes_above}
use Rattle.acpi_body.proofs.SpelledNames.{none_above, front_none, front_found}
use Rattle.acpi_body.proofs.spelled.add_front.Goals as goal

pub returns-then-goes_above : goal.returns-then-goes_above
returns-then-goes_above g c =
    let objects = namespace_of c.args.context.now.objects in
    let s = c.args.context.now.method in
    front_none (g.Q.Wanted.wanted c.args.wanted.now) objects s c.args.bytes.now c.args.firm.now
    (λ p. none_above objects s c.args.bytes.now p (ap (λ (m : List Segment). goes_above (length m) c.args.bytes.now) (sym c.method.ensures) ∙ sym c.goes_above.ensures ∙ c.if-goes_above.true))

pub returns-in_ok-missed-in-Ok : goal.returns-in_ok-missed-in-Ok
returns-in_ok-missed-in-Ok g c =
    let begins : BeginsWithName (name_parts c.in-Ok.name) c.in-Ok.field-0-1 c.args.bytes.now = search rules in
    front_found c.add_missed.result (g.Q.Wanted.wanted c.args.wanted.now) (namespace_of c.args.context.now.objects) c.args.context.now.method c.args.bytes.now c.args.firm.now c.add_missed.new.firm (name_parts c.in-Ok.name) c.in-Ok.field-0-1 c.in_ok-missed-in-Ok.field-0.items
    begins c.in_ok-missed-in-Ok.ensures c.add_missed.ensures

pub returns-in-Err : goal.returns-in-Err
returns-in-Err g c =
    front_none (g.Q.Wanted.wanted c.args.wanted.now) (namespace_of c.args.context.now.objects) c.args.context.now.method c.args.bytes.now c.args.firm.now (λ p h. c.in-Err.ensures.only h.name h.count h.begins)
