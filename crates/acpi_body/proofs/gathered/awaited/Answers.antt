use Rattle.std.proofs.Common.{sym, ◌∙◌}
use Rattle.std.specs.FinMap.{get}
use Rattle.acpi_name.specs.NameRefs.{name_parts}
use Rattle.acpi_space.specs.Search.{answer}
use Rattle.acpi_space.proofs.Maps.{none_of_not_some}
use Rattle.acpi_body.specs.Arguments.{namespace_of, defined_with, expected_place}
use Rattle.acpi_body.proofs.Missed.{awaited_there}
use Rattle.acpi_body.proofs.gathered.awaited.Goals as goal

pub returns : goal.returns
returns g c =
    let s = c.args.context.now.method in
    let answered = answer (defined_with (namespace_of c.args.context.now.objects) c.args.locals.now) s (name_parts c.args.name) in
    awaited_there c.find.result answered (expected_place (get c.args.context.now.externals) s (name_parts c.args.name)) (none_of_not_some answered (sym c.requires ∙ c.if-found.false))
    (rw (c.counts.ensures, c.method.ensures) at c.find.ensures)
