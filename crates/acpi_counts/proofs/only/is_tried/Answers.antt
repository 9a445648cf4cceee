use Rattle.std.proofs.Common.{sym, ◌∙◌}
use Rattle.acpi_name.specs.NameRefs.{name_parts}
use Rattle.acpi_counts.proofs.OnePath.{plain_is, other_of}
use Rattle.acpi_counts.proofs.only.is_tried.Goals as goal

pub returns-in-Some : goal.returns-in-Some
returns-in-Some c = plain_is c.search_is_longest.ensures.plain c.args.scope.now c.args.path.now (name_parts c.args.name) _ c.is_below.result (sym c.plain.ensures ∙ c.in-Some.is) c.is_below.ensures

pub returns-in-None : goal.returns-in-None
returns-in-None c = other_of c.search_is_longest.ensures.other c.args.scope.now c.args.path.now (name_parts c.args.name) c.is_place.result (sym c.plain.ensures ∙ c.in-None.is) c.is_place.ensures
