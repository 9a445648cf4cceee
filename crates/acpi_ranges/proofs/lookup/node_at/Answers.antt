use Rattle.std.proofs.Common.{◌∙◌, sym, ap, Some}
use Rattle.std.specs.Option.{option_map}
use Rattle.acpi_outline.specs.View.{nodes_view}
use Rattle.acpi_ranges.proofs.Searching.{part_is_searched}
use Rattle.acpi_ranges.proofs.lookup.node_at.Goals as goal

pub returns-clause-found : goal.returns-clause-found
returns-clause-found c t =
    c.find_part.ensures.found t ∙ ap (option_map Some) (sym (part_is_searched c.args.place c.args.end (nodes_view c.args.nodes.now)))
