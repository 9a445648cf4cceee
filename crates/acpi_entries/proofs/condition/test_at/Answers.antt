use Rattle.std.proofs.Common.{◌∙◌}
use Rattle.acpi_entries.specs.Condition.{predicate_of}
use Rattle.acpi_ranges.specs.EntryParts.{part_in}
use Rattle.acpi_ranges.proofs.DeclaringParts.{found_both}
use Rattle.acpi_entries.proofs.condition.test_at.Goals as goal

pub returns : goal.returns
returns c tile = c.test_in.ensures ∙ found_both predicate_of c.part_at.result (part_in c.args.survey.now.tables.items c.args.place) (c.part_at.ensures.found tile)
