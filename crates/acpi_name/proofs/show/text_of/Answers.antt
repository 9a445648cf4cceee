use Rattle.acpi_name.proofs.Segments.{segment_text}
use Rattle.acpi_name.proofs.show.text_of.Goals as goal

pub unreachable-requires : goal.unreachable-requires
unreachable-requires c = c.in-Err.ensures.cases.0 (segment_text c.args.segment.now c.requires)
