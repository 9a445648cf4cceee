use Rattle.std.proofs.Common.{rules, length}
use Rattle.acpi_survey.proofs.SegmentNames.{segment_begins}
use Rattle.acpi_survey.specs.Nodes.{name_of}
use Rattle.acpi_survey.proofs.names.segment_name.Goals as goal

pub unreachable-requires : goal.unreachable-requires
unreachable-requires c = c.in-Err.ensures.only (name_of c.args.seg) (length c.args.seg) (segment_begins c.args.seg c.bytes-bytes.result c.bytes-bytes.ensures.value c.bytes-bytes.ensures.segment)

pub returns : goal.returns
returns c =
    let front = segment_begins c.args.seg c.bytes-bytes.result c.bytes-bytes.ensures.value c.bytes-bytes.ensures.segment in
    let found = c.in-Ok.ensures.only (name_of c.args.seg) (length c.args.seg) front in
    search rules
