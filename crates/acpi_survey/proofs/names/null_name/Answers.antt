use Rattle.std.proofs.Common.{rules}
use Rattle.acpi_survey.proofs.SegmentNames.{no_name, zero_begins}
use Rattle.acpi_survey.proofs.names.null_name.Goals as goal

pub unreachable-requires : goal.unreachable-requires
unreachable-requires c = c.in-Err.ensures.only no_name 1 zero_begins

pub returns : goal.returns
returns c =
    let found = c.in-Ok.ensures.only no_name 1 zero_begins in
    search rules
