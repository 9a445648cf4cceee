use Rattle.acpi_body.specs.Arguments.{namespace_of}
use Rattle.acpi_body.specs.Misses.{IsMissedBy}
use Rattle.acpi_body.specs.steps.Gathering.{Asked}
use Rattle.acpi_body.proofs.Grown.{bytes_firm, bytes_awaited}
use Rattle.acpi_body.proofs.misses.gather_bytes.Goals as goal

pub returns-clause-firm : goal.returns-clause-firm
returns-clause-firm g c =
    bytes_firm c.none-gathered.result c.add_spelled.new.firm (Asked (g.Q.Wanted.wanted c.args.wanted.now) (IsMissedBy (namespace_of c.args.context.now.objects) c.args.context.now.method c.args.bytes.now)) c.none-gathered.ensures c.in_ok-add_spelled.ensures

pub returns-clause-awaited : goal.returns-clause-awaited
returns-clause-awaited g c = bytes_awaited c.none-gathered.result c.none-gathered.ensures
