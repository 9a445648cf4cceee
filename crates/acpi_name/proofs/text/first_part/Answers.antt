use Rattle.std.proofs.Common.{sym}
use Rattle.acpi_name.proofs.DottedParts.{parts_at, parts_none}
use Rattle.acpi_name.proofs.text.first_part.Goals as goal

pub returns-in-Some-clause-parts : goal.returns-in-Some-clause-parts
returns-in-Some-clause-parts c = parts_at c.args.text.now c.in-Some.dot (sym c.in-Some.ensures.place)

pub returns-in-None-clause-parts : goal.returns-in-None-clause-parts
returns-in-None-clause-parts c = parts_none c.args.text.now (sym c.in-None.ensures.place)
