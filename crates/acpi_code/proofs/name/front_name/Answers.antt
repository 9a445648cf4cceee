use Rattle.acpi_name.specs.NameRefs.{name_parts}
use Rattle.acpi_name.proofs.NameTold.{name_exact}
use Rattle.acpi_code.proofs.name.front_name.Goals as goal

pub returns-clause-exact : goal.returns-clause-exact
returns-clause-exact c =
    let e = c.read_name.ensures in
    name_exact name_parts c.args.bytes.now c.read_name.result e.found e.cut e.bad_char e.zero_count e.too_many_ups
