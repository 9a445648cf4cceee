use Rattle.acpi_table.proofs.PkgLengths.{pkg_length_exact}
use Rattle.acpi_code.proofs.number.front_length.Goals as goal

pub returns-clause-exact : goal.returns-clause-exact
returns-clause-exact c =
    let e = c.read_pkg_length.ensures in
    pkg_length_exact c.args.bytes.now c.read_pkg_length.result e.found e.reserved e.cut
