use Rattle.std.proofs.Common.{◌≡◌, ◌<◌, refl, arith}
use Rattle.acpi_table.specs.PkgLength.{package_number}
use Rattle.acpi_table.proofs.PkgLengths.{number_counts}
use Rattle.acpi_write.proofs.writer.Writer.package_length.Goals as goal

pub unreachable-requires-in_default-write_pkg_length : goal.unreachable-requires-in_default-write_pkg_length
unreachable-requires-in_default-write_pkg_length c =
    let few : c.args.payload < 268435452 = omega arith in
    let is : c.in-Some.number ≡ package_number c.args.payload = c.in-Some.ensures.exact in
    let over : 268435455 < c.in-Some.number = c.in_default-write_pkg_length.ensures.none.0 refl in
    omega (arith, is, (number_counts c.args.payload few).1)
