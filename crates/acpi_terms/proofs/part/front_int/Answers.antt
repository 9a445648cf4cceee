use Rattle.std.proofs.Common.{◌≡◌, Ok, length}
use Rattle.acpi_terms.proofs.ReadParts.{int_exact}
use Rattle.acpi_terms.specs.steps.Reading.{const_at}
use Rattle.acpi_terms.proofs.part.front_int.Goals as goal

pub returns-in-Ok-clause-exact : goal.returns-in-Ok-clause-exact
returns-in-Ok-clause-exact c =
    let read : const_at (length c.args.bytes.now) c.args.bytes.now ≡ Ok (c.in-Ok.int, c.constant.new.code.bytes) = rw (c.new-code.ensures.ends, c.new-code.ensures.bytes) at c.in-Ok.ensures.0 in
    rw c.left.ensures (int_exact c.args.bytes.now c.constant.new.code.bytes c.in-Ok.int read)
