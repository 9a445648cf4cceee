use Rattle.std.proofs.Common.{◌≡◌, rules}
use Rattle.acpi_name.specs.NameEqual.{name_eq}
use Rattle.acpi_name.proofs.EqualNames.{name_eq_Decides}
use Rattle.acpi_name.proofs.name.NamePartialEq.eq.Goals as goal

pub returns-then-one-other-2-clause-same : goal.returns-then-one-other-2-clause-same
returns-then-one-other-2-clause-same c =
    let test : c.eq.result ≡ name_eq c.args.self.now c.args.other.now = search rules in
    rw test (name_eq_Decides c.args.self.now c.args.other.now)
