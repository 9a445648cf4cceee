use Rattle.std.proofs.Common.{◌≡◌, rules}
use Rattle.std.specs.Ordering.{eq_by_cmp}
use Rattle.acpi_name.specs.Paths.{path_cmp}
use Rattle.acpi_name.proofs.EqualPaths.{path_eq_Decides}
use Rattle.acpi_name.proofs.path.PathPartialEq.eq.Goals as goal

pub returns-clause-same : goal.returns-clause-same
returns-clause-same c =
    let test : c.eq.result ≡ eq_by_cmp path_cmp c.args.self.now c.args.other.now = search rules in
    rw test (path_eq_Decides c.args.self.now c.args.other.now)
