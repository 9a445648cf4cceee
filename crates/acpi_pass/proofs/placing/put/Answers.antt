use Rattle.std.proofs.Common.{◌∙◌, ap, rules}
use Rattle.acpi_pass.specs.Namespace.{namespace_of}
use Rattle.acpi_pass.proofs.Unions.{namespace_insert}
use Rattle.acpi_pass.proofs.placing.put.Goals as goal
use Rattle.acpi_pass.proofs.placing.put.Goals.{in-Ok, in-Err-Memory}

pub returns-clause-objects : goal.returns-clause-objects
returns-clause-objects g c =
    elim c.match-insert.branch [
      | in-Ok w ↦ rw w.result-is (ap namespace_of w.in-Ok.ensures.ok ∙ namespace_insert _ _ _ w.in-Ok.ensures.free)
      | in-Err-Memory w ↦ search rules
    ]
