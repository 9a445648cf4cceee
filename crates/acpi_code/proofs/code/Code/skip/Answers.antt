use Rattle.std.proofs.Common.{◌≤◌, length, ap}
use Rattle.acpi_code.specs.steps.Remaining.{Remaining}
use Rattle.acpi_code.proofs.Remaining.{behind, rest_is}
use Rattle.acpi_code.proofs.code.Code.skip.Goals as goal

pub invariant_of-self : goal.invariant_of-self
invariant_of-self c =
    let le : c.args.count ≤ length c.self.inside.left.now = rw (ap (λ (v : Remaining). length v.bytes) c.self.view_is) c.requires in
    rw (rest_is c.self.inside.left.now c.args.count) (behind c.self.inside.left.now c.args.count _ _ le c.self.invariant)
