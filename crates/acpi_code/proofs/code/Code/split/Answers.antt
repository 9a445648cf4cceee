use Rattle.std.proofs.Common.{◌≤◌, length, ap, rules}
use Rattle.acpi_code.specs.steps.Remaining.{Remaining}
use Rattle.acpi_code.proofs.Remaining.{behind, inner}
use Rattle.acpi_code.proofs.code.Code.split.Goals as goal

pub invariant_of-self : goal.invariant_of-self
invariant_of-self c =
    let le : c.args.count ≤ length c.self.inside.left.now = rw (ap (λ (v : Remaining). length v.bytes) c.self.view_is) c.requires in
    rw c.split_at.ensures.back (behind c.self.inside.left.now c.args.count _ _ le c.self.invariant)

pub invariant_of-result : goal.invariant_of-result
invariant_of-result c =
    let le : c.args.count ≤ length c.self.inside.left.now = rw (ap (λ (v : Remaining). length v.bytes) c.self.view_is) c.requires in
    rw (c.split_at.ensures.front, c.split_at.ensures.back) (inner c.self.inside.left.now c.args.count _ _ le c.self.invariant)

-- What a wrong body leaves open is named too: its refusal then names it, and needs no second search.
pub returns-clause-ends : goal.returns-clause-ends
returns-clause-ends c = search rules
