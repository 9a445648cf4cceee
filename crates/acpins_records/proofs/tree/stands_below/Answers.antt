use Rattle.std.proofs.Common.{arith, rules}
use Rattle.acpins_records.proofs.Runs.{child_below}
use Rattle.acpins_records.proofs.tree.stands_below.Goals as goal

pub returns-then-parents-next : goal.returns-then-parents-next
returns-then-parents-next c p q this that = (
  λ yes. child_below c.args.paths.now c.args.next _ c.args.k p q (c.requires.parents c.args.next c.requires.within.1) c.if-parents-next.true (omega (arith, c.requires.within.0, c.len-count.ensures, c.len-count.type_inv)) this that,
  λ is. search rules,
)
