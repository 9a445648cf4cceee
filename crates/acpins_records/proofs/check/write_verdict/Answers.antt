use Rattle.std.proofs.Common.{sym, ap, subst, ◌∙◌}
use Rattle.acpins_records.specs.declared.check.VerdictRecord.{VerdictRecord}
use Rattle.acpins_records.specs.Orders.{LoadInAnyOrder}
use Rattle.acpins_records.specs.Written.{bytes_of}
use Rattle.acpins_records.proofs.AnyOrder.{answer_in_any_order}
use Rattle.acpins_records.proofs.Refused.{given_depth}
use Rattle.acpins_records.proofs.check.write_verdict.Goals as goal

pub returns-in-Ok-check-clause-orders : goal.returns-in-Ok-check-clause-orders
returns-in-Ok-check-clause-orders c ok zero =
    subst (λ d. LoadInAnyOrder d (bytes_of c.args.tables.now)) (given_depth _ c.in-Some.depth c.args.depth c.in-Some.ensures)
    (subst (LoadInAnyOrder c.in-Some.depth) (c.deref.ensures.value ∙ c.in-Ok.ensures)
    (answer_in_any_order c.in-Some.depth c.deref.result.now _ _ _ c.in-Ok-check.ensures.ok (ap (λ (r : VerdictRecord). r.order) (sym c.write_answer.ensures.verdict) ∙ zero)))
