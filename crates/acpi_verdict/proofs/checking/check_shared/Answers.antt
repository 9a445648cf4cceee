use Rattle.std.proofs.Common.{[], ◌∷◌}
use Rattle.std.proofs.lemmas.Result.{err_from_is_err_and}
use Rattle.acpi_declare.proofs.Refusals.{refused_has_no_load}
use Rattle.acpi_order.proofs.Lists.{ok_by}
use Rattle.acpi_verdict.proofs.CheckedTables.{memory_so, told_commute_so, told_orders_so, told_no_load}
use Rattle.acpi_verdict.proofs.checking.check_shared.Goals as goal

pub returns-clause-ok : goal.returns-clause-ok
returns-clause-ok g c = ok_by c.checked_over.result _ _ (λ x h. h.verdict) (c.checked_over.ensures.ok c.args.dsdt.now c.in_ok-declared.ensures.ok)

pub returns-clause-fault : goal.returns-clause-fault
returns-clause-fault g c = ok_by c.checked_over.result _ _ (λ x h. h.fault) (c.checked_over.ensures.ok c.args.dsdt.now c.in_ok-declared.ensures.ok)

pub returns-clause-commute : goal.returns-clause-commute
returns-clause-commute g c =
    told_commute_so c.args.depth c.args.dsdt.now c.args.ssdts.now c.checked_over.result c.one_verdict.ensures.one c.one_verdict.ensures.commute
    (ok_by c.checked_over.result _ _ (λ x h. h.verdict) (c.checked_over.ensures.ok c.args.dsdt.now c.in_ok-declared.ensures.ok))

pub returns-clause-orders : goal.returns-clause-orders
returns-clause-orders g c =
    told_orders_so c.args.depth c.args.dsdt.now c.args.ssdts.now c.checked_over.result (λ x. x.verdict)
    (told_commute_so c.args.depth c.args.dsdt.now c.args.ssdts.now c.checked_over.result c.one_verdict.ensures.one c.one_verdict.ensures.commute
    (ok_by c.checked_over.result _ _ (λ x h. h.verdict) (c.checked_over.ensures.ok c.args.dsdt.now c.in_ok-declared.ensures.ok)))

pub returns-clause-satisfied : goal.returns-clause-satisfied
returns-clause-satisfied g c = ok_by c.checked_over.result _ _ (λ x h. h.satisfied) (c.checked_over.ensures.ok c.args.dsdt.now c.in_ok-declared.ensures.ok)

pub returns-clause-refused : goal.returns-clause-refused
returns-clause-refused g c = ok_by c.checked_over.result _ _ (λ x h. h.refused) (c.checked_over.ensures.ok c.args.dsdt.now c.in_ok-declared.ensures.ok)

pub returns-clause-err : goal.returns-clause-err
returns-clause-err g c = memory_so c.checked_over.result c.args.depth (c.args.dsdt.now ∷ []) (c.checked_over.ensures.memory c.args.dsdt.now c.in_ok-declared.ensures.ok)

pub returns-clause-none : goal.returns-clause-none
returns-clause-none g c =
    told_no_load c.args.depth (c.args.dsdt.now ∷ []) c.checked_over.result (memory_so c.checked_over.result c.args.depth (c.args.dsdt.now ∷ []) (c.checked_over.ensures.memory c.args.dsdt.now c.in_ok-declared.ensures.ok))

pub returns-in_err-declared-clause-err : goal.returns-in_err-declared-clause-err
returns-in_err-declared-clause-err g c =
    let p = err_from_is_err_and c.from_residual.result c.from_residual.ensures.1 in
    rw (p.1, p.2) (c.in_err-declared.ensures.err [])

pub returns-in_err-declared-clause-none : goal.returns-in_err-declared-clause-none
returns-in_err-declared-clause-none g c =
    let p = err_from_is_err_and c.from_residual.result c.from_residual.ensures.1 in
    rw (p.1, p.2) (λ some. refused_has_no_load c.args.depth (c.args.dsdt.now ∷ []) c.in_err-declared.field-0.0 (c.in_err-declared.ensures.err []) some)
