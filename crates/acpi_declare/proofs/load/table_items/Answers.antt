use Rattle.std.proofs.Common.{◌≡◌, sym, subst, refl}
use Rattle.acpi_tree.specs.View.{items_tree}
use Rattle.std.proofs.lemmas.Result.{err_from_is_err_and}
use Rattle.acpi_declare.specs.Refusals.{IsCodeFault}
use Rattle.acpi_declare.specs.steps.Outcomes.{IsTableFault}
use Rattle.acpi_declare.proofs.CodeFaults.{code_fault}
use Rattle.acpi_declare.proofs.load.table_items.Goals as goal

pub returns-in_err-code-clause-err : goal.returns-in_err-code-clause-err
returns-in_err-code-clause-err c = λ objects. let p = err_from_is_err_and c.from_residual.result c.from_residual.ensures.1 in rw (p.1, p.2) (c.in_err-code.ensures.err c.args.depth objects)

pub returns-in-Err-At-clause-err : goal.returns-in-Err-At-clause-err
returns-in-Err-At-clause-err c = λ objects.
    let f = c.in-Err-At in
    let of = c.in_ok-code.ensures.ok in
    let fault = code_fault (λ is v. items_tree v.items ≡ is) c.args.depth c.in_ok-code.code f.reason f.place f.field-0 f.field-0-is f.ensures.only f.ensures.faults f.ensures.next in
    subst (IsTableFault c.args.depth c.args.number objects c.args.bytes.now) (sym c.table_fault.ensures)
    (refl, (of.numbered, subst (λ code. IsCodeFault c.args.depth code f.reason f.place) of.code_is fault))
