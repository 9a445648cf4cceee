use Rattle.std.proofs.Common.{◌<◌, arith}
use Rattle.acpi_tree.specs.TermView.{terms_view, terms_tree}
use Rattle.acpi_code.proofs.Fitting.{are_bytes}
use Rattle.acpi_body.proofs.Fitting.{terms_fit_law}
use Rattle.acpi_body.proofs.ReadBodies.{terms_law, shown_law, unread_law, stops_law}
use Rattle.acpi_body.proofs.body.read_terms.Goals as goal

pub returns-clause-read : goal.returns-clause-read
returns-clause-read g c =
    terms_law (λ v. terms_view v.items) (g.M.MethodCounting.grammar c.args.counting.now) (g.M.MethodCounting.method c.args.counting.now) c.args.depth c.args.bytes.now c.body.result
    (rw c.get.ensures.number at c.body.ensures)

pub returns-clause-fits : goal.returns-clause-fits
returns-clause-fits g c none =
    let args = g.M.MethodCounting.grammar c.args.counting.now in
    let s = g.M.MethodCounting.method c.args.counting.now in
    terms_fit_law (λ v. terms_tree v.items) args none s c.args.depth c.args.bytes.now c.body.result (are_bytes c.args.bytes.now c.type_inv.bytes)
    (terms_law (λ v. terms_view v.items) args s c.args.depth c.args.bytes.now c.body.result (rw c.get.ensures.number at c.body.ensures))

pub returns-clause-faults : goal.returns-clause-faults
returns-clause-faults g c =
    shown_law (λ v. terms_view v.items) (g.M.MethodCounting.grammar c.args.counting.now) (g.M.MethodCounting.method c.args.counting.now) c.args.depth c.args.bytes.now c.body.result
    (rw c.get.ensures.number at c.body.ensures)

pub returns-clause-unread : goal.returns-clause-unread
returns-clause-unread g c =
    unread_law (λ v. terms_view v.items) (g.M.MethodCounting.grammar c.args.counting.now) (g.M.MethodCounting.method c.args.counting.now) c.args.depth c.args.bytes.now c.body.result
    (rw c.get.ensures.number at c.body.ensures)

pub returns-clause-next : goal.returns-clause-next
returns-clause-next g c =
    let some : 0 < c.args.depth = omega (arith, c.get.ensures.number, c.get.ensures.least) in
    stops_law (λ v. terms_view v.items) (g.M.MethodCounting.grammar c.args.counting.now) (g.M.MethodCounting.method c.args.counting.now) c.args.depth c.args.bytes.now c.body.result
    (rw c.get.ensures.number at c.body.ensures) some
