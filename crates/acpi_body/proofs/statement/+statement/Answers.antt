use Rattle.std.proofs.Common.{rules, ◌≡◌, ℕ, ◌-◌, ◌<◌, ◌++◌, ◌∷◌, [], List, length, arith}
use Rattle.std.proofs.lemmas.Result.{err_from_is_err_and}
use Rattle.std.proofs.lemmas.List.{map_push}
use Rattle.acpi_tree.specs.TermView.{term_view, terms_view}
use Rattle.acpi_tree.specs.declared.place.Place.TheVariants.{Statement}
use Rattle.acpi_values.specs.steps.Cursor.{Reads}
use Rattle.acpi_values.specs.steps.Reading.{Reader, buffer_form, package_form, var_package_form, placed_by, term_at}
use Rattle.acpi_body.specs.steps.Reading.{Statements, statement_by, statement_at, statements_at}
use Rattle.acpi_body.proofs.Branches.{else_fails, if_made, then_fails, while_fails}
use Rattle.acpi_values.proofs.Parts.{reads_as}
use Rattle.acpi_body.proofs.Plain.{buffer_keeps, package_keeps, var_package_keeps, placed_keeps, locals_kept}
use Rattle.acpi_body.proofs.Opened.{statement_opened, statement_unopened}
use Rattle.acpi_body.proofs.Stated.{One, stated_goes_on, stated_ends, stated_is_done}
use Rattle.acpi_body.proofs.statement.+statement.Goals as goal

pub statements-returns-in_err-statement-clause-exact : goal.statements-returns-in_err-statement-clause-exact
statements-returns-in_err-statement-clause-exact g t c =
    let r : One = statement_at (g.M.MethodCounting.grammar c.args.counting.now) (g.M.MethodCounting.method c.args.counting.now) c.args.level in
    let p = err_from_is_err_and c.from_residual-in_err-statement.result c.from_residual-in_err-statement.ensures.1 in
    let some : 0 < length c.each.code.bytes = grind arith in
    rw (p.1, p.2) (stated_ends r (g.M.MethodCounting.method c.args.counting.now) _ c.args.code.now _ c.each.code _ _ some c.in_err-statement.ensures.exact c.each.invariant)

pub statements-each-preserved : goal.statements-each-preserved
statements-each-preserved g t c =
    let r : One = statement_at (g.M.MethodCounting.grammar c.args.counting.now) (g.M.MethodCounting.method c.args.counting.now) c.args.level in
    let n = c.in_ok-statement.field-0 in
    let some : 0 < length c.each.code.bytes = grind arith in
    let e : terms_view c.push.new.self.items ≡ terms_view c.each.found.items ++ term_view n ∷ [] = rw c.in_ok-push.ensures.items (map_push _ c.each.found.items n) in
    rw e (stated_goes_on r (g.M.MethodCounting.method c.args.counting.now) _ c.args.code.now _ c.each.code _ _ c.statement.new.code _ some c.in_ok-statement.ensures.exact.0 c.in_ok-statement.ensures.exact.1 c.in_ok-statement.ensures.locals c.each.invariant)

pub statements-returns-clause-exact : goal.statements-returns-clause-exact
statements-returns-clause-exact g t c =
    let r : One = statement_at (g.M.MethodCounting.grammar c.args.counting.now) (g.M.MethodCounting.method c.args.counting.now) c.args.level in
    let none : length c.each.code.bytes ≡ 0 = grind arith in
    stated_is_done r (g.M.MethodCounting.method c.args.counting.now) _ c.args.code.now _ c.each.code _ none c.each.invariant

pub statement-returns-in_err-opcode-clause-exact : goal.statement-returns-in_err-opcode-clause-exact
statement-returns-in_err-opcode-clause-exact g t c =
    let p = err_from_is_err_and c.from_residual.result c.from_residual.ensures.1 in
    let some : 0 < c.args.level = grind arith in
    rw (p.1, p.2) (statement_unopened (g.M.MethodCounting.grammar c.args.counting.now) (g.M.MethodCounting.method c.args.counting.now) c.args.level c.args.locals.now c.args.code.now.end c.args.code.now.bytes _ some c.in_err-opcode.ensures)

pub statement-returns-clause-exact : goal.statement-returns-clause-exact
statement-returns-clause-exact g t c =
    let args = g.M.MethodCounting.grammar c.args.counting.now in
    let s = g.M.MethodCounting.method c.args.counting.now in
    let locals = c.args.locals.now in
    let some : 0 < c.args.level = grind arith in
    let opens = statement_opened args s c.args.level locals c.args.code.now.end c.args.code.now.bytes c.in_ok-opcode.opcode c.opcode.new.self.bytes some c.in_ok-opcode.ensures.0 in
    let by : ℕ → List ℕ → _ = λ end whole. statement_by (args locals) (term_at (args locals) (c.args.level - 1)) (statements_at args s (c.args.level - 1)) s locals end whole c.in_ok-opcode.opcode c.opcode.new.self.bytes in
    let h : Reads term_view by c.args.code.now c.form.new.code c.form.result = rw c.fork-front.ensures at c.form.ensures.exact in
    reads_as term_view by (statement_at args s c.args.level locals) c.args.code.now c.form.new.code c.form.result opens h

pub if_statement-returns-in_err-then-clause-exact : goal.if_statement-returns-in_err-then-clause-exact
if_statement-returns-in_err-then-clause-exact g t c =
    let r : Reader = term_at (g.M.MethodCounting.grammar c.args.counting.now c.args.locals.now) c.args.level in
    let i : Statements = statements_at (g.M.MethodCounting.grammar c.args.counting.now) (g.M.MethodCounting.method c.args.counting.now) c.args.level in
    let p = err_from_is_err_and c.from_residual-in_err-then.result c.from_residual-in_err-then.ensures.1 in
    rw (p.1, p.2) (then_fails r i (g.M.MethodCounting.method c.args.counting.now) c.args.locals.now c.args.code.now.end c.args.code.now.bytes _ _ _ _ c.in_ok-inner.ensures.0 c.in_ok-predicate.ensures.0 c.in_ok-predicate.ensures.1.same_end c.in_err-then.ensures.exact)

pub if_statement-returns-in_err-other-clause-exact : goal.if_statement-returns-in_err-other-clause-exact
if_statement-returns-in_err-other-clause-exact g t c =
    let r : Reader = term_at (g.M.MethodCounting.grammar c.args.counting.now c.args.locals.now) c.args.level in
    let i : Statements = statements_at (g.M.MethodCounting.grammar c.args.counting.now) (g.M.MethodCounting.method c.args.counting.now) c.args.level in
    let p = err_from_is_err_and c.from_residual-in_err-other.result c.from_residual-in_err-other.ensures.1 in
    rw (p.1, p.2) (else_fails r i (g.M.MethodCounting.method c.args.counting.now) c.args.locals.now _ c.args.code.now.end c.args.code.now.bytes _ _ _ _ _ _ c.in_ok-inner.ensures.0 c.in_ok-predicate.ensures.0 c.in_ok-predicate.ensures.1.same_end c.in_ok-then.ensures.exact c.in_ok-then.ensures.locals c.in_ok-inner.ensures.1.same_end c.in_err-other.ensures.exact)

pub if_statement-returns-clause-exact : goal.if_statement-returns-clause-exact
if_statement-returns-clause-exact g t c =
    let r : Reader = term_at (g.M.MethodCounting.grammar c.args.counting.now c.args.locals.now) c.args.level in
    let i : Statements = statements_at (g.M.MethodCounting.grammar c.args.counting.now) (g.M.MethodCounting.method c.args.counting.now) c.args.level in (
      if_made r i (g.M.MethodCounting.method c.args.counting.now) c.args.locals.now _ c.args.code.now.end c.args.code.now.bytes _ _ _ _ _ _ _ _ c.in_ok-inner.ensures.0 c.in_ok-predicate.ensures.0 c.in_ok-predicate.ensures.1.same_end c.in_ok-then.ensures.exact c.in_ok-then.ensures.locals c.in_ok-inner.ensures.1.same_end c.in_ok-other.ensures.exact.0 (search rules),
      search rules,
    )

pub while_statement-returns-in_err-then-clause-exact : goal.while_statement-returns-in_err-then-clause-exact
while_statement-returns-in_err-then-clause-exact g t c =
    let r : Reader = term_at (g.M.MethodCounting.grammar c.args.counting.now c.args.locals.now) c.args.level in
    let i : Statements = statements_at (g.M.MethodCounting.grammar c.args.counting.now) (g.M.MethodCounting.method c.args.counting.now) c.args.level in
    let p = err_from_is_err_and c.from_residual-in_err-then.result c.from_residual-in_err-then.ensures.1 in
    rw (p.1, p.2) (while_fails r i c.args.locals.now c.args.code.now.end c.args.code.now.bytes _ _ _ _ c.in_ok-inner.ensures.0 c.in_ok-predicate.ensures.0 c.in_ok-predicate.ensures.1.same_end c.in_err-then.ensures.exact)

pub form-returns-in-Buffer-clause-locals : goal.form-returns-in-Buffer-clause-locals
form-returns-in-Buffer-clause-locals g t c =
    let r : Reader = term_at (g.M.MethodCounting.grammar c.args.counting.now c.args.locals.now) c.args.level in
    locals_kept term_view (buffer_form r) c.args.code.now c.buffer.new.code c.buffer.result (g.M.MethodCounting.method c.args.counting.now) c.args.locals.now
    (buffer_keeps r c.args.code.now.end c.args.code.now.bytes) c.buffer.ensures

pub form-returns-in-Package-clause-locals : goal.form-returns-in-Package-clause-locals
form-returns-in-Package-clause-locals g t c =
    let r : Reader = term_at (g.M.MethodCounting.grammar c.args.counting.now c.args.locals.now) c.args.level in
    locals_kept term_view (package_form r) c.args.code.now c.package.new.code c.package.result (g.M.MethodCounting.method c.args.counting.now) c.args.locals.now
    (package_keeps r c.args.code.now.end c.args.code.now.bytes) c.package.ensures

pub form-returns-in-VarPackage-clause-locals : goal.form-returns-in-VarPackage-clause-locals
form-returns-in-VarPackage-clause-locals g t c =
    let r : Reader = term_at (g.M.MethodCounting.grammar c.args.counting.now c.args.locals.now) c.args.level in
    locals_kept term_view (var_package_form r) c.args.code.now c.var_package.new.code c.var_package.result (g.M.MethodCounting.method c.args.counting.now) c.args.locals.now
    (var_package_keeps r c.args.code.now.end c.args.code.now.bytes) c.var_package.ensures

pub form-returns-in_default-clause-locals : goal.form-returns-in_default-clause-locals
form-returns-in_default-clause-locals g t c =
    let args = g.M.MethodCounting.grammar c.args.counting.now c.args.locals.now in
    let r : Reader = term_at args c.args.level in
    let front = c.args.front.now in
    locals_kept term_view (λ end whole. placed_by args r Statement end whole c.args.opcode c.args.code.now.bytes) front c.placed.new.code c.placed.result (g.M.MethodCounting.method c.args.counting.now) c.args.locals.now
    (placed_keeps args r Statement front.end front.bytes c.args.opcode c.args.code.now.bytes) c.placed.ensures

pub if_statement-returns-clause-locals : goal.if_statement-returns-clause-locals
if_statement-returns-clause-locals g t c = search rules
