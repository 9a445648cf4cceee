use Rattle.std.proofs.Common.{rules, true, false, ◌≡◌, ℕ, ◌+◌, ◌-◌, ◌<◌, ◌++◌, ◌∷◌, [], List, length, arith, sym, subst, ◌∙◌}
use Rattle.std.proofs.lemmas.Result.{err_from_is_err_and}
use Rattle.std.proofs.lemmas.List.{map_push, drop_more, length-drop}
use Rattle.acpi_tree.specs.TermView.{term_view, terms_view, operand_view, operands_view}
use Rattle.acpi_tree.specs.declared.place.Place.TheVariants.{Element, Value}
use Rattle.acpi_tree.specs.declared.place.OperandKind.TheVariants.{At}
use Rattle.acpi_code.proofs.Lists.{turned, all_turned}
use Rattle.acpi_values.specs.Spelling.{values}
use Rattle.acpi_values.specs.steps.Cursor.{Reads}
use Rattle.acpi_values.specs.steps.Reading.{Reader, placed_by, term_at}
use Rattle.acpi_values.specs.steps.Registers.{front_register}
use Rattle.acpi_values.proofs.Parts.{stopped_there, reads_as}
use Rattle.acpi_values.proofs.Opened.{term_opened, term_unopened}
use Rattle.acpi_values.proofs.InOrder.{Operated, operated_goes_on, operated_ends, operated_is_done, none_left_of, values_left, no_values_left, value_operand}
use Rattle.acpi_values.proofs.Registers.{register_front, some_register}
use Rattle.acpi_values.proofs.term.+read.Goals as goal

pub elements-returns-in_err-term : goal.elements-returns-in_err-term
elements-returns-in_err-term g t c =
    let r : Reader = term_at (g.C.Counting.grammar c.args.counting.now) c.args.level in
    let p = err_from_is_err_and c.from_residual.result c.from_residual.ensures.1 in
    let some : 0 < length c.each.code.bytes = grind arith in
    rw (p.1, p.2) (stopped_there (r Element) c.args.code.now c.each.code _ _ some c.in_err-term.ensures c.each.invariant)

pub elements-each-preserved : goal.elements-each-preserved
elements-each-preserved g t c =
    let r : Reader = term_at (g.C.Counting.grammar c.args.counting.now) c.args.level in
    let n = c.in_ok-term.field-0 in
    let some : 0 < length c.each.code.bytes = grind arith in
    let e : terms_view c.push.new.self.items ≡ terms_view c.each.found.items ++ term_view n ∷ [] = rw c.in_ok-push.ensures.items (map_push _ c.each.found.items n) in
    rw e (turned (r Element) c.args.code.now c.each.code c.term.new.code _ _ some c.in_ok-term.ensures.0 c.in_ok-term.ensures.1 c.each.invariant)

pub elements-returns : goal.elements-returns
elements-returns g t c =
    let r : Reader = term_at (g.C.Counting.grammar c.args.counting.now) c.args.level in
    let none : length c.each.code.bytes ≡ 0 = grind arith in
    all_turned (r Element) c.args.code.now c.each.code _ none c.each.invariant

pub arguments-returns-in_err-term : goal.arguments-returns-in_err-term
arguments-returns-in_err-term g t c =
    let r : Reader = term_at (g.C.Counting.grammar c.args.counting.now) c.args.level in
    let p = err_from_is_err_and c.from_residual-in_err-term.result c.from_residual-in_err-term.ensures.1 in
    let left = values_left c.args.count c.each.counter (grind arith) in
    let so : Operated r (values c.args.count) (At Value ∷ values (c.args.count - (c.each.counter + 1))) c.args.code.now c.each.code (terms_view c.each.found.items) = subst (λ ks. Operated r (values c.args.count) ks c.args.code.now c.each.code (terms_view c.each.found.items)) left c.each.invariant in
    rw (p.1, p.2) (operated_ends r (values c.args.count) (At Value) _ c.args.code.now c.each.code _ _ (rw (value_operand r c.each.code.end c.each.code.bytes) c.in_err-term.ensures) so)

pub arguments-each-preserved : goal.arguments-each-preserved
arguments-each-preserved g t c =
    let r : Reader = term_at (g.C.Counting.grammar c.args.counting.now) c.args.level in
    let n = c.in_ok-term.field-0 in
    let left = values_left c.args.count c.each.counter (grind arith) in
    let so : Operated r (values c.args.count) (At Value ∷ values (c.args.count - (c.each.counter + 1))) c.args.code.now c.each.code (terms_view c.each.found.items) = subst (λ ks. Operated r (values c.args.count) ks c.args.code.now c.each.code (terms_view c.each.found.items)) left c.each.invariant in
    let e : terms_view c.push.new.self.items ≡ terms_view c.each.found.items ++ term_view n ∷ [] = rw c.in_ok-push.ensures.items (map_push _ c.each.found.items n) in
    rw e (operated_goes_on r (values c.args.count) (At Value) (values (c.args.count - (c.each.counter + 1))) c.args.code.now c.each.code c.term.new.code _ _ (value_operand r c.each.code.end c.each.code.bytes ∙ c.in_ok-term.ensures.0) c.in_ok-term.ensures.1 so)

pub arguments-returns : goal.arguments-returns
arguments-returns g t c =
    let r : Reader = term_at (g.C.Counting.grammar c.args.counting.now) c.args.level in
    let so : Operated r (values c.args.count) [] c.args.code.now c.each.code (terms_view c.each.found.items) = subst (λ ks. Operated r (values c.args.count) ks c.args.code.now c.each.code (terms_view c.each.found.items)) (no_values_left c.args.count c.each.counter (grind arith)) c.each.invariant in
    (operated_is_done r (values c.args.count) c.args.code.now c.each.code _ so, record { same_end = so.same_end; at_most = so.within })

pub operands-each-preserved-then-branch : goal.operands-each-preserved-then-branch
operands-each-preserved-then-branch g t c =
    let args = g.C.Counting.grammar c.args.counting.now in
    let r : Reader = term_at args c.args.level in
    let next = drop_more c.args.kinds.now c.each.kind-index (At Value) (grind arith) in
    let so = subst (λ ks. Operated r c.args.kinds.now ks c.args.code.now c.each.code (operands_view c.each.found.items)) next c.each.invariant in
    let yes : c.in_ok-add_register.field-0 ≡ true = search rules in
    let begins = sym c.in_ok-add_register.ensures.told ∙ yes in
    let behind = c.in_ok-add_register.ensures.behind yes in
    let read = register_front args c.args.level _ c.each.code.end c.each.code.bytes begins in
    let some = some_register c.args.level _ c.each.code.bytes begins in
    rw (c.in_ok-add_register.ensures.put yes) (operated_goes_on r c.args.kinds.now _ _ c.args.code.now c.each.code c.add_register.new.code _ (front_register c.each.code.bytes) (rw behind.0 read) (record { same_end = behind.1; less = rw behind.0 (omega (arith, some, length-drop 1 c.each.code.bytes)) }) so)

pub operands-returns-in_err-operand : goal.operands-returns-in_err-operand
operands-returns-in_err-operand g t c =
    let r : Reader = term_at (g.C.Counting.grammar c.args.counting.now) c.args.level in
    let no : c.in_ok-add_register.field-0 ≡ false = search rules in
    let kept = c.in_ok-add_register.ensures.kept no in
    let p = err_from_is_err_and c.from_residual-in_err-operand.result c.from_residual-in_err-operand.ensures.1 in
    let next = drop_more c.args.kinds.now c.each.kind-index (At Value) (grind arith) in
    let so = subst (λ ks. Operated r c.args.kinds.now ks c.args.code.now c.each.code (operands_view c.each.found.items)) next c.each.invariant in
    rw (p.1, p.2) (operated_ends r c.args.kinds.now _ _ c.args.code.now c.each.code _ _ (rw kept.0 at c.in_err-operand.ensures) so)

pub operands-each-preserved : goal.operands-each-preserved
operands-each-preserved g t c =
    let r : Reader = term_at (g.C.Counting.grammar c.args.counting.now) c.args.level in
    let n = c.in_ok-operand.field-0 in
    let no : c.in_ok-add_register.field-0 ≡ false = search rules in
    let kept = c.in_ok-add_register.ensures.kept no in
    let next = drop_more c.args.kinds.now c.each.kind-index (At Value) (grind arith) in
    let so = subst (λ ks. Operated r c.args.kinds.now ks c.args.code.now c.each.code (operands_view c.each.found.items)) next c.each.invariant in
    let e : operands_view c.push.new.self.items ≡ operands_view c.each.found.items ++ operand_view n ∷ [] = rw (c.in_ok-push.ensures.items, kept.1) (map_push _ c.each.found.items n) in
    rw e (operated_goes_on r c.args.kinds.now _ _ c.args.code.now c.each.code c.operand.new.code _ _ (rw kept.0 at c.in_ok-operand.ensures.0) (rw kept.0 at c.in_ok-operand.ensures.1) so)

pub operands-returns : goal.operands-returns
operands-returns g t c =
    let r : Reader = term_at (g.C.Counting.grammar c.args.counting.now) c.args.level in
    let none = none_left_of c.args.kinds.now c.each.kind-index (grind arith) in
    let so = subst (λ ks. Operated r c.args.kinds.now ks c.args.code.now c.each.code (operands_view c.each.found.items)) none c.each.invariant in
    (operated_is_done r c.args.kinds.now c.args.code.now c.each.code _ so, record { same_end = so.same_end; at_most = so.within })

pub term-returns-in_err-opcode : goal.term-returns-in_err-opcode
term-returns-in_err-opcode g t c =
    let p = err_from_is_err_and c.from_residual.result c.from_residual.ensures.1 in
    let some : 0 < c.args.level = grind arith in
    rw (p.1, p.2) (term_unopened (g.C.Counting.grammar c.args.counting.now) c.args.level c.args.place c.args.code.now.end c.args.code.now.bytes _ some c.in_err-opcode.ensures)

pub term-returns : goal.term-returns
term-returns g t c =
    let args = g.C.Counting.grammar c.args.counting.now in
    let some : 0 < c.args.level = grind arith in
    let opens = term_opened args c.args.level c.args.place c.args.code.now.end c.args.code.now.bytes c.in_ok-opcode.opcode c.opcode.new.self.bytes some c.in_ok-opcode.ensures.0 in
    let by : ℕ → List ℕ → _ = λ end whole. placed_by args (term_at args (c.args.level - 1)) c.args.place end whole c.in_ok-opcode.opcode c.opcode.new.self.bytes in
    let h : Reads term_view by c.args.code.now c.placed.new.code c.placed.result = rw c.fork-front.ensures at c.placed.ensures in
    reads_as term_view by (term_at args c.args.level c.args.place) c.args.code.now c.placed.new.code c.placed.result opens h
