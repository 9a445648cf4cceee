use Rattle.std.proofs.Common.{◌≡◌, ◌<◌, ◌-◌, ◌++◌, ◌∷◌, [], length, arith, Ok, refl, sym, ◌∙◌, true, false}
use Rattle.std.proofs.lemmas.Result.{err_from_is_err_and}
use Rattle.std.proofs.lemmas.List.{map_push}
use Rattle.acpi_tree.specs.Tree.{elems_of}
use Rattle.acpi_code.proofs.Lists.{turned, all_turned, reads_on}
use Rattle.acpi_code.specs.Opcodes.{is_name_opcode}
use Rattle.acpi_code.specs.steps.Reading.{each_at}
use Rattle.acpi_terms.proofs.Opened.{elem_opened, reads_as, reads_behind}
use Rattle.acpi_terms.proofs.Parts.{stopped_there, fails_on}
use Rattle.acpi_terms.specs.steps.Cursor.{Reads}
use Rattle.acpi_terms.specs.steps.Reading.{name_elem_at, data_elem_of, data_by, elem_at, elems_with}
use Rattle.acpi_tree.specs.View.{elem_view, elems_view}
use Rattle.acpi_terms.proofs.data.+read.Goals as goal

pub elems-returns-in_err-elem : goal.elems-returns-in_err-elem
elems-returns-in_err-elem t c =
    let p = err_from_is_err_and c.from_residual.result c.from_residual.ensures.1 in
    let some : 0 < length c.each.code.bytes = grind arith in
    rw (p.1, p.2) (fails_on _ (each_at (elem_at c.args.level c.args.code.now.end) c.args.code.now.bytes) (λ xs. Ok (elems_of xs)) (stopped_there (elem_at c.args.level) c.args.code.now c.each.code _ _ some c.in_err-elem.ensures c.each.invariant))

pub elems-each-preserved : goal.elems-each-preserved
elems-each-preserved t c =
    let n = c.in_ok-elem.field-0 in
    let some : 0 < length c.each.code.bytes = grind arith in
    let e : elems_view c.push.new.self.items ≡ elems_view c.each.found.items ++ elem_view n ∷ [] = rw c.in_ok-push.ensures.items (map_push _ c.each.found.items n) in
    rw e (turned (elem_at c.args.level) c.args.code.now c.each.code c.elem.new.code _ _ some c.in_ok-elem.ensures.0 c.in_ok-elem.ensures.1 c.each.invariant)

pub elems-returns : goal.elems-returns
elems-returns t c =
    let none : length c.each.code.bytes ≡ 0 = grind arith in
    reads_on (each_at (elem_at c.args.level c.args.code.now.end) c.args.code.now.bytes) _ (λ xs. Ok (elems_of xs)) (all_turned (elem_at c.args.level) c.args.code.now c.each.code _ none c.each.invariant)

pub elem-returns-then-is_name : goal.elem-returns-then-is_name
elem-returns-then-is_name t c =
    let some : 0 < c.args.level = grind arith in
    let opens = elem_opened c.args.level c.args.code.now.end c.args.code.now.bytes c.in_ok-opcode.opcode c.opcode.new.self.bytes some c.in_ok-opcode.ensures.0 in
    let is : is_name_opcode c.in_ok-opcode.opcode ≡ true = sym c.is_name.ensures ∙ c.if-is_name.true in
    let e : elem_at c.args.level c.args.code.now.end c.args.code.now.bytes ≡ name_elem_at c.args.code.now.end c.args.code.now.bytes = opens ∙ rw is refl in
    let h : Reads elem_view name_elem_at c.args.code.now c.name_elem.new.code c.name_elem.result = rw c.fork-front.ensures at c.name_elem.ensures in
    reads_as elem_view name_elem_at (elem_at c.args.level) c.args.code.now c.name_elem.new.code c.name_elem.result e h

pub elem-returns-else-is_name : goal.elem-returns-else-is_name
elem-returns-else-is_name t c =
    let some : 0 < c.args.level = grind arith in
    let opens = elem_opened c.args.level c.args.code.now.end c.args.code.now.bytes c.in_ok-opcode.opcode c.opcode.new.self.bytes some c.in_ok-opcode.ensures.0 in
    let is : is_name_opcode c.in_ok-opcode.opcode ≡ false = sym c.is_name.ensures ∙ c.if-is_name.false in
    let by = data_by (elems_with (elem_at (c.args.level - 1))) (c.args.level - 1) in
    let e : elem_at c.args.level c.args.code.now.end c.args.code.now.bytes ≡ data_elem_of (by c.args.code.now.end c.args.code.now.bytes c.in_ok-opcode.opcode c.opcode.new.self.bytes) = opens ∙ rw is refl in
    reads_behind elem_view (elem_at c.args.level) (λ end rest. data_elem_of (by end c.fork-front.result.bytes c.in_ok-opcode.opcode rest))
    c.args.code.now c.opcode.new.self c.data_elem.new.code _ (rw (c.in_ok-opcode.ensures.1.same_end, c.fork-front.ensures) e) c.in_ok-opcode.ensures.1 c.data_elem.ensures
