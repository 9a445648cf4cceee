use Rattle.std.proofs.Common.{◌≡◌, ◌≤◌, length, sym, ◌∙◌, arith, false}
use Rattle.acpi_tree.proofs.Alike.{unfit_at, all_fit, unpaired_lengths, unpaired_at, paired_all}
use Rattle.acpi_tree.proofs.TermLists.{stands, all_stand_alike, is_operand, operands_alike}
use Rattle.acpi_tree.proofs.standing.+term_fits.Goals as goal

pub all_fit-returns-then-not-stands : goal.all_fit-returns-then-not-stands
all_fit-returns-then-not-stands t c =
    let no : stands c.args.place c.term-item.result ≡ false = sym c.stands.ensures ∙ c.if-not-stands.true in
    sym (all_stand_alike c.args.place c.args.terms.now ∙ unfit_at (stands c.args.place) c.args.terms.now c.loop-term.term-index _ c.loop-term-test.true c.term-item.is no c.loop-term.invariant)

pub all_fit-returns : goal.all_fit-returns
all_fit-returns t c =
    let all : length c.args.terms.now ≤ c.loop-term.term-index = grind arith in
    sym (all_stand_alike c.args.place c.args.terms.now ∙ all_fit (stands c.args.place) c.args.terms.now c.loop-term.term-index all c.loop-term.invariant)

pub operands_may_be-returns-then-kinds-operands : goal.operands_may_be-returns-then-kinds-operands
operands_may_be-returns-then-kinds-operands t c =
    let other : length c.args.kinds.now ≡ length c.args.operands.now → ⊥ = λ h. c.if-kinds-operands.true h in
    sym (operands_alike c.args.kinds.now c.args.operands.now ∙ unpaired_lengths is_operand c.args.kinds.now c.args.operands.now other)

pub operands_may_be-returns-then-not-operand_may_be : goal.operands_may_be-returns-then-not-operand_may_be
operands_may_be-returns-then-not-operand_may_be t c =
    let same : length c.args.kinds.now ≡ length c.args.operands.now = grind arith in
    sym (operands_alike c.args.kinds.now c.args.operands.now
    ∙ unpaired_at is_operand c.args.kinds.now c.args.operands.now c.loop-i.i _ _ c.loop-i-test.true same c.index-operands-i.is
    (sym c.operand_may_be.ensures ∙ c.if-not-operand_may_be.true) c.loop-i.invariant)

pub operands_may_be-returns : goal.operands_may_be-returns
operands_may_be-returns t c =
    let same : length c.args.kinds.now ≡ length c.args.operands.now = grind arith in
    let all : length c.args.kinds.now ≤ c.loop-i.i = grind arith in
    sym (operands_alike c.args.kinds.now c.args.operands.now
    ∙ paired_all is_operand c.args.kinds.now c.args.operands.now c.loop-i.i all same c.loop-i.invariant)
