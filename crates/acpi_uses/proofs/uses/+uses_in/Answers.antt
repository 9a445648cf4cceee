use Rattle.std.proofs.Common.{arith}
use Rattle.std.proofs.lemmas.Grind.{common_steps}
use Rattle.acpi_uses.proofs.Steps.{operands_step}
use Rattle.acpi_uses.proofs.uses.+uses_in.Goals as goal

pub add_operands-each-preserved : goal.add_operands-each-preserved
add_operands-each-preserved t c =
    let step = operands_step c.args.op c.args.kinds.now c.args.operands.now c.each.i _ c.each-test.true c.index-operands-i.is in
    grind (arith, common_steps, step, c.each.invariant, c.in_ok-add_operand.ensures, c.operand_role.ensures)
