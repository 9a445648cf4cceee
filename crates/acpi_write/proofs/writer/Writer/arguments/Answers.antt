use Rattle.std.proofs.Common.{◌-◌, arith}
use Rattle.acpi_write.proofs.Fronts.{piece_ahead}
use Rattle.acpi_write.specs.steps.Writing.{IsArgumentTyped}
use Rattle.acpi_write.proofs.Seen.{behind_one, behind_all}
use Rattle.acpi_write.proofs.writer.Writer.arguments.Goals as goal

pub loop-i-preserved : goal.loop-i-preserved
loop-i-preserved c = (
  piece_ahead c.args.arguments.now c.loop-i.i (c.loop-i.i - 1) c.index-arguments-i.result c.args.self.now c.loop-i.self c.argument.new.self (omega arith) (omega arith) c.index-arguments-i.is c.loop-i.invariant.0 c.in_ok-argument.ensures.put,
  behind_one IsArgumentTyped c.args.arguments.now c.loop-i.i (c.loop-i.i - 1) c.index-arguments-i.result (omega arith) (omega arith) c.index-arguments-i.is c.in_ok-argument.ensures.typed c.loop-i.invariant.1,
)

pub returns-clause-typed : goal.returns-clause-typed
returns-clause-typed c = behind_all IsArgumentTyped c.args.arguments.now c.loop-i.i (omega arith) c.loop-i.invariant.1
