use Rattle.std.proofs.Common.{◌-◌, arith}
use Rattle.acpi_conditions.proofs.WalkSteps.{since_all, since_more, table_ended}
use Rattle.acpi_conditions.proofs.walk.Walk.end_table.Goals as goal

pub loop-number-init : goal.loop-number-init
loop-number-init c = record {
  first = omega arith;
  walk = since_all c.args.self.now c.go_to_start.new.self c.max-number.result c.go_to_start.ensures (omega arith);
}

pub loop-number-preserved : goal.loop-number-preserved
loop-number-preserved c = record {
  first = omega arith;
  walk = since_more c.args.self.now c.certify_lasting.new.self c.loop-number.self c.loop-number.number (c.loop-number.number - 1) c.loop-number.invariant.walk (omega arith) c.in_ok-certify_lasting.ensures;
}

pub returns : goal.returns
returns c = table_ended c.args.self.now c.start_table.new.self c.loop-number.self c.loop-number.number c.loop-number.invariant.walk (omega arith) c.start_table.ensures
