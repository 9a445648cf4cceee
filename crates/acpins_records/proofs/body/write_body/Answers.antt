use Rattle.std.proofs.Common.{rules, ◌∙◌}
use Rattle.acpins_records.specs.Written.{bytes_of}
use Rattle.acpins_records.proofs.AnyOrder.{body_in_any_order}
use Rattle.acpins_records.proofs.Refused.{refusal_of, given_depth}
use Rattle.acpins_records.proofs.body.write_body.Goals as goal

pub returns-in-Ok-Some-clause-any_order : goal.returns-in-Ok-Some-clause-any_order
returns-in-Ok-Some-clause-any_order c ok =
    body_in_any_order c.args.depth (bytes_of c.args.tables.now) c.args.path.now c.args.text.now c.write_given.new.text c.write_given.new.body c.write_given.new.outcome (search rules)

pub returns-clause-refused : goal.returns-clause-refused
returns-clause-refused c is =
    refusal_of c.in-Some.depth c.args.depth _ c.deref.result.now c.in-Err-At.field-0 c.in-Err-At.table c.in-Err-At.reason _ _ _ (given_depth _ c.in-Some.depth c.args.depth c.in-Some.ensures)
    (c.deref.ensures.value ∙ c.in-Ok-copy_tables.ensures) c.in-Err-At.field-0-is c.in-Err-At.ensures.err c.in-Err-At.ensures.none (c.write_refusal.ensures.refused is) (c.write_refusal.ensures.path is)
