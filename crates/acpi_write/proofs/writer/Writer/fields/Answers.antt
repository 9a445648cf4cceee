use Rattle.std.proofs.Common.{◌-◌, ap, ◌∙◌, arith, Some}
use Rattle.std.proofs.lemmas.Result.{err_from_is_err_and}
use Rattle.std.specs.Fmt.{option_append}
use Rattle.acpi_tree.specs.View.{field_view}
use Rattle.acpi_write.specs.Canonical.{field_bytes}
use Rattle.acpi_write.proofs.Fronts.{one_ahead, none_ahead, all_ahead, puts_fault, each_map}
use Rattle.acpi_write.specs.Laws.{IsFieldTyped}
use Rattle.acpi_write.proofs.Seen.{behind_one, behind_all, seen_map}
use Rattle.acpi_write.proofs.writer.Writer.fields.Goals as goal

pub loop-i-preserved : goal.loop-i-preserved
loop-i-preserved c = (
  one_ahead (λ x. field_bytes (field_view x)) c.args.elems.now c.loop-i.i (c.loop-i.i - 1) c.index-elems-i.result c.args.self.now c.loop-i.self c.field.new.self (omega arith) (omega arith) c.index-elems-i.is c.loop-i.invariant.0 c.in_ok-field.ensures.put,
  behind_one (λ x. IsFieldTyped (field_view x)) c.args.elems.now c.loop-i.i (c.loop-i.i - 1) c.index-elems-i.result (omega arith) (omega arith) c.index-elems-i.is c.in_ok-field.ensures.typed c.loop-i.invariant.1,
)

pub returns-in_err-field-clause-put : goal.returns-in_err-field-clause-put
returns-in_err-field-clause-put c = puts_fault c.from_residual.result c.in_err-field.field-0.0 _ (field_bytes (field_view c.index-elems-i.result)) c.args.self.now c.loop-i.self c.field.new.self
    (err_from_is_err_and c.from_residual.result c.from_residual.ensures.1) c.in_err-field.ensures.put
    (λ none. each_map field_bytes field_view c.args.elems.now ∙ none_ahead (λ x. field_bytes (field_view x)) c.args.elems.now c.loop-i.i (c.loop-i.i - 1) c.index-elems-i.result c.args.self.now c.loop-i.self (omega arith) (omega arith) c.index-elems-i.is c.loop-i.invariant.0 none)

pub returns-clause-put : goal.returns-clause-put
returns-clause-put c = ap (λ b. option_append b (Some c.args.self.now)) (each_map field_bytes field_view c.args.elems.now) ∙ all_ahead (λ x. field_bytes (field_view x)) c.args.elems.now c.loop-i.i c.args.self.now c.loop-i.self (omega arith) c.loop-i.invariant.0

pub returns-clause-typed : goal.returns-clause-typed
returns-clause-typed c = seen_map IsFieldTyped field_view c.args.elems.now (behind_all (λ x. IsFieldTyped (field_view x)) c.args.elems.now c.loop-i.i (omega arith) c.loop-i.invariant.1)
