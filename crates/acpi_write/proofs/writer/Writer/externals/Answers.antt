use Rattle.std.proofs.Common.{◌-◌, ap, ◌∙◌, arith, Some}
use Rattle.std.proofs.lemmas.Result.{err_from_is_err_and}
use Rattle.std.specs.Fmt.{option_append}
use Rattle.acpi_tree.specs.View.{external_view}
use Rattle.acpi_write.specs.CanonicalItems.{external_bytes}
use Rattle.acpi_write.proofs.Fronts.{one_ahead, all_ahead, puts_fault, each_map}
use Rattle.acpi_write.specs.Laws.{IsExternalTyped}
use Rattle.acpi_write.proofs.Seen.{behind_one, behind_all, seen_map}
use Rattle.acpi_write.proofs.writer.Writer.externals.Goals as goal

pub loop-i-preserved : goal.loop-i-preserved
loop-i-preserved c = (
  one_ahead (λ x. Some (external_bytes (external_view x))) c.args.externals.now c.loop-i.i (c.loop-i.i - 1) c.index-externals-i.result c.args.self.now c.loop-i.self c.external.new.self (omega arith) (omega arith) c.index-externals-i.is c.loop-i.invariant.0 c.in_ok-external.ensures.put,
  behind_one (λ x. IsExternalTyped (external_view x)) c.args.externals.now c.loop-i.i (c.loop-i.i - 1) c.index-externals-i.result (omega arith) (omega arith) c.index-externals-i.is c.in_ok-external.ensures.typed c.loop-i.invariant.1,
)

pub returns-in_err-external-clause-put : goal.returns-in_err-external-clause-put
returns-in_err-external-clause-put c = puts_fault c.from_residual.result c.in_err-external.field-0.0 _ (Some (external_bytes (external_view c.index-externals-i.result))) c.args.self.now c.loop-i.self c.external.new.self
    (err_from_is_err_and c.from_residual.result c.from_residual.ensures.1) c.in_err-external.ensures.put
    (λ none. absurd cc)

pub returns-clause-put : goal.returns-clause-put
returns-clause-put c = ap (λ b. option_append b (Some c.args.self.now)) (each_map (λ x. Some (external_bytes x)) external_view c.args.externals.now) ∙ all_ahead (λ x. Some (external_bytes (external_view x))) c.args.externals.now c.loop-i.i c.args.self.now c.loop-i.self (omega arith) c.loop-i.invariant.0

pub returns-clause-typed : goal.returns-clause-typed
returns-clause-typed c = seen_map IsExternalTyped external_view c.args.externals.now (behind_all (λ x. IsExternalTyped (external_view x)) c.args.externals.now c.loop-i.i (omega arith) c.loop-i.invariant.1)
