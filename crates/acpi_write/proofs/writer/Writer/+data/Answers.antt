use Rattle.std.proofs.Common.{◌-◌, ◌++◌, ◌∷◌, [], ap, ◌∙◌, arith, Some}
use Rattle.std.proofs.lemmas.Result.{err_from_is_err_and}
use Rattle.std.specs.Fmt.{option_append}
use Rattle.acpi_tree.specs.Tree.{elems_of}
use Rattle.acpi_tree.specs.DataTerms.{elem_term, elem_terms}
use Rattle.acpi_tree.specs.View.{elem_view, elems_view}
use Rattle.acpi_write.specs.Canonical.{int_bytes, filled_with}
use Rattle.acpi_write.proofs.DataForms.{package_is, var_package_is}
use Rattle.acpi_write.proofs.Declared.{longer, puts_as, puts_round}
use Rattle.acpi_write.proofs.Fronts.{one_ahead, none_ahead, all_ahead, puts_fault, elems_each}
use Rattle.acpi_write.specs.CanonicalTerms.{term_bytes, terms_bytes}
use Rattle.acpi_write.specs.Laws.{IsTermTyped}
use Rattle.acpi_write.proofs.Seen.{behind_one, behind_all, seen_elems}
use Rattle.acpi_write.proofs.writer.Writer.+data.Goals as goal

pub elems-loop-i-preserved : goal.elems-loop-i-preserved
elems-loop-i-preserved t c = (
  one_ahead (λ x. term_bytes (elem_term (elem_view x))) c.args.elems.now c.loop-i.i (c.loop-i.i - 1) c.index-elems-i.result c.args.self.now c.loop-i.self c.elem.new.self (omega arith) (omega arith) c.index-elems-i.is c.loop-i.invariant.0 c.in_ok-elem.ensures.put,
  behind_one (λ x. IsTermTyped (elem_term (elem_view x))) c.args.elems.now c.loop-i.i (c.loop-i.i - 1) c.index-elems-i.result (omega arith) (omega arith) c.index-elems-i.is c.in_ok-elem.ensures.typed c.loop-i.invariant.1,
)

pub elems-returns-in_err-elem-clause-put : goal.elems-returns-in_err-elem-clause-put
elems-returns-in_err-elem-clause-put t c = puts_fault c.from_residual.result c.in_err-elem.field-0.0 _ (term_bytes (elem_term (elem_view c.index-elems-i.result))) c.args.self.now c.loop-i.self c.elem.new.self
    (err_from_is_err_and c.from_residual.result c.from_residual.ensures.1) c.in_err-elem.ensures.put
    (λ none. elems_each c.args.elems.now ∙ none_ahead (λ x. term_bytes (elem_term (elem_view x))) c.args.elems.now c.loop-i.i (c.loop-i.i - 1) c.index-elems-i.result c.args.self.now c.loop-i.self (omega arith) (omega arith) c.index-elems-i.is c.loop-i.invariant.0 none)

pub elems-returns-clause-put : goal.elems-returns-clause-put
elems-returns-clause-put t c = ap (λ b. option_append b (Some c.args.self.now)) (elems_each c.args.elems.now) ∙ all_ahead (λ x. term_bytes (elem_term (elem_view x))) c.args.elems.now c.loop-i.i c.args.self.now c.loop-i.self (omega arith) c.loop-i.invariant.0

pub elems-returns-clause-typed : goal.elems-returns-clause-typed
elems-returns-clause-typed t c = seen_elems c.args.elems.now (behind_all (λ x. IsTermTyped (elem_term (elem_view x))) c.args.elems.now c.loop-i.i (omega arith) c.loop-i.invariant.1)

pub data-fill-requires : goal.data-fill-requires
data-fill-requires t c = let le = longer _ c.args.self.now c.elems.new.self c.in_ok-elems-in-Package.ensures.put in omega (arith, le, c.len-end.ensures)

pub data-fill-requires-in-VarPackage : goal.data-fill-requires-in-VarPackage
data-fill-requires-in-VarPackage t c =
    let le = longer _ c.args.self.now c.elems-in-VarPackage.new.self c.in_ok-elems-in-VarPackage.ensures.put in omega (arith, le, c.len-end-in-VarPackage.ensures)

pub data-returns-in_ok-elems-in-Package-clause-put : goal.data-returns-in_ok-elems-in-Package-clause-put
data-returns-in_ok-elems-in-Package-clause-put t c =
    let is = package_is c.args.data.now c.in-Package.count c.in-Package.elems c.deref-in-Package.result.now c.in-Package.is c.deref-in-Package.ensures.value in
    puts_as c.fill.result _ _ c.args.self.now c.fill.new.self is
    (puts_round c.fill.result (filled_with (0x12 ∷ []) (c.in-Package.count ∷ [])) (terms_bytes (elem_terms (elems_of (elems_view c.deref-in-Package.result.now))))
    c.len-end.result c.args.self.now c.elems.new.self c.fill.new.self c.in_ok-elems-in-Package.ensures.put c.len-end.ensures c.fill.ensures.put)

pub data-returns-in_ok-elems-in-VarPackage-clause-put : goal.data-returns-in_ok-elems-in-VarPackage-clause-put
data-returns-in_ok-elems-in-VarPackage-clause-put t c =
    let is = var_package_is c.args.data.now c.in-VarPackage.count c.in-VarPackage.elems c.deref-in-VarPackage.result.now c.in-VarPackage.is c.deref-in-VarPackage.ensures.value in
    puts_as c.fill-in-VarPackage.result _ _ c.args.self.now c.fill-in-VarPackage.new.self is
    (puts_round c.fill-in-VarPackage.result (filled_with (0x13 ∷ []) (int_bytes c.in-VarPackage.count ++ [])) (terms_bytes (elem_terms (elems_of (elems_view c.deref-in-VarPackage.result.now))))
    c.len-end-in-VarPackage.result c.args.self.now c.elems-in-VarPackage.new.self c.fill-in-VarPackage.new.self
    c.in_ok-elems-in-VarPackage.ensures.put c.len-end-in-VarPackage.ensures c.fill-in-VarPackage.ensures.put)
