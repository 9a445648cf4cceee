use Rattle.std.proofs.Common.{◌≡◌, ◌-◌, ◌++◌, ◌∷◌, [], ℕ, List, Option, Some, ap, refl, ◌∙◌, arith, sym, subst}
use Rattle.std.proofs.lemmas.Result.{err_from_is_err_and}
use Rattle.std.specs.Fmt.{option_append}
use Rattle.acpi_name.specs.Spelling.{name_bytes}
use Rattle.byteorder.specs.Endian.{little_bytes}
use Rattle.acpi_code.specs.Opcodes.{width_bytes, operator_bytes}
use Rattle.acpi_tree.specs.Terms.{terms_of}
use Rattle.acpi_tree.specs.TermView.{term_view, terms_tree, operand_view, operands_view, else_view}
use Rattle.acpi_tree.specs.View.{fields_view}
use Rattle.acpi_write.specs.Canonical.{fields_bytes, filled_with}
use Rattle.acpi_write.specs.CanonicalTerms.{term_bytes, terms_bytes, else_bytes}
use Rattle.acpi_write.specs.steps.Writing.{Puts}
use Rattle.acpi_write.proofs.Fronts.{one_ahead, none_ahead, all_ahead, puts_fault, terms_each, operands_each}
use Rattle.acpi_write.proofs.Declared.{onto, longer, puts_onto, puts_as, none_first, none_under, none_within, puts_round, name_is, create_is, create_field_is, mutex_is, region_is, bank_field_is, buffer_is, pkg_is, var_pkg_is, while_is, if_is, else_put, no_else_put}
use Rattle.acpi_write.specs.Laws.{IsTermTyped}
use Rattle.acpi_write.proofs.Seen.{behind_one, behind_all, seen_terms, seen_operands}
use Rattle.acpi_write.proofs.writer.Writer.+terms.Goals.{term-in-Some+in_ok-alternative-in-If, term-in_default}
use Rattle.acpi_write.proofs.writer.Writer.+terms.Goals as goal

pub terms-loop-i-preserved : goal.terms-loop-i-preserved
terms-loop-i-preserved t c = (
  one_ahead (λ x. term_bytes (term_view x)) c.args.terms.now c.loop-i.i (c.loop-i.i - 1) c.index-terms-i.result c.args.self.now c.loop-i.self
      c.term.new.self (omega arith) (omega arith) c.index-terms-i.is c.loop-i.invariant.0 c.in_ok-term.ensures.put,
  behind_one (λ x. IsTermTyped (term_view x)) c.args.terms.now c.loop-i.i (c.loop-i.i - 1) c.index-terms-i.result (omega arith) (omega arith)
      c.index-terms-i.is c.in_ok-term.ensures.typed c.loop-i.invariant.1,
)

pub terms-returns-in_err-term-clause-put : goal.terms-returns-in_err-term-clause-put
terms-returns-in_err-term-clause-put t c = puts_fault c.from_residual.result c.in_err-term.field-0.0 _ (term_bytes (term_view c.index-terms-i.result)) c.args.self.now c.loop-i.self c.term.new.self
    (err_from_is_err_and c.from_residual.result c.from_residual.ensures.1) c.in_err-term.ensures.put
    (λ none. terms_each c.args.terms.now ∙ none_ahead (λ x. term_bytes (term_view x)) c.args.terms.now c.loop-i.i (c.loop-i.i - 1)
    c.index-terms-i.result c.args.self.now c.loop-i.self (omega arith) (omega arith) c.index-terms-i.is c.loop-i.invariant.0 none)

pub terms-returns-clause-put : goal.terms-returns-clause-put
terms-returns-clause-put t c = ap (λ b. option_append b (Some c.args.self.now)) (terms_each c.args.terms.now)
    ∙ all_ahead (λ x. term_bytes (term_view x)) c.args.terms.now c.loop-i.i c.args.self.now c.loop-i.self (omega arith) c.loop-i.invariant.0

pub operands-loop-i-preserved : goal.operands-loop-i-preserved
operands-loop-i-preserved t c = (
  one_ahead (λ x. term_bytes (operand_view x)) c.args.operands.now c.loop-i.i (c.loop-i.i - 1) c.index-operands-i.result c.args.self.now c.loop-i.self
      c.operand.new.self (omega arith) (omega arith) c.index-operands-i.is c.loop-i.invariant.0 c.in_ok-operand.ensures.put,
  behind_one (λ x. IsTermTyped (operand_view x)) c.args.operands.now c.loop-i.i (c.loop-i.i - 1) c.index-operands-i.result (omega arith) (omega arith)
      c.index-operands-i.is c.in_ok-operand.ensures.typed c.loop-i.invariant.1,
)

pub operands-returns-in_err-operand-clause-put : goal.operands-returns-in_err-operand-clause-put
operands-returns-in_err-operand-clause-put t c = puts_fault c.from_residual.result c.in_err-operand.field-0.0 _
    (term_bytes (operand_view c.index-operands-i.result)) c.args.self.now c.loop-i.self c.operand.new.self
    (err_from_is_err_and c.from_residual.result c.from_residual.ensures.1) c.in_err-operand.ensures.put
    (λ none. operands_each c.args.operands.now ∙ none_ahead (λ x. term_bytes (operand_view x)) c.args.operands.now c.loop-i.i (c.loop-i.i - 1)
    c.index-operands-i.result c.args.self.now c.loop-i.self (omega arith) (omega arith) c.index-operands-i.is c.loop-i.invariant.0 none)

pub operands-returns-clause-put : goal.operands-returns-clause-put
operands-returns-clause-put t c = ap (λ b. option_append b (Some c.args.self.now)) (operands_each c.args.operands.now)
    ∙ all_ahead (λ x. term_bytes (operand_view x)) c.args.operands.now c.loop-i.i c.args.self.now c.loop-i.self (omega arith) c.loop-i.invariant.0

-- ---- Name

pub declaration-returns-in_ok-term-in-Name-clause-put : goal.declaration-returns-in_ok-term-in-Name-clause-put
declaration-returns-in_ok-term-in-Name-clause-put t c =
    let is = name_is c.args.decl.now c.in-Name.name c.in-Name.data c.deref.result.now c.in-Name.is c.deref.ensures in
    puts_as c.fronted.result _ _ c.args.self.now c.fronted.new.self is
    (puts_onto c.fronted.result (Some ((0x08 ∷ []) ++ name_bytes c.in-Name.name)) (term_bytes (term_view c.deref.result.now)) c.args.self.now
    c.term.new.self c.fronted.new.self c.in_ok-term-in-Name.ensures.put c.fronted.ensures.put)

-- ---- Create

pub declaration-returns-in_err-term-in-Create-clause-put : goal.declaration-returns-in_err-term-in-Create-clause-put
declaration-returns-in_err-term-in-Create-clause-put t c =
    let source = c.in-Create.source.value in
    let is = create_is c.args.decl.now c.in-Create.width c.in-Create.source c.in-Create.index c.in-Create.name source c.deref-in-Create.result.now c.in-Create.is refl c.deref-in-Create.ensures in
    let name : Option (List ℕ) = Some (name_bytes c.in-Create.name) in
    puts_fault c.from_residual-in_err-term-in-Create.result c.in_err-term-in-Create.field-0.0 _ (term_bytes (term_view c.deref-in-Create.result.now))
    c.args.self.now c.reference.new.self c.term-in-Create.new.self
    (err_from_is_err_and c.from_residual-in_err-term-in-Create.result c.from_residual-in_err-term-in-Create.ensures.1) c.in_err-term-in-Create.ensures.put
    (λ none. is ∙ none_under (Some (width_bytes c.in-Create.width)) _ (none_under (term_bytes (term_view source)) _ (none_first (term_bytes (term_view c.deref-in-Create.result.now)) name none)))

pub declaration-returns-in_ok-term-in-Create-2-clause-put : goal.declaration-returns-in_ok-term-in-Create-2-clause-put
declaration-returns-in_ok-term-in-Create-2-clause-put t c =
    let is = create_is c.args.decl.now c.in-Create.width c.in-Create.source c.in-Create.index c.in-Create.name c.deref-in-Create-2.result.now
    c.deref-in-Create.result.now c.in-Create.is c.deref-in-Create-2.ensures c.deref-in-Create.ensures in
    let name : Option (List ℕ) = Some (name_bytes c.in-Create.name) in
    let i : Option (List ℕ) = (term_bytes (term_view c.deref-in-Create.result.now)) in
    let s : Option (List ℕ) = (term_bytes (term_view c.deref-in-Create-2.result.now)) in
    let old = c.args.self.now in
    let one = onto i name old c.reference.new.self c.term-in-Create.new.self c.in_ok-reference-in-Create.ensures.put c.in_ok-term-in-Create.ensures.put in
    let two = onto s (option_append i name) old c.term-in-Create.new.self c.term-in-Create-2.new.self one c.in_ok-term-in-Create-2.ensures.put in
    puts_as c.fixed.result _ _ old c.fixed.new.self (is ∙ ap (λ w. option_append (Some w) (option_append s (option_append i name))) c.width_opcode.ensures)
    (puts_onto c.fixed.result (Some (c.width_opcode.result ∷ [])) (option_append s (option_append i name)) old c.term-in-Create-2.new.self c.fixed.new.self two c.fixed.ensures)

-- ---- CreateField

pub declaration-returns-in_err-term-in-CreateField-clause-put : goal.declaration-returns-in_err-term-in-CreateField-clause-put
declaration-returns-in_err-term-in-CreateField-clause-put t c =
    let source = c.in-CreateField.source.value in
    let index = c.in-CreateField.index.value in
    let is = create_field_is c.args.decl.now c.in-CreateField.source c.in-CreateField.index c.in-CreateField.bits c.in-CreateField.name source index
    c.deref-in-CreateField.result.now c.in-CreateField.is refl refl c.deref-in-CreateField.ensures in
    let name : Option (List ℕ) = Some (name_bytes c.in-CreateField.name) in
    puts_fault c.from_residual-in_err-term-in-CreateField.result c.in_err-term-in-CreateField.field-0.0 _
    (term_bytes (term_view c.deref-in-CreateField.result.now)) c.args.self.now c.reference-in-CreateField.new.self c.term-in-CreateField.new.self
    (err_from_is_err_and c.from_residual-in_err-term-in-CreateField.result c.from_residual-in_err-term-in-CreateField.ensures.1) c.in_err-term-in-CreateField.ensures.put
    (λ none. is ∙ none_under (Some (0x5B ∷ 0x13 ∷ [])) _ (none_under (term_bytes (term_view source)) _
    (none_under (term_bytes (term_view index)) _ (none_first (term_bytes (term_view c.deref-in-CreateField.result.now)) name none))))

pub declaration-returns-in_err-term-in-CreateField-2-clause-put : goal.declaration-returns-in_err-term-in-CreateField-2-clause-put
declaration-returns-in_err-term-in-CreateField-2-clause-put t c =
    let source = c.in-CreateField.source.value in
    let bits = c.in-CreateField.bits.value in
    let is = create_field_is c.args.decl.now c.in-CreateField.source c.in-CreateField.index c.in-CreateField.bits c.in-CreateField.name source
    c.deref-in-CreateField-2.result.now bits c.in-CreateField.is refl c.deref-in-CreateField-2.ensures refl in
    puts_fault c.from_residual-in_err-term-in-CreateField-2.result c.in_err-term-in-CreateField-2.field-0.0 _
    (term_bytes (term_view c.deref-in-CreateField-2.result.now)) c.args.self.now c.term-in-CreateField.new.self c.term-in-CreateField-2.new.self
    (err_from_is_err_and c.from_residual-in_err-term-in-CreateField-2.result c.from_residual-in_err-term-in-CreateField-2.ensures.1) c.in_err-term-in-CreateField-2.ensures.put
    (λ none. is ∙ none_under (Some (0x5B ∷ 0x13 ∷ [])) _ (none_under (term_bytes (term_view source)) _ (none_first (term_bytes (term_view c.deref-in-CreateField-2.result.now)) _ none)))

pub declaration-returns-in_ok-term-in-CreateField-3-clause-put : goal.declaration-returns-in_ok-term-in-CreateField-3-clause-put
declaration-returns-in_ok-term-in-CreateField-3-clause-put t c =
    let is = create_field_is c.args.decl.now c.in-CreateField.source c.in-CreateField.index c.in-CreateField.bits c.in-CreateField.name
    c.deref-in-CreateField-3.result.now c.deref-in-CreateField-2.result.now c.deref-in-CreateField.result.now c.in-CreateField.is
    c.deref-in-CreateField-3.ensures c.deref-in-CreateField-2.ensures c.deref-in-CreateField.ensures in
    let name : Option (List ℕ) = Some (name_bytes c.in-CreateField.name) in
    let b : Option (List ℕ) = (term_bytes (term_view c.deref-in-CreateField.result.now)) in
    let i : Option (List ℕ) = (term_bytes (term_view c.deref-in-CreateField-2.result.now)) in
    let s : Option (List ℕ) = (term_bytes (term_view c.deref-in-CreateField-3.result.now)) in
    let old = c.args.self.now in
    let one = onto b name old c.reference-in-CreateField.new.self c.term-in-CreateField.new.self c.in_ok-reference-in-CreateField.ensures.put c.in_ok-term-in-CreateField.ensures.put in
    let two = onto i (option_append b name) old c.term-in-CreateField.new.self c.term-in-CreateField-2.new.self one c.in_ok-term-in-CreateField-2.ensures.put in
    let three = onto s (option_append i (option_append b name)) old c.term-in-CreateField-2.new.self c.term-in-CreateField-3.new.self two c.in_ok-term-in-CreateField-3.ensures.put in
    puts_as c.fixed-in-CreateField.result _ _ old c.fixed-in-CreateField.new.self is
    (puts_onto c.fixed-in-CreateField.result (Some (0x5B ∷ 0x13 ∷ [])) (option_append s (option_append i (option_append b name))) old
    c.term-in-CreateField-3.new.self c.fixed-in-CreateField.new.self three c.fixed-in-CreateField.ensures)

-- ---- Mutex and OperationRegion

pub declaration-returns-in_ok-raw_byte-in-Mutex-clause-put : goal.declaration-returns-in_ok-raw_byte-in-Mutex-clause-put
declaration-returns-in_ok-raw_byte-in-Mutex-clause-put t c =
    let is = mutex_is c.args.decl.now c.in-Mutex.name c.in-Mutex.flags c.in-Mutex.is in
    puts_as c.fronted-in-Mutex.result _ _ c.args.self.now c.fronted-in-Mutex.new.self is
    (puts_onto c.fronted-in-Mutex.result (Some ((0x5B ∷ 0x01 ∷ []) ++ name_bytes c.in-Mutex.name)) (Some (little_bytes 1 c.in-Mutex.flags))
    c.args.self.now c.raw_byte.new.self c.fronted-in-Mutex.new.self c.in_ok-raw_byte-in-Mutex.ensures c.fronted-in-Mutex.ensures.put)

pub declaration-returns-in_err-term-in-Region-clause-put : goal.declaration-returns-in_err-term-in-Region-clause-put
declaration-returns-in_err-term-in-Region-clause-put t c =
    let offset = c.in-Region.offset.value in
    let is = region_is c.args.decl.now c.in-Region.name c.in-Region.space c.in-Region.offset c.in-Region.length offset c.deref-in-Region.result.now c.in-Region.is refl c.deref-in-Region.ensures in
    puts_fault c.from_residual-in_err-term-in-Region.result c.in_err-term-in-Region.field-0.0 _ (term_bytes (term_view c.deref-in-Region.result.now))
    c.args.self.now c.args.self.now c.term-in-Region.new.self
    (err_from_is_err_and c.from_residual-in_err-term-in-Region.result c.from_residual-in_err-term-in-Region.ensures.1) c.in_err-term-in-Region.ensures.put
    (λ none. is ∙ none_under (Some ((0x5B ∷ 0x80 ∷ []) ++ name_bytes c.in-Region.name)) _
    (none_under (Some (little_bytes 1 c.in-Region.space)) _ (none_under (term_bytes (term_view offset)) _ none)))

pub declaration-returns-in_ok-raw_byte-in-Region-clause-put : goal.declaration-returns-in_ok-raw_byte-in-Region-clause-put
declaration-returns-in_ok-raw_byte-in-Region-clause-put t c =
    let is = region_is c.args.decl.now c.in-Region.name c.in-Region.space c.in-Region.offset c.in-Region.length c.deref-in-Region-2.result.now
    c.deref-in-Region.result.now c.in-Region.is c.deref-in-Region-2.ensures c.deref-in-Region.ensures in
    let l : Option (List ℕ) = (term_bytes (term_view c.deref-in-Region.result.now)) in
    let o : Option (List ℕ) = (term_bytes (term_view c.deref-in-Region-2.result.now)) in
    let s : Option (List ℕ) = Some (little_bytes 1 c.in-Region.space) in
    let old = c.args.self.now in
    let one = onto o l old c.term-in-Region.new.self c.term-in-Region-2.new.self c.in_ok-term-in-Region.ensures.put c.in_ok-term-in-Region-2.ensures.put in
    let two = onto s (option_append o l) old c.term-in-Region-2.new.self c.raw_byte-in-Region.new.self one c.in_ok-raw_byte-in-Region.ensures in
    puts_as c.fronted-in-Region.result _ _ old c.fronted-in-Region.new.self is
    (puts_onto c.fronted-in-Region.result (Some ((0x5B ∷ 0x80 ∷ []) ++ name_bytes c.in-Region.name)) (option_append s (option_append o l)) old
    c.raw_byte-in-Region.new.self c.fronted-in-Region.new.self two c.fronted-in-Region.ensures.put)

-- ---- BankField

pub declaration-returns-in_err-flagged-in-BankField-clause-put : goal.declaration-returns-in_err-flagged-in-BankField-clause-put
declaration-returns-in_err-flagged-in-BankField-clause-put t c =
    let value = c.in-BankField.value.value in
    let is = bank_field_is c.args.decl.now c.in-BankField.region c.in-BankField.bank c.in-BankField.value c.in-BankField.flags c.in-BankField.elems
    value c.deref-in-BankField.result.now c.in-BankField.is refl c.deref-in-BankField.ensures.value in
    let units : Option (List ℕ) = option_append (Some (little_bytes 1 c.in-BankField.flags)) (fields_bytes (fields_view c.deref-in-BankField.result.now)) in
    puts_fault c.from_residual-in_err-flagged-in-BankField.result c.in_err-flagged-in-BankField.field-0.0 _ units c.args.self.now c.args.self.now c.flagged-in-BankField.new.self
    (err_from_is_err_and c.from_residual-in_err-flagged-in-BankField.result c.from_residual-in_err-flagged-in-BankField.ensures.1) c.in_err-flagged-in-BankField.ensures.put
    (λ none. is ∙ none_within (0x5B ∷ 0x87 ∷ []) (name_bytes c.in-BankField.region ++ (name_bytes c.in-BankField.bank ++ []))
    (option_append (term_bytes (term_view value)) units) (none_under (term_bytes (term_view value)) units none))

pub declaration-returns-in_ok-term-in-BankField-clause-put : goal.declaration-returns-in_ok-term-in-BankField-clause-put
declaration-returns-in_ok-term-in-BankField-clause-put t c =
    let is = bank_field_is c.args.decl.now c.in-BankField.region c.in-BankField.bank c.in-BankField.value c.in-BankField.flags c.in-BankField.elems
    c.deref-in-BankField-2.result.now c.deref-in-BankField.result.now c.in-BankField.is c.deref-in-BankField-2.ensures
    c.deref-in-BankField.ensures.value in
    let units : Option (List ℕ) = option_append (Some (little_bytes 1 c.in-BankField.flags)) (fields_bytes (fields_view c.deref-in-BankField.result.now)) in
    let v : Option (List ℕ) = (term_bytes (term_view c.deref-in-BankField-2.result.now)) in
    let old = c.args.self.now in
    let one = onto v units old c.flagged-in-BankField.new.self c.term-in-BankField.new.self c.in_ok-flagged-in-BankField.ensures.put c.in_ok-term-in-BankField.ensures.put in
    puts_as c.fill-in-BankField.result _ _ old c.fill-in-BankField.new.self is
    (puts_round c.fill-in-BankField.result (filled_with (0x5B ∷ 0x87 ∷ [])
    (name_bytes c.in-BankField.region ++ (name_bytes c.in-BankField.bank ++ []))) (option_append v units) c.len-end-in-BankField.result old
    c.term-in-BankField.new.self c.fill-in-BankField.new.self one c.len-end-in-BankField.ensures c.fill-in-BankField.ensures.put)

pub terms-returns-clause-typed : goal.terms-returns-clause-typed
terms-returns-clause-typed t c = seen_terms c.args.terms.now (behind_all (λ x. IsTermTyped (term_view x)) c.args.terms.now c.loop-i.i (omega arith) c.loop-i.invariant.1)

pub operands-returns-clause-typed : goal.operands-returns-clause-typed
operands-returns-clause-typed t c = seen_operands c.args.operands.now (behind_all (λ x. IsTermTyped (operand_view x)) c.args.operands.now c.loop-i.i (omega arith) c.loop-i.invariant.1)

-- ---- calls, operators and packages

pub call-returns-clause-put : goal.call-returns-clause-put
call-returns-clause-put t c = puts_onto c.reference.result (Some (name_bytes c.args.name.now)) (terms_bytes (terms_tree c.args.args.now))
    c.args.self.now c.terms.new.self c.reference.new.self c.in_ok-terms.ensures.put c.reference.ensures.put

pub operation-returns-clause-put : goal.operation-returns-clause-put
operation-returns-clause-put t c =
    let operator : Puts c.fixed.result (Some (operator_bytes c.args.op)) c.operands.new.self c.fixed.new.self =
    subst (λ w. Puts c.fixed.result (Some w) c.operands.new.self c.fixed.new.self) c.row.ensures.opcode c.fixed.ensures in
    puts_onto c.fixed.result (Some (operator_bytes c.args.op)) (terms_bytes (terms_of (operands_view c.args.operands.now))) c.args.self.now
    c.operands.new.self c.fixed.new.self c.in_ok-operands.ensures.put operator

pub alternative-fill-requires : goal.alternative-fill-requires
alternative-fill-requires t c = let le = longer (terms_bytes (terms_tree c.args.terms.now)) c.args.self.now c.terms.new.self c.in_ok-terms.ensures.put in omega (arith, le, c.len-end.ensures)

pub alternative-returns-clause-put : goal.alternative-returns-clause-put
alternative-returns-clause-put t c =
    puts_round c.fill.result (filled_with (0xA1 ∷ []) []) (terms_bytes (terms_tree c.args.terms.now)) c.len-end.result c.args.self.now
    c.terms.new.self c.fill.new.self c.in_ok-terms.ensures.put c.len-end.ensures c.fill.ensures.put

pub declaration-fill-requires-in-BankField : goal.declaration-fill-requires-in-BankField
declaration-fill-requires-in-BankField t c =
    let units : Option (List ℕ) = option_append (Some (little_bytes 1 c.in-BankField.flags)) (fields_bytes (fields_view c.deref-in-BankField.result.now)) in
    let one = longer units c.args.self.now c.flagged-in-BankField.new.self c.in_ok-flagged-in-BankField.ensures.put in
    let two = longer (term_bytes (term_view c.deref-in-BankField-2.result.now)) c.flagged-in-BankField.new.self c.term-in-BankField.new.self c.in_ok-term-in-BankField.ensures.put in
    omega (arith, one, two, c.len-end-in-BankField.ensures)

pub term-returns-in_ok-term-in-Buffer-clause-put : goal.term-returns-in_ok-term-in-Buffer-clause-put
term-returns-in_ok-term-in-Buffer-clause-put t c =
    let is = buffer_is c.args.term.now c.in-Buffer.size c.in-Buffer.content c.deref-in-Buffer-2.result.now c.deref-in-Buffer.result.now c.in-Buffer.is
    c.deref-in-Buffer-2.ensures c.deref-in-Buffer.ensures.value in
    let v : Option (List ℕ) = term_bytes (term_view c.deref-in-Buffer-2.result.now) in
    let content : Option (List ℕ) = Some c.deref-in-Buffer.result.now in
    let one = onto v content c.args.self.now c.bytes.new.self c.term.new.self (ap Some (sym c.in_ok-bytes-in-Buffer.ensures)) c.in_ok-term-in-Buffer.ensures.put in
    puts_as c.fill.result _ _ c.args.self.now c.fill.new.self is
    (puts_round c.fill.result (filled_with (0x11 ∷ []) []) (option_append v content) c.len-end.result c.args.self.now c.term.new.self c.fill.new.self one c.len-end.ensures c.fill.ensures.put)

pub term-fill-requires-in-Package : goal.term-fill-requires-in-Package
term-fill-requires-in-Package t c =
    let le = longer (terms_bytes (terms_tree c.deref-in-Package.result.now)) c.args.self.now c.terms.new.self c.in_ok-terms-in-Package.ensures.put in
    omega (arith, le, c.len-end-in-Package.ensures)

pub term-returns-in_ok-terms-in-Package-clause-put : goal.term-returns-in_ok-terms-in-Package-clause-put
term-returns-in_ok-terms-in-Package-clause-put t c =
    let is = pkg_is c.args.term.now c.in-Package.count c.in-Package.elems c.deref-in-Package.result.now c.in-Package.is c.deref-in-Package.ensures.value in
    puts_as c.fill-in-Package.result _ _ c.args.self.now c.fill-in-Package.new.self is
    (puts_round c.fill-in-Package.result (filled_with (0x12 ∷ []) (c.in-Package.count ∷ [])) (terms_bytes (terms_tree c.deref-in-Package.result.now))
    c.len-end-in-Package.result c.args.self.now c.terms.new.self c.fill-in-Package.new.self
    c.in_ok-terms-in-Package.ensures.put c.len-end-in-Package.ensures c.fill-in-Package.ensures.put)

pub term-fill-requires-in-VarPackage : goal.term-fill-requires-in-VarPackage
term-fill-requires-in-VarPackage t c =
    let one = longer (terms_bytes (terms_tree c.deref-in-VarPackage.result.now)) c.args.self.now c.terms-in-VarPackage.new.self c.in_ok-terms-in-VarPackage.ensures.put in
    let two = longer (term_bytes (term_view c.deref-in-VarPackage-2.result.now)) c.terms-in-VarPackage.new.self c.term-in-VarPackage.new.self c.in_ok-term-in-VarPackage.ensures.put in
    omega (arith, one, two, c.len-end-in-VarPackage.ensures)

pub term-returns-in_ok-term-in-VarPackage-clause-put : goal.term-returns-in_ok-term-in-VarPackage-clause-put
term-returns-in_ok-term-in-VarPackage-clause-put t c =
    let is = var_pkg_is c.args.term.now c.in-VarPackage.count c.in-VarPackage.elems c.deref-in-VarPackage-2.result.now
    c.deref-in-VarPackage.result.now c.in-VarPackage.is c.deref-in-VarPackage-2.ensures c.deref-in-VarPackage.ensures.value in
    let v : Option (List ℕ) = term_bytes (term_view c.deref-in-VarPackage-2.result.now) in
    let ts : Option (List ℕ) = terms_bytes (terms_tree c.deref-in-VarPackage.result.now) in
    let one = onto v ts c.args.self.now c.terms-in-VarPackage.new.self c.term-in-VarPackage.new.self c.in_ok-terms-in-VarPackage.ensures.put c.in_ok-term-in-VarPackage.ensures.put in
    puts_as c.fill-in-VarPackage.result _ _ c.args.self.now c.fill-in-VarPackage.new.self is
    (puts_round c.fill-in-VarPackage.result (filled_with (0x13 ∷ []) []) (option_append v ts) c.len-end-in-VarPackage.result c.args.self.now
    c.term-in-VarPackage.new.self c.fill-in-VarPackage.new.self one c.len-end-in-VarPackage.ensures c.fill-in-VarPackage.ensures.put)

pub term-fill-requires-in-While : goal.term-fill-requires-in-While
term-fill-requires-in-While t c =
    let one = longer (terms_bytes (terms_tree c.deref-in-While.result.now)) c.args.self.now c.terms-in-While.new.self c.in_ok-terms-in-While.ensures.put in
    let two = longer (term_bytes (term_view c.deref-in-While-2.result.now)) c.terms-in-While.new.self c.term-in-While.new.self c.in_ok-term-in-While.ensures.put in
    omega (arith, one, two, c.len-end-in-While.ensures)

pub term-returns-in_ok-term-in-While-clause-put : goal.term-returns-in_ok-term-in-While-clause-put
term-returns-in_ok-term-in-While-clause-put t c =
    let is = while_is c.args.term.now c.in-While.test c.in-While.then c.deref-in-While-2.result.now c.deref-in-While.result.now c.in-While.is
    c.deref-in-While-2.ensures c.deref-in-While.ensures.value in
    let v : Option (List ℕ) = term_bytes (term_view c.deref-in-While-2.result.now) in
    let ts : Option (List ℕ) = terms_bytes (terms_tree c.deref-in-While.result.now) in
    let one = onto v ts c.args.self.now c.terms-in-While.new.self c.term-in-While.new.self c.in_ok-terms-in-While.ensures.put c.in_ok-term-in-While.ensures.put in
    puts_as c.fill-in-While.result _ _ c.args.self.now c.fill-in-While.new.self is
    (puts_round c.fill-in-While.result (filled_with (0xA2 ∷ []) []) (option_append v ts) c.len-end-in-While.result c.args.self.now
    c.term-in-While.new.self c.fill-in-While.new.self one c.len-end-in-While.ensures c.fill-in-While.ensures.put)

pub term-fill-requires-in-If : goal.term-fill-requires-in-If
term-fill-requires-in-If t c =
    let one = longer (terms_bytes (terms_tree c.deref-in-If.result.now)) c.match-other.self c.terms-in-If.new.self c.in_ok-terms-in-If.ensures.put in
    let two = longer (term_bytes (term_view c.deref-in-If-2.result.now)) c.terms-in-If.new.self c.term-in-If.new.self c.in_ok-term-in-If.ensures.put in
    omega (arith, one, two, c.len-end-in-If.ensures)

pub term-returns-in_ok-term-in-If-clause-put : goal.term-returns-in_ok-term-in-If-clause-put
term-returns-in_ok-term-in-If-clause-put t c =
    let is = if_is c.args.term.now c.in-If.test c.in-If.then c.in-If.other c.deref-in-If-2.result.now c.deref-in-If.result.now c.in-If.is c.deref-in-If-2.ensures c.deref-in-If.ensures.value in
    let v : Option (List ℕ) = term_bytes (term_view c.deref-in-If-2.result.now) in
    let ts : Option (List ℕ) = terms_bytes (terms_tree c.deref-in-If.result.now) in
    let one = onto v ts c.match-other.self c.terms-in-If.new.self c.term-in-If.new.self c.in_ok-terms-in-If.ensures.put c.in_ok-term-in-If.ensures.put in
    let other : Option (List ℕ) = else_bytes (else_view c.in-If.other) in
    let behind : option_append other (Some c.args.self.now) ≡ Some c.match-other.self = elim c.match-other.branch [
      | term-in-Some+in_ok-alternative-in-If w ↦ else_put c.in-If.other w.in-Some.terms w.deref-in-Some.result.now c.args.self.now
          w.alternative.new.self c.match-other.self w.in-Some.is w.deref-in-Some.ensures.value w.in_ok-alternative-in-If.ensures.put w.self-is
      | term-in_default w ↦ no_else_put c.in-If.other c.args.self.now c.match-other.self w.in_default.is w.self-is
    ] in
    puts_as c.fill-in-If.result _ _ c.args.self.now c.fill-in-If.new.self is
    (puts_onto c.fill-in-If.result (filled_with (0xA0 ∷ []) [] (option_append v ts)) other c.args.self.now c.match-other.self c.fill-in-If.new.self behind
    (puts_round c.fill-in-If.result (filled_with (0xA0 ∷ []) []) (option_append v ts) c.len-end-in-If.result c.match-other.self c.term-in-If.new.self
    c.fill-in-If.new.self one c.len-end-in-If.ensures c.fill-in-If.ensures.put))
