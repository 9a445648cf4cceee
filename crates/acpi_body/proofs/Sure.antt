-- Where it is always sure how many values follow a name, no statement fails for that reason.
use Rattle.std.proofs.Common.{◌≡◌, ◌≢◌, ℕ, zero, suc, None, List, sym, ap, ◌∙◌, false, inl, inr}
use Rattle.acpi_name.specs.Names.{Segment, NameParts}
use Rattle.acpi_name.specs.Spelling.{SpellsName}
use Rattle.acpi_tree.specs.declared.place.Place.TheVariants.{Value, Statement}
use Rattle.acpi_tree.specs.declared.place.NamedForm.{NamedForm}
use Rattle.acpi_tree.specs.declared.place.NamedForm.TheVariants as named
use Rattle.acpi_tree.specs.declared.place.UnitsForm.{UnitsForm}
use Rattle.acpi_tree.specs.declared.place.UnitsForm.TheVariants as units
use Rattle.acpi_tree.specs.Terms.{TermTree}
use Rattle.acpi_tree.specs.Operators.{operands_before, operands_behind, names_of_units, operands_of_units}
use Rattle.acpi_code.specs.declared.opcode.Opcode.{Opcode}
use Rattle.acpi_code.specs.declared.opcode.Opcode.TheVariants as opcodes
use Rattle.acpi_code.specs.Faults.{Failure, no_level, FailsAs, FailsInTurn, FailsName, FailsUnless, FailsFields}
use Rattle.acpi_values.specs.declared.fault.BodyFault.{BodyFault}
use Rattle.acpi_values.specs.declared.fault.BodyReason.TheVariants.{BadPlace, Unsure}
use Rattle.acpi_values.specs.Arguments.{Locals, BodyGrammar}
use Rattle.acpi_values.specs.Grammars.{Grammar}
use Rattle.acpi_values.specs.Refusals.{refusal_at}
use Rattle.acpi_values.specs.Faults.{fault_of, constant_fault_of, body_fault, IsTermAt, AreOperandsIn, FailsTerm, FailsOperands}
use Rattle.acpi_values.proofs.Sure.{IsSure, sure_part, sure_as, sure_constant, sure_turn, sure_package, sure_by_opcode, sure_unless, sure_form, sure_term, sure_operands}
use Rattle.acpi_body.specs.Faults.{FailsDeclared, IsDeclared, FailsNamed, FailsNames, AreNames, FailsUnits, FailsBlock, IsBlock, FailsElse, FailsIf, FailsStatementForm, FailsAmong, FailsStatement, FailsStatements}
use Rattle.acpi_body.specs.Statements.{locals_after_all}

sure_declared : (s : List Segment) → IsSure (FailsDeclared s)
sure_declared s end bytes f (inl h) = sure_as FailsName end bytes f h
sure_declared s end bytes f (inr h) = λ e. let is : BadPlace ≡ Unsure = sym (ap (λ f. f.reason) h.6) ∙ e in cc

sure_names : (count : ℕ) → IsSure (FailsNames count)
sure_names zero end bytes f h = absurd h
sure_names (suc count) end bytes f h = sure_turn (FailsAs fault_of FailsName) SpellsName (λ n. FailsNames count) (sure_as FailsName) (λ n. sure_names count) end bytes f h

module _ (g : BodyGrammar) (s : List Segment) (sure : (locals : Locals) (n : NameParts) → (g locals).args n ≢ None) where
  sure_named : (level : ℕ) (locals : Locals) (form : NamedForm) → IsSure (FailsNamed (g locals) level s form)
  sure_named level locals form end bytes f h =
      let Behind : NameParts → Failure BodyFault = λ n. FailsOperands (g locals) level (operands_behind form) in
      sure_turn (FailsOperands (g locals) level (operands_before form)) (AreOperandsIn (g locals) level (operands_before form)) (λ ts. FailsInTurn (FailsDeclared s) (IsDeclared s) Behind)
      (sure_operands (g locals) (sure locals) level (operands_before form))
      (λ ts. sure_turn (FailsDeclared s) (IsDeclared s) Behind (sure_declared s) (λ n. sure_operands (g locals) (sure locals) level (operands_behind form))) end h.0 f h.2

  sure_units : (level : ℕ) (locals : Locals) (form : UnitsForm) → IsSure (FailsUnits (g locals) level form)
  sure_units level locals form end bytes f h =
      let Last : List TermTree → Failure BodyFault = λ vs. FailsAs constant_fault_of FailsFields in
      let Held = FailsInTurn (FailsOperands (g locals) level (operands_of_units form)) (AreOperandsIn (g locals) level (operands_of_units form)) Last in
      sure_package (FailsInTurn (FailsNames (names_of_units form)) (AreNames (names_of_units form)) (λ ns. Held))
      (sure_turn (FailsNames (names_of_units form)) (AreNames (names_of_units form)) (λ ns. Held) (sure_names (names_of_units form))
      (λ ns. sure_turn (FailsOperands (g locals) level (operands_of_units form)) (AreOperandsIn (g locals) level (operands_of_units form)) Last
      (sure_operands (g locals) (sure locals) level (operands_of_units form)) (λ vs. sure_constant FailsFields))) end h.0 f h.2

  module _ (level : ℕ) (Inside : Locals → Failure BodyFault) (inside : (locals : Locals) → IsSure (Inside locals)) where
    sure_block : (locals : Locals) → IsSure (FailsBlock g level Inside locals)
    sure_block locals end bytes f h =
        sure_package (FailsInTurn (FailsTerm (g locals) level Value) (IsTermAt (g locals) level Value) (λ v. Inside locals))
        (sure_turn (FailsTerm (g locals) level Value) (IsTermAt (g locals) level Value) (λ v. Inside locals) (sure_term (g locals) (sure locals) level Value) (λ v. inside locals)) end bytes f h

    sure_else : (locals : Locals) → IsSure (FailsElse (Inside locals))
    sure_else locals end bytes f h = sure_package (Inside locals) (inside locals) end h.0 f h.2

    sure_if : (locals : Locals) → IsSure (FailsIf g s level Inside locals)
    sure_if locals end bytes f h =
        sure_turn (FailsBlock g level Inside locals) (IsBlock g s level locals) (λ ts. FailsElse (Inside (locals_after_all s locals ts)))
        (sure_block locals) (λ ts. sure_else (locals_after_all s locals ts)) end h.0 f h.2

    sure_statement_form : (locals : Locals) (o : Opcode) → IsSure (FailsStatementForm g s level Inside locals o)
    sure_statement_form locals opcodes.If end bytes f h = sure_if locals end bytes f h
    sure_statement_form locals opcodes.While end bytes f h = sure_block locals end h.0 f h.2
    sure_statement_form locals opcodes.DeclareName end bytes f h = sure_named level locals named.Name end bytes f h
    sure_statement_form locals (opcodes.Create w) end bytes f h = sure_named level locals (named.Create w) end bytes f h
    sure_statement_form locals opcodes.CreateField end bytes f h = sure_named level locals named.CreateField end bytes f h
    sure_statement_form locals opcodes.Region end bytes f h = sure_named level locals named.Region end bytes f h
    sure_statement_form locals opcodes.Mutex end bytes f h = sure_named level locals named.Mutex end bytes f h
    sure_statement_form locals opcodes.Event end bytes f h = sure_named level locals named.Event end bytes f h
    sure_statement_form locals opcodes.Field end bytes f h = sure_units level locals units.Field end bytes f h
    sure_statement_form locals opcodes.IndexField end bytes f h = sure_units level locals units.IndexField end bytes f h
    sure_statement_form locals opcodes.BankField end bytes f h = sure_units level locals units.BankField end bytes f h
    sure_statement_form locals o end bytes f h = sure_form (g locals) (sure locals) level (FailsTerm (g locals) level) (sure_term (g locals) (sure locals) level) Statement o end bytes f h

  sure_among : (level : ℕ) (One : Locals → Failure BodyFault) → ((locals : Locals) → IsSure (One locals)) → (locals : Locals) → IsSure (FailsAmong g s level One locals)
  sure_among level One one locals end bytes f h = one (locals_after_all s locals h.0) end h.2 f h.7

  sure_statement : (level : ℕ) (locals : Locals) → IsSure (FailsStatement g s level locals)
  sure_statement zero locals end bytes f h = sure_part f (no_level end bytes) h
  sure_statement (suc level) locals end bytes f h =
      let Inside = FailsAmong g s level (FailsStatement g s level) in
      sure_by_opcode (λ o. FailsUnless body_fault (refusal_at (g locals).loads Statement o) (FailsStatementForm g s level Inside locals o))
      (λ o. sure_unless (g locals).loads Statement o (FailsStatementForm g s level Inside locals o)
      (sure_statement_form level Inside (sure_among level (FailsStatement g s level) (sure_statement level)) locals o)) end bytes f h

  pub sure_statements : (level : ℕ) (locals : Locals) → IsSure (FailsStatements g s level locals)
  sure_statements level = sure_among level (FailsStatement g s level) (sure_statement level)
