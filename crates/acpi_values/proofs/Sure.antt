-- Where it is always sure how many values follow a name, no term fails for that reason.
use Rattle.std.proofs.Common.{◌≡◌, ◌≢◌, ◌-◌, ℕ, zero, suc, Bool, true, false, cond, Option, Some, None, List, [], ◌∷◌, length, refl, sym, ap, ◌∙◌, inl, inr}
use Rattle.acpi_name.specs.Names.{NameParts}
use Rattle.acpi_tree.specs.declared.op.Op.{Op}
use Rattle.acpi_tree.specs.declared.place.Place.{Place}
use Rattle.acpi_tree.specs.declared.place.Place.TheVariants.{Value, SuperName, SimpleName, Element, Data, Statement, Source}
use Rattle.acpi_tree.specs.declared.place.OperandKind.{OperandKind}
use Rattle.acpi_tree.specs.declared.place.OperandKind.TheVariants.{At, Target, Byte, Word, DWord}
use Rattle.acpi_tree.specs.Operators.{is_expression, is_reference, operands_of}
use Rattle.acpi_code.specs.declared.fault.CodeFault.{CodeFault}
use Rattle.acpi_code.specs.declared.fault.CodeReason.{CodeReason}
use Rattle.acpi_code.specs.declared.fault.CodeReason.TheVariants as codes
use Rattle.acpi_code.specs.declared.fault.ConstantFault.{ConstantFault}
use Rattle.acpi_code.specs.declared.fault.ConstantFault.TheVariants.{Part, NotConstant}
use Rattle.acpi_code.specs.declared.opcode.Opcode.{Opcode}
use Rattle.acpi_code.specs.declared.opcode.Opcode.TheVariants as opcodes
use Rattle.acpi_code.specs.Faults.{Failure, fault_at, no_level, FailsAs, FailsBehind, FailsInTurn, FailsEach, FailsNumber, FailsName, FailsText, FailsPackage, FailsByOpcode, FailsUnless, number_size}
use Rattle.acpi_code.specs.Spelling.{SpellsByte}
use Rattle.acpi_values.specs.declared.fault.BodyFault.{BodyFault}
use Rattle.acpi_values.specs.declared.fault.BodyReason.{BodyReason}
use Rattle.acpi_values.specs.declared.fault.BodyReason.TheVariants.{NotValue, NotTarget, LeftOut, Unsure}
use Rattle.acpi_values.specs.Grammars.{Grammar, is_allowed}
use Rattle.acpi_values.specs.Refusals.{load_refusal, refusal_at}
use Rattle.acpi_values.specs.Spelling.{values}
use Rattle.acpi_values.specs.Faults.{reason_of, fault_of, constant_fault_of, body_fault, IsTermAt, IsOperand, FailsOperand, FailsInOrder, FailsElements, FailsForm, FailsTerm, FailsOperands}

-- no fault of it has that reason
abbrev pub IsSure : Failure BodyFault → Type 0
IsSure Fails = (end : ℕ) (bytes : List ℕ) (f : BodyFault) → Fails end bytes f → f.reason ≢ Unsure

-- ---- parts

part_sure : (why : CodeReason) → reason_of why ≢ Unsure
part_sure codes.Cut e = cc
part_sure codes.ReservedBits e = cc
part_sure codes.BadName e = cc
part_sure codes.Overrun e = cc
part_sure codes.BadString e = cc
part_sure codes.TooDeep e = cc

constant_sure : (c : ConstantFault) → (constant_fault_of c).reason ≢ Unsure
constant_sure (Part f) e = part_sure f.reason e
constant_sure (NotConstant opcode place) e = cc

pub sure_part : (f : BodyFault) (c : CodeFault) → f ≡ fault_of c → f.reason ≢ Unsure
sure_part f c is e = part_sure c.reason (sym (ap (λ f. f.reason) is) ∙ e)

pub sure_as : (Fails : Failure CodeFault) → IsSure (FailsAs fault_of Fails)
sure_as Fails end bytes f h = sure_part f h.0 h.2

pub sure_constant : (Fails : Failure ConstantFault) → IsSure (FailsAs constant_fault_of Fails)
sure_constant Fails end bytes f h e = constant_sure h.0 (sym (ap (λ f. f.reason) h.2) ∙ e)

pub sure_behind : (op : List ℕ) (Fails : Failure BodyFault) → IsSure Fails → IsSure (FailsBehind op Fails)
sure_behind op Fails sure end bytes f h = sure end h.0 f h.2

pub sure_turn : {A : Type 0} (First : Failure BodyFault) (Spells : A → List ℕ → Type 0) (Then : A → Failure BodyFault) → IsSure First → ((x : A) → IsSure (Then x)) → IsSure (FailsInTurn First Spells Then)
sure_turn First Spells Then first then end bytes f (inl h) = first end bytes f h
sure_turn First Spells Then first then end bytes f (inr h) = then h.0 end h.2 f h.5

pub sure_each : {A : Type 0} (Spells : A → List ℕ → Type 0) (One : Failure BodyFault) → IsSure One → IsSure (FailsEach Spells One)
sure_each Spells One sure end bytes f h = sure end h.2 f h.6

pub sure_package : (Inside : Failure BodyFault) → IsSure Inside → IsSure (FailsPackage fault_of Inside)
sure_package Inside sure end bytes f (inl h) = sure_part f h.0 h.2
sure_package Inside sure end bytes f (inr (inl h)) = sure_part f (fault_at end bytes codes.Overrun) h.1
sure_package Inside sure end bytes f (inr (inr h)) = sure (end - length h.2) h.1 f h.5

pub sure_by_opcode : (Term : Opcode → Failure BodyFault) → ((o : Opcode) → IsSure (Term o)) → IsSure (FailsByOpcode fault_of Term)
sure_by_opcode Term sure end bytes f (inl h) = sure_part f h.0 h.2
sure_by_opcode Term sure end bytes f (inr h) = sure h.0 end bytes f h.2

-- ---- places

abbrev of_place : Option BodyReason → Bool
of_place (Some Unsure) = false
of_place _ = true

either : (t : Bool) (x y : Option BodyReason) → of_place x ≡ true → of_place y ≡ true → of_place (cond t x y) ≡ true
either true x y h k = h
either false x y h k = k

load_refusals : (loads : Bool) (op : Op) → of_place (load_refusal loads op) ≡ true
load_refusals loads op = either (is_allowed loads op) None (Some LeftOut) refl refl

refusals : (loads : Bool) (p : Place) (o : Opcode) → of_place (refusal_at loads p o) ≡ true
refusals loads Value (opcodes.Operator op) = either (is_expression op) (load_refusal loads op) (Some NotValue) (load_refusals loads op) refl
refusals loads Value _ = refl
refusals loads SuperName (opcodes.Operator op) = either (is_reference op) None (Some NotTarget) refl refl
refusals loads SuperName _ = refl
refusals loads SimpleName opcodes.Name = refl
refusals loads SimpleName _ = refl
refusals loads Element opcodes.Name = refl
refusals loads Element _ = refl
refusals loads Data opcodes.Str = refl
refusals loads Data _ = refl
refusals loads Statement (opcodes.Operator op) = load_refusals loads op
refusals loads Statement _ = refl
refusals loads Source (opcodes.Operator op) = either (is_expression op) (load_refusal loads op) (Some NotValue) (load_refusals loads op) refl
refusals loads Source _ = refl

pub sure_unless : (loads : Bool) (p : Place) (o : Opcode) (Fails : Failure BodyFault) → IsSure Fails → IsSure (FailsUnless body_fault (refusal_at loads p o) Fails)
sure_unless loads p o Fails sure = by_refusal (refusal_at loads p o) (refusals loads p o)
  where
    unsure : (why : BodyReason) → of_place (Some why) ≡ true → why ≢ Unsure
    unsure why ok e = let no : of_place (Some why) ≡ false = ap (λ w. of_place (Some w)) e in cc

    by_refusal : (w : Option BodyReason) → of_place w ≡ true → IsSure (FailsUnless body_fault w Fails)
    by_refusal None ok end bytes f h = sure end bytes f h
    by_refusal (Some why) ok end bytes f h = λ e. unsure why ok (sym (ap (λ f. f.reason) h) ∙ e)

-- ---- terms

module _ (g : Grammar) (sure : (n : NameParts) → g.args n ≢ None) where
  module _ (level : ℕ) (Term : Place → Failure BodyFault) (inside : (p : Place) → IsSure (Term p)) where
    sure_operand : (k : OperandKind) → IsSure (FailsOperand Term k)
    sure_operand (At p) end bytes f h = inside p end bytes f h
    sure_operand Target end bytes f h = inside SuperName end bytes f h.1
    sure_operand Byte end bytes f h = sure_as (FailsNumber 1) end bytes f h
    sure_operand Word end bytes f h = sure_as (FailsNumber 2) end bytes f h
    sure_operand DWord end bytes f h = sure_as (FailsNumber 4) end bytes f h

    pub sure_in_order : (ks : List OperandKind) → IsSure (FailsInOrder g level Term ks)
    sure_in_order [] end bytes f h = absurd h
    sure_in_order (k ∷ ks) end bytes f h = sure_turn (FailsOperand Term k) (IsOperand g level k) (λ t. FailsInOrder g level Term ks) (sure_operand k) (λ t. sure_in_order ks) end bytes f h

    sure_elements : IsSure (FailsElements g level Term)
    sure_elements end bytes f h = sure_each (IsTermAt g level Element) (Term Element) (inside Element) end bytes f h

    pub sure_form : (p : Place) (o : Opcode) → IsSure (FailsForm g level Term p o)
    sure_form p (opcodes.Constant form) end bytes f h = sure_as (FailsNumber (number_size form)) end h.0 f h.2
    sure_form p opcodes.Str end bytes f h = sure_as FailsText end h.0 f h.2
    sure_form p opcodes.Buffer end bytes f h = sure_package (Term Value) (inside Value) end h.0 f h.2
    sure_form p opcodes.Package end bytes f h =
        sure_package (FailsInTurn (FailsAs fault_of (FailsNumber 1)) SpellsByte (λ n. FailsElements g level Term))
        (sure_turn (FailsAs fault_of (FailsNumber 1)) SpellsByte (λ n. FailsElements g level Term) (sure_as (FailsNumber 1)) (λ n. sure_elements)) end h.0 f h.2
    sure_form p opcodes.VarPackage end bytes f h =
        sure_package (FailsInTurn (Term Value) (IsTermAt g level Value) (λ t. FailsElements g level Term))
        (sure_turn (Term Value) (IsTermAt g level Value) (λ t. FailsElements g level Term) (inside Value) (λ t. sure_elements)) end h.0 f h.2
    sure_form p opcodes.Name end bytes f (inl h) = sure_as FailsName end bytes f h
    sure_form p opcodes.Name end bytes f (inr (n, st, (a, b, spells, whole, inl h))) = absurd (sure n h.0)
    sure_form p opcodes.Name end bytes f (inr (n, st, (a, b, spells, whole, inr h))) = sure_in_order (values h.0) end b f h.2
    sure_form p (opcodes.Operator op) end bytes f h = sure_in_order (operands_of op) end h.0 f h.2
    sure_form p _ end bytes f h = absurd h

  pub sure_term : (level : ℕ) (p : Place) → IsSure (FailsTerm g level p)
  sure_term zero p end bytes f h = sure_part f (no_level end bytes) h
  sure_term (suc level) p end bytes f h =
      sure_by_opcode (λ o. FailsUnless body_fault (refusal_at g.loads p o) (FailsForm g level (FailsTerm g level) p o))
      (λ o. sure_unless g.loads p o (FailsForm g level (FailsTerm g level) p o) (sure_form level (FailsTerm g level) (sure_term level) p o)) end bytes f h

  pub sure_operands : (level : ℕ) (ks : List OperandKind) → IsSure (FailsOperands g level ks)
  sure_operands level ks = sure_in_order level (FailsTerm g level) (sure_term level) ks
