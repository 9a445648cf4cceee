-- How terms fail: which part of the bytes, from the left, is the first that is not spelled, and why (ACPI 6.5, 20.2).
use Rattle.std.specs.Prelude.{◌≡◌, ◌≢◌, ◌⊎◌, ◌-◌, ◌≤◌, ℕ, zero, suc, Some, None, List, [], ◌∷◌, ◌++◌, length}
use Rattle.acpi_name.specs.Names.{NameParts}
use Rattle.acpi_name.specs.Spelling.{SpellsName}
use Rattle.acpi_tree.specs.declared.place.Place.{Place}
use Rattle.acpi_tree.specs.declared.place.Place.TheVariants.{Value, SuperName, Element}
use Rattle.acpi_tree.specs.declared.place.OperandKind.{OperandKind}
use Rattle.acpi_tree.specs.declared.place.OperandKind.TheVariants.{At, Target, Byte, Word, DWord}
use Rattle.acpi_tree.specs.Terms.{TermTree, call, no_terms, terms_of}
use Rattle.acpi_tree.specs.Operators.{operands_of}
use Rattle.acpi_code.specs.declared.opcode.Opcode.{Opcode}
use Rattle.acpi_code.specs.declared.opcode.Opcode.TheVariants as opcodes
use Rattle.acpi_code.specs.declared.fault.CodeReason.{CodeReason}
use Rattle.acpi_code.specs.declared.fault.CodeReason.TheVariants as codes
use Rattle.acpi_code.specs.declared.fault.CodeFault.{CodeFault}
use Rattle.acpi_code.specs.declared.fault.ConstantFault.{ConstantFault}
use Rattle.acpi_code.specs.declared.fault.ConstantFault.TheVariants.{Part, NotConstant}
use Rattle.acpi_code.specs.Opcodes.{operator_bytes, opcode_bytes}
use Rattle.acpi_code.specs.Spelling.{SpellsByte}
use Rattle.acpi_code.specs.Faults.{Failure, no_level, FailsAs, FailsBehind, FailsInTurn, FailsEach, FailsNumber, FailsPackage, FailsName, FailsText, FailsByOpcode, FailsUnless, number_size}
use Rattle.acpi_values.specs.declared.fault.BodyReason.{BodyReason}
use Rattle.acpi_values.specs.declared.fault.BodyReason.TheVariants.{Cut, ReservedBits, BadName, Overrun, BadString, TooDeep, NotData, Unsure}
use Rattle.acpi_values.specs.declared.fault.BodyFault.{BodyFault}
use Rattle.acpi_values.specs.Grammars.{Grammar}
use Rattle.acpi_values.specs.Refusals.{refusal_at}
use Rattle.acpi_values.specs.Spelling.{Stands, StandsFor, values, Spells, AreOperands, height, heights}

-- ---- faults of parts, as faults of bodies

abbrev pub reason_of : CodeReason → BodyReason
reason_of codes.Cut = Cut
reason_of codes.ReservedBits = ReservedBits
reason_of codes.BadName = BadName
reason_of codes.Overrun = Overrun
reason_of codes.BadString = BadString
reason_of codes.TooDeep = TooDeep

abbrev pub fault_of : CodeFault → BodyFault
fault_of f = record { reason = reason_of f.reason; place = f.place }

abbrev pub constant_fault_of : ConstantFault → BodyFault
constant_fault_of (Part f) = fault_of f
constant_fault_of (NotConstant opcode place) = record { reason = NotData; place = place }

abbrev pub body_fault : BodyReason → ℕ → BodyFault
body_fault why place = record { reason = why; place = place }

-- ---- terms of at most so many levels

-- one that may stand at the place
abbrev pub IsTermAt : Grammar → ℕ → Place → TermTree → List ℕ → Type 0
IsTermAt g level place t bytes = Stands place t × Spells g t bytes × (height t ≤ level)

-- one that may be the operand
abbrev pub IsOperand : Grammar → ℕ → OperandKind → TermTree → List ℕ → Type 0
IsOperand g level kind t bytes = StandsFor kind t × Spells g t bytes × (height t ≤ level)

-- those that are operands of these kinds, in order
abbrev pub AreOperandsIn : Grammar → ℕ → List OperandKind → List TermTree → List ℕ → Type 0
AreOperandsIn g level kinds ts bytes =
    AreOperands g kinds (terms_of ts) bytes × (heights (terms_of ts) ≤ level)

-- ---- how a term fails, by how a term inside it fails

-- an operand; the byte 00 spells the target that is none (20.2.2)
abbrev pub FailsOperand : (Place → Failure BodyFault) → OperandKind → Failure BodyFault
FailsOperand Term (At place) = Term place
FailsOperand Term Target = λ end bytes f.
    ((rest : List ℕ) → bytes ≢ 0x00 ∷ rest) × Term SuperName end bytes f
FailsOperand Term Byte = FailsAs fault_of (FailsNumber 1)
FailsOperand Term Word = FailsAs fault_of (FailsNumber 2)
FailsOperand Term DWord = FailsAs fault_of (FailsNumber 4)

-- operands of these kinds, in order
abbrev pub FailsInOrder : Grammar → ℕ → (Place → Failure BodyFault) → List OperandKind
    → Failure BodyFault
FailsInOrder g level Term [] = λ end bytes f. ⊥
FailsInOrder g level Term (k ∷ ks) = FailsInTurn (FailsOperand Term k) (IsOperand g level k)
    (λ t. FailsInOrder g level Term ks)

-- PackageElementList (20.2.5.4)
abbrev pub FailsElements : Grammar → ℕ → (Place → Failure BodyFault) → Failure BodyFault
FailsElements g level Term = FailsEach (IsTermAt g level Element) (Term Element)

-- MethodInvocation (20.2.5) of the name: it isn't sure how many values follow it, or one of these fails
abbrev pub FailsCall : Grammar → ℕ → (Place → Failure BodyFault) → NameParts → Failure BodyFault
FailsCall g level Term n end bytes f = (a : List ℕ) × (b : List ℕ) × SpellsName n a
    × (bytes ≡ a ++ b)
    × (((g.args n ≡ None) × (f ≡ body_fault Unsure (end - length bytes)))
    ⊎ ((count : ℕ) × (g.args n ≡ Some count) × FailsInOrder g level Term (values count) end b f))

-- A term that begins with the opcode, whose rule stands at `Spells`. Where a call may stand, a name is one.
abbrev pub FailsForm : Grammar → ℕ → (Place → Failure BodyFault) → Place → Opcode
    → Failure BodyFault
FailsForm g level Term place (opcodes.Constant form) =
    FailsBehind (opcode_bytes (opcodes.Constant form))
    (FailsAs fault_of (FailsNumber (number_size form)))
FailsForm g level Term place opcodes.Str = FailsBehind (0x0D ∷ []) (FailsAs fault_of FailsText)
FailsForm g level Term place opcodes.Buffer =
    FailsBehind (0x11 ∷ []) (FailsPackage fault_of (Term Value))
FailsForm g level Term place opcodes.Package = FailsBehind (0x12 ∷ []) (FailsPackage fault_of
    (FailsInTurn (FailsAs fault_of (FailsNumber 1)) SpellsByte (λ n. FailsElements g level Term)))
FailsForm g level Term place opcodes.VarPackage = FailsBehind (0x13 ∷ []) (FailsPackage fault_of
    (FailsInTurn (Term Value) (IsTermAt g level Value) (λ t. FailsElements g level Term)))
FailsForm g level Term place opcodes.Name = λ end bytes f. FailsAs fault_of FailsName end bytes f
    ⊎ ((n : NameParts) × Stands place (call n no_terms) × FailsCall g level Term n end bytes f)
FailsForm g level Term place (opcodes.Operator op) =
    FailsBehind (operator_bytes op) (FailsInOrder g level Term (operands_of op))
FailsForm g level Term place _ = λ end bytes f. ⊥

-- ---- how a term fails

-- A term at a place, where so many levels are left: none is; or what begins there may not stand there; or it fails.
abbrev pub FailsTerm : Grammar → ℕ → Place → Failure BodyFault
FailsTerm g zero place = λ end bytes f. f ≡ fault_of (no_level end bytes)
FailsTerm g (suc level) place = FailsByOpcode fault_of (λ o. FailsUnless body_fault
    (refusal_at g.loads place o) (FailsForm g level (FailsTerm g level) place o))

-- operands of these kinds, in order, where so many levels are left
abbrev pub FailsOperands : Grammar → ℕ → List OperandKind → Failure BodyFault
FailsOperands g level kinds = FailsInOrder g level (FailsTerm g level) kinds
