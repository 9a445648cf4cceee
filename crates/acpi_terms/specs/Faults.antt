-- By which fault a code fails that spells no items (ACPI 6.5, 20.2).
use Rattle.std.specs.Prelude.{◌≡◌, ◌≢◌, ◌⊎◌, ◌-◌, ◌<◌, ℕ, zero, suc, ◌||◌, Option, Some, None, List, [], ◌∷◌, length, drop, Result, Ok, Err, if◌then◌else◌}
use Rattle.acpi_name.specs.Spelling.{SpellsName}
use Rattle.acpi_tree.specs.declared.op.Op.{Op}
use Rattle.acpi_tree.specs.Operators.{is_load}
use Rattle.acpi_tree.specs.Tree.{ExternalParts}
use Rattle.acpi_code.specs.declared.opcode.Opcode.{Opcode}
use Rattle.acpi_code.specs.declared.opcode.Opcode.TheVariants as opcodes
use Rattle.acpi_code.specs.declared.fault.CodeReason.{CodeReason}
use Rattle.acpi_code.specs.declared.fault.CodeReason.TheVariants as codes
use Rattle.acpi_code.specs.declared.fault.CodeFault.{CodeFault}
use Rattle.acpi_code.specs.declared.fault.ConstantFault.{ConstantFault}
use Rattle.acpi_code.specs.declared.fault.ConstantFault.TheVariants.{Part, NotConstant}
use Rattle.acpi_code.specs.declared.fault.FieldFault.{FieldFault}
use Rattle.acpi_code.specs.declared.fault.FieldFault.TheVariants as fields
use Rattle.acpi_code.specs.Opcodes.{opcode_bytes, BeginsWith, is_simple_name_opcode, is_data_opcode}
use Rattle.acpi_code.specs.Spelling.{SpellsEach}
use Rattle.acpi_code.specs.Faults.{Failure, no_level, FailsAs, FailsBehind, FailsInTurn, FailsEach, FailsNumber, FailsPackage, FailsName, FailsText, FailsByOpcode, FailsUnless, FailsWithin, number_size, FailsInt, FailsField, FailsFields}
use Rattle.acpi_code.specs.Forms.{FixedArgument, name_arg, source_arg, byte_arg, word_arg, dword_arg, count_arg, int_arg, fixed_arguments}
use Rattle.acpi_terms.specs.declared.fault.ItemReason.{ItemReason}
use Rattle.acpi_terms.specs.declared.fault.ItemReason.TheVariants.{Cut, BadOpcode, ReservedBits, BadName, Overrun, Computed, Alias, ModuleIf, ModuleCode, Load, NotData, TooDeep, BadString, DataRegion}
use Rattle.acpi_terms.specs.declared.fault.ItemFault.{ItemFault}
use Rattle.acpi_terms.specs.declared.fault.ItemFault.TheVariants as errors
use Rattle.acpi_terms.specs.Spelling.{SpellsExternal, ArgumentWithin, ArgumentsWithin, ElemWithin, ItemWithin}

-- ---- faults of parts, as faults of items

abbrev pub reason_of : CodeReason → ItemReason
reason_of codes.Cut = Cut
reason_of codes.ReservedBits = ReservedBits
reason_of codes.BadName = BadName
reason_of codes.Overrun = Overrun
reason_of codes.BadString = BadString
reason_of codes.TooDeep = TooDeep

abbrev pub fault_of : CodeFault → ItemFault
fault_of f = errors.At (reason_of f.reason) f.place

-- why what begins at the place of a constant is none
abbrev pub no_constant : Opcode → ItemReason
no_constant opcodes.Nothing = BadOpcode
no_constant _ = Computed

abbrev pub constant_fault_of : ConstantFault → ItemFault
constant_fault_of (Part f) = fault_of f
constant_fault_of (NotConstant opcode place) = errors.At (no_constant opcode) place

abbrev pub field_fault_of : FieldFault → ItemFault
field_fault_of (fields.At f) = constant_fault_of f
field_fault_of fields.Memory = errors.Memory

-- ---- what begins at a place (20.3)

-- why an operator is no item
abbrev pub operator_reason : Op → ItemReason
operator_reason op = if is_load op then Load else ModuleCode

-- what begins at an item's place and is refused there by itself, and why
abbrev pub refusal : Opcode → Option ItemReason
refusal opcodes.Nothing = Some BadOpcode
refusal opcodes.Alias = Some Alias
refusal opcodes.Else = Some ModuleIf
refusal opcodes.While = Some ModuleIf
refusal opcodes.DataRegion = Some DataRegion
refusal opcodes.Debug = Some ModuleCode
refusal (opcodes.Operator op) = Some (operator_reason op)
refusal o = if is_data_opcode o || is_simple_name_opcode o then Some ModuleCode else None

-- such a term begins at the place
abbrev pub Refused : ItemReason → List ℕ → ℕ → Type 0
Refused why code place =
    (lead : Opcode) × BeginsWith lead (drop place code) × (refusal lead ≡ Some why)

-- ---- the first part that is not spelled, by the forms of `acpi_code/specs/Faults.antt`

-- why items are not spelled, and at which place of the code
pub record Fault : Type 0 where
  pub reason : ItemReason
  pub place : ℕ

abbrev pub reason_at : ItemReason → ℕ → Fault
reason_at why place = record { reason = why; place = place }

-- the fault at the first of these bytes, or at their end where there are none
abbrev pub fault_at : ℕ → List ℕ → ItemReason → Fault
fault_at end bytes why = reason_at why (end - length bytes)

-- the fault of a part, and of a constant or what holds one
abbrev pub part_fault : CodeFault → Fault
part_fault f = reason_at (reason_of f.reason) f.place

abbrev pub constant_fault : ConstantFault → Fault
constant_fault (Part f) = part_fault f
constant_fault (NotConstant opcode place) = reason_at (no_constant opcode) place

abbrev pub FailsPart : Failure CodeFault → Failure Fault
FailsPart Fails = FailsAs part_fault Fails

-- whatever the bytes say
abbrev pub FailsNever : Failure Fault
FailsNever end bytes f = ⊥

-- ---- fixed arguments

-- why no source of a Create field begins so
abbrev pub source_refusal : Opcode → Option ItemReason
source_refusal opcodes.Name = None
source_refusal opcodes.Nothing = Some BadName
source_refusal _ = Some Computed

-- ArgumentCount: no byte is left, or it is above 7 (20.2.5.2)
abbrev pub FailsCount : Failure Fault
FailsCount end bytes f = FailsPart (FailsNumber 1) end bytes f
    ⊎ (((b : ℕ) × (rest : List ℕ) × (bytes ≡ b ∷ rest) × (7 < b))
    × (f ≡ fault_at end bytes ReservedBits))

-- a fixed argument, `level` levels being left
abbrev pub FailsArgument : ℕ → FixedArgument → Failure Fault
FailsArgument level name_arg = FailsPart FailsName
FailsArgument level source_arg = FailsByOpcode part_fault
    (λ o. FailsUnless reason_at (source_refusal o) (FailsPart FailsName))
FailsArgument level byte_arg = FailsPart (FailsNumber 1)
FailsArgument level word_arg = FailsPart (FailsNumber 2)
FailsArgument level dword_arg = FailsPart (FailsNumber 4)
FailsArgument level count_arg = FailsCount
FailsArgument level int_arg = FailsWithin part_fault level (FailsAs constant_fault FailsInt)

-- one after another
abbrev pub FailsArguments : ℕ → List FixedArgument → Failure Fault
FailsArguments level [] = FailsNever
FailsArguments level (k ∷ ks) = FailsInTurn (FailsArgument level k) (ArgumentWithin level k)
    (λ v. FailsArguments level ks)

-- a form that has fixed arguments alone
abbrev pub FailsForm : ℕ → Opcode → Failure Fault
FailsForm level o = FailsBehind (opcode_bytes o) (FailsArguments level (fixed_arguments o))

-- a form whose package has fixed arguments and what fills it
abbrev pub FailsFilled : ℕ → Opcode → Failure Fault → Failure Fault
FailsFilled level o Fills = FailsBehind (opcode_bytes o) (FailsPackage part_fault
    (FailsInTurn (FailsArguments level (fixed_arguments o))
    (ArgumentsWithin level (fixed_arguments o)) (λ v. Fills)))

-- ---- data (20.2.3 and 20.2.5.4)

-- data that begins so, and is no name; `level` levels are left in it, `Elems` is for the elements of a package
abbrev pub FailsDataBy : Failure Fault → ℕ → Opcode → Failure Fault
FailsDataBy Elems level (opcodes.Constant form) = FailsBehind (opcode_bytes (opcodes.Constant form))
    (FailsPart (FailsNumber (number_size form)))
FailsDataBy Elems level opcodes.Str = FailsBehind (0x0D ∷ []) (FailsPart FailsText)
FailsDataBy Elems level opcodes.Buffer = FailsFilled level opcodes.Buffer FailsNever
FailsDataBy Elems level opcodes.Package = FailsFilled level opcodes.Package Elems
FailsDataBy Elems level opcodes.VarPackage = FailsFilled level opcodes.VarPackage Elems
FailsDataBy Elems level o = λ end bytes f. f ≡ fault_at end bytes NotData

-- PackageElement := DataRefObject | NameString
abbrev pub FailsElemBy : Failure Fault → ℕ → Opcode → Failure Fault
FailsElemBy Elems level opcodes.Name = FailsPart FailsName
FailsElemBy Elems level o = FailsDataBy Elems level o

abbrev pub FailsElem : ℕ → Failure Fault
FailsElem zero end bytes f = f ≡ part_fault (no_level end bytes)
FailsElem (suc level) end bytes f = FailsByOpcode part_fault
    (FailsElemBy (FailsEach (ElemWithin level) (FailsElem level)) level) end bytes f

-- the data of a Name
abbrev pub FailsData : ℕ → Failure Fault
FailsData zero end bytes f = f ≡ part_fault (no_level end bytes)
FailsData (suc level) end bytes f = FailsByOpcode part_fault
    (FailsDataBy (FailsEach (ElemWithin level) (FailsElem level)) level) end bytes f

-- ---- items (20.2.5.1 and 20.2.5.2)

-- `Zero` and Externals alone
abbrev pub IsBlock : List ℕ → Type 0
IsBlock content = (xs : List ExternalParts) × (b : List ℕ) × (content ≡ 0x00 ∷ b)
    × SpellsEach SpellsExternal xs b

-- behind `Zero` an External must begin, and no level is left for it
abbrev pub IsDeepBlock : ℕ → List ℕ → List ℕ → Type 0
IsDeepBlock level content externals =
    (level ≡ 0) × (content ≡ 0x00 ∷ externals) × (externals ≢ [])

-- What the package of an If holds: Externals are too deep, or else it is no block, and the If is refused.
abbrev pub FailsBlock : ℕ → Fault → Failure Fault
FailsBlock level refused end content f =
    ((b : List ℕ) × IsDeepBlock level content b × (f ≡ fault_at end b TooDeep))
    ⊎ (((b : List ℕ) → ¬ IsDeepBlock level content b) × (¬ IsBlock content) × (f ≡ refused))

abbrev pub FailsIf : ℕ → Failure Fault
FailsIf level end bytes f = FailsBehind (0xA0 ∷ [])
    (FailsPackage part_fault (FailsBlock level (fault_at end bytes ModuleIf))) end bytes f

-- An item that begins so, and is not refused by that; `level` levels are left in it, `Items` is for the items in it.
-- Method code is any bytes.
abbrev pub FailsItemBy : Failure Fault → ℕ → Opcode → Failure Fault
FailsItemBy Items level opcodes.DeclareName = FailsBehind (0x08 ∷ [])
    (FailsInTurn (FailsPart FailsName) SpellsName (λ n. FailsData level))
FailsItemBy Items level opcodes.If = FailsIf level
FailsItemBy Items level opcodes.External = FailsForm 0 opcodes.External
FailsItemBy Items level opcodes.Method = FailsFilled level opcodes.Method FailsNever
FailsItemBy Items level opcodes.Field =
    FailsFilled level opcodes.Field (FailsAs constant_fault FailsFields)
FailsItemBy Items level opcodes.IndexField =
    FailsFilled level opcodes.IndexField (FailsAs constant_fault FailsFields)
FailsItemBy Items level opcodes.BankField =
    FailsFilled level opcodes.BankField (FailsAs constant_fault FailsFields)
FailsItemBy Items level opcodes.Scope = FailsFilled level opcodes.Scope Items
FailsItemBy Items level opcodes.Device = FailsFilled level opcodes.Device Items
FailsItemBy Items level opcodes.Processor = FailsFilled level opcodes.Processor Items
FailsItemBy Items level opcodes.Power = FailsFilled level opcodes.Power Items
FailsItemBy Items level opcodes.Thermal = FailsFilled level opcodes.Thermal Items
FailsItemBy Items level o = FailsForm level o

-- An item, `level` levels being left: no level is left, or nothing is; it is refused by what it begins with; or a part
-- of it fails.
abbrev pub FailsItem : ℕ → Failure Fault
FailsItem zero end bytes f = f ≡ part_fault (no_level end bytes)
FailsItem (suc level) end bytes f = FailsByOpcode part_fault (λ o. FailsUnless reason_at (refusal o)
    (FailsItemBy (FailsEach (ItemWithin level) (FailsItem level)) level o)) end bytes f

-- TermList
abbrev pub FailsItems : ℕ → Failure Fault
FailsItems level = FailsEach (ItemWithin level) (FailsItem level)

-- ---- what a fault shows

-- The code fails so where at most `depth` levels are allowed: from the left, the first part of it that is not spelled
-- is at that place, for that reason.
abbrev pub ShowsItems : ℕ → List ℕ → ItemReason → ℕ → Type 0
ShowsItems depth code why place = FailsItems depth (length code) code (reason_at why place)

-- what a refusal says is true of the code
abbrev pub IsTrueFault : ℕ → List ℕ → ItemFault → Type 0
IsTrueFault depth code errors.Memory = Unit {0}
IsTrueFault depth code (errors.At reason place) = ShowsItems depth code reason place

-- the same of the field element that these bytes begin with, which has no level
abbrev pub IsTrueElementFault : List ℕ → ItemFault → Type 0
IsTrueElementFault bytes errors.Memory = Unit {0}
IsTrueElementFault bytes (errors.At reason place) =
    FailsAs constant_fault FailsField (length bytes) bytes (reason_at reason place)

-- ---- answers, unless memory runs out

-- the answer is such
abbrev pub OrMemory : {X : Type 0} → Result X ItemFault → (X → Type 0) → Type 0
OrMemory (Ok x) Is = Is x
OrMemory (Err errors.Memory) Is = Unit {0}
OrMemory (Err (errors.At reason place)) Is = ⊥

-- it is refused for the reason at the place
abbrev pub IsToldAt : {X : Type 0} → Result X ItemFault → ItemReason → ℕ → Type 0
IsToldAt (Ok x) why at = ⊥
IsToldAt (Err errors.Memory) why at = Unit {0}
IsToldAt (Err (errors.At reason place)) why at = (reason ≡ why) × (place ≡ at)
