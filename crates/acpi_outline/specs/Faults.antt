-- Where nodes stop being spelled, and why (ACPI 6.5, 20.2.5). Bytes end at the place `end` of the code; they fail by the
-- fault of the first part, from the left, that is not spelled.
use Rattle.std.specs.Prelude.{◌≡◌, ◌≢◌, ◌⊎◌, ◌-◌, ◌<◌, ℕ, zero, suc, Option, Some, None, List, [], ◌∷◌, length}
use Rattle.acpi_name.specs.Names.{NameParts}
use Rattle.acpi_name.specs.Spelling.{SpellsName}
use Rattle.acpi_tree.specs.declared.place.NamedForm.{NamedForm}
use Rattle.acpi_tree.specs.declared.place.NamedForm.TheVariants as named
use Rattle.acpi_tree.specs.declared.place.OperandKind.{OperandKind}
use Rattle.acpi_tree.specs.declared.place.OperandKind.TheVariants.{At}
use Rattle.acpi_tree.specs.declared.place.Place.{Place}
use Rattle.acpi_tree.specs.declared.place.Place.TheVariants.{Value, Source, SuperName, Statement}
use Rattle.acpi_tree.specs.Operators.{names_of_units, operands_of_units}
use Rattle.acpi_code.specs.declared.opcode.Opcode.{Opcode}
use Rattle.acpi_code.specs.declared.opcode.Opcode.TheVariants as opcodes
use Rattle.acpi_code.specs.declared.fault.CodeFault.{CodeFault}
use Rattle.acpi_code.specs.declared.fault.ConstantFault.{ConstantFault}
use Rattle.acpi_code.specs.declared.fault.ConstantFault.TheVariants.{Part, NotConstant}
use Rattle.acpi_code.specs.Opcodes.{opcode_bytes, BeginsWith}
use Rattle.acpi_code.specs.Faults.{Failure, FailsAs, FailsBehind, FailsInTurn, FailsNumber, FailsName, FailsByOpcode, FailsPackage, FailsField, no_level}
use Rattle.acpi_code.specs.Forms.{named_opcode}
use Rattle.acpi_code.specs.Spelling.{SpellsByte}
use Rattle.acpi_values.specs.declared.fault.BodyReason.TheVariants.{BadOpcode}
use Rattle.acpi_values.specs.declared.fault.BodyFault.{BodyFault}
use Rattle.acpi_values.specs.Faults.{fault_of, FailsTerm, FailsOperands}
use Rattle.acpi_outline.specs.declared.fault.LostReason.{LostReason}
use Rattle.acpi_outline.specs.declared.fault.LostReason.TheVariants.{Term, NoNode, ManyArguments, Computed}
use Rattle.acpi_outline.specs.declared.fault.LostFault.{LostFault}
use Rattle.acpi_outline.specs.declared.form.PackedForm.{PackedForm}
use Rattle.acpi_outline.specs.declared.form.PackedForm.TheVariants as forms
use Rattle.acpi_outline.specs.Nodes.{form_opcode, form_bytes}
use Rattle.acpi_outline.specs.Rules.{Rules, grammar_at}
use Rattle.acpi_outline.specs.Spelling.{operands_after, operands_first, container_operands, AreFirst, AreNames, BeginsData, IsSource}

-- ---- faults

-- the fault of a term, or of a part of code, as one of a lost range
abbrev pub term_fault : BodyFault → LostFault
term_fault f = record { reason = Term f.reason; place = f.place }

abbrev pub part_fault : CodeFault → LostFault
part_fault f = term_fault (fault_of f)

-- why what begins with the opcode is no constant: no term begins so, or it is another term
abbrev pub no_constant : Opcode → LostReason
no_constant opcodes.Nothing = Term BadOpcode
no_constant _ = Computed

-- the fault of an element of a field list, as one of a lost range
abbrev pub element_fault : ConstantFault → LostFault
element_fault (Part f) = part_fault f
element_fault (NotConstant opcode place) = record { reason = no_constant opcode; place = place }

-- the fault whose place is the first of these bytes, or their end
abbrev pub fault_at : ℕ → List ℕ → LostReason → LostFault
fault_at end bytes why = record { reason = why; place = end - length bytes }

-- ---- parts

abbrev pub FailsPart : Failure CodeFault → Failure LostFault
FailsPart Fails = FailsAs part_fault Fails

-- a name, and what stands behind it
abbrev pub FailsNamed : Failure LostFault → Failure LostFault
FailsNamed Behind = FailsInTurn (FailsPart FailsName) SpellsName (λ n. Behind)

-- a term at a place, `level` levels being left for it
abbrev pub FailsTermAt : {S : Type 0} → Rules S → ℕ → S → Place → Failure LostFault
FailsTermAt r level known place = FailsAs term_fault (FailsTerm (grammar_at r known) level place)

-- operands of these kinds
abbrev pub FailsInOrder : {S : Type 0} → Rules S → ℕ → S → List OperandKind → Failure LostFault
FailsInOrder r level known kinds =
    FailsAs term_fault (FailsOperands (grammar_at r known) level kinds)

-- ---- plain nodes (20.2.5)

-- a source: a name, or else another value
abbrev pub FailsSource : {S : Type 0} → Rules S → ℕ → S → Failure LostFault
FailsSource r level known end bytes f =
    (BeginsWith opcodes.Name bytes × FailsPart FailsName end bytes f)
    ⊎ ((¬ BeginsWith opcodes.Name bytes) × FailsTermAt r level known Source end bytes f)

-- what stands before a declared name: nothing, or a source and operands of these kinds
abbrev pub FailsFirst : {S : Type 0} → Rules S → ℕ → S → List OperandKind → Failure LostFault
FailsFirst r level known [] = λ end bytes f. ⊥
FailsFirst r level known (source ∷ kinds) =
    FailsInTurn (FailsSource r level known) (IsSource r level known)
    (λ v. FailsInOrder r level known kinds)

-- a declaration of one name
abbrev pub FailsDeclared : {S : Type 0} → Rules S → ℕ → S → NamedForm → Failure LostFault
FailsDeclared r level known form = FailsBehind (opcode_bytes (named_opcode form)) (FailsInTurn
    (FailsFirst r level known (operands_first form))
    (AreFirst r level known (operands_first form))
    (λ vs. FailsNamed (FailsInOrder r level known (operands_after form))))

-- the number of arguments of an External, at most 7
abbrev pub FailsCount : Failure LostFault
FailsCount end bytes f = FailsPart (FailsNumber 1) end bytes f
    ⊎ ((count : ℕ) × (rest : List ℕ) × (bytes ≡ count ∷ rest) × (7 < count)
    × (f ≡ fault_at end bytes ManyArguments))

-- an External, behind its opcode
abbrev pub FailsExternal : Failure LostFault
FailsExternal =
    FailsNamed (FailsInTurn (FailsPart (FailsNumber 1)) SpellsByte (λ kind. FailsCount))

-- at which place a term is read that begins so: as a statement, or what has no effect where one stands
abbrev pub place_of : Opcode → Option Place
place_of opcodes.Buffer = Some Statement
place_of opcodes.Package = Some Statement
place_of opcodes.VarPackage = Some Statement
place_of opcodes.Name = Some Statement
place_of (opcodes.Operator op) = Some Statement
place_of (opcodes.Constant form) = Some Value
place_of opcodes.Str = Some Value
place_of (opcodes.Local n) = Some Value
place_of (opcodes.Arg n) = Some Value
place_of opcodes.Debug = Some SuperName
place_of _ = None

-- a plain node that begins with the opcode, `level` levels being left inside it: the rules stand at `SpellsPlain`
abbrev pub FailsPlain : {S : Type 0} → Rules S → ℕ → S → Opcode → Failure LostFault
FailsPlain r level known opcodes.DeclareName = FailsDeclared r level known named.Name
FailsPlain r level known (opcodes.Create w) = FailsDeclared r level known (named.Create w)
FailsPlain r level known opcodes.CreateField = FailsDeclared r level known named.CreateField
FailsPlain r level known opcodes.Region = FailsDeclared r level known named.Region
FailsPlain r level known opcodes.Mutex = FailsDeclared r level known named.Mutex
FailsPlain r level known opcodes.Event = FailsDeclared r level known named.Event
FailsPlain r level known opcodes.External =
    FailsBehind (opcode_bytes opcodes.External) FailsExternal
FailsPlain r level known opcodes.Alias =
    FailsBehind (opcode_bytes opcodes.Alias) (FailsNamed (FailsPart FailsName))
FailsPlain r level known opcodes.DataRegion = FailsBehind (opcode_bytes opcodes.DataRegion)
    (FailsNamed (FailsInOrder r level known (At Value ∷ At Value ∷ At Value ∷ [])))
FailsPlain r level known opcodes.Nothing = λ end bytes f. f ≡ fault_at end bytes NoNode
FailsPlain r level known opcode = λ end bytes f. (place : Place) × (place_of opcode ≡ Some place)
    × FailsTermAt r (suc level) known place end bytes f

-- ---- the fixed arguments of packages

-- a predicate; the byte 00 is one
abbrev pub FailsTest : {S : Type 0} → Rules S → ℕ → S → Failure LostFault
FailsTest r level known end bytes f = ((rest : List ℕ) → bytes ≢ 0x00 ∷ rest)
    × FailsTermAt r level known Value end bytes f

-- so many names
abbrev pub FailsNames : ℕ → Failure LostFault
FailsNames zero = λ end bytes f. ⊥
FailsNames (suc n) = FailsNamed (FailsNames n)

-- behind the package length, `level` levels being left inside the package: the rules stand at `IsFixed`
abbrev pub FailsFixed : {S : Type 0} → Rules S → ℕ → S → PackedForm → Failure LostFault
FailsFixed r level known forms.Scope = FailsPart FailsName
FailsFixed r level known (forms.Container form) =
    FailsNamed (FailsInOrder r level known (container_operands form))
FailsFixed r level known forms.Method = FailsNamed (FailsPart (FailsNumber 1))
FailsFixed r level known forms.If = FailsTest r level known
FailsFixed r level known forms.Else = λ end bytes f. ⊥
FailsFixed r level known forms.While = FailsTest r level known
FailsFixed r level known (forms.Units form) =
    FailsInTurn (FailsNames (names_of_units form)) (AreNames (names_of_units form))
    (λ ns. FailsInOrder r level known (operands_of_units form))

-- ---- nodes

-- an element of a field list
abbrev pub FailsElement : Failure LostFault
FailsElement = FailsAs element_fault FailsField

-- a package length, whatever the package holds
abbrev pub FailsLength : Failure LostFault
FailsLength = FailsPackage part_fault (λ end content f. ⊥)

-- A node that begins with the opcode: it is a package, and its length fails; or it is plain, and no data in a package
-- holds the fault.
abbrev pub FailsBegun : {S : Type 0} → Rules S → ℕ → S → Opcode → Failure LostFault
FailsBegun r level known opcode end bytes f =
    ((form : PackedForm) × (opcode ≡ form_opcode form)
    × FailsBehind (form_bytes form) FailsLength end bytes f)
    ⊎ ((¬ BeginsData level bytes) × FailsPlain r level known opcode end bytes f)

-- a node, `level` levels being left for it: none is left; its opcode fails; or it begins with one, and fails
abbrev pub FailsNode : {S : Type 0} → Rules S → ℕ → S → Failure LostFault
FailsNode r zero known = λ end bytes f. f ≡ part_fault (no_level end bytes)
FailsNode r (suc level) known = FailsByOpcode part_fault (FailsBegun r level known)
