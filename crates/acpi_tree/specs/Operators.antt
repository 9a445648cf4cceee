-- The operators: the opcode, the name and the operands of each (ACPI 6.5, 20.2.5.3, 20.2.5.4 and 20.3).
use Rattle.std.specs.Prelude.{ℕ, Bool, true, false, List, [], ◌∷◌, codes}
use Rattle.acpi_tree.specs.declared.op.OpClass.{OpClass}
use Rattle.acpi_tree.specs.declared.op.OpClass.TheVariants.{Statement, Expression, Reference, TableLoad}
use Rattle.acpi_tree.specs.declared.op.Op.{Op}
use Rattle.acpi_tree.specs.declared.op.Op.TheVariants.{Store, RefOf, Add, Concat, Subtract, Increment, Decrement, Multiply, Divide, ShiftLeft, ShiftRight, And, NAnd, Or, NOr, XOr, Not, FindSetLeftBit, FindSetRightBit, DerefOf, ConcatRes, Mod, Notify, SizeOf, Index, Match, ObjectType, LAnd, LOr, LNot, LEqual, LGreater, LLess, ToBuffer, ToDecimalString, ToHexString, ToInteger, ToString, CopyObject, Mid, Continue, Noop, Return, Break, BreakPoint, CondRefOf, Stall, Sleep, Acquire, Signal, Wait, Reset, Release, FromBCD, ToBCD, Fatal, Timer, LoadTable, Load, Unload}
use Rattle.acpi_tree.specs.declared.place.Place.TheVariants.{Value, SuperName, SimpleName, Data}
use Rattle.acpi_tree.specs.declared.place.OperandKind.{OperandKind}
use Rattle.acpi_tree.specs.declared.place.OperandKind.TheVariants.{At, Target, Byte, Word, DWord}
use Rattle.acpi_tree.specs.declared.place.NamedForm.{NamedForm}
use Rattle.acpi_tree.specs.declared.place.NamedForm.TheVariants as named
use Rattle.acpi_tree.specs.declared.place.UnitsForm.{UnitsForm}
use Rattle.acpi_tree.specs.declared.place.UnitsForm.TheVariants as units

-- ---- the operators, a row for each

-- what the standard says of an operator: its opcode, its name without `Def` or `Op`, its operands in order, and
-- what it is for
pub record OpRow : Type 0 where
  pub opcode : List ℕ
  pub word : List ℕ
  pub operands : List OperandKind
  pub class : OpClass

abbrev row : List ℕ → List ℕ → List OperandKind → OpClass → OpRow
row opcode word operands class =
    record { opcode = opcode; word = word; operands = operands; class = class }

abbrev value : OperandKind
value = At Value

abbrev super_name : OperandKind
super_name = At SuperName

abbrev simple_name : OperandKind
simple_name = At SimpleName

-- What the rules of the grammar call Operand, Dividend, Divisor, Data, BufData, ShiftCount, ObjReference, SearchPkg,
-- MidObj and the like is a TermArg of some type; MutexObject, EventObject and NotifyObject are a SuperName, Remainder
-- and Quotient a Target; MatchOpcode and FatalType are ByteData, Timeout is WordData and FatalCode DWordData.
abbrev pub row_of : Op → OpRow
-- DefStore := StoreOp TermArg SuperName (20.2.5.4)
row_of Store = row (0x70 ∷ []) (codes "Store") (value ∷ super_name ∷ []) Expression
-- DefRefOf := RefOfOp SuperName (20.2.5.4)
row_of RefOf = row (0x71 ∷ []) (codes "RefOf") (super_name ∷ []) Reference
-- DefAdd := AddOp Operand Operand Target (20.2.5.4)
row_of Add = row (0x72 ∷ []) (codes "Add") (value ∷ value ∷ Target ∷ []) Expression
-- DefConcat := ConcatOp Data Data Target (20.2.5.4)
row_of Concat = row (0x73 ∷ []) (codes "Concat") (value ∷ value ∷ Target ∷ []) Expression
-- DefSubtract := SubtractOp Operand Operand Target (20.2.5.4)
row_of Subtract = row (0x74 ∷ []) (codes "Subtract") (value ∷ value ∷ Target ∷ []) Expression
-- DefIncrement := IncrementOp SuperName (20.2.5.4)
row_of Increment = row (0x75 ∷ []) (codes "Increment") (super_name ∷ []) Expression
-- DefDecrement := DecrementOp SuperName (20.2.5.4)
row_of Decrement = row (0x76 ∷ []) (codes "Decrement") (super_name ∷ []) Expression
-- DefMultiply := MultiplyOp Operand Operand Target (20.2.5.4)
row_of Multiply = row (0x77 ∷ []) (codes "Multiply") (value ∷ value ∷ Target ∷ []) Expression
-- DefDivide := DivideOp Dividend Divisor Remainder Quotient (20.2.5.4)
row_of Divide = row (0x78 ∷ []) (codes "Divide") (value ∷ value ∷ Target ∷ Target ∷ []) Expression
-- DefShiftLeft := ShiftLeftOp Operand ShiftCount Target (20.2.5.4)
row_of ShiftLeft = row (0x79 ∷ []) (codes "ShiftLeft") (value ∷ value ∷ Target ∷ []) Expression
-- DefShiftRight := ShiftRightOp Operand ShiftCount Target (20.2.5.4)
row_of ShiftRight = row (0x7A ∷ []) (codes "ShiftRight") (value ∷ value ∷ Target ∷ []) Expression
-- DefAnd := AndOp Operand Operand Target (20.2.5.4)
row_of And = row (0x7B ∷ []) (codes "And") (value ∷ value ∷ Target ∷ []) Expression
-- DefNAnd := NandOp Operand Operand Target (20.2.5.4)
row_of NAnd = row (0x7C ∷ []) (codes "NAnd") (value ∷ value ∷ Target ∷ []) Expression
-- DefOr := OrOp Operand Operand Target (20.2.5.4)
row_of Or = row (0x7D ∷ []) (codes "Or") (value ∷ value ∷ Target ∷ []) Expression
-- DefNOr := NorOp Operand Operand Target (20.2.5.4)
row_of NOr = row (0x7E ∷ []) (codes "NOr") (value ∷ value ∷ Target ∷ []) Expression
-- DefXOr := XorOp Operand Operand Target (20.2.5.4)
row_of XOr = row (0x7F ∷ []) (codes "XOr") (value ∷ value ∷ Target ∷ []) Expression
-- DefNot := NotOp Operand Target (20.2.5.4)
row_of Not = row (0x80 ∷ []) (codes "Not") (value ∷ Target ∷ []) Expression
-- DefFindSetLeftBit := FindSetLeftBitOp Operand Target (20.2.5.4)
row_of FindSetLeftBit = row (0x81 ∷ []) (codes "FindSetLeftBit") (value ∷ Target ∷ []) Expression
-- DefFindSetRightBit := FindSetRightBitOp Operand Target (20.2.5.4)
row_of FindSetRightBit = row (0x82 ∷ []) (codes "FindSetRightBit") (value ∷ Target ∷ []) Expression
-- DefDerefOf := DerefOfOp ObjReference (20.2.5.4)
row_of DerefOf = row (0x83 ∷ []) (codes "DerefOf") (value ∷ []) Reference
-- DefConcatRes := ConcatResOp BufData BufData Target (20.2.5.4)
row_of ConcatRes = row (0x84 ∷ []) (codes "ConcatRes") (value ∷ value ∷ Target ∷ []) Expression
-- DefMod := ModOp Dividend Divisor Target (20.2.5.4)
row_of Mod = row (0x85 ∷ []) (codes "Mod") (value ∷ value ∷ Target ∷ []) Expression
-- DefNotify := NotifyOp NotifyObject NotifyValue (20.2.5.3)
row_of Notify = row (0x86 ∷ []) (codes "Notify") (super_name ∷ value ∷ []) Statement
-- DefSizeOf := SizeOfOp SuperName (20.2.5.4)
row_of SizeOf = row (0x87 ∷ []) (codes "SizeOf") (super_name ∷ []) Expression
-- DefIndex := IndexOp BuffPkgStrObj IndexValue Target (20.2.5.4)
row_of Index = row (0x88 ∷ []) (codes "Index") (value ∷ value ∷ Target ∷ []) Reference
-- DefMatch := MatchOp SearchPkg MatchOpcode Operand MatchOpcode Operand StartIndex (20.2.5.4)
row_of Match =
    row (0x89 ∷ []) (codes "Match") (value ∷ Byte ∷ value ∷ Byte ∷ value ∷ value ∷ []) Expression
-- DefObjectType := ObjectTypeOp <SimpleName | DebugObj | DefRefOf | DefDerefOf | DefIndex> (20.2.5.4)
row_of ObjectType = row (0x8E ∷ []) (codes "ObjectType") (super_name ∷ []) Expression
-- DefLAnd := LandOp Operand Operand (20.2.5.4)
row_of LAnd = row (0x90 ∷ []) (codes "LAnd") (value ∷ value ∷ []) Expression
-- DefLOr := LorOp Operand Operand (20.2.5.4)
row_of LOr = row (0x91 ∷ []) (codes "LOr") (value ∷ value ∷ []) Expression
-- DefLNot := LnotOp Operand (20.2.5.4)
row_of LNot = row (0x92 ∷ []) (codes "LNot") (value ∷ []) Expression
-- DefLEqual := LequalOp Operand Operand (20.2.5.4)
row_of LEqual = row (0x93 ∷ []) (codes "LEqual") (value ∷ value ∷ []) Expression
-- DefLGreater := LgreaterOp Operand Operand (20.2.5.4)
row_of LGreater = row (0x94 ∷ []) (codes "LGreater") (value ∷ value ∷ []) Expression
-- DefLLess := LlessOp Operand Operand (20.2.5.4)
row_of LLess = row (0x95 ∷ []) (codes "LLess") (value ∷ value ∷ []) Expression
-- DefToBuffer := ToBufferOp Operand Target (20.2.5.4)
row_of ToBuffer = row (0x96 ∷ []) (codes "ToBuffer") (value ∷ Target ∷ []) Expression
-- DefToDecimalString := ToDecimalStringOp Operand Target (20.2.5.4)
row_of ToDecimalString = row (0x97 ∷ []) (codes "ToDecimalString") (value ∷ Target ∷ []) Expression
-- DefToHexString := ToHexStringOp Operand Target (20.2.5.4)
row_of ToHexString = row (0x98 ∷ []) (codes "ToHexString") (value ∷ Target ∷ []) Expression
-- DefToInteger := ToIntegerOp Operand Target (20.2.5.4)
row_of ToInteger = row (0x99 ∷ []) (codes "ToInteger") (value ∷ Target ∷ []) Expression
-- DefToString := ToStringOp TermArg LengthArg Target (20.2.5.4)
row_of ToString = row (0x9C ∷ []) (codes "ToString") (value ∷ value ∷ Target ∷ []) Expression
-- DefCopyObject := CopyObjectOp TermArg SimpleName (20.2.5.4)
row_of CopyObject = row (0x9D ∷ []) (codes "CopyObject") (value ∷ simple_name ∷ []) Expression
-- DefMid := MidOp MidObj TermArg TermArg Target (20.2.5.4)
row_of Mid = row (0x9E ∷ []) (codes "Mid") (value ∷ value ∷ value ∷ Target ∷ []) Expression
-- DefContinue := ContinueOp (20.2.5.3)
row_of Continue = row (0x9F ∷ []) (codes "Continue") [] Statement
-- DefNoop := NoopOp (20.2.5.3)
row_of Noop = row (0xA3 ∷ []) (codes "Noop") [] Statement
-- DefReturn := ReturnOp ArgObject (20.2.5.3)
row_of Return = row (0xA4 ∷ []) (codes "Return") (value ∷ []) Statement
-- DefBreak := BreakOp (20.2.5.3)
row_of Break = row (0xA5 ∷ []) (codes "Break") [] Statement
-- DefBreakPoint := BreakPointOp (20.2.5.3)
row_of BreakPoint = row (0xCC ∷ []) (codes "BreakPoint") [] Statement
-- DefCondRefOf := CondRefOfOp SuperName Target (20.2.5.4)
row_of CondRefOf = row (0x5B ∷ 0x12 ∷ []) (codes "CondRefOf") (super_name ∷ Target ∷ []) Expression
-- DefStall := StallOp UsecTime (20.2.5.3)
row_of Stall = row (0x5B ∷ 0x21 ∷ []) (codes "Stall") (value ∷ []) Statement
-- DefSleep := SleepOp MsecTime (20.2.5.3)
row_of Sleep = row (0x5B ∷ 0x22 ∷ []) (codes "Sleep") (value ∷ []) Statement
-- DefAcquire := AcquireOp MutexObject Timeout (20.2.5.4)
row_of Acquire = row (0x5B ∷ 0x23 ∷ []) (codes "Acquire") (super_name ∷ Word ∷ []) Expression
-- DefSignal := SignalOp EventObject (20.2.5.3)
row_of Signal = row (0x5B ∷ 0x24 ∷ []) (codes "Signal") (super_name ∷ []) Statement
-- DefWait := WaitOp EventObject Operand (20.2.5.4)
row_of Wait = row (0x5B ∷ 0x25 ∷ []) (codes "Wait") (super_name ∷ value ∷ []) Expression
-- DefReset := ResetOp EventObject (20.2.5.3)
row_of Reset = row (0x5B ∷ 0x26 ∷ []) (codes "Reset") (super_name ∷ []) Statement
-- DefRelease := ReleaseOp MutexObject (20.2.5.3)
row_of Release = row (0x5B ∷ 0x27 ∷ []) (codes "Release") (super_name ∷ []) Statement
-- DefFromBCD := FromBCDOp BCDValue Target (20.2.5.4)
row_of FromBCD = row (0x5B ∷ 0x28 ∷ []) (codes "FromBCD") (value ∷ Target ∷ []) Expression
-- DefToBCD := ToBCDOp Operand Target (20.2.5.4)
row_of ToBCD = row (0x5B ∷ 0x29 ∷ []) (codes "ToBCD") (value ∷ Target ∷ []) Expression
-- DefFatal := FatalOp FatalType FatalCode FatalArg (20.2.5.3)
row_of Fatal = row (0x5B ∷ 0x32 ∷ []) (codes "Fatal") (Byte ∷ DWord ∷ value ∷ []) Statement
-- DefTimer := TimerOp (20.2.5.4)
row_of Timer = row (0x5B ∷ 0x33 ∷ []) (codes "Timer") [] Expression
-- DefLoadTable := LoadTableOp TermArg TermArg TermArg TermArg TermArg TermArg (20.2.5.4)
row_of LoadTable = row (0x5B ∷ 0x1F ∷ []) (codes "LoadTable")
    (value ∷ value ∷ value ∷ value ∷ value ∷ value ∷ []) TableLoad
row_of Load = row (0x5B ∷ 0x20 ∷ []) (codes "Load") (simple_name ∷ Target ∷ []) TableLoad
row_of Unload = row (0x5B ∷ 0x2A ∷ []) (codes "Unload") (super_name ∷ []) TableLoad

-- all of them
abbrev pub operators : List Op
operators =
    Store ∷ RefOf ∷ Add ∷ Concat ∷ Subtract ∷ Increment ∷ Decrement ∷ Multiply ∷ Divide ∷
    ShiftLeft ∷ ShiftRight ∷ And ∷ NAnd ∷ Or ∷ NOr ∷ XOr ∷ Not ∷ FindSetLeftBit ∷
    FindSetRightBit ∷ DerefOf ∷ ConcatRes ∷ Mod ∷ Notify ∷ SizeOf ∷ Index ∷ Match ∷ ObjectType ∷
    LAnd ∷ LOr ∷ LNot ∷ LEqual ∷ LGreater ∷ LLess ∷ ToBuffer ∷ ToDecimalString ∷ ToHexString ∷
    ToInteger ∷ ToString ∷ CopyObject ∷ Mid ∷ Continue ∷ Noop ∷ Return ∷ Break ∷ BreakPoint ∷
    CondRefOf ∷ Stall ∷ Sleep ∷ Acquire ∷ Signal ∷ Wait ∷ Reset ∷ Release ∷ FromBCD ∷ ToBCD ∷
    Fatal ∷ Timer ∷ LoadTable ∷ Load ∷ Unload ∷ []

-- ---- what a row says

abbrev pub operands_of : Op → List OperandKind
operands_of op = (row_of op).operands

-- an expression has a value, so it may stand where a value does; the others are statements alone
abbrev is_for_value : OpClass → Bool
is_for_value Statement = false
is_for_value _ = true

abbrev pub is_expression : Op → Bool
is_expression op = is_for_value (row_of op).class

-- the operators that tell of a place: ReferenceTypeOpcode without the calls (20.2.5.4)
abbrev is_for_place : OpClass → Bool
is_for_place Reference = true
is_for_place _ = false

abbrev pub is_reference : Op → Bool
is_reference op = is_for_place (row_of op).class

-- the operators that load or unload a table; method bodies have none of them
abbrev is_for_table : OpClass → Bool
is_for_table TableLoad = true
is_for_table _ = false

abbrev pub is_load : Op → Bool
is_load op = is_for_table (row_of op).class

-- ---- declarations of one name: what stands before and behind the name (20.2.5.1 and 20.2.5.2)

abbrev pub operands_before : NamedForm → List OperandKind
-- DefCreateDWordField := CreateDWordFieldOp SourceBuff ByteIndex NameString, and so for the other widths
operands_before (named.Create w) = At Value ∷ At Value ∷ []
-- DefCreateField := CreateFieldOp SourceBuff BitIndex NumBits NameString
operands_before named.CreateField = At Value ∷ At Value ∷ At Value ∷ []
operands_before _ = []

abbrev pub operands_behind : NamedForm → List OperandKind
-- DefName := NameOp NameString DataRefObject
operands_behind named.Name = At Data ∷ []
-- DefOpRegion := OpRegionOp NameString RegionSpace RegionOffset RegionLen
operands_behind named.Region = Byte ∷ At Value ∷ At Value ∷ []
-- DefMutex := MutexOp NameString SyncFlags
operands_behind named.Mutex = Byte ∷ []
-- DefEvent := EventOp NameString
operands_behind _ = []

-- ---- declarations of field units: how many names stand first, and what stands before the units (20.2.5.2)

abbrev pub names_of_units : UnitsForm → ℕ
-- DefField := FieldOp PkgLength NameString FieldFlags FieldList
names_of_units units.Field = 1
-- DefIndexField := IndexFieldOp PkgLength NameString NameString FieldFlags FieldList
names_of_units units.IndexField = 2
-- DefBankField := BankFieldOp PkgLength NameString NameString BankValue FieldFlags FieldList
names_of_units units.BankField = 2

abbrev pub operands_of_units : UnitsForm → List OperandKind
operands_of_units units.BankField = At Value ∷ Byte ∷ []
operands_of_units _ = Byte ∷ []
