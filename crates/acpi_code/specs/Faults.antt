-- By which fault bytes fail that spell no part of code (ACPI 6.5, 20.2).
use Rattle.std.specs.Prelude.{◌≡◌, ◌≢◌, ◌⊎◌, ◌+◌, ◌-◌, ◌<◌, ℕ, zero, suc, true, false, Option, Some, None, List, [], ◌∷◌, ◌++◌, length}
use Rattle.std.specs.List.{AllByRecursion}
use Rattle.acpi_name.specs.Names.{is_segment_front}
use Rattle.acpi_name.specs.Spelling.{IsCutName, HasBadChar, HasZeroCount, HasTooManyUps}
use Rattle.acpi_table.specs.PkgLength.{SpellsPkgLength, HasReservedBits, EndsInPkgLength}
use Rattle.acpi_code.specs.declared.fault.CodeReason.{CodeReason}
use Rattle.acpi_code.specs.declared.fault.CodeReason.TheVariants.{Cut, ReservedBits, BadName, Overrun, BadString, TooDeep}
use Rattle.acpi_code.specs.declared.fault.CodeFault.{CodeFault}
use Rattle.acpi_code.specs.declared.fault.ConstantFault.{ConstantFault}
use Rattle.acpi_code.specs.declared.fault.ConstantFault.TheVariants.{Part, NotConstant}
use Rattle.acpi_code.specs.declared.opcode.Opcode.{Opcode}
use Rattle.acpi_code.specs.declared.opcode.Opcode.TheVariants as opcodes
use Rattle.acpi_code.specs.declared.opcode.ConstantForm.{ConstantForm}
use Rattle.acpi_code.specs.declared.opcode.ConstantForm.TheVariants as forms
use Rattle.acpi_code.specs.Opcodes.{opcode_bytes, BeginsWith}
use Rattle.acpi_code.specs.Spelling.{IsText, SpellsSegment, SpellsEach}
use Rattle.acpi_code.specs.Fields.{SpellsField}

-- Bytes are a list that ends at the place `end` of the code, so they begin at the place `end - length bytes`. They fail
-- by a fault where the first part of them, from the left, that is not spelled is at its place, for its reason.
abbrev pub Failure : Type 0 → Type 1
Failure F = ℕ → List ℕ → F → Type 0

-- the fault at the first of these bytes, or at their end where there are none
abbrev pub fault_at : ℕ → List ℕ → CodeReason → CodeFault
fault_at end bytes why = record { reason = why; place = end - length bytes }

-- a term must begin there, and no level is left
abbrev pub no_level : ℕ → List ℕ → CodeFault
no_level end [] = fault_at end [] Cut
no_level end (b ∷ rest) = fault_at end (b ∷ rest) TooDeep

-- the fault of a part, as one of what holds it
abbrev pub FailsAs : {F G : Type 0} → (F → G) → Failure F → Failure G
FailsAs {F} into Fails end bytes g = (f : F) × Fails end bytes f × (g ≡ into f)

-- behind these bytes
abbrev pub FailsBehind : {F : Type 0} → List ℕ → Failure F → Failure F
FailsBehind front Fails end bytes f = (rest : List ℕ) × (bytes ≡ front ++ rest) × Fails end rest f

-- a part and others behind it: the first fails; or it is spelled, and what is behind it fails
abbrev pub FailsInTurn : {A F : Type 0} → Failure F → (A → List ℕ → Type 0) → (A → Failure F)
    → Failure F
FailsInTurn {A} First Spells Then end bytes f = First end bytes f
    ⊎ ((x : A) × (a : List ℕ) × (b : List ℕ) × Spells x a × (bytes ≡ a ++ b) × Then x end b f)

-- parts one after another to the end of the bytes: some are spelled, bytes are left, and there one fails
abbrev pub FailsEach : {A F : Type 0} → (A → List ℕ → Type 0) → Failure F → Failure F
FailsEach {A} Spells One end bytes f = (xs : List A) × (a : List ℕ) × (b : List ℕ)
    × SpellsEach Spells xs a × (bytes ≡ a ++ b) × (b ≢ []) × One end b f

-- ---- numbers, lengths, names and strings

-- ByteData, WordData, DWordData, QWordData: n bytes (20.2.3)
abbrev pub FailsNumber : ℕ → Failure CodeFault
FailsNumber n end bytes f = (length bytes < n) × (f ≡ fault_at end [] Cut)

-- PkgLength (20.2.4)
abbrev pub FailsPkgLength : Failure CodeFault
FailsPkgLength end bytes f = (EndsInPkgLength bytes × (f ≡ fault_at end [] Cut))
    ⊎ (HasReservedBits bytes × (f ≡ fault_at end bytes ReservedBits))

-- a package length that is less than its own number of bytes or goes past the end of the bytes (20.2.4)
abbrev pub Overruns : List ℕ → Type 0
Overruns bytes = (n : ℕ) × (len : List ℕ) × (rest : List ℕ) × SpellsPkgLength n len
    × (bytes ≡ len ++ rest) × ((n < length len) ⊎ (length bytes < n))

-- A package: its length fails; or the length is less than its own bytes, or goes past the end of the bytes; or what the
-- package holds fails, whose list ends where the package does (20.2.4).
abbrev pub FailsPackage : {F : Type 0} → (CodeFault → F) → Failure F → Failure F
FailsPackage into Inside end bytes f = FailsAs into FailsPkgLength end bytes f
    ⊎ (Overruns bytes × (f ≡ into (fault_at end bytes Overrun)))
    ⊎ ((len : List ℕ) × (content : List ℕ) × (rest : List ℕ)
    × SpellsPkgLength (length len + length content) len × (bytes ≡ len ++ (content ++ rest))
    × Inside (end - length rest) content f)

-- no name begins there, however the bytes go on (20.2.2)
abbrev pub HasNoName : List ℕ → Type 0
HasNoName bytes = HasBadChar bytes ⊎ HasZeroCount bytes ⊎ HasTooManyUps bytes

-- NameString (20.2.2): the bytes end within one, or none begins there, however they go on
abbrev pub FailsName : Failure CodeFault
FailsName end bytes f = (IsCutName bytes × (f ≡ fault_at end [] Cut))
    ⊎ (HasNoName bytes × (f ≡ fault_at end bytes BadName))

-- NameSeg (20.2.2)
abbrev pub FailsSegment : Failure CodeFault
FailsSegment end bytes f =
    ((is_segment_front bytes ≡ true) × (length bytes < 4) × (f ≡ fault_at end [] Cut))
    ⊎ ((is_segment_front bytes ≡ false) × (f ≡ fault_at end bytes BadName))

-- AsciiCharList and NullChar (20.2.3): behind characters stands nothing, or a byte that is neither
abbrev pub FailsText : Failure CodeFault
FailsText end bytes f = (text : List ℕ) × (rest : List ℕ) × AllByRecursion IsText text
    × (bytes ≡ text ++ rest)
    × (((rest ≡ []) × (f ≡ fault_at end [] Cut))
    ⊎ (((b : ℕ) × (more : List ℕ) × (rest ≡ b ∷ more) × (0x7F < b))
    × (f ≡ fault_at end rest BadString)))

-- ---- terms, by their opcodes

-- an opcode (20.3): nothing is left, or ExtOpPrefix alone
abbrev pub FailsOpcode : Failure CodeFault
FailsOpcode end bytes f = ((bytes ≡ []) ⊎ (bytes ≡ 0x5B ∷ [])) × (f ≡ fault_at end [] Cut)

-- a term: its opcode fails; or it begins with an opcode, and fails by that
abbrev pub FailsByOpcode : {F : Type 0} → (CodeFault → F) → (Opcode → Failure F) → Failure F
FailsByOpcode into Term end bytes f = FailsAs into FailsOpcode end bytes f
    ⊎ ((o : Opcode) × BeginsWith o bytes × Term o end bytes f)

-- a term is refused for a reason at its first byte; or, if there is none, it fails so
abbrev pub FailsUnless : {R F : Type 0} → (R → ℕ → F) → Option R → Failure F → Failure F
FailsUnless fault (Some why) Fails end bytes f = f ≡ fault why (end - length bytes)
FailsUnless fault None Fails end bytes f = Fails end bytes f

-- a term for which so many levels are left: none is, or else it fails so
abbrev pub FailsWithin : {F : Type 0} → (CodeFault → F) → ℕ → Failure F → Failure F
FailsWithin into zero Fails end bytes f = f ≡ into (no_level end bytes)
FailsWithin into (suc level) Fails end bytes f = Fails end bytes f

-- how many bytes follow the opcode of a constant (20.2.3)
abbrev pub number_size : ConstantForm → ℕ
number_size forms.Byte = 1
number_size forms.Word = 2
number_size forms.DWord = 4
number_size forms.QWord = 8
number_size _ = 0

-- the number of a constant, behind its opcode; or no constant begins so
abbrev pub FailsConstant : Opcode → Failure ConstantFault
FailsConstant (opcodes.Constant form) = FailsBehind (opcode_bytes (opcodes.Constant form))
    (FailsAs Part (FailsNumber (number_size form)))
FailsConstant opcode = λ end bytes f. f ≡ NotConstant opcode (end - length bytes)

-- a constant (20.2.3)
abbrev pub FailsInt : Failure ConstantFault
FailsInt = FailsByOpcode Part FailsConstant

-- ---- field elements (20.2.5.2 FieldElement)

-- NamedField := NameSeg PkgLength
abbrev pub FailsUnit : Failure ConstantFault
FailsUnit =
    FailsInTurn (FailsAs Part FailsSegment) SpellsSegment (λ g. FailsAs Part FailsPkgLength)

-- ConnectField behind its 02: BufferData, whose size is a constant, or else NameString
abbrev pub FailsConnect : Failure ConstantFault
FailsConnect end bytes f =
    FailsBehind (0x11 ∷ []) (FailsPackage Part FailsInt) end bytes f
    ⊎ ((¬ BeginsWith opcodes.Buffer bytes) × FailsAs Part FailsName end bytes f)

-- the bytes begin with none of 00 to 03, which begin other elements
abbrev pub BeginsUnit : List ℕ → Type 0
BeginsUnit bytes = (b : ℕ) (rest : List ℕ) → bytes ≡ b ∷ rest → 0x03 < b

-- ReservedField, AccessField, ConnectField, ExtendedAccessField, or else NamedField
abbrev pub FailsField : Failure ConstantFault
FailsField end bytes f = FailsBehind (0x00 ∷ []) (FailsAs Part FailsPkgLength) end bytes f
    ⊎ FailsBehind (0x01 ∷ []) (FailsAs Part (FailsNumber 2)) end bytes f
    ⊎ FailsBehind (0x02 ∷ []) FailsConnect end bytes f
    ⊎ FailsBehind (0x03 ∷ []) (FailsAs Part (FailsNumber 3)) end bytes f
    ⊎ (BeginsUnit bytes × FailsUnit end bytes f)

-- FieldList
abbrev pub FailsFields : Failure ConstantFault
FailsFields = FailsEach SpellsField FailsField
