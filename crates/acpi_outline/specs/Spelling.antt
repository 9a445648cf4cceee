-- The bytes that spell plain nodes, and the fixed arguments of packages, under a state (ACPI 6.5, 20.2.5).
use Rattle.std.specs.Prelude.{◌≡◌, ◌⊎◌, ◌<◌, ◌≤◌, ℕ, suc, max, true, false, Bool, List, [], ◌∷◌, ◌++◌, length}
use Rattle.acpi_name.specs.Names.{NameParts}
use Rattle.acpi_name.specs.Spelling.{SpellsName}
use Rattle.acpi_tree.specs.declared.tree.Int.TheVariants.{Zero}
use Rattle.acpi_tree.specs.declared.place.Place.TheVariants.{Value, Source, Statement}
use Rattle.acpi_tree.specs.declared.place.OperandKind.{OperandKind}
use Rattle.acpi_tree.specs.declared.place.OperandKind.TheVariants.{At, Byte, Word, DWord}
use Rattle.acpi_tree.specs.declared.place.NamedForm.{NamedForm}
use Rattle.acpi_tree.specs.declared.place.NamedForm.TheVariants as named
use Rattle.acpi_tree.specs.Terms.{TermTree, TermTrees, int, str, local, arg, debug, ref, declare, no_terms, more, terms_of}
use Rattle.acpi_tree.specs.Operators.{operands_behind}
use Rattle.acpi_code.specs.Opcodes.{opcode_bytes}
use Rattle.acpi_code.specs.Spelling.{SpellsEach, Packs}
use Rattle.acpi_code.specs.Forms.{named_opcode}
use Rattle.acpi_code.specs.FixedArguments.{SpellsExternal}
use Rattle.acpi_values.specs.Spelling.{Stands, Spells, AreOperands, height, heights}
use Rattle.acpi_values.specs.Declarations.{AreUnitArguments}
use Rattle.acpi_outline.specs.declared.form.ContainerForm.{ContainerForm}
use Rattle.acpi_outline.specs.declared.form.ContainerForm.TheVariants as containers
use Rattle.acpi_outline.specs.declared.form.DataForm.{DataForm}
use Rattle.acpi_outline.specs.Nodes.{data_bytes, PlainTree, term, external, alias, table_region, FixedTree, scope, container, method, if_so, otherwise, while_so, units}
use Rattle.acpi_outline.specs.Rules.{Rules, grammar_at}

-- ---- plain nodes (20.2.5)

-- what stands behind a declared name; the data of a Name is any value
abbrev pub operands_after : NamedForm → List OperandKind
operands_after named.Name = At Value ∷ []
operands_after form = operands_behind form

-- what stands before it; the source of a Create form is a name, which is never a call, or another value
abbrev pub operands_first : NamedForm → List OperandKind
operands_first (named.Create w) = At Source ∷ At Value ∷ []
operands_first named.CreateField = At Source ∷ At Value ∷ At Value ∷ []
operands_first _ = []

-- what has no effect where a statement stands: a constant, a string, a Local, an Arg, Debug
abbrev pub is_stray : TermTree → Bool
is_stray (int i) = true
is_stray (str text) = true
is_stray (local n) = true
is_stray (arg n) = true
is_stray debug = true
is_stray _ = false

-- a declaration, of any name; what may stand as a statement in a method body, or has no effect there; an External;
-- DefAlias (20.2.5.1); DefDataRegion (20.2.5.2)
abbrev pub SpellsPlain : {S : Type 0} → Rules S → S → PlainTree → List ℕ → Type 0
SpellsPlain r known (term (declare form before n behind)) bytes =
    (a : List ℕ) × (b : List ℕ) × (c : List ℕ)
    × AreOperands (grammar_at r known) (operands_first form) before a × SpellsName n b
    × AreOperands (grammar_at r known) (operands_after form) behind c
    × (bytes ≡ opcode_bytes (named_opcode form) ++ (a ++ (b ++ c)))
SpellsPlain r known (term t) bytes =
    (Stands Statement t ⊎ (is_stray t ≡ true)) × Spells (grammar_at r known) t bytes
SpellsPlain r known (external x) bytes = SpellsExternal x bytes
-- DefAlias := AliasOp NameString NameString, where AliasOp := 0x06 (20.2.5.1)
SpellsPlain r known (alias source n) bytes =
    (a : List ℕ) × (b : List ℕ) × SpellsName source a × SpellsName n b × (bytes ≡ 0x06 ∷ (a ++ b))
-- DefDataRegion := DataRegionOp NameString TermArg TermArg TermArg, where DataRegionOp := ExtOpPrefix 0x88 (20.2.5.2)
SpellsPlain r known (table_region n vs) bytes = (a : List ℕ) × (b : List ℕ)
    × SpellsName n a × AreOperands (grammar_at r known) (At Value ∷ At Value ∷ At Value ∷ []) vs b
    × (bytes ≡ 0x5B ∷ 0x88 ∷ (a ++ b))

-- a source that is a name has no level
abbrev pub source_height : TermTree → ℕ
source_height (ref n) = 0
source_height v = height v

-- what stands before a declared name begins with a source
abbrev pub first_heights : TermTrees → ℕ
first_heights no_terms = 0
first_heights (more v vs) = max (source_height v) (heights vs)

abbrev pub plain_height : PlainTree → ℕ
plain_height (term (declare form before n behind)) =
    suc (max (first_heights before) (heights behind))
plain_height (term t) = height t
plain_height (external x) = 1
plain_height (alias source n) = 1
plain_height (table_region n vs) = suc (heights vs)

-- a plain node within the levels that are left
pub record IsPlain {S : Type 0} (r : Rules S) (level : ℕ) (known : S) (p : PlainTree)
    (bytes : List ℕ) : Type 0 where
  pub spells : SpellsPlain r known p bytes
  pub within : plain_height p ≤ level

-- ---- fixed arguments

-- a predicate of the byte 00 alone has no level
abbrev pub test_height : TermTree → ℕ
test_height (int Zero) = 0
test_height v = height v

-- a predicate within the levels that are left: a value
pub record IsTest {S : Type 0} (r : Rules S) (level : ℕ) (known : S) (v : TermTree)
    (bytes : List ℕ) : Type 0 where
  pub stands : Stands Value v
  pub spells : Spells (grammar_at r known) v bytes
  pub within : test_height v ≤ level

-- the numbers behind the name of a package with a scope of its own; of a Processor as ACPI 6.3 and earlier have them
abbrev pub container_operands : ContainerForm → List OperandKind
-- DefDevice := DeviceOp PkgLength NameString TermList (20.2.5.2)
container_operands containers.Device = []
-- DefProcessor := ProcessorOp PkgLength NameString ProcID PblkAddr PblkLen TermList (ACPI 6.3, 20.2.5.2)
container_operands containers.Processor = Byte ∷ DWord ∷ Byte ∷ []
-- DefPowerRes := PowerResOp PkgLength NameString SystemLevel ResourceOrder TermList (20.2.5.2)
container_operands containers.Power = Byte ∷ Word ∷ []
-- DefThermalZone := ThermalZoneOp PkgLength NameString TermList (20.2.5.2)
container_operands containers.Thermal = []

-- `level` levels are left inside the package
abbrev pub IsFixed : {S : Type 0} → Rules S → ℕ → S → FixedTree → List ℕ → Type 0
-- DefScope := ScopeOp PkgLength NameString TermList (20.2.5.1)
IsFixed r level known (scope n) bytes = SpellsName n bytes
IsFixed r level known (container form n vs) bytes = (a : List ℕ) × (b : List ℕ)
    × SpellsName n a × AreOperands (grammar_at r known) (container_operands form) vs b
    × (bytes ≡ a ++ b)
-- DefMethod := MethodOp PkgLength NameString MethodFlags TermList (20.2.5.2)
IsFixed r level known (method n flags) bytes =
    (a : List ℕ) × SpellsName n a × (bytes ≡ a ++ flags ∷ [])
-- DefIfElse := IfOp PkgLength Predicate TermList DefElse (20.2.5.3)
IsFixed r level known (if_so v) bytes = IsTest r level known v bytes
-- DefElse := Nothing | <ElseOp PkgLength TermList> (20.2.5.3)
IsFixed r level known otherwise bytes = bytes ≡ []
-- DefWhile := WhileOp PkgLength Predicate TermList (20.2.5.3)
IsFixed r level known (while_so v) bytes = IsTest r level known v bytes
IsFixed r level known (units form ns vs) bytes =
    AreUnitArguments (grammar_at r known) form ns vs bytes × (heights vs ≤ level)

-- ---- parts of them

-- a source within the levels that are left
abbrev pub IsSource : {S : Type 0} → Rules S → ℕ → S → TermTree → List ℕ → Type 0
IsSource r level known v bytes =
    Stands Source v × Spells (grammar_at r known) v bytes × (source_height v ≤ level)

-- what stands before a declared name, within the levels that are left
abbrev pub AreFirst : {S : Type 0} → Rules S → ℕ → S → List OperandKind → List TermTree → List ℕ
    → Type 0
AreFirst r level known kinds vs bytes = AreOperands (grammar_at r known) kinds (terms_of vs) bytes
    × (first_heights (terms_of vs) ≤ level)

-- so many names
abbrev pub AreNames : ℕ → List NameParts → List ℕ → Type 0
AreNames n ns bytes = (length ns ≡ n) × SpellsEach SpellsName ns bytes

-- ---- data in a package

-- bytes begin with something that is spelled so
pub record BeginsWith {X : Type 0} (Is : X → List ℕ → Type 0) (bytes : List ℕ) : Type 0 where
  pub tree : X
  pub front : List ℕ
  pub rest : List ℕ
  pub spells : Is tree front
  pub whole : bytes ≡ front ++ rest

-- a Name with data of that form
pub record IsNameOf (n : NameParts) (form : DataForm) (bytes : List ℕ) : Type 0 where
  pub content : List ℕ
  pub spelled : List ℕ
  pub packed : List ℕ
  pub spells : SpellsName n spelled
  pub packs : Packs (data_bytes form) content packed
  pub whole : bytes ≡ 0x08 ∷ (spelled ++ packed)

-- a statement that is data in a package; or a Name with such data, for which a level is left
abbrev pub BeginsData : ℕ → List ℕ → Type 0
BeginsData level bytes =
    BeginsWith (λ (x : DataForm × List ℕ). Packs (data_bytes x.0) x.1) bytes
    ⊎ ((0 < level) × BeginsWith (λ (x : NameParts × DataForm). IsNameOf x.0 x.1) bytes)
