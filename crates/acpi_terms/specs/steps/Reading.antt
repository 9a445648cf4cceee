-- Reading items from left to right, up to the first fault (ACPI 6.5, 20.2), over the readings of parts.
use Rattle.std.specs.Prelude.{ℕ, zero, suc, List, [], ◌∷◌, length, Option, Some, None, Result, Ok, Err, nat_lt, ◌==◌, if◌then◌else◌}
use Rattle.acpi_name.specs.Names.{NameParts}
use Rattle.acpi_tree.specs.declared.tree.Int.{Int}
use Rattle.acpi_tree.specs.declared.tree.Width.{Width}
use Rattle.acpi_tree.specs.declared.tree.ScopeKind.{ScopeKind}
use Rattle.acpi_tree.specs.declared.tree.ScopeKind.TheVariants as kinds
use Rattle.acpi_tree.specs.Tree.{DataTree, int, str, buffer, pkg, var_pkg, ElemTree, of_data, of_name, ElemTrees, elems_of, FieldTree, ExternalParts, ItemTree, name, scope, method, external, external_block, create, create_field, mutex, event, region, field, index_field, bank_field, ItemTrees, items_of}
use Rattle.acpi_code.specs.declared.fault.CodeFault.{CodeFault}
use Rattle.acpi_code.specs.declared.opcode.ConstantForm.{ConstantForm}
use Rattle.acpi_code.specs.declared.opcode.Opcode.{Opcode}
use Rattle.acpi_code.specs.declared.opcode.Opcode.TheVariants as opcodes
use Rattle.acpi_code.specs.Opcodes.{is_name_opcode}
use Rattle.acpi_code.specs.steps.Reading.{◌>>=◌, Reading, with_fault, each_at, no_level, byte_at, number_at, package_at, name_in, opcode_at, constant_at, string_at}
use Rattle.acpi_code.specs.steps.Fields.{int_in}
use Rattle.acpi_code.specs.steps.Fields as fields
use Rattle.acpi_terms.specs.declared.fault.ItemReason.{ItemReason}
use Rattle.acpi_terms.specs.declared.fault.ItemReason.TheVariants.{BadOpcode, ReservedBits, BadName, Computed, Alias, ModuleIf, ModuleCode, NotData, TooDeep, DataRegion}
use Rattle.acpi_terms.specs.declared.fault.ItemFault.{ItemFault}
use Rattle.acpi_terms.specs.declared.fault.ItemFault.TheVariants as errors
use Rattle.acpi_terms.specs.Faults.{operator_reason}
pub use Rattle.acpi_terms.specs.Faults.{Fault, fault_at, part_fault, constant_fault}
use Rattle.acpi_code.specs.Forms.{FixedArgument, name_arg, source_arg, byte_arg, word_arg, dword_arg, count_arg, int_arg, Value, Values, fixed_arguments, external_parts}

-- ---- faults

-- the reading of a part, with its fault as one of items
abbrev pub part : {A : Type 0} → Result A CodeFault → Result A Fault
part read = with_fault part_fault read

-- ---- constants

-- a constant integer (20.2.3)
unfoldable pub const_at : ℕ → List ℕ → Reading Fault Int
const_at end bytes = with_fault constant_fault (int_in end bytes)

-- a constant integer that is a term, `level` levels being left
unfoldable pub int_at : ℕ → ℕ → List ℕ → Reading Fault Int
int_at zero end bytes = Err (part_fault (no_level end bytes))
int_at (suc level) end bytes = const_at end bytes

-- at the place of a Create field's source, by what begins there
abbrev pub source_by : ℕ → List ℕ → Opcode → Reading Fault NameParts
source_by end whole opcodes.Name = part (name_in end whole)
source_by end whole opcodes.Nothing = Err (fault_at end whole BadName)
source_by end whole _ = Err (fault_at end whole Computed)

-- the source of a Create field: a name, with no level
unfoldable pub source_at : ℕ → List ℕ → Reading Fault NameParts
source_at end bytes = do
  x ← part (opcode_at end bytes)
  source_by end bytes x.0

-- the number of arguments of an External, 0 to 7 (20.2.5.2)
unfoldable pub args_in : ℕ → List ℕ → Reading Fault ℕ
args_in end bytes = do
  n ← part (byte_at end bytes)
  if nat_lt 7 n.0 then Err (fault_at end bytes ReservedBits) else Ok n

-- ---- fixed arguments

-- a fixed argument, `level` levels being left for it
abbrev pub argument_at : ℕ → (k : FixedArgument) → ℕ → List ℕ → Reading Fault (Value k)
argument_at level name_arg end bytes = part (name_in end bytes)
argument_at level source_arg end bytes = source_at end bytes
argument_at level byte_arg end bytes = part (byte_at end bytes)
argument_at level word_arg end bytes = part (number_at 2 end bytes)
argument_at level dword_arg end bytes = part (number_at 4 end bytes)
argument_at level count_arg end bytes = args_in end bytes
argument_at level int_arg end bytes = int_at level end bytes

abbrev pub arguments_at : ℕ → (ks : List FixedArgument) → ℕ → List ℕ → Reading Fault (Values ks)
arguments_at level [] end bytes = Ok (tt, bytes)
arguments_at level (k ∷ ks) end bytes =
    argument_at level k end bytes >>=
    λ x. arguments_at level ks end x.1 >>= λ xs. Ok ((x.0, xs.0), xs.1)

-- a form of fixed arguments alone
abbrev pub plain_at : {T : Type 0} → (ks : List FixedArgument) → (Values ks → T) → ℕ → ℕ → List ℕ
    → Reading Fault T
plain_at ks made level end bytes = do
  v ← arguments_at level ks end bytes
  Ok (made v.0, v.1)

-- a form in a package: fixed arguments, and what fills the package to its end
abbrev pub packed_at : {X T : Type 0} → (ks : List FixedArgument) → (Values ks → X → T) → ℕ
    → (ℕ → List ℕ → Result X Fault) → ℕ → List ℕ → Reading Fault T
packed_at ks made level inner end bytes = do
  p ← part (package_at end bytes)
  v ← arguments_at level ks p.end p.content
  x ← inner p.end v.1
  Ok (made v.0 x, p.rest)

-- bytes, whatever they say, fill a package
abbrev pub bytes_in : ℕ → List ℕ → Result (List ℕ) Fault
bytes_in end bytes = Ok bytes

-- ---- data (20.2.3)

abbrev pub int_data : ConstantForm → ℕ → List ℕ → Reading Fault DataTree
int_data form end bytes = do
  x ← part (constant_at form end bytes)
  Ok (int x.0, x.1)

abbrev pub string_data : ℕ → List ℕ → Reading Fault DataTree
string_data end bytes = do
  x ← part (string_at end bytes)
  Ok (str x.0, x.1)

-- DefBuffer: the size is a constant (20.2.5.4)
abbrev pub buffer_data : ℕ → ℕ → List ℕ → Reading Fault DataTree
buffer_data level =
    packed_at (fixed_arguments opcodes.Buffer) (λ v content. buffer v.0 content) level bytes_in

-- DefPackage (20.2.5.4)
abbrev pub package_data : (ℕ → List ℕ → Result ElemTrees Fault) → ℕ → ℕ → List ℕ
    → Reading Fault DataTree
package_data inner level =
    packed_at (fixed_arguments opcodes.Package) (λ v es. pkg v.0 es) level inner

-- DefVarPackage: the count is a constant (20.2.5.4)
abbrev pub var_package_data : (ℕ → List ℕ → Result ElemTrees Fault) → ℕ → ℕ → List ℕ
    → Reading Fault DataTree
var_package_data inner level =
    packed_at (fixed_arguments opcodes.VarPackage) (λ v es. var_pkg v.0 es) level inner

-- Data, by what begins there. `inner` reads elements; they and constants have `level` levels left.
abbrev pub data_by : (ℕ → List ℕ → Result ElemTrees Fault) → ℕ → ℕ → List ℕ → Opcode → List ℕ
    → Reading Fault DataTree
data_by inner level end whole (opcodes.Constant form) rest = int_data form end rest
data_by inner level end whole opcodes.Str rest = string_data end rest
data_by inner level end whole opcodes.Buffer rest = buffer_data level end rest
data_by inner level end whole opcodes.Package rest = package_data inner level end rest
data_by inner level end whole opcodes.VarPackage rest = var_package_data inner level end rest
data_by inner level end whole _ rest = Err (fault_at end whole NotData)

-- an element that is a name, and one that is data
abbrev pub name_elem_at : ℕ → List ℕ → Reading Fault ElemTree
name_elem_at end bytes = do
  n ← part (name_in end bytes)
  Ok (of_name n.0, n.1)

abbrev pub data_elem_of : Reading Fault DataTree → Reading Fault ElemTree
data_elem_of read = do
  d ← read
  Ok (of_data d.0, d.1)

-- PackageElement, by what begins there
abbrev pub elem_by : (ℕ → List ℕ → Result ElemTrees Fault) → ℕ → ℕ → List ℕ → Opcode → List ℕ
    → Reading Fault ElemTree
elem_by inner level end whole front rest =
    if is_name_opcode front then name_elem_at end whole else
    data_elem_of (data_by inner level end whole front rest)

abbrev pub elems_with : (ℕ → List ℕ → Reading Fault ElemTree) → ℕ → List ℕ → Result ElemTrees Fault
elems_with one end bytes = each_at (one end) bytes >>= λ es. Ok (elems_of es)

-- PackageElement: data or a name, `level` levels being left (20.2.5.4)
unfoldable pub elem_at : ℕ → ℕ → List ℕ → Reading Fault ElemTree
elem_at zero end bytes = Err (part_fault (no_level end bytes))
elem_at (suc level) end bytes = do
  x ← part (opcode_at end bytes)
  elem_by (elems_with (elem_at level)) level end bytes x.0 x.1

-- the data of a Name, `level` levels being left
unfoldable pub data_at : ℕ → ℕ → List ℕ → Reading Fault DataTree
data_at zero end bytes = Err (part_fault (no_level end bytes))
data_at (suc level) end bytes = do
  x ← part (opcode_at end bytes)
  data_by (elems_with (elem_at level)) level end bytes x.0 x.1

-- ---- field elements, which have no level (20.2.5.2 FieldElement)

abbrev pub field_at : ℕ → List ℕ → Reading Fault FieldTree
field_at end bytes = with_fault constant_fault (fields.field_at end bytes)

abbrev pub fields_in : ℕ → List ℕ → Result (List FieldTree) Fault
fields_in end bytes = with_fault constant_fault (fields.fields_in end bytes)

-- ---- items (20.2.5.1, 20.2.5.2)

abbrev pub name_item : ℕ → ℕ → List ℕ → Reading Fault ItemTree
name_item level end bytes = do
  n ← part (name_in end bytes)
  d ← data_at level end n.1
  Ok (name n.0 d.0, d.1)

-- what opens a scope: its name, what stands behind that, and items
abbrev pub scope_item : (numbers : List FixedArgument) → (Values numbers → ScopeKind)
    → (ℕ → List ℕ → Result ItemTrees Fault) → ℕ → ℕ → List ℕ → Reading Fault ItemTree
scope_item numbers kind inner level =
    packed_at (name_arg ∷ numbers) (λ v is. scope (kind v.1) v.0 is) level inner

abbrev pub method_item : ℕ → ℕ → List ℕ → Reading Fault ItemTree
method_item level =
    packed_at (fixed_arguments opcodes.Method) (λ v code. method v.0 v.1.0 code) level bytes_in

unfoldable pub parts_at : ℕ → List ℕ → Reading Fault ExternalParts
parts_at = plain_at (fixed_arguments opcodes.External) external_parts 0

-- DefExternal
abbrev pub external_item : ℕ → List ℕ → Reading Fault ItemTree
external_item end bytes = do
  x ← parts_at end bytes
  Ok (external x.0, x.1)

abbrev pub create_item : Width → ℕ → ℕ → List ℕ → Reading Fault ItemTree
create_item w = plain_at (fixed_arguments (opcodes.Create w)) (λ v. create w v.0 v.1.0 v.1.1.0)

abbrev pub create_field_item : ℕ → ℕ → List ℕ → Reading Fault ItemTree
create_field_item =
    plain_at (fixed_arguments opcodes.CreateField) (λ v. create_field v.0 v.1.0 v.1.1.0 v.1.1.1.0)

abbrev pub mutex_item : ℕ → ℕ → List ℕ → Reading Fault ItemTree
mutex_item = plain_at (fixed_arguments opcodes.Mutex) (λ v. mutex v.0 v.1.0)

abbrev pub event_item : ℕ → ℕ → List ℕ → Reading Fault ItemTree
event_item = plain_at (fixed_arguments opcodes.Event) (λ v. event v.0)

abbrev pub region_item : ℕ → ℕ → List ℕ → Reading Fault ItemTree
region_item = plain_at (fixed_arguments opcodes.Region) (λ v. region v.0 v.1.0 v.1.1.0 v.1.1.1.0)

abbrev pub field_item : ℕ → ℕ → List ℕ → Reading Fault ItemTree
field_item level =
    packed_at (fixed_arguments opcodes.Field) (λ v es. field v.0 v.1.0 es) level fields_in

abbrev pub index_field_item : ℕ → ℕ → List ℕ → Reading Fault ItemTree
index_field_item level = packed_at (fixed_arguments opcodes.IndexField)
    (λ v es. index_field v.0 v.1.0 v.1.1.0 es) level fields_in

abbrev pub bank_field_item : ℕ → ℕ → List ℕ → Reading Fault ItemTree
bank_field_item level = packed_at (fixed_arguments opcodes.BankField)
    (λ v es. bank_field v.0 v.1.0 v.1.1.0 v.1.1.1.0 es) level fields_in

-- an External in a block, by what begins there
abbrev pub external_by : ℕ → List ℕ → Opcode → List ℕ → Reading Fault ExternalParts
external_by end whole opcodes.External rest = parts_at end rest
external_by end whole _ rest = Err (fault_at end whole ModuleIf)

unfoldable pub external_at : ℕ → ℕ → List ℕ → Reading Fault ExternalParts
external_at zero end bytes = Err (part_fault (no_level end bytes))
external_at (suc level) end bytes = do
  x ← part (opcode_at end bytes)
  external_by end bytes x.0 x.1

-- `Zero`, and Externals to the end
unfoldable pub block_content : ℕ → ℕ → List ℕ → Result (List ExternalParts) Fault
block_content level end bytes = do
  b ← part (byte_at end bytes)
  if b.0 == 0x00 then each_at (external_at level end) b.1 else Err (fault_at end bytes ModuleIf)

-- in a block every fault but a level above the limit is told of the If itself
abbrev pub block_fault : Fault → ItemReason → Fault → Fault
block_fault told TooDeep f = f
block_fault told _ f = told

abbrev pub in_block : {A : Type 0} → Fault → Result A Fault → Result A Fault
in_block told (Ok x) = Ok x
in_block told (Err f) = Err (block_fault told f.reason f)

-- `If (Zero)` round Externals alone, as compilers write them
abbrev pub block_item : ℕ → ℕ → List ℕ → List ℕ → Reading Fault ItemTree
block_item level end whole bytes = do
  p ← part (package_at end bytes)
  xs ← in_block (fault_at end whole ModuleIf) (block_content level p.end p.content)
  Ok (external_block xs, p.rest)

-- An item, by what begins there. `inner` reads items; they, data and constants have `level` levels left.
abbrev pub item_by : (ℕ → List ℕ → Result ItemTrees Fault) → ℕ → ℕ → List ℕ → Opcode → List ℕ
    → Reading Fault ItemTree
item_by inner level end whole opcodes.DeclareName rest = name_item level end rest
item_by inner level end whole opcodes.Scope rest =
    scope_item [] (λ _. kinds.Scope) inner level end rest
item_by inner level end whole opcodes.Method rest = method_item level end rest
item_by inner level end whole opcodes.External rest = external_item end rest
item_by inner level end whole opcodes.If rest = block_item level end whole rest
item_by inner level end whole (opcodes.Create w) rest = create_item w level end rest
item_by inner level end whole opcodes.CreateField rest = create_field_item level end rest
item_by inner level end whole opcodes.Mutex rest = mutex_item level end rest
item_by inner level end whole opcodes.Event rest = event_item level end rest
item_by inner level end whole opcodes.Region rest = region_item level end rest
item_by inner level end whole opcodes.Field rest = field_item level end rest
item_by inner level end whole opcodes.IndexField rest = index_field_item level end rest
item_by inner level end whole opcodes.BankField rest = bank_field_item level end rest
item_by inner level end whole opcodes.Device rest =
    scope_item [] (λ _. kinds.Device) inner level end rest
item_by inner level end whole opcodes.Processor rest =
    scope_item (byte_arg ∷ dword_arg ∷ byte_arg ∷ [])
    (λ v. kinds.Processor v.0 v.1.0 v.1.1.0) inner level end rest
item_by inner level end whole opcodes.Power rest =
    scope_item (byte_arg ∷ word_arg ∷ []) (λ v. kinds.Power v.0 v.1.0) inner level end rest
item_by inner level end whole opcodes.Thermal rest =
    scope_item [] (λ _. kinds.Thermal) inner level end rest
item_by inner level end whole opcodes.Nothing rest = Err (fault_at end whole BadOpcode)
item_by inner level end whole opcodes.Alias rest = Err (fault_at end whole Alias)
item_by inner level end whole opcodes.Else rest = Err (fault_at end whole ModuleIf)
item_by inner level end whole opcodes.While rest = Err (fault_at end whole ModuleIf)
item_by inner level end whole (opcodes.Operator op) rest =
    Err (fault_at end whole (operator_reason op))
item_by inner level end whole opcodes.DataRegion rest = Err (fault_at end whole DataRegion)
item_by inner level end whole _ rest = Err (fault_at end whole ModuleCode)

abbrev pub items_with : (ℕ → List ℕ → Reading Fault ItemTree) → ℕ → List ℕ → Result ItemTrees Fault
items_with one end bytes = each_at (one end) bytes >>= λ is. Ok (items_of is)

-- an item, `level` levels being left
unfoldable pub item_at : ℕ → ℕ → List ℕ → Reading Fault ItemTree
item_at zero end bytes = Err (part_fault (no_level end bytes))
item_at (suc level) end bytes = do
  x ← part (opcode_at end bytes)
  item_by (items_with (item_at level)) level end bytes x.0 x.1

-- all of the code, with at most `depth` levels
abbrev pub items_at : ℕ → List ℕ → Result ItemTrees Fault
items_at depth code = items_with (item_at depth) (length code) code

-- ---- as the code tells it

-- the fault as an answer
abbrev pub stopped : Fault → ItemFault
stopped f = errors.At f.reason f.place

-- what is answered of a block in which this was answered
abbrev pub block_answer : ItemFault → ItemFault → ItemFault
block_answer told errors.Memory = errors.Memory
block_answer told (errors.At TooDeep place) = errors.At TooDeep place
block_answer told (errors.At _ place) = told

-- the constant at the front of the bytes, if one is spelled there
abbrev pub found : {A : Type 0} → Result A Fault → Option A
found (Ok x) = Some x
found (Err f) = None

abbrev pub int_front : List ℕ → Option (Int × List ℕ)
int_front bytes = found (const_at (length bytes) bytes)
