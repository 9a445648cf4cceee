-- Nodes: what the code of any table is read as, whatever stands at module level (ACPI 6.5, 20.2.5).
use Rattle.std.specs.Prelude.{ℕ, Bool, true, false, List}
use Rattle.acpi_name.specs.Names.{NameParts}
use Rattle.acpi_tree.specs.declared.place.UnitsForm.{UnitsForm}
use Rattle.acpi_tree.specs.Tree.{ExternalParts, FieldTree}
use Rattle.acpi_tree.specs.Terms.{TermTree, TermTrees}
use Rattle.acpi_code.specs.declared.opcode.Opcode.{Opcode}
use Rattle.acpi_code.specs.declared.opcode.Opcode.TheVariants as opcodes
use Rattle.acpi_code.specs.Opcodes.{opcode_bytes}
use Rattle.acpi_code.specs.Forms.{units_opcode}
use Rattle.acpi_outline.specs.declared.form.ContainerForm.{ContainerForm}
use Rattle.acpi_outline.specs.declared.form.ContainerForm.TheVariants as containers
use Rattle.acpi_outline.specs.declared.form.PackedForm.{PackedForm}
use Rattle.acpi_outline.specs.declared.form.PackedForm.TheVariants as forms
use Rattle.acpi_outline.specs.declared.form.DataForm.{DataForm}
use Rattle.acpi_outline.specs.declared.form.DataForm.TheVariants as datas
use Rattle.acpi_outline.specs.declared.fault.LostFault.{LostFault}

-- A term in which no nodes stand: a declaration, a statement, or what has no effect where a statement stands; a name
-- that another table defines; another name for an object; a region that is a table, and what finds the table.
pub data PlainTree : Type 0 where
  term : TermTree → PlainTree
  external : ExternalParts → PlainTree
  alias : (source : NameParts) → NameParts → PlainTree
  table_region : NameParts → (operands : TermTrees) → PlainTree

-- The fixed arguments of a package, which stand before the list in it: the name of a Scope; the name and the numbers of
-- a Device, Processor, PowerResource or ThermalZone; the name and flags of a Method; the predicate of an If or While;
-- none of an Else; the names and operands of a declaration of field units.
pub data FixedTree : Type 0 where
  scope : NameParts → FixedTree
  container : ContainerForm → NameParts → (numbers : TermTrees) → FixedTree
  method : NameParts → ℕ → FixedTree
  if_so : TermTree → FixedTree
  otherwise : FixedTree
  while_so : TermTree → FixedTree
  units : UnitsForm → List NameParts → (operands : TermTrees) → FixedTree

-- The elements of a field list (20.2.5.2), each with its place and the number of bits before it in the list, to the end
-- or to where the rest is lost.
pub data FieldNodes : Type 0 where
  no_more_fields : FieldNodes
  fields_lost : (place : ℕ) → LostFault → FieldNodes
  field_node : (place offset : ℕ) → FieldTree → FieldNodes → FieldNodes

-- A node is plain, or a package: one that holds nodes or the elements of a field list, one that is not gone into, or
-- one whose fixed arguments can't be read, and why. Or it is a statement that is data in a package, or a Name with such
-- data, where the data can't be read, and why.
-- A list of nodes ends with its bytes, or where the rest of them is lost, and why. Each node and the rest that is lost
-- have the place of their first byte.
mutual
  pub data NodeTree : Type 0 where
    plain : PlainTree → NodeTree
    holds : FixedTree → NodeTrees → NodeTree
    holds_fields : FixedTree → FieldNodes → NodeTree
    closed : FixedTree → (content : List ℕ) → NodeTree
    package_lost : PackedForm → LostFault → NodeTree
    data_lost : DataForm → LostFault → NodeTree
    name_lost : NameParts → DataForm → LostFault → NodeTree

  pub data NodeTrees : Type 0 where
    no_more : NodeTrees
    lost : (place : ℕ) → LostFault → NodeTrees
    node : (place : ℕ) → NodeTree → NodeTrees → NodeTrees

-- ---- forms of packages

abbrev pub form_of : FixedTree → PackedForm
form_of (scope n) = forms.Scope
form_of (container form n vs) = forms.Container form
form_of (method n flags) = forms.Method
form_of (if_so v) = forms.If
form_of otherwise = forms.Else
form_of (while_so v) = forms.While
form_of (units form ns vs) = forms.Units form

abbrev pub container_opcode : ContainerForm → Opcode
container_opcode containers.Device = opcodes.Device
container_opcode containers.Processor = opcodes.Processor
container_opcode containers.Power = opcodes.Power
container_opcode containers.Thermal = opcodes.Thermal

abbrev pub form_opcode : PackedForm → Opcode
form_opcode forms.Scope = opcodes.Scope
form_opcode (forms.Container form) = container_opcode form
form_opcode forms.Method = opcodes.Method
form_opcode forms.If = opcodes.If
form_opcode forms.Else = opcodes.Else
form_opcode forms.While = opcodes.While
form_opcode (forms.Units form) = units_opcode form

abbrev pub form_bytes : PackedForm → List ℕ
form_bytes form = opcode_bytes (form_opcode form)

-- a field list stands behind them, and no nodes
abbrev pub has_fields : FixedTree → Bool
has_fields (units form ns vs) = true
has_fields _ = false

-- data
abbrev pub data_opcode : DataForm → Opcode
data_opcode datas.Buffer = opcodes.Buffer
data_opcode datas.Package = opcodes.Package
data_opcode datas.VarPackage = opcodes.VarPackage

abbrev pub data_bytes : DataForm → List ℕ
data_bytes form = opcode_bytes (data_opcode form)
