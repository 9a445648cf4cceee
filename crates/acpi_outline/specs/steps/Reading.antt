-- Reading nodes from left to right, over the readings of parts and of values (ACPI 6.5, 20.2).
-- A list of bytes is read whose end stands at the place `end` of the code, so what is left of it begins at the place
-- `end - length bytes`.
use Rattle.std.specs.Prelude.{◌-◌, ℕ, zero, suc, Bool, true, false, List, [], ◌∷◌, length, Option, Some, None, Result, Ok, Err, nat_lt, ◌==◌, if◌then◌else◌}
use Rattle.acpi_name.specs.Names.{NameParts}
use Rattle.acpi_tree.specs.declared.tree.Int.TheVariants.{Zero}
use Rattle.acpi_tree.specs.declared.place.Place.{Place}
use Rattle.acpi_tree.specs.declared.place.Place.TheVariants.{Value, Source, SuperName, Statement}
use Rattle.acpi_tree.specs.declared.place.OperandKind.{OperandKind}
use Rattle.acpi_tree.specs.declared.place.OperandKind.TheVariants.{At}
use Rattle.acpi_tree.specs.declared.place.NamedForm.{NamedForm}
use Rattle.acpi_tree.specs.declared.place.NamedForm.TheVariants as named
use Rattle.acpi_tree.specs.declared.place.UnitsForm.{UnitsForm}
use Rattle.acpi_tree.specs.declared.place.UnitsForm.TheVariants as fields
use Rattle.acpi_tree.specs.Tree.{FieldTree}
use Rattle.acpi_tree.specs.Terms.{TermTree, int, ref, declare, terms_of}
use Rattle.acpi_tree.specs.Operators.{names_of_units, operands_of_units}
use Rattle.acpi_code.specs.declared.fault.CodeFault.{CodeFault}
use Rattle.acpi_code.specs.declared.fault.ConstantFault.{ConstantFault}
use Rattle.acpi_code.specs.declared.opcode.Opcode.{Opcode}
use Rattle.acpi_code.specs.declared.opcode.Opcode.TheVariants as opcodes
use Rattle.acpi_code.specs.Opcodes.{is_name_start}
use Rattle.acpi_code.specs.steps.Reading.{◌>>=◌, Reading, Package, with_fault, no_level, byte_at, package_at, name_in, opcode_at}
use Rattle.acpi_code.specs.steps.Fields.{field_at}
use Rattle.acpi_values.specs.declared.fault.BodyFault.{BodyFault}
use Rattle.acpi_values.specs.steps.Reading.{operands_at, term_at}
use Rattle.acpi_outline.specs.declared.form.ContainerForm.{ContainerForm}
use Rattle.acpi_outline.specs.declared.form.ContainerForm.TheVariants as containers
use Rattle.acpi_outline.specs.declared.form.PackedForm.{PackedForm}
use Rattle.acpi_outline.specs.declared.form.PackedForm.TheVariants as forms
use Rattle.acpi_outline.specs.declared.form.DataForm.{DataForm}
use Rattle.acpi_outline.specs.declared.form.DataForm.TheVariants as datas
use Rattle.acpi_outline.specs.declared.fault.LostReason.TheVariants.{NoNode, ManyArguments}
use Rattle.acpi_outline.specs.declared.fault.LostFault.{LostFault}
pub use Rattle.acpi_outline.specs.Faults.{fault_at}
use Rattle.acpi_outline.specs.Faults.{term_fault, part_fault, element_fault}
use Rattle.acpi_outline.specs.Nodes.{PlainTree, term, external, alias, table_region, FixedTree, scope, container, method, if_so, otherwise, while_so, units, FieldNodes, no_more_fields, fields_lost, field_node}
use Rattle.acpi_outline.specs.Nodes.{NodeTree, plain, holds, holds_fields, closed, package_lost, data_lost, name_lost, NodeTrees, no_more, lost, node, has_fields}
use Rattle.acpi_outline.specs.Rules.{Rules, grammar_at, goes_into, after}
use Rattle.acpi_outline.specs.Outline.{operands_after, container_operands, bits_behind}

-- ---- faults

-- the reading of a part of code, and that of a term, with their faults as faults of lost ranges
abbrev pub part : {A : Type 0} → Result A CodeFault → Result A LostFault
part read = with_fault part_fault read

abbrev pub of_term : {A : Type 0} → Result A BodyFault → Result A LostFault
of_term read = with_fault term_fault read

-- ---- plain nodes

-- a value in the place of a source
abbrev pub source_at : {S : Type 0} → Rules S → ℕ → S → ℕ → List ℕ → Reading LostFault TermTree
source_at r level known end bytes = of_term (term_at (grammar_at r known) level Source end bytes)

-- a name that is never a call
unfoldable pub reference_in : ℕ → List ℕ → Reading LostFault TermTree
reference_in end bytes = do
  n ← part (name_in end bytes)
  Ok (ref n.0, n.1)

-- the source of a Create form; a name has no level
abbrev pub source_in : {S : Type 0} → Rules S → ℕ → S → ℕ → List ℕ → Reading LostFault TermTree
source_in r level known end [] = source_at r level known end []
source_in r level known end (b ∷ rest) =
    if is_name_start b then reference_in end (b ∷ rest) else source_at r level known end (b ∷ rest)

-- .. and operands of these kinds behind it
unfoldable pub sourced_in : {S : Type 0} → Rules S → ℕ → S → List OperandKind → ℕ → List ℕ
    → Reading LostFault (List TermTree)
sourced_in r level known ks end bytes = do
  v ← source_in r level known end bytes
  vs ← of_term (operands_at (term_at (grammar_at r known) level) ks end v.1)
  Ok (v.0 ∷ vs.0, vs.1)

-- what stands before a declared name
abbrev pub first_in : {S : Type 0} → Rules S → ℕ → S → NamedForm → ℕ → List ℕ
    → Reading LostFault (List TermTree)
first_in r level known (named.Create w) end bytes =
    sourced_in r level known (At Value ∷ []) end bytes
first_in r level known named.CreateField end bytes =
    sourced_in r level known (At Value ∷ At Value ∷ []) end bytes
first_in r level known _ end bytes = Ok ([], bytes)

-- a declaration, behind its opcode
unfoldable pub named_in : {S : Type 0} → Rules S → ℕ → S → NamedForm → ℕ → List ℕ
    → Reading LostFault PlainTree
named_in r level known form end bytes = do
  us ← first_in r level known form end bytes
  n ← part (name_in end us.1)
  vs ← of_term (operands_at (term_at (grammar_at r known) level) (operands_after form) end n.1)
  Ok (term (declare form (terms_of us.0) n.0 (terms_of vs.0)), vs.1)

-- an External, behind its opcode
unfoldable pub external_in : ℕ → List ℕ → Reading LostFault PlainTree
external_in end bytes = do
  n ← part (name_in end bytes)
  kind ← part (byte_at end n.1)
  args ← part (byte_at end kind.1)
  if nat_lt 7 args.0 then Err (fault_at end kind.1 ManyArguments) else
      Ok (external (record { name = n.0; kind = kind.0; args = args.0 }), args.1)

-- a term as one stands at a place; `whole` from its opcode on, `level` levels being left inside it
unfoldable pub term_in : {S : Type 0} → Rules S → ℕ → S → Place → ℕ → List ℕ
    → Reading LostFault PlainTree
term_in r level known place end whole = do
  t ← of_term (term_at (grammar_at r known) (suc level) place end whole)
  Ok (term t.0, t.1)

-- an Alias, behind its opcode
unfoldable pub alias_in : ℕ → List ℕ → Reading LostFault PlainTree
alias_in end bytes = do
  source ← part (name_in end bytes)
  n ← part (name_in end source.1)
  Ok (alias source.0 n.0, n.1)

-- a region that is a table, behind its opcode
unfoldable pub table_region_in : {S : Type 0} → Rules S → ℕ → S → ℕ → List ℕ
    → Reading LostFault PlainTree
table_region_in r level known end bytes = do
  n ← part (name_in end bytes)
  vs ← of_term
      (operands_at (term_at (grammar_at r known) level)
      (At Value ∷ At Value ∷ At Value ∷ []) end n.1)
  Ok (table_region n.0 (terms_of vs.0), vs.1)

-- a plain node, by what begins there
abbrev pub plain_by : {S : Type 0} → Rules S → ℕ → S → ℕ → List ℕ → Opcode → List ℕ
    → Reading LostFault PlainTree
plain_by r level known end whole opcodes.DeclareName rest =
    named_in r level known named.Name end rest
plain_by r level known end whole opcodes.Region rest = named_in r level known named.Region end rest
plain_by r level known end whole opcodes.Mutex rest = named_in r level known named.Mutex end rest
plain_by r level known end whole opcodes.Event rest = named_in r level known named.Event end rest
plain_by r level known end whole (opcodes.Create w) rest =
    named_in r level known (named.Create w) end rest
plain_by r level known end whole opcodes.CreateField rest =
    named_in r level known named.CreateField end rest
plain_by r level known end whole opcodes.External rest = external_in end rest
plain_by r level known end whole opcodes.Alias rest = alias_in end rest
plain_by r level known end whole opcodes.DataRegion rest = table_region_in r level known end rest
plain_by r level known end whole opcodes.Buffer rest = term_in r level known Statement end whole
plain_by r level known end whole opcodes.Package rest = term_in r level known Statement end whole
plain_by r level known end whole opcodes.VarPackage rest = term_in r level known Statement end whole
plain_by r level known end whole opcodes.Name rest = term_in r level known Statement end whole
plain_by r level known end whole (opcodes.Operator op) rest =
    term_in r level known Statement end whole
plain_by r level known end whole (opcodes.Constant form) rest =
    term_in r level known Value end whole
plain_by r level known end whole opcodes.Str rest = term_in r level known Value end whole
plain_by r level known end whole (opcodes.Local n) rest = term_in r level known Value end whole
plain_by r level known end whole (opcodes.Arg n) rest = term_in r level known Value end whole
plain_by r level known end whole opcodes.Debug rest = term_in r level known SuperName end whole
plain_by r level known end whole _ rest = Err (fault_at end whole NoNode)

-- .. as a node
unfoldable pub plain_in : {S : Type 0} → Rules S → ℕ → S → ℕ → List ℕ → Opcode → List ℕ
    → Reading LostFault NodeTree
plain_in r level known end whole opcode rest = do
  p ← plain_by r level known end whole opcode rest
  Ok (plain p.0, p.1)

-- ---- fixed arguments

-- a value
abbrev pub value_in : {S : Type 0} → Rules S → ℕ → S → ℕ → List ℕ → Reading LostFault TermTree
value_in r level known end bytes = of_term (term_at (grammar_at r known) level Value end bytes)

-- the test of an If; the byte 00 has no level
abbrev pub test_in : {S : Type 0} → Rules S → ℕ → S → ℕ → List ℕ → Reading LostFault TermTree
test_in r level known end [] = value_in r level known end []
test_in r level known end (b ∷ rest) =
    if b == 0x00 then Ok (int Zero, rest) else value_in r level known end (b ∷ rest)

-- so many names
unfoldable pub names_in : ℕ → ℕ → List ℕ → Reading LostFault (List NameParts)
names_in zero end bytes = Ok ([], bytes)
names_in (suc count) end bytes = do
  n ← part (name_in end bytes)
  ns ← names_in count end n.1
  Ok (n.0 ∷ ns.0, ns.1)

-- the name and the numbers of a package with a scope of its own
unfoldable pub container_in : {S : Type 0} → Rules S → ℕ → S → ContainerForm → ℕ → List ℕ
    → Reading LostFault FixedTree
container_in r level known form end bytes = do
  n ← part (name_in end bytes)
  vs ← of_term (operands_at (term_at (grammar_at r known) level) (container_operands form) end n.1)
  Ok (container form n.0 (terms_of vs.0), vs.1)

-- the names and operands of a declaration of field units
unfoldable pub units_in : {S : Type 0} → Rules S → ℕ → S → UnitsForm → ℕ → List ℕ
    → Reading LostFault FixedTree
units_in r level known form end bytes = do
  ns ← names_in (names_of_units form) end bytes
  vs ← of_term (operands_at (term_at (grammar_at r known) level) (operands_of_units form) end ns.1)
  Ok (units form ns.0 (terms_of vs.0), vs.1)

abbrev pub fixed_by : {S : Type 0} → Rules S → ℕ → S → PackedForm → ℕ → List ℕ
    → Reading LostFault FixedTree
fixed_by r level known forms.Scope end bytes = part (name_in end bytes) >>= λ n. Ok (scope n.0, n.1)
fixed_by r level known (forms.Container form) end bytes = container_in r level known form end bytes
fixed_by r level known forms.Method end bytes = part
    (name_in end bytes) >>=
    λ n. part (byte_at end n.1) >>= λ flags. Ok (method n.0 flags.0, flags.1)
fixed_by r level known forms.If end bytes =
    test_in r level known end bytes >>= λ v. Ok (if_so v.0, v.1)
fixed_by r level known forms.Else end bytes = Ok (otherwise, bytes)
fixed_by r level known forms.While end bytes =
    test_in r level known end bytes >>= λ v. Ok (while_so v.0, v.1)
fixed_by r level known (forms.Units form) end bytes = units_in r level known form end bytes

unfoldable pub fixed_in : {S : Type 0} → Rules S → ℕ → S → PackedForm → ℕ → List ℕ
    → Reading LostFault FixedTree
fixed_in r level known form end bytes = fixed_by r level known form end bytes

-- ---- packages

-- a reader of nodes to the end of the bytes
abbrev pub Nodes : Type 0 → Type 0
Nodes S = S → ℕ → List ℕ → NodeTrees

-- the elements behind what was read at a place, so many bits standing before it, or nothing but what is lost from there
-- on
abbrev pub then_fields : (place offset : ℕ) → Reading ConstantFault FieldTree
    → (FieldTree × List ℕ → FieldNodes) → FieldNodes
then_fields place offset (Ok x) next = field_node place offset x.0 (next x)
then_fields place offset (Err f) next = fields_lost place (element_fault f)

-- the elements of a field list behind so many bits of it; the first number bounds the turns, and the length is enough
unfoldable pub fields_with : (turns end offset : ℕ) → List ℕ → FieldNodes
fields_with zero end offset bytes = no_more_fields
fields_with (suc n) end offset [] = no_more_fields
fields_with (suc n) end offset (b ∷ rest) =
    then_fields (end - length (b ∷ rest)) offset (field_at end (b ∷ rest))
    (λ x. fields_with n end (bits_behind offset x.0) x.1)

abbrev pub fields_at : ℕ → List ℕ → FieldNodes
fields_at end bytes = fields_with (length bytes) end 0 bytes

-- what fills a package that isn't gone into
abbrev pub unentered : FixedTree → ℕ → List ℕ → Bool → NodeTree
unentered f end content true = holds_fields f (fields_at end content)
unentered f end content false = closed f content

-- what fills a package whose front was read, if one goes into it
abbrev pub filled_by : {S : Type 0} → Rules S → Nodes S → ℕ → S → FixedTree → Bool → ℕ → List ℕ
    → NodeTree
filled_by r inner place known f true end content =
    holds f (inner (r.enter known place f) end content)
filled_by r inner place known f false end content = unentered f end content (has_fields f)

abbrev pub packed_by : {S : Type 0} → Rules S → Nodes S → ℕ → S → PackedForm → ℕ
    → Reading LostFault FixedTree → NodeTree
packed_by r inner place known form end (Ok f) =
    filled_by r inner place known f.0 (goes_into r known f.0) end f.1
packed_by r inner place known form end (Err why) = package_lost form why

-- the package of a node, behind its opcode
unfoldable pub packed_in : {S : Type 0} → Rules S → ℕ → Nodes S → ℕ → S → PackedForm → ℕ → List ℕ
    → Reading LostFault NodeTree
packed_in r level inner place known form end bytes = do
  p ← part (package_at end bytes)
  Ok (
    packed_by r inner place known form p.end (fixed_in r level known form p.end p.content),
    p.rest,
  )

-- ---- nodes

abbrev pub packed_form : Opcode → Option PackedForm
packed_form opcodes.Scope = Some forms.Scope
packed_form opcodes.Device = Some (forms.Container containers.Device)
packed_form opcodes.Processor = Some (forms.Container containers.Processor)
packed_form opcodes.Power = Some (forms.Container containers.Power)
packed_form opcodes.Thermal = Some (forms.Container containers.Thermal)
packed_form opcodes.Method = Some forms.Method
packed_form opcodes.If = Some forms.If
packed_form opcodes.Else = Some forms.Else
packed_form opcodes.While = Some forms.While
packed_form opcodes.Field = Some (forms.Units fields.Field)
packed_form opcodes.IndexField = Some (forms.Units fields.IndexField)
packed_form opcodes.BankField = Some (forms.Units fields.BankField)
packed_form _ = None

-- ---- data that can't be read, in a package that ends within its list

abbrev pub data_form : Opcode → Option DataForm
data_form opcodes.Buffer = Some datas.Buffer
data_form opcodes.Package = Some datas.Package
data_form opcodes.VarPackage = Some datas.VarPackage
data_form _ = None

-- the node of a package, behind its opcode
abbrev pub packed_as : NodeTree → LostFault → Result Package CodeFault → Reading LostFault NodeTree
packed_as n why (Ok p) = Ok (n, p.rest)
packed_as n why (Err f) = Err why

abbrev pub data_by : NameParts → LostFault → ℕ → List ℕ → Option DataForm
    → Reading LostFault NodeTree
data_by n why end bytes (Some form) = packed_as (name_lost n form why) why (package_at end bytes)
data_by n why end bytes None = Err why

abbrev pub opened_data : NameParts → LostFault → ℕ → Reading CodeFault Opcode
    → Reading LostFault NodeTree
opened_data n why end (Ok x) = data_by n why end x.1 (data_form x.0)
opened_data n why end (Err f) = Err why

abbrev pub named_data : LostFault → ℕ → Reading CodeFault NameParts → Reading LostFault NodeTree
named_data why end (Ok n) = opened_data n.0 why end (opcode_at end n.1)
named_data why end (Err f) = Err why

-- a Name, behind its opcode, `level` levels being left for its data
abbrev pub name_at_level : ℕ → LostFault → ℕ → List ℕ → Reading LostFault NodeTree
name_at_level zero why end rest = Err why
name_at_level (suc level) why end rest = named_data why end (name_in end rest)

-- the package of a statement, or that of a Name's data, behind its opcode
abbrev pub contained_by : ℕ → LostFault → ℕ → Opcode → List ℕ → Reading LostFault NodeTree
contained_by level why end opcodes.Buffer rest =
    packed_as (data_lost datas.Buffer why) why (package_at end rest)
contained_by level why end opcodes.Package rest =
    packed_as (data_lost datas.Package why) why (package_at end rest)
contained_by level why end opcodes.VarPackage rest =
    packed_as (data_lost datas.VarPackage why) why (package_at end rest)
contained_by level why end opcodes.DeclareName rest = name_at_level level why end rest
contained_by level why end _ rest = Err why

-- a plain node, or what holds its fault
abbrev pub or_contained : ℕ → ℕ → Opcode → List ℕ → Reading LostFault NodeTree
    → Reading LostFault NodeTree
or_contained level end opcode rest (Ok x) = Ok x
or_contained level end opcode rest (Err why) = contained_by level why end opcode rest

abbrev pub node_by : {S : Type 0} → Rules S → ℕ → Nodes S → S → ℕ → List ℕ → Opcode → List ℕ
    → Option PackedForm → Reading LostFault NodeTree
node_by r level inner known end whole opcode rest (Some form) =
    packed_in r level inner (end - length whole) known form end rest
node_by r level inner known end whole opcode rest None =
    or_contained level end opcode rest (plain_in r level known end whole opcode rest)

-- the nodes behind what was read at a place, or nothing but what is lost from there on
abbrev pub then_nodes : ℕ → Reading LostFault NodeTree → (NodeTree × List ℕ → NodeTrees) → NodeTrees
then_nodes place (Ok x) next = node place x.0 (next x)
then_nodes place (Err why) next = lost place why

-- One after another to the end of the bytes, each under the state behind those before it. The number bounds the turns,
-- and the length is enough.
unfoldable pub nodes_with : {S : Type 0} → Rules S → (S → ℕ → List ℕ → Reading LostFault NodeTree)
    → ℕ → S → ℕ → List ℕ → NodeTrees
nodes_with r one zero known end bytes = no_more
nodes_with r one (suc n) known end [] = no_more
nodes_with r one (suc n) known end (b ∷ rest) =
    let place = end - length (b ∷ rest) in
    then_nodes place (one known end (b ∷ rest))
    (λ x. nodes_with r one n (after r place known x.0) end x.1)

abbrev pub nodes_by : {S : Type 0} → Rules S → (S → ℕ → List ℕ → Reading LostFault NodeTree)
    → Nodes S
nodes_by r one known end bytes = nodes_with r one (length bytes) known end bytes

-- a node, `level` levels being left for it
unfoldable pub node_at : {S : Type 0} → Rules S → ℕ → S → ℕ → List ℕ → Reading LostFault NodeTree
node_at r zero known end bytes = Err (part_fault (no_level end bytes))
node_at r (suc level) known end bytes = do
  x ← part (opcode_at end bytes)
  node_by r level (nodes_by r (node_at r level)) known end bytes x.0 x.1 (packed_form x.0)

-- the nodes of a list, `level` levels being left for each
abbrev pub nodes_at : {S : Type 0} → Rules S → ℕ → Nodes S
nodes_at r level = nodes_by r (node_at r level)
