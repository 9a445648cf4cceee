-- What a part of a table's code declares, and the predefined objects (ACPI 6.5, 5.3, 5.3.1, 5.7 and 20.2.5).
use Rattle.std.specs.Prelude.{ℕ, nat_le, nat_eq, if◌then◌else◌, Option, Some, None, unwrap_or}
use Rattle.acpi_tree.specs.declared.object.FieldForm.TheVariants as forms
use Rattle.acpi_tree.specs.declared.place.NamedForm.{NamedForm}
use Rattle.acpi_tree.specs.declared.place.NamedForm.TheVariants as nameds
use Rattle.acpi_tree.specs.declared.place.UnitsForm.{UnitsForm}
use Rattle.acpi_tree.specs.declared.place.UnitsForm.TheVariants as fields
use Rattle.acpi_tree.specs.Terms.{TermTree, TermTrees, raw, ref, declare, more}
use Rattle.acpi_tree.specs.Tree.{FieldTree, unit}
use Rattle.acpi_tree.specs.Objects.{root_object, scope_object, predefined_object, device_object, processor_object, power_object, thermal_object, method_object, mutex_object, event_object, field_object}
use Rattle.acpi_outline.specs.declared.form.ContainerForm.{ContainerForm}
use Rattle.acpi_outline.specs.declared.form.ContainerForm.TheVariants as containers
use Rattle.acpi_outline.specs.Nodes.{PlainTree, term, FixedTree, container, method, units, NodeTree, plain, holds, closed, name_lost}
use Rattle.acpi_outline.specs.Nodes.{table_region as region_of_table, alias as other_name}
use Rattle.acpi_ranges.specs.Lookup.{Found, node_found, element_found}
use Rattle.acpi_kinds.specs.Objects.{ObjectParts, constant, named, region, table_region, alias, bank_unit, create, create_bits}

-- ---- terms

-- a source that is no name
abbrev pub computed : TermTree → Option TermTree
computed (ref n) = None
computed t = Some t

-- the flags of a mutex
abbrev pub mutex_of : TermTree → Option ObjectParts
mutex_of (raw size flags) = Some (constant (mutex_object flags))
mutex_of _ = None

abbrev pub region_of : TermTree → (offset length : TermTree) → Option ObjectParts
region_of (raw size space) offset length = Some (region space offset length)
region_of _ offset length = None

-- by a declaration of one name, with what stands before the name and behind it
abbrev pub named_object : NamedForm → (before behind : TermTrees) → Option ObjectParts
named_object nameds.Name before (more v vs) = Some (named (Some v))
named_object (nameds.Create width) (more s (more i vs)) behind = Some (create width (computed s) i)
named_object nameds.CreateField (more s (more i (more b vs))) behind =
    Some (create_bits (computed s) i b)
named_object nameds.Mutex before (more flags vs) = mutex_of flags
named_object nameds.Event before behind = Some (constant event_object)
named_object nameds.Region before (more space (more o (more l vs))) = region_of space o l
named_object _ before behind = None

abbrev pub term_object : TermTree → Option ObjectParts
term_object (declare form before n behind) = named_object form before behind
term_object _ = None

abbrev pub plain_object : PlainTree → Option ObjectParts
plain_object (term t) = term_object t
plain_object (other_name source n) = Some alias
plain_object (region_of_table n (more signature (more oem_id (more oem_table_id vs)))) =
    Some (table_region signature oem_id oem_table_id)
plain_object _ = None

-- ---- packages

abbrev pub processor_of : TermTrees → Option ObjectParts
processor_of (more (raw s id) (more (raw t block) (more (raw u length) vs))) =
    Some (constant (processor_object id block length))
processor_of _ = None

abbrev pub power_of : TermTrees → Option ObjectParts
power_of (more (raw s deepest) (more (raw t order) vs)) =
    Some (constant (power_object deepest order))
power_of _ = None

abbrev pub container_object : ContainerForm → TermTrees → Option ObjectParts
container_object containers.Device vs = Some (constant device_object)
container_object containers.Processor vs = processor_of vs
container_object containers.Power vs = power_of vs
container_object containers.Thermal vs = Some (constant thermal_object)

abbrev pub fixed_object : FixedTree → Option ObjectParts
fixed_object (container form n vs) = container_object form vs
fixed_object (method n flags) = Some (constant (method_object flags))
fixed_object _ = None

abbrev pub node_object : NodeTree → Option ObjectParts
node_object (plain p) = plain_object p
node_object (holds f ns) = fixed_object f
node_object (closed f content) = fixed_object f
node_object (name_lost n form why) = Some (named None)
node_object _ = None

-- ---- field elements

-- an element of so many bits at an offset, by the form of its list and what stands before the elements
abbrev pub unit_object : UnitsForm → TermTrees → (offset bits : ℕ) → Option ObjectParts
unit_object fields.Field (more (raw s flags) vs) offset bits =
    Some (constant (field_object forms.Field flags offset bits))
unit_object fields.IndexField (more (raw s flags) vs) offset bits =
    Some (constant (field_object forms.Index flags offset bits))
unit_object fields.BankField (more value (more (raw s flags) vs)) offset bits =
    Some (bank_unit value flags offset bits)
unit_object _ vs offset bits = None

abbrev pub units_object : FixedTree → (offset bits : ℕ) → Option ObjectParts
units_object (units form names vs) offset bits = unit_object form vs offset bits
units_object _ offset bits = None

abbrev pub element_object : FixedTree → (offset : ℕ) → FieldTree → Option ObjectParts
element_object f offset (unit g bits) = units_object f offset bits
element_object f offset _ = None

-- what a part declares, if it declares something
abbrev pub object_in : Found → Option ObjectParts
object_in (node_found to n) = node_object n
object_in (element_found to f offset e) = element_object f offset e

-- ---- before all tables

-- the object of that number: the root, five scopes, `\_GL_`, `\_OSI` and two more
abbrev pub predefined : ℕ → ObjectParts
predefined number =
    if nat_eq number 0 then constant root_object
    else (if nat_le number 5 then constant scope_object
    else (if nat_eq number 6 then constant (mutex_object 0)
    else (if nat_eq number 7 then constant (method_object 1)
    else constant predefined_object)))

-- ---- entries, by their numbers

-- what the part declares; without a part the predefined object of that number
abbrev pub object_of : Option Found → ℕ → ObjectParts
object_of None n = predefined n
object_of (Some part) n = unwrap_or (object_in part) (constant predefined_object)
