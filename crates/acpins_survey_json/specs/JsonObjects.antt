-- What terms declare, as members of JSON (ACPI 6.5, 5.3 and 20.2.5.2).
use Rattle.std.specs.Prelude.{ℕ, ◌/◌, ◌%◌, nat_eq, List, Option, Some, None, codes}
use Rattle.acpi_tree.specs.declared.object.FieldForm.{FieldForm}
use Rattle.acpi_tree.specs.declared.object.FieldForm.TheVariants as forms
use Rattle.acpi_tree.specs.declared.tree.Width.{Width}
use Rattle.acpi_tree.specs.declared.tree.Width.TheVariants as widths
use Rattle.acpi_tree.specs.Objects.{ObjectTree, root_object, scope_object, predefined_object, device_object, processor_object, power_object, thermal_object, name_object, method_object, region_object, mutex_object, event_object, field_object, create_object, create_field_object}
use Rattle.acpi_tree.specs.Terms.{TermTree}
use Rattle.acpins_survey_json.specs.Json.{Value, boolean, string, object, Members, no_members, member}
use Rattle.acpins_survey_json.specs.JsonValues.{number_value, term_value, value_or_null}
use Rattle.acpi_objects.specs.Objects.{ObjectParts, constant, named, region, table_region, alias, bank_unit, create, create_bits}

-- ---- kinds

abbrev pub form_kind : FieldForm → List ℕ
form_kind forms.Field = codes "field"
form_kind forms.Index = codes "index_field"
form_kind (forms.Bank value) = codes "bank_field"

abbrev pub width_kind : Width → List ℕ
width_kind widths.DWord = codes "create_dword_field"
width_kind widths.Word = codes "create_word_field"
width_kind widths.Byte = codes "create_byte_field"
width_kind widths.Bit = codes "create_bit_field"
width_kind widths.QWord = codes "create_qword_field"

abbrev pub constant_kind : ObjectTree → List ℕ
constant_kind root_object = codes "root"
constant_kind scope_object = codes "scope"
constant_kind predefined_object = codes "predefined"
constant_kind device_object = codes "device"
constant_kind (processor_object id block length) = codes "processor"
constant_kind (power_object deepest order) = codes "power_resource"
constant_kind thermal_object = codes "thermal_zone"
constant_kind (name_object d) = codes "name"
constant_kind (method_object flags) = codes "method"
constant_kind (region_object space offset length) = codes "operation_region"
constant_kind (mutex_object flags) = codes "mutex"
constant_kind event_object = codes "event"
constant_kind (field_object form flags offset bits) = form_kind form
constant_kind (create_object width index) = width_kind width
constant_kind (create_field_object index bits) = codes "create_field"

abbrev pub kind_of : ObjectParts → List ℕ
kind_of (constant o) = constant_kind o
kind_of (named v) = codes "name"
kind_of (region space offset length) = codes "operation_region"
kind_of (table_region signature oem_id oem_table_id) = codes "data_table_region"
kind_of alias = codes "alias"
kind_of (bank_unit v flags offset bits) = codes "bank_field"
kind_of (create width source index) = width_kind width
kind_of (create_bits source index bits) = codes "create_field"

-- ---- what is known of an object

abbrev pub processor_members : (id block length : ℕ) → Members
processor_members id block length =
    member (codes "id") (number_value id)
    (member (codes "block") (number_value block)
    (member (codes "length") (number_value length) no_members))

abbrev pub power_members : (deepest order : ℕ) → Members
power_members deepest order = member (codes "level") (number_value deepest)
    (member (codes "order") (number_value order) no_members)

-- by the flags of a method: arguments, whether it is serialized, and the sync level (20.2.5.2)
abbrev pub method_members : (flags : ℕ) → Members
method_members flags =
    member (codes "arguments") (number_value (flags % 8))
    (member (codes "serialized") (boolean (nat_eq (flags / 8 % 2) 1))
    (member (codes "sync_level") (number_value (flags / 16)) no_members))

abbrev pub unit_members : (flags offset bits : ℕ) → Members → Members
unit_members flags offset bits ms =
    member (codes "offset") (number_value offset)
    (member (codes "bits") (number_value bits) (member (codes "flags") (number_value flags) ms))

abbrev pub region_members : (space : ℕ) → (offset length : TermTree) → Members
region_members space offset length =
    member (codes "space") (number_value space)
    (member (codes "offset") (term_value offset)
    (member (codes "length") (term_value length) no_members))

abbrev pub table_members : (signature oem_id oem_table_id : TermTree) → Members
table_members signature oem_id oem_table_id =
    member (codes "signature") (term_value signature)
    (member (codes "oem_id") (term_value oem_id)
    (member (codes "oem_table_id") (term_value oem_table_id) no_members))

abbrev pub create_members : Option TermTree → (index : TermTree) → Members → Members
create_members source index ms = member (codes "source") (value_or_null term_value source)
    (member (codes "index") (term_value index) ms)

abbrev pub constant_members : ObjectTree → Members
constant_members (processor_object id block length) = processor_members id block length
constant_members (power_object deepest order) = power_members deepest order
constant_members (method_object flags) = method_members flags
constant_members (mutex_object flags) = member (codes "flags") (number_value flags) no_members
constant_members (field_object form flags offset bits) = unit_members flags offset bits no_members
constant_members _ = no_members

abbrev pub object_members : ObjectParts → Members
object_members (constant o) = constant_members o
object_members (named v) = member (codes "value") (value_or_null term_value v) no_members
object_members (region space offset length) = region_members space offset length
object_members (table_region signature oem_id oem_table_id) =
    table_members signature oem_id oem_table_id
object_members alias = no_members
object_members (bank_unit v flags offset bits) =
    unit_members flags offset bits (member (codes "value") (term_value v) no_members)
object_members (create width source index) = create_members source index no_members
object_members (create_bits source index bits) =
    create_members source index (member (codes "bits") (term_value bits) no_members)

abbrev pub fields_value : ObjectParts → Value
fields_value o = object (object_members o)

-- the kind, and what is known of the object, before other members
abbrev pub kind_members : ObjectParts → Members → Members
kind_members o ms =
    member (codes "kind") (string (kind_of o)) (member (codes "fields") (fields_value o) ms)
