-- Kinds of objects, as the code keeps them.
use Rattle.std.specs.Prelude.{ℕ, Option, Some, None}
use Rattle.std.specs.Option.{option_map}
use Rattle.std.specs.Borrow.{Bor}
use Rattle.acpi_tree.specs.declared.object.FieldForm.TheVariants as forms
use Rattle.acpi_tree.specs.declared.term.Term.{Term}
use Rattle.acpi_tree.specs.TermView.{term_view}
use Rattle.acpi_tree.specs.Terms.{TermTree}
use Rattle.acpi_tree.specs.Objects.{root_object, scope_object, predefined_object, device_object, processor_object, power_object, thermal_object, method_object, mutex_object, event_object, field_object}
use Rattle.acpi_kinds.specs.declared.kind.UnitForm.{UnitForm}
use Rattle.acpi_kinds.specs.declared.kind.UnitForm.TheVariants as units
use Rattle.acpi_kinds.specs.declared.kind.ObjectKind.{ObjectKind}
use Rattle.acpi_kinds.specs.declared.kind.ObjectKind.TheVariants as objects
use Rattle.acpi_kinds.specs.Objects.{ObjectParts, constant, named, region, table_region, alias, bank_unit, create, create_bits}

abbrev pub lent_view : Bor Term → TermTree
lent_view t = term_view t.now

abbrev pub unit_view : UnitForm → (flags offset bits : ℕ) → ObjectParts
unit_view units.Field flags offset bits = constant (field_object forms.Field flags offset bits)
unit_view units.Index flags offset bits = constant (field_object forms.Index flags offset bits)
unit_view (units.Bank value) flags offset bits = bank_unit (lent_view value) flags offset bits

abbrev pub kind_view : ObjectKind → ObjectParts
kind_view objects.Root = constant root_object
kind_view objects.Scope = constant scope_object
kind_view objects.Predefined = constant predefined_object
kind_view objects.Device = constant device_object
kind_view (objects.Processor id block length) = constant (processor_object id block length)
kind_view (objects.Power level order) = constant (power_object level order)
kind_view objects.Thermal = constant thermal_object
kind_view (objects.Name value) = named (option_map lent_view value)
kind_view (objects.Method flags) = constant (method_object flags)
kind_view (objects.Region space offset length) =
    region space (lent_view offset) (lent_view length)
kind_view (objects.TableRegion signature oem_id oem_table_id) =
    table_region (lent_view signature) (lent_view oem_id) (lent_view oem_table_id)
kind_view (objects.Mutex flags) = constant (mutex_object flags)
kind_view objects.Event = constant event_object
kind_view objects.Alias = alias
kind_view (objects.Field form flags offset bits) = unit_view form flags offset bits
kind_view (objects.Create width source index) =
    create width (option_map lent_view source) (lent_view index)
kind_view (objects.CreateField source index bits) =
    create_bits (option_map lent_view source) (lent_view index) (lent_view bits)
