-- Objects of the namespace apart from where they lie in memory (ACPI 6.5, 5.3).
use Rattle.std.specs.Prelude.{ℕ, ◌%◌, Bool, true, false}
use Rattle.acpi_tree.specs.Tree.{DataTree}
use Rattle.acpi_tree.specs.View.{data_view}
use Rattle.acpi_tree.specs.declared.tree.Int.{Int}
use Rattle.acpi_tree.specs.declared.tree.Width.{Width}
use Rattle.acpi_tree.specs.declared.object.FieldForm.{FieldForm}
use Rattle.acpi_tree.specs.declared.object.Object.{Object}

pub data ObjectTree : Type 0 where
  root_object : ObjectTree
  scope_object : ObjectTree
  predefined_object : ObjectTree
  device_object : ObjectTree
  processor_object : (id block length : ℕ) → ObjectTree
  power_object : (level order : ℕ) → ObjectTree
  thermal_object : ObjectTree
  name_object : DataTree → ObjectTree
  method_object : (flags : ℕ) → ObjectTree
  region_object : (space : ℕ) (offset length : Int) → ObjectTree
  mutex_object : (flags : ℕ) → ObjectTree
  event_object : ObjectTree
  field_object : FieldForm → (flags offset bits : ℕ) → ObjectTree
  create_object : Width → (index : Int) → ObjectTree
  create_field_object : (index bits : Int) → ObjectTree

abbrev pub object_view : Object → ObjectTree
object_view Object.Root = root_object
object_view Object.Scope = scope_object
object_view Object.Predefined = predefined_object
object_view Object.Device = device_object
object_view (Object.Processor i b l) = processor_object i b l
object_view (Object.Power l o) = power_object l o
object_view Object.Thermal = thermal_object
object_view (Object.Name d) = name_object (data_view d)
object_view (Object.Method f) = method_object f
object_view (Object.Region s o l) = region_object s o l
object_view (Object.Mutex f) = mutex_object f
object_view Object.Event = event_object
object_view (Object.Field w f b o) = field_object w f o b
object_view (Object.Create w i) = create_object w i
object_view (Object.CreateField i b) = create_field_object i b

-- the argument count of a method, bits 0 to 2 of its flags (20.2.5.2)
abbrev pub args_of : ObjectTree → ℕ
args_of (method_object flags) = flags % 8
args_of _ = 0

-- the kinds that may have objects below them
abbrev pub opens_scope : ObjectTree → Bool
opens_scope root_object = true
opens_scope scope_object = true
opens_scope device_object = true
opens_scope (processor_object i b l) = true
opens_scope (power_object l o) = true
opens_scope thermal_object = true
opens_scope _ = false
