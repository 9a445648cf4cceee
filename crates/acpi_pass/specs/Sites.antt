-- The sites of an item tree, in byte order: what its terms declare, open and say of other tables (ACPI 6.5, 20.2.5).
use Rattle.std.specs.Prelude.{ℕ, suc, ◌+◌, ◌==◌, cond, Bool, true, false, List, [], ◌∷◌, ◌++◌, length, map, Option, Some, None}
use Rattle.acpi_name.specs.Names.{Segment, NameParts}
use Rattle.acpi_tree.specs.declared.object.FieldForm.{FieldForm}
use Rattle.acpi_tree.specs.declared.tree.ScopeKind.{ScopeKind}
use Rattle.acpi_tree.specs.declared.tree.ScopeKind.TheVariants as kinds
use Rattle.acpi_tree.specs.Tree.{FieldTree, unit, ExternalParts, ItemTree, name, scope, method, external, external_block, create, create_field, mutex, event, region, field, index_field, bank_field, ItemTrees, no_items, item}
use Rattle.acpi_tree.specs.Offsets.{element_bits}
use Rattle.acpi_tree.specs.Objects.{ObjectTree, device_object, processor_object, power_object, thermal_object, name_object, method_object, region_object, mutex_object, event_object, field_object, create_object, create_field_object}

-- What a term does with a name: it declares an object, whose links search some names and, of a method, whose
-- code is read later; it opens a scope; or it says how many arguments a method of another table takes.
pub data Effect : Type 0 where
  declares : ObjectTree → List NameParts → Option (List ℕ) → Effect
  opens : Effect
  expects : (count : ℕ) → Effect

-- an object without links and code
abbrev pub declares_alone : ObjectTree → Effect
declares_alone o = declares o [] None

-- a name and what is done with it
pub record Step : Type 0 where
  pub name : NameParts
  pub effect : Effect

abbrev pub step : NameParts → Effect → Step
step n d = record { name = n; effect = d }

-- the name of a field unit has its one segment
abbrev pub unit_name : Segment → NameParts
unit_name s = record { rooted = false; parents = 0; segments = s ∷ [] }

-- a field element declares its unit at its offset, and nothing where it names none
abbrev pub unit_step : FieldForm → ℕ → List NameParts → ℕ → FieldTree → List Step
unit_step form flags links offset (unit s bits) =
    step (unit_name s) (declares (field_object form flags offset bits) links None) ∷ []
unit_step form flags links offset _ = []

-- the units of a field list, each with its offset: the sum of the bit counts before it (20.2.5.2)
abbrev pub unit_steps : FieldForm → ℕ → List NameParts → ℕ → List FieldTree → List Step
unit_steps form flags links offset [] = []
unit_steps form flags links offset (e ∷ es) =
    unit_step form flags links offset e ++ unit_steps form flags links (offset + element_bits e) es

-- an External of type 8 says the argument count of a method
abbrev pub external_step : ExternalParts → List Step
external_step x = cond (x.kind == 8) (step x.name (expects x.args) ∷ []) []

abbrev pub external_steps : List ExternalParts → List Step
external_steps [] = []
external_steps (x ∷ xs) = external_step x ++ external_steps xs

-- the object that an item declares which opens a scope for others; a Scope declares none, and opens that of one that is there
abbrev pub kind_object : ScopeKind → Option ObjectTree
kind_object kinds.Scope = None
kind_object kinds.Device = Some device_object
kind_object (kinds.Processor id block length) = Some (processor_object id block length)
kind_object (kinds.Power level order) = Some (power_object level order)
kind_object kinds.Thermal = Some thermal_object

abbrev pub scope_effect : Option ObjectTree → Effect
scope_effect None = opens
scope_effect (Some o) = declares_alone o

-- what a term does itself, what stands inside it left out
abbrev pub own_steps : ItemTree → List Step
own_steps (name n d) = step n (declares_alone (name_object d)) ∷ []
own_steps (scope kind n is) = step n (scope_effect (kind_object kind)) ∷ []
own_steps (method n flags code) = step n (declares (method_object flags) [] (Some code)) ∷ []
own_steps (external x) = external_step x
own_steps (external_block xs) = external_steps xs
own_steps (create width source index n) =
    step n (declares (create_object width index) (source ∷ []) None) ∷ []
own_steps (create_field source index bits n) =
    step n (declares (create_field_object index bits) (source ∷ []) None) ∷ []
own_steps (mutex n flags) = step n (declares_alone (mutex_object flags)) ∷ []
own_steps (event n) = step n (declares_alone event_object) ∷ []
own_steps (region n space offset length) =
    step n (declares_alone (region_object space offset length)) ∷ []
own_steps (field r flags es) = unit_steps FieldForm.Field flags (r ∷ []) 0 es
own_steps (index_field i d flags es) = unit_steps FieldForm.Index flags (i ∷ d ∷ []) 0 es
own_steps (bank_field r b value flags es) =
    unit_steps (FieldForm.Bank value) flags (r ∷ b ∷ []) 0 es

-- whether no other terms may stand inside
abbrev pub is_leaf : ItemTree → Bool
is_leaf (scope kind n is) = false
is_leaf i = true

-- A site: a step, and the place, among the sites of the table, of the innermost term around it that opens a scope.
pub record Site : Type 0 where
  pub step : Step
  pub inside : Option ℕ

abbrev pub site_in : Option ℕ → Step → Site
site_in inside x = record { step = x; inside = inside }

abbrev pub own_sites : Option ℕ → ItemTree → List Site
own_sites inside i = map (site_in inside) (own_steps i)

-- the sites of terms that stand behind k others, inside the site at that place
abbrev mutual
  pub item_sites : ℕ → Option ℕ → ItemTree → List Site
  item_sites k inside (scope kind n is) =
      own_sites inside (scope kind n is) ++ items_sites (suc k) (Some k) is
  item_sites k inside i = own_sites inside i

  pub items_sites : ℕ → Option ℕ → ItemTrees → List Site
  items_sites k inside no_items = []
  items_sites k inside (item i is) =
      item_sites k inside i ++ items_sites (k + length (item_sites k inside i)) inside is

-- the sites of a table
abbrev pub sites : ItemTrees → List Site
sites is = items_sites 0 None is
