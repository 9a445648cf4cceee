-- The tree that a value stands for.
use Rattle.std.specs.Prelude.{List, map}
use Rattle.acpi_tree.specs.Tree.{DataTree, int, str, buffer, pkg, var_pkg, ElemTree, of_data, of_name, FieldTree, unit, reserved, access, connect_name, connect_buffer, extended, ExternalParts, ItemTree, name, scope, method, external, external_block, create, create_field, mutex, event, region, field, index_field, bank_field, ItemTrees, elems_of, items_of}
use Rattle.acpi_tree.specs.declared.tree.ScopeKind.TheVariants as kinds
use Rattle.acpi_tree.specs.declared.tree.Data.{Data, Data-F, fold-Data}
use Rattle.acpi_tree.specs.declared.tree.Elem.{Elem, Elem-F, fold-Elem}
use Rattle.acpi_tree.specs.declared.tree.FieldElem.{FieldElem}
use Rattle.acpi_tree.specs.declared.tree.External.{External}
use Rattle.acpi_tree.specs.declared.tree.Item.{Item, Item-F, fold-Item}

abbrev pub data_step : Data-F DataTree ElemTree → DataTree
data_step (Data-F.Int i) = int i
data_step (Data-F.Str v) = str v.items
data_step (Data-F.Buffer i v) = buffer i v.items
data_step (Data-F.Package n v) = pkg n (elems_of v.items)
data_step (Data-F.VarPackage i v) = var_pkg i (elems_of v.items)

abbrev pub elem_step : Elem-F DataTree ElemTree → ElemTree
elem_step (Elem-F.Data d) = of_data d
elem_step (Elem-F.Name n) = of_name n

abbrev pub data_view : Data → DataTree
data_view = fold-Data DataTree ElemTree data_step elem_step

abbrev pub elem_view : Elem → ElemTree
elem_view = fold-Elem DataTree ElemTree data_step elem_step

abbrev pub elems_view : List Elem → List ElemTree
elems_view es = map elem_view es

abbrev pub field_view : FieldElem → FieldTree
field_view (FieldElem.Unit s n) = unit s n
field_view (FieldElem.Reserved n) = reserved n
field_view (FieldElem.Access t a) = access t a
field_view (FieldElem.ConnectName n) = connect_name n
field_view (FieldElem.ConnectBuffer i v) = connect_buffer i v.items
field_view (FieldElem.Extended t a n) = extended t a n

abbrev pub fields_view : List FieldElem → List FieldTree
fields_view es = map field_view es

abbrev pub external_view : External → ExternalParts
external_view x = record { name = x.name; kind = x.kind; args = x.args }

abbrev pub externals_view : List External → List ExternalParts
externals_view xs = map external_view xs

abbrev pub item_step : Item-F ItemTree → ItemTree
item_step (Item-F.Name n d) = name n (data_view d)
item_step (Item-F.Scope n v) = scope kinds.Scope n (items_of v.items)
item_step (Item-F.Method n f c) = method n f c
item_step (Item-F.External x) = external (external_view x)
item_step (Item-F.ExternalBlock v) = external_block (externals_view v.items)
item_step (Item-F.Create w s i n) = create w s i n
item_step (Item-F.CreateField s i b n) = create_field s i b n
item_step (Item-F.Mutex n f) = mutex n f
item_step (Item-F.Event n) = event n
item_step (Item-F.Region n s o l) = region n s o l
item_step (Item-F.Field r f v) = field r f (fields_view v.items)
item_step (Item-F.IndexField i d f v) = index_field i d f (fields_view v.items)
item_step (Item-F.BankField r b i f v) = bank_field r b i f (fields_view v.items)
item_step (Item-F.Device n v) = scope kinds.Device n (items_of v.items)
item_step (Item-F.Processor n i b l v) = scope (kinds.Processor i b l) n (items_of v.items)
item_step (Item-F.Power n l o v) = scope (kinds.Power l o) n (items_of v.items)
item_step (Item-F.Thermal n v) = scope kinds.Thermal n (items_of v.items)

abbrev pub item_view : Item → ItemTree
item_view = fold-Item ItemTree item_step

abbrev pub items_view : List Item → List ItemTree
items_view is = map item_view is

abbrev pub items_tree : List Item → ItemTrees
items_tree is = items_of (items_view is)
