-- Item trees apart from where they lie in memory (ACPI 6.5, 20.2.3 and 20.2.5).
use Rattle.std.specs.Prelude.{ℕ, List, [], ◌∷◌}
use Rattle.acpi_name.specs.Names.{NameParts, Segment}
use Rattle.acpi_tree.specs.declared.tree.Int.{Int}
use Rattle.acpi_tree.specs.declared.tree.Width.{Width}
use Rattle.acpi_tree.specs.declared.tree.ScopeKind.{ScopeKind}

-- constant data, and the elements of a package
mutual
  pub data DataTree : Type 0 where
    int : Int → DataTree
    str : List ℕ → DataTree
    buffer : Int → List ℕ → DataTree
    pkg : ℕ → ElemTrees → DataTree
    var_pkg : Int → ElemTrees → DataTree

  pub data ElemTree : Type 0 where
    of_data : DataTree → ElemTree
    of_name : NameParts → ElemTree

  pub data ElemTrees : Type 0 where
    no_elems : ElemTrees
    elem : ElemTree → ElemTrees → ElemTrees

abbrev pub elems_of : List ElemTree → ElemTrees
elems_of [] = no_elems
elems_of (e ∷ es) = elem e (elems_of es)

-- an element of a field list
pub data FieldTree : Type 0 where
  unit : Segment → ℕ → FieldTree
  reserved : ℕ → FieldTree
  access : ℕ → ℕ → FieldTree
  connect_name : NameParts → FieldTree
  connect_buffer : Int → List ℕ → FieldTree
  extended : ℕ → ℕ → ℕ → FieldTree

-- the declaration of a name that another table defines
pub record ExternalParts : Type 0 where
  pub name : NameParts
  pub kind : ℕ
  pub args : ℕ

-- items: method code is bytes, whatever they say
mutual
  pub data ItemTree : Type 0 where
    name : NameParts → DataTree → ItemTree
    scope : ScopeKind → NameParts → ItemTrees → ItemTree
    method : NameParts → ℕ → List ℕ → ItemTree
    external : ExternalParts → ItemTree
    external_block : List ExternalParts → ItemTree
    create : Width → NameParts → Int → NameParts → ItemTree
    create_field : NameParts → Int → Int → NameParts → ItemTree
    mutex : NameParts → ℕ → ItemTree
    event : NameParts → ItemTree
    region : NameParts → ℕ → Int → Int → ItemTree
    field : NameParts → ℕ → List FieldTree → ItemTree
    index_field : NameParts → NameParts → ℕ → List FieldTree → ItemTree
    bank_field : NameParts → NameParts → Int → ℕ → List FieldTree → ItemTree

  pub data ItemTrees : Type 0 where
    no_items : ItemTrees
    item : ItemTree → ItemTrees → ItemTrees

abbrev pub items_of : List ItemTree → ItemTrees
items_of [] = no_items
items_of (i ∷ is) = item i (items_of is)
