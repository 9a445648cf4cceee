-- The nodes of a table that has nothing but strict items: constants in declaring items, and Externals.
use Rattle.std.specs.Prelude.{◌≡◌, ◌⊎◌, ◌≤◌, ℕ, List, [], ◌∷◌}
use Rattle.acpi_tree.specs.declared.tree.Int.TheVariants.{Zero}
use Rattle.acpi_name.specs.Names.{NameParts}
use Rattle.acpi_tree.specs.declared.place.NamedForm.{NamedForm}
use Rattle.acpi_tree.specs.declared.place.NamedForm.TheVariants as named
use Rattle.acpi_tree.specs.declared.place.UnitsForm.TheVariants as fields
use Rattle.acpi_tree.specs.Tree.{ExternalParts, FieldTree}
use Rattle.acpi_tree.specs.DataTerms.{data_term}
use Rattle.acpi_tree.specs.declared.tree.ScopeKind.{ScopeKind}
use Rattle.acpi_tree.specs.declared.tree.ScopeKind.TheVariants as kinds
use Rattle.acpi_tree.specs.Tree.{ItemTree, name, scope, method, external, external_block, create, create_field, mutex, event, region, field, index_field, bank_field, ItemTrees, no_items, item}
use Rattle.acpi_tree.specs.Terms as terms
use Rattle.acpi_tree.specs.Terms.{TermTrees, declare, no_terms, more, raw, ref}
use Rattle.acpi_code.specs.Spelling.{SpellsEach}
use Rattle.acpi_terms.specs.Spelling.{SpellsExternal, SpellsItems, items_height}
use Rattle.acpi_outline.specs.declared.form.ContainerForm.TheVariants as containers
use Rattle.acpi_outline.specs.Nodes as nodes
use Rattle.acpi_outline.specs.Nodes.{FixedTree, container, if_so, units, FieldNodes, no_more_fields, field_node, NodeTree, plain, holds, holds_fields, closed, NodeTrees, no_more, node}
use Rattle.acpi_outline.specs.Rules.{Rules}
use Rattle.acpi_outline.specs.Outline.{IsOutline}

-- ---- items as nodes

-- a declaration of a name, with what stands before and behind it
abbrev pub declares : NamedForm → TermTrees → NameParts → TermTrees → NodeTree
declares form before n behind = plain (nodes.term (declare form before n behind))

-- Externals, one after another
abbrev pub AreExternals : List ExternalParts → NodeTrees → Type 0
AreExternals [] ms = ms ≡ no_more
AreExternals (x ∷ xs) ms = (place : ℕ) × (ns : NodeTrees)
    × (ms ≡ node place (plain (nodes.external x)) ns) × AreExternals xs ns

-- elements of a field list, one after another
abbrev pub AreFieldsOf : List FieldTree → FieldNodes → Type 0
AreFieldsOf [] us = us ≡ no_more_fields
AreFieldsOf (e ∷ es) us = (place : ℕ) × (offset : ℕ) × (rest : FieldNodes)
    × (us ≡ field_node place offset e rest) × AreFieldsOf es rest

-- The node is a package with these fixed arguments, and holds such nodes; where the state doesn't open it, it is
-- closed, and its content fills it so.
abbrev pub Holds : FixedTree → (NodeTrees → Type 0) → (List ℕ → Type 0) → NodeTree → Type 0
Holds f Are Fills m =
    ((ns : NodeTrees) × (m ≡ holds f ns) × Are ns) ⊎ ((b : List ℕ) × (m ≡ closed f b) × Fills b)

-- .. and has these elements
abbrev pub HoldsFields : FixedTree → List FieldTree → NodeTree → Type 0
HoldsFields f es m = (us : FieldNodes) × (m ≡ holds_fields f us) × AreFieldsOf es us

-- what stands before the items of what opens a scope: its name, and the numbers behind that
abbrev pub kind_fixed : ScopeKind → NameParts → FixedTree
kind_fixed kinds.Scope n = nodes.scope n
kind_fixed kinds.Device n = container containers.Device n no_terms
kind_fixed (kinds.Processor id block len) n = container containers.Processor n
    (more (raw 1 id) (more (raw 4 block) (more (raw 1 len) no_terms)))
kind_fixed (kinds.Power deepest order) n =
    container containers.Power n (more (raw 1 deepest) (more (raw 2 order) no_terms))
kind_fixed kinds.Thermal n = container containers.Thermal n no_terms

-- the node is the item, wherever it stands
abbrev mutual
  pub IsItem : ItemTree → NodeTree → Type 0
  IsItem (name n d) m = m ≡ declares named.Name no_terms n (more (data_term d) no_terms)
  IsItem (scope kind n is) m =
      Holds (kind_fixed kind n) (λ ns. AreItems is ns) (λ b. SpellsItems is b) m
  IsItem (method n flags code) m = m ≡ closed (nodes.method n flags) code
  IsItem (external x) m = m ≡ plain (nodes.external x)
  IsItem (external_block xs) m = Holds (if_so (terms.int Zero)) (λ ns. AreExternals xs ns)
      (λ b. SpellsEach SpellsExternal xs b) m
  IsItem (mutex n flags) m = m ≡ declares named.Mutex no_terms n (more (raw 1 flags) no_terms)
  IsItem (event n) m = m ≡ declares named.Event no_terms n no_terms
  IsItem (region n space offset len) m = m
      ≡ declares named.Region no_terms n
      (more (raw 1 space) (more (terms.int offset) (more (terms.int len) no_terms)))
  IsItem (field n flags es) m =
      HoldsFields (units fields.Field (n ∷ []) (more (raw 1 flags) no_terms)) es m
  IsItem (index_field i d flags es) m =
      HoldsFields (units fields.IndexField (i ∷ d ∷ []) (more (raw 1 flags) no_terms)) es m
  IsItem (bank_field n bank value flags es) m = HoldsFields
      (units fields.BankField (n ∷ bank ∷ [])
      (more (terms.int value) (more (raw 1 flags) no_terms))) es m
  IsItem (create w source index n) m =
      m ≡ declares (named.Create w) (more (ref source) (more (terms.int index) no_terms)) n no_terms
  IsItem (create_field source index bits n) m = m
      ≡ declares named.CreateField
      (more (ref source) (more (terms.int index) (more (terms.int bits) no_terms))) n no_terms

  pub AreItems : ItemTrees → NodeTrees → Type 0
  AreItems no_items ms = ms ≡ no_more
  AreItems (item i is) ms = (place : ℕ) × (n : NodeTree) × (ns : NodeTrees) × (ms ≡ node place n ns)
      × IsItem i n × AreItems is ns

-- Where a code spells items, its outline is these: nothing is lost, no package is lost, and there is no statement.
abbrev pub StrictIsKept : {S : Type 0} → Rules S → Type 0
StrictIsKept {S} r = (known : S) (depth : ℕ) (code : List ℕ) (is : ItemTrees) (ns : NodeTrees)
    → SpellsItems is code → items_height is ≤ depth → IsOutline r known depth ns code
    → AreItems is ns
