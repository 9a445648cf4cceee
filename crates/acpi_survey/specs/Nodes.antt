-- What the nodes of a table's code do with what is declared (ACPI 6.5, 5.3 and 20.2.5).
use Rattle.std.specs.Prelude.{◌+◌, ℕ, Bool, true, false, List, [], ◌∷◌, ◌++◌}
use Rattle.acpi_name.specs.Names.{Segment, NameParts}
use Rattle.acpi_tree.specs.declared.op.Op.{Op}
use Rattle.acpi_tree.specs.declared.op.Op.TheVariants as ops
use Rattle.acpi_tree.specs.Tree.{FieldTree, unit}
use Rattle.acpi_tree.specs.Terms.{TermTrees, apply, declare}
use Rattle.acpi_outline.specs.declared.form.PackedForm.{PackedForm}
use Rattle.acpi_outline.specs.declared.form.PackedForm.TheVariants as forms
use Rattle.acpi_outline.specs.Nodes as outline
use Rattle.acpi_outline.specs.Nodes.{PlainTree, FixedTree, container, method, if_so, otherwise, while_so, units, FieldNodes, no_more_fields, fields_lost, field_node}
use Rattle.acpi_outline.specs.Nodes.{NodeTree, plain, holds, holds_fields, closed, package_lost, data_lost, name_lost, NodeTrees, no_more, lost, node}
use Rattle.acpi_conditions.specs.Nodes as nodes
use Rattle.acpi_conditions.specs.Nodes.{Term, Nodes, no_nodes, declares, opens, branch, loop, stop}
use Rattle.acpi_needs.specs.Needs.{names_in_all, names_before, with_names}

-- ---- terms that declare

-- `place` is that of the term among the bytes of all tables
abbrev pub term_at : ℕ → NameParts → Bool → List NameParts → Term
term_at place n is_scope names =
    record { place = place; name = n; is_scope = is_scope; needs = with_names [] names }

-- an element of a field list declares its name, which needs what the operands of the list need
abbrev pub name_of : Segment → NameParts
name_of g = record { rooted = false; parents = 0; segments = g ∷ [] }

abbrev pub unit_at : ℕ → Segment → TermTrees → Term
unit_at place g vs = term_at place (name_of g) false (names_in_all vs)

-- ---- plain nodes

-- Return, Break and Continue (19.6)
abbrev pub operator_at : ℕ → Op → Nodes → Nodes
operator_at place ops.Return rest = stop place nodes.returns rest
operator_at place ops.Break rest = stop place nodes.breaks rest
operator_at place ops.Continue rest = stop place nodes.continues rest
operator_at place _ rest = rest

abbrev pub plain_at : ℕ → PlainTree → Nodes → Nodes
plain_at place (outline.term (declare form before n behind)) rest =
    declares (term_at place n false (names_before before ++ names_in_all behind)) no_nodes rest
plain_at place (outline.term (apply op vs)) rest = operator_at place op rest
plain_at place (outline.term t) rest = rest
plain_at place (outline.external x) rest = rest
plain_at place (outline.alias source n) rest =
    declares (term_at place n false (source ∷ [])) no_nodes rest
plain_at place (outline.table_region n vs) rest =
    declares (term_at place n false (names_in_all vs)) no_nodes rest

-- ---- packages

-- what a package with these fixed arguments does, and what stands inside it; the code of a method has no effect
abbrev pub package_at : ℕ → FixedTree → (inside rest : Nodes) → Nodes
package_at place (outline.scope n) inside rest = opens place n inside rest
package_at place (container form n vs) inside rest = declares (term_at place n true []) inside rest
package_at place (method n flags) inside rest = declares (term_at place n false []) no_nodes rest
package_at place (if_so v) inside rest = branch place inside no_nodes rest
package_at place otherwise inside rest = branch place no_nodes inside rest
package_at place (while_so v) inside rest = loop place inside rest
package_at place (units form ns vs) inside rest = rest

abbrev pub element_at : ℕ → TermTrees → FieldTree → Nodes → Nodes
element_at place vs (unit g bits) rest = declares (unit_at place g vs) no_nodes rest
element_at place vs _ rest = rest

abbrev pub operands_of : FixedTree → TermTrees
operands_of (units form ns vs) = vs
operands_of _ = TermTrees.no_terms

-- `base` is the place of the code's first byte
abbrev pub fields_at : ℕ → TermTrees → FieldNodes → Nodes → Nodes
fields_at base vs no_more_fields rest = rest
fields_at base vs (fields_lost place why) rest = rest
fields_at base vs (field_node place offset e es) rest =
    element_at (base + place) vs e (fields_at base vs es rest)

-- ---- lists

-- The nodes of a list; and, where an Else begins the list, what stands inside that, and the nodes behind it.
pub record Listed : Type 0 where
  pub nodes : Nodes
  pub inside_else : Nodes
  pub behind_else : Nodes

-- a list that begins with no Else
abbrev pub no_else : Nodes → Listed
no_else ns = record { nodes = ns; inside_else = no_nodes; behind_else = ns }

-- an Else; without an If before it, it is as behind one whose test isn't known
abbrev pub with_else : ℕ → (inside rest : Nodes) → Listed
with_else place inside rest =
    record { nodes = branch place no_nodes inside rest; inside_else = inside; behind_else = rest }

-- an If, and the Else directly behind it
abbrev pub if_before : ℕ → (first : Nodes) → Listed → Listed
if_before place first rest = no_else (branch place first rest.inside_else rest.behind_else)

abbrev pub holding_at : ℕ → FixedTree → (inside : Nodes) → (rest : Listed) → Listed
holding_at place (if_so v) inside rest = if_before place inside rest
holding_at place otherwise inside rest = with_else place inside rest.nodes
holding_at place f inside rest = no_else (package_at place f inside rest.nodes)

-- a package whose fixed arguments are lost: an If with no first branch, and nothing else
abbrev pub lost_package_at : ℕ → PackedForm → Listed → Listed
lost_package_at place forms.If rest = if_before place no_nodes rest
lost_package_at place _ rest = no_else rest.nodes

abbrev mutual
  pub listed_node : ℕ → ℕ → NodeTree → Listed → Listed
  listed_node base place (plain p) rest = no_else (plain_at (base + place) p rest.nodes)
  listed_node base place (holds f ns) rest = holding_at (base + place) f (listed base ns).nodes rest
  listed_node base place (holds_fields f es) rest =
      no_else (fields_at base (operands_of f) es rest.nodes)
  listed_node base place (closed f content) rest =
      no_else (package_at (base + place) f no_nodes rest.nodes)
  listed_node base place (package_lost form why) rest = lost_package_at (base + place) form rest
  listed_node base place (data_lost form why) rest = no_else rest.nodes
  listed_node base place (name_lost n form why) rest =
      no_else (declares (term_at (base + place) n false []) no_nodes rest.nodes)

  pub listed : ℕ → NodeTrees → Listed
  listed base no_more = no_else no_nodes
  listed base (lost place why) = no_else no_nodes
  listed base (node place n ns) = listed_node base place n (listed base ns)

-- what the nodes of a code do, whose first byte stands at the place
abbrev pub nodes_of : ℕ → NodeTrees → Nodes
nodes_of base ns = (listed base ns).nodes
