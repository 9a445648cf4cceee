-- The ranges of a table's code: what stands in each, and in which scope (ACPI 6.5, 5.3 and 20.2.5).
use Rattle.std.specs.Prelude.{ℕ, suc, Bool, true, false, cond, List, [], ◌∷◌, ◌++◌, Option, None, unwrap_or}
use Rattle.acpi_tree.specs.Tree.{FieldTree}
use Rattle.acpi_outline.specs.declared.fault.LostFault.{LostFault}
use Rattle.acpi_outline.specs.declared.form.PackedForm.TheVariants as forms
use Rattle.acpi_outline.specs.Nodes.{FixedTree, scope, container, if_so, NodeTree, holds, holds_fields, package_lost, NodeTrees, no_more, lost, node, FieldNodes, no_more_fields, fields_lost, field_node}
pub use Rattle.acpi_outline.specs.Tiling.{first_place, first_field_place}
use Rattle.acpi_conditions.specs.Entries.{Path}

-- What stands in a part of the code: a node; an element of the field list behind these fixed arguments, and the number
-- of bits before it; or nothing that can be read, and why.
pub data Part : Type 0 where
  of_node : NodeTree → Part
  of_element : FixedTree → (offset : ℕ) → FieldTree → Part
  of_lost : LostFault → Part

-- A part of the code, from its first byte to the first behind it; the number of nodes around; the scope in which it
-- stands; and whether an If stands directly before it in its list. Places are counted from the code's first byte.
pub record Range : Type 0 where
  pub depth : ℕ
  pub from : ℕ
  pub to : ℕ
  pub scope : Path
  pub behind_if : Bool
  pub part : Part

abbrev pub range : (depth from to : ℕ) → Path → Bool → Part → Range
range depth from to s behind_if p =
    record { depth = depth; from = from; to = to; scope = s; behind_if = behind_if; part = p }

-- ---- scopes

-- the path of what is entered at a place: the target of a Scope, or that of a Device and the like
abbrev pub Entered : Type 0
Entered = ℕ → Option Path

-- where no scope is entered, each part stands in the root's
abbrev pub nothing_entered : Entered
nothing_entered place = None

abbrev pub has_scope : FixedTree → Bool
has_scope (scope n) = true
has_scope (container form n vs) = true
has_scope _ = false

-- the scope inside a package with these fixed arguments that stands in a scope
abbrev pub scope_inside : Entered → (place : ℕ) → FixedTree → Path → Path
scope_inside entered place f s = cond (has_scope f) (unwrap_or (entered place) s) s

-- ---- lists

-- an If, whose test may be lost
abbrev pub is_if : NodeTree → Bool
is_if (holds (if_so v) ns) = true
is_if (package_lost forms.If why) = true
is_if _ = false

-- a field list in a scope, up to its end
abbrev pub element_ranges : (depth : ℕ) → Path → (end : ℕ) → FixedTree → FieldNodes → List Range
element_ranges depth s end f no_more_fields = []
element_ranges depth s end f (fields_lost place why) =
    range depth place end s false (of_lost why) ∷ []
element_ranges depth s end f (field_node place offset e es) =
    range depth place (first_field_place end es) s false (of_element f offset e)
    ∷ element_ranges depth s end f es

-- nodes in a scope, up to their end; whether an If stands directly before them. Behind each node come the ranges inside
-- it.
abbrev mutual
  pub inner_ranges : Entered → (depth place : ℕ) → Path → (end : ℕ) → NodeTree → List Range
  inner_ranges entered depth place s end (holds f ns) =
      ranges_of entered depth (scope_inside entered place f s) end false ns
  inner_ranges entered depth place s end (holds_fields f es) = element_ranges depth s end f es
  inner_ranges entered depth place s end _ = []

  pub ranges_of : Entered → (depth : ℕ) → Path → (end : ℕ) → (behind_if : Bool) → NodeTrees
      → List Range
  ranges_of entered depth s end behind_if no_more = []
  ranges_of entered depth s end behind_if (lost place why) =
      range depth place end s behind_if (of_lost why) ∷ []
  ranges_of entered depth s end behind_if (node place n ns) =
      range depth place (first_place end ns) s behind_if (of_node n)
      ∷ inner_ranges entered (suc depth) place s (first_place end ns) n
      ++ ranges_of entered depth s end (is_if n) ns

-- the ranges of a whole code
abbrev pub code_ranges : Entered → (end : ℕ) → NodeTrees → List Range
code_ranges entered end ns = ranges_of entered 0 [] end false ns
