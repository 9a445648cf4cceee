-- The tree that a node stands for.
use Rattle.std.specs.Prelude.{ℕ, List, [], ◌∷◌, map, box_value, Option, Some, None}
use Rattle.acpi_tree.specs.View.{external_view, field_view}
use Rattle.acpi_tree.specs.TermView.{term_view}
use Rattle.acpi_tree.specs.Tree.{FieldTree}
use Rattle.acpi_tree.specs.Terms.{raw, no_terms, more}
use Rattle.acpi_tree.specs.declared.place.UnitsForm.TheVariants as fields
use Rattle.acpi_outline.specs.declared.form.ContainerForm.TheVariants as containers
use Rattle.acpi_outline.specs.Nodes.{PlainTree, term, external, alias, table_region, FixedTree, scope, container, method, if_so, otherwise, while_so, units, FieldNodes, no_more_fields, fields_lost, field_node}
use Rattle.acpi_outline.specs.Nodes.{NodeTree, plain, holds, holds_fields, closed, package_lost, data_lost, name_lost, NodeTrees, no_more, lost, node}
use Rattle.acpi_outline.specs.declared.node.Plain.{Plain}
use Rattle.acpi_outline.specs.declared.node.Plain.TheVariants as plains
use Rattle.acpi_outline.specs.declared.node.Fixed.{Fixed}
use Rattle.acpi_outline.specs.declared.node.Fixed.TheVariants as fixeds
use Rattle.acpi_outline.specs.declared.node.Lost.{Lost}
use Rattle.acpi_outline.specs.declared.node.PlacedField.{PlacedField}
use Rattle.acpi_outline.specs.declared.node.Node.{Node, Node-F, fold-Node}
use Rattle.acpi_outline.specs.declared.node.Nodes.{Nodes, Nodes-F, fold-Nodes}
use Rattle.acpi_outline.specs.declared.node.PlacedNode.{PlacedNode, PlacedNode-F, fold-PlacedNode}

abbrev pub plain_view : Plain → PlainTree
plain_view (plains.Term t) = term (term_view t)
plain_view (plains.External x) = external (external_view x)
plain_view (plains.Alias source n) = alias source n
plain_view (plains.TableRegion n a b c) = table_region n
    (more (term_view (box_value a))
    (more (term_view (box_value b)) (more (term_view (box_value c)) no_terms)))

abbrev pub fixed_view : Fixed → FixedTree
fixed_view (fixeds.Scope n) = scope n
fixed_view (fixeds.Device n) = container containers.Device n no_terms
fixed_view (fixeds.Processor n id block len) = container containers.Processor n
    (more (raw 1 id) (more (raw 4 block) (more (raw 1 len) no_terms)))
fixed_view (fixeds.Power n deepest order) =
    container containers.Power n (more (raw 1 deepest) (more (raw 2 order) no_terms))
fixed_view (fixeds.Thermal n) = container containers.Thermal n no_terms
fixed_view (fixeds.Method n flags) = method n flags
fixed_view (fixeds.If b) = if_so (term_view (box_value b))
fixed_view fixeds.Else = otherwise
fixed_view (fixeds.While b) = while_so (term_view (box_value b))
fixed_view (fixeds.Field n flags) = units fields.Field (n ∷ []) (more (raw 1 flags) no_terms)
fixed_view (fixeds.IndexField n m flags) =
    units fields.IndexField (n ∷ m ∷ []) (more (raw 1 flags) no_terms)
fixed_view (fixeds.BankField n m b flags) = units fields.BankField (n ∷ m ∷ [])
    (more (term_view (box_value b)) (more (raw 1 flags) no_terms))

-- an element with its place and the number of bits before it
abbrev pub PlacedElement : Type 0
PlacedElement = ℕ × ℕ × FieldTree

abbrev pub placed_field : PlacedField → PlacedElement
placed_field u = (u.place, u.offset, field_view u.element)

abbrev pub placed_fields : List PlacedField → List PlacedElement
placed_fields us = map placed_field us

-- elements before others
abbrev pub fields_before : List PlacedElement → FieldNodes → FieldNodes
fields_before [] es = es
fields_before (u ∷ us) es = field_node u.0 u.1 u.2 (fields_before us es)

abbrev pub fields_end : Option Lost → FieldNodes
fields_end None = no_more_fields
fields_end (Some l) = fields_lost l.place l.fault

-- a node with its place
abbrev pub Placed : Type 0
Placed = ℕ × NodeTree

-- nodes before others
abbrev pub put_before : List Placed → NodeTrees → NodeTrees
put_before [] ns = ns
put_before (p ∷ ps) ns = node p.0 p.1 (put_before ps ns)

abbrev pub end_view : Option Lost → NodeTrees
end_view None = no_more
end_view (Some l) = lost l.place l.fault

abbrev pub node_step : Node-F NodeTree NodeTrees Placed → NodeTree
node_step (Node-F.Plain p) = plain (plain_view p)
node_step (Node-F.Holds f ns) = holds (fixed_view f) ns
node_step (Node-F.Fields f us l) =
    holds_fields (fixed_view f) (fields_before (placed_fields us.items) (fields_end l))
node_step (Node-F.Closed f content) = closed (fixed_view f) content
node_step (Node-F.PackageLost form why) = package_lost form why
node_step (Node-F.DataLost form why) = data_lost form why
node_step (Node-F.NameLost n form why) = name_lost n form why

abbrev pub nodes_step : Nodes-F NodeTree NodeTrees Placed → NodeTrees
nodes_step ns = put_before ns.read.items (end_view ns.lost)

abbrev pub placed_step : PlacedNode-F NodeTree NodeTrees Placed → Placed
placed_step p = (p.place, p.node)

abbrev pub node_view : Node → NodeTree
node_view = fold-Node NodeTree NodeTrees Placed node_step nodes_step placed_step

abbrev pub nodes_view : Nodes → NodeTrees
nodes_view = fold-Nodes NodeTree NodeTrees Placed node_step nodes_step placed_step

abbrev pub placed_view : PlacedNode → Placed
placed_view = fold-PlacedNode NodeTree NodeTrees Placed node_step nodes_step placed_step

abbrev pub placed_views : List PlacedNode → List Placed
placed_views ps = map placed_view ps
