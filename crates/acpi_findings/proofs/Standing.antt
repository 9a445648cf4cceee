-- Each place of what the nodes of a code do is the first of one of the code's ranges.
use Rattle.std.proofs.Common.{◌≡◌, ◌+◌, ◌⊎◌, ℕ, suc, Bool, false, List, [], ◌∷◌, ◌++◌, inl, inr, refl, ap, ◌∙◌}
use Rattle.acpi_space.specs.Laws.{Among}
use Rattle.acpi_space.proofs.Elements.{among_left, among_right, among_append}
use Rattle.acpi_tree.specs.declared.op.Op.{Op}
use Rattle.acpi_tree.specs.declared.op.Op.TheVariants as ops
use Rattle.acpi_tree.specs.Tree.{FieldTree, unit}
use Rattle.acpi_tree.specs.Terms.{TermTrees, apply, declare}
use Rattle.acpi_outline.specs.declared.form.PackedForm.{PackedForm}
use Rattle.acpi_outline.specs.declared.form.PackedForm.TheVariants as forms
use Rattle.acpi_outline.specs.Nodes as outline
use Rattle.acpi_outline.specs.Nodes.{PlainTree, FixedTree, container, method, if_so, otherwise, while_so, units, FieldNodes, no_more_fields, fields_lost, field_node}
use Rattle.acpi_outline.specs.Nodes.{NodeTree, plain, holds, holds_fields, closed, package_lost, data_lost, name_lost, NodeTrees, no_more, lost, node}
use Rattle.acpi_conditions.specs.Entries.{Path}
use Rattle.acpi_conditions.specs.Nodes.{Nodes, no_nodes, declares, branch, places}
use Rattle.acpi_survey.specs.Nodes.{term_at, operator_at, plain_at, package_at, element_at, operands_of, fields_at, Listed, no_else, with_else, if_before, holding_at, lost_package_at, listed_node, listed, nodes_of}
use Rattle.acpi_ranges.specs.Ranges.{of_node, of_element, of_lost, Range, range, Entered, scope_inside, first_place, first_field_place, is_if, element_ranges, inner_ranges, ranges_of, code_ranges}

-- a range begins at the place
abbrev pub Stands : ℕ → List Range → ℕ → Type 0
Stands base rs p = (r : Range) × Among rs r × (base + r.from ≡ p)

abbrev AllStand : ℕ → List Range → List ℕ → Type 0
AllStand base rs ps = (p : ℕ) → Among ps p → Stands base rs p

stand_more : (base : ℕ) (rs qs : List Range) (p : ℕ) → Stands base rs p → Stands base (qs ++ rs) p
stand_more base rs qs p h = (h.0, among_right qs rs h.0 h.1, h.2)

stand_first : (base : ℕ) (rs qs : List Range) (p : ℕ) → Stands base rs p → Stands base (rs ++ qs) p
stand_first base rs qs p h = (h.0, among_left rs qs h.0 h.1, h.2)

none_stand : (base : ℕ) (rs : List Range) → AllStand base rs []
none_stand base rs p m = absurd m

-- a node's own range, and those behind it
module _ (base place : ℕ) (first : Range) (at : first.from ≡ place) (behind : List Range) where
  own : Stands base (first ∷ behind) (base + place)
  own = (first, inl refl, ap (λ n. base + n) at)

  later : (p : ℕ) → Stands base behind p → Stands base (first ∷ behind) p
  later p h = (h.0, inr h.1, h.2)

  all_later : (ps : List ℕ) → AllStand base behind ps → AllStand base (first ∷ behind) ps
  all_later ps h p m = later p (h p m)

  own_first : (ps : List ℕ) → AllStand base behind ps → AllStand base (first ∷ behind) ((base + place) ∷ ps)
  own_first ps h p (inl e) = (first, inl refl, ap (λ n. base + n) at ∙ e)
  own_first ps h p (inr m) = later p (h p m)

  module _ (rest : Nodes) (h : AllStand base behind (places rest)) where
    stand_operator : (op : Op) → AllStand base (first ∷ behind) (places (operator_at (base + place) op rest))
    stand_operator ops.Return = own_first (places rest) h
    stand_operator ops.Break = own_first (places rest) h
    stand_operator ops.Continue = own_first (places rest) h
    stand_operator op = all_later (places rest) h

    stand_plain : (p : PlainTree) → AllStand base (first ∷ behind) (places (plain_at (base + place) p rest))
    stand_plain (outline.term (declare form before n behind)) = own_first (places rest) h
    stand_plain (outline.term (apply op vs)) = stand_operator op
    stand_plain (outline.term t) = all_later (places rest) h
    stand_plain (outline.external x) = all_later (places rest) h
    stand_plain (outline.alias source n) = own_first (places rest) h
    stand_plain (outline.table_region n vs) = own_first (places rest) h

    stand_closed : (f : FixedTree) → AllStand base (first ∷ behind) (places (package_at (base + place) f no_nodes rest))
    stand_closed (outline.scope n) = own_first (places rest) h
    stand_closed (container form n vs) = own_first (places rest) h
    stand_closed (method n flags) = own_first (places rest) h
    stand_closed (if_so v) = own_first (places rest) h
    stand_closed otherwise = own_first (places rest) h
    stand_closed (while_so v) = own_first (places rest) h
    stand_closed (units form ns vs) = all_later (places rest) h

    stand_element : (vs : TermTrees) (e : FieldTree) → AllStand base (first ∷ behind) (places (element_at (base + place) vs e rest))
    stand_element vs (unit g bits) = own_first (places rest) h
    stand_element vs e = all_later (places rest) h

-- places one after another
both_stand : (base : ℕ) (rs : List Range) (ps qs : List ℕ) → AllStand base rs ps → AllStand base rs qs → AllStand base rs (ps ++ qs)
both_stand base rs ps qs h n p m = by (among_append ps qs p m)
  where
    by : Among ps p ⊎ Among qs p → Stands base rs p
    by (inl m) = h p m
    by (inr m) = n p m

stand_fields : (base depth : ℕ) (s : Path) (end : ℕ) (f : FixedTree) (vs : TermTrees) (es : FieldNodes) (rest : Nodes) (behind : List Range) → AllStand base behind (places rest)
    → AllStand base (element_ranges depth s end f es ++ behind) (places (fields_at base vs es rest))
stand_fields base depth s end f vs no_more_fields rest behind h = h
stand_fields base depth s end f vs (fields_lost place why) rest behind h = λ p m. stand_more base behind (range depth place end s false (of_lost why) ∷ []) p (h p m)
stand_fields base depth s end f vs (field_node place offset e es) rest behind h =
    stand_element base place (range depth place (first_field_place end es) s false (of_element f offset e)) refl (element_ranges depth s end f es ++ behind) (fields_at base vs es rest)
    (stand_fields base depth s end f vs es rest behind h) vs e

-- ---- lists

-- the places of the nodes; and, where an Else begins the list, those inside it and behind it
record StandListed (base : ℕ) (rs : List Range) (l : Listed) : Type 0 where
  nodes : AllStand base rs (places l.nodes)
  behind_if : AllStand base rs (places l.inside_else ++ places l.behind_else)

else_less : (base : ℕ) (rs : List Range) (ns : Nodes) → AllStand base rs (places ns) → StandListed base rs (no_else ns)
else_less base rs ns h = record { nodes = h; behind_if = h }

abbrev AllListed : NodeTrees → Type 0
AllListed ns = (base : ℕ) (entered : Entered) (depth : ℕ) (s : Path) (end : ℕ) (b : Bool) → StandListed base (ranges_of entered depth s end b ns) (listed base ns)

abbrev AllInside : NodeTree → Type 0
AllInside (holds f ms) = AllListed ms
AllInside n = Unit {0}

-- of a node: its own range, those inside it, and those behind it
module _ (base place : ℕ) (first : Range) (at : first.from ≡ place) (inner behind : List Range) (inside : Nodes) (rest : Listed)
    (deep : AllStand base inner (places inside)) (h : StandListed base behind rest) where
  in_inner : AllStand base (inner ++ behind) (places inside)
  in_inner p m = stand_first base inner behind p (deep p m)

  in_behind : (ps : List ℕ) → AllStand base behind ps → AllStand base (inner ++ behind) ps
  in_behind ps n p m = stand_more base behind inner p (n p m)

  package_stands : (ps : List ℕ) → AllStand base behind ps → AllStand base (first ∷ inner ++ behind) ((base + place) ∷ (places inside ++ ps))
  package_stands ps n = own_first base place first at (inner ++ behind) (places inside ++ ps) (both_stand base (inner ++ behind) (places inside) ps in_inner (in_behind ps n))

  if_stands : StandListed base (first ∷ inner ++ behind) (if_before (base + place) inside rest)
  if_stands = else_less base (first ∷ inner ++ behind) (branch (base + place) inside rest.inside_else rest.behind_else)
      (both_stand base (first ∷ inner ++ behind) ((base + place) ∷ (places inside ++ places rest.inside_else)) (places rest.behind_else)
      (package_stands (places rest.inside_else) (λ p m. h.behind_if p (among_left (places rest.inside_else) (places rest.behind_else) p m)))
      (all_later base place first at (inner ++ behind) (places rest.behind_else)
      (in_behind (places rest.behind_else) (λ p m. h.behind_if p (among_right (places rest.inside_else) (places rest.behind_else) p m)))))

  else_stands : StandListed base (first ∷ inner ++ behind) (with_else (base + place) inside rest.nodes)
  else_stands = record {
    nodes = package_stands (places rest.nodes) h.nodes;
    behind_if = all_later base place first at (inner ++ behind) (places inside ++ places rest.nodes)
        (both_stand base (inner ++ behind) (places inside) (places rest.nodes) in_inner (in_behind (places rest.nodes) h.nodes));
  }

  plain_package : AllStand base (first ∷ inner ++ behind) ((base + place) ∷ (places inside ++ places rest.nodes))
  plain_package = package_stands (places rest.nodes) h.nodes

  held_stands : (f : FixedTree) → StandListed base (first ∷ inner ++ behind) (holding_at (base + place) f inside rest)
  held_stands (if_so v) = if_stands
  held_stands otherwise = else_stands
  held_stands (outline.scope n) = else_less base (first ∷ inner ++ behind) (package_at (base + place) (outline.scope n) inside rest.nodes) plain_package
  held_stands (container form n vs) = else_less base (first ∷ inner ++ behind) (package_at (base + place) (container form n vs) inside rest.nodes) plain_package
  held_stands (while_so v) = else_less base (first ∷ inner ++ behind) (package_at (base + place) (while_so v) inside rest.nodes) plain_package
  held_stands (method n flags) = else_less base (first ∷ inner ++ behind) (package_at (base + place) (method n flags) inside rest.nodes)
      (own_first base place first at (inner ++ behind) (places rest.nodes) (in_behind (places rest.nodes) h.nodes))
  held_stands (units form ns vs) = else_less base (first ∷ inner ++ behind) rest.nodes
      (all_later base place first at (inner ++ behind) (places rest.nodes) (in_behind (places rest.nodes) h.nodes))

module _ (base place : ℕ) (entered : Entered) (depth : ℕ) (s : Path) (end next : ℕ) (b : Bool) (behind : List Range) (rest : Listed) (h : StandListed base behind rest) where
  abbrev own_range : NodeTree → Range
  own_range n = range depth place next s b (of_node n)

  lost_stands : (form : PackedForm) (first : Range) → first.from ≡ place → StandListed base (first ∷ behind) (lost_package_at (base + place) form rest)
  lost_stands forms.If first at = if_stands base place first at [] behind no_nodes rest (none_stand base []) h
  lost_stands form first at = else_less base (first ∷ behind) rest.nodes (all_later base place first at behind (places rest.nodes) h.nodes)

  node_stands : (n : NodeTree) → AllInside n → StandListed base (own_range n ∷ inner_ranges entered (suc depth) place s next n ++ behind) (listed_node base place n rest)
  node_stands (plain p) hm = else_less base (own_range (plain p) ∷ behind) (plain_at (base + place) p rest.nodes) (stand_plain base place (own_range (plain p)) refl behind rest.nodes h.nodes p)
  node_stands (holds f ms) hm =
      held_stands base place (own_range (holds f ms)) refl (ranges_of entered (suc depth) (scope_inside entered place f s) next false ms) behind (listed base ms).nodes rest
      (hm base entered (suc depth) (scope_inside entered place f s) next false).nodes h f
  node_stands (holds_fields f es) hm =
      else_less base (own_range (holds_fields f es) ∷ element_ranges (suc depth) s next f es ++ behind) (fields_at base (operands_of f) es rest.nodes)
      (all_later base place (own_range (holds_fields f es)) refl (element_ranges (suc depth) s next f es ++ behind) (places (fields_at base (operands_of f) es rest.nodes))
      (stand_fields base (suc depth) s next f (operands_of f) es rest.nodes behind h.nodes))
  node_stands (closed f content) hm = else_less base (own_range (closed f content) ∷ behind) (package_at (base + place) f no_nodes rest.nodes)
      (stand_closed base place (own_range (closed f content)) refl behind rest.nodes h.nodes f)
  node_stands (package_lost form why) hm = lost_stands form (own_range (package_lost form why)) refl
  node_stands (data_lost form why) hm = else_less base (own_range (data_lost form why) ∷ behind) rest.nodes (all_later base place (own_range (data_lost form why)) refl behind (places rest.nodes) h.nodes)
  node_stands (name_lost n form why) hm = else_less base (own_range (name_lost n form why) ∷ behind) (declares (term_at (base + place) n false []) no_nodes rest.nodes)
      (own_first base place (own_range (name_lost n form why)) refl behind (places rest.nodes) h.nodes)

mutual
  inside_stand : (n : NodeTree) → AllInside n
  inside_stand (holds f ms) = all_stand ms
  inside_stand n = tt

  all_stand : (ns : NodeTrees) → AllListed ns
  all_stand no_more base entered depth s end b = else_less base [] no_nodes (none_stand base [])
  all_stand (lost place why) base entered depth s end b = else_less base (range depth place end s b (of_lost why) ∷ []) no_nodes (none_stand base (range depth place end s b (of_lost why) ∷ []))
  all_stand (node place n ns) base entered depth s end b =
      node_stands base place entered depth s end (first_place end ns) b (ranges_of entered depth s end (is_if n) ns) (listed base ns) (all_stand ns base entered depth s end (is_if n)) n (inside_stand n)

pub places_stand : (base : ℕ) (entered : Entered) (end : ℕ) (ns : NodeTrees) (p : ℕ) → Among (places (nodes_of base ns)) p → Stands base (code_ranges entered end ns) p
places_stand base entered end ns p m = (all_stand ns base entered 0 [] end false).nodes p m
