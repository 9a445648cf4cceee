-- The places of nodes grow, in the order of their bytes.
use Rattle.std.proofs.Common.{◌≡◌, ◌+◌, ◌-◌, ◌^◌, ◌≤◌, ◌<◌, ℕ, suc, false, List, [], ◌∷◌, ◌++◌, length, take, append_assoc, append-nil, length-drop, length-take, flat_map, inl, inr, sym, ap, subst, ◌∙◌, arith}
use Rattle.acpi_space.specs.Laws.{Among}
use Rattle.acpi_table.specs.Tables.{length_field}
use Rattle.acpi_tree.specs.declared.op.Op.{Op}
use Rattle.acpi_tree.specs.declared.op.Op.TheVariants as ops
use Rattle.acpi_tree.specs.Tree.{FieldTree, unit}
use Rattle.acpi_tree.specs.Terms.{TermTrees, apply, declare}
use Rattle.acpi_outline.specs.declared.form.PackedForm.{PackedForm}
use Rattle.acpi_outline.specs.declared.form.PackedForm.TheVariants as forms
use Rattle.acpi_outline.specs.Nodes as outline
use Rattle.acpi_outline.specs.Nodes.{PlainTree, FixedTree, container, method, if_so, otherwise, while_so, units, FieldNodes, no_more_fields, fields_lost, field_node}
use Rattle.acpi_outline.specs.Nodes.{NodeTree, plain, holds, holds_fields, closed, package_lost, data_lost, name_lost, NodeTrees, no_more, lost, node}
use Rattle.acpi_outline.specs.Rules.{after_all}
use Rattle.acpi_outline.specs.Tiling.{TilesFields, TilesInside, Tiles}
use Rattle.acpi_outline.proofs.One.{outline_tiles}
use Rattle.acpi_conditions.specs.Nodes.{Nodes, no_nodes, declares, branch, places}
use Rattle.acpi_conditions.specs.Laws.{AreDistinct}
use Rattle.acpi_pieces.specs.declared.tables.TableContent.{TableContent}
use Rattle.acpi_pieces.specs.declared.tables.TableContent.TheVariants.{Unread, Read}
use Rattle.acpi_pieces.specs.Tables.{IsJudged}
use Rattle.acpi_survey.specs.Nodes.{term_at, operator_at, plain_at, package_at, element_at, operands_of, fields_at, Listed, no_else, with_else, if_before, holding_at, lost_package_at, listed_node, listed, nodes_of}
use Rattle.acpi_survey.specs.Reading.{Reading, survey_rules}
use Rattle.acpi_pieces.specs.Tables.{code_read}
use Rattle.acpi_survey.specs.Survey.{place_in, at_table, behind_table, AreRead, all_nodes}

-- they grow, from a first one on, and stand before the last
abbrev pub Grow : ℕ → ℕ → List ℕ → Type 0
Grow first last [] = first ≤ last
Grow first last (p ∷ ps) = (first ≤ p) × Grow (suc p) last ps

-- ---- lists that grow

pub grow_from : (first later last : ℕ) (ps : List ℕ) → first ≤ later → Grow later last ps → Grow first last ps
grow_from first later last [] le h = omega (arith, le, h)
grow_from first later last (p ∷ ps) le h = (omega (arith, le, h.0), h.1)

pub grow_on : (first middle last : ℕ) (ps qs : List ℕ) → Grow first middle ps → Grow middle last qs → Grow first last (ps ++ qs)
grow_on first middle last [] qs h n = grow_from first middle last qs h n
grow_on first middle last (p ∷ ps) qs h n = (h.0, grow_on (suc p) middle last ps qs h.1 n)

pub is_later : (first last : ℕ) (ps : List ℕ) (p : ℕ) → Grow first last ps → Among ps p → first ≤ p
is_later first last [] p h m = absurd m
is_later first last (q ∷ ps) p h (inl same) = subst (λ p. first ≤ p) same h.0
is_later first last (q ∷ ps) p h (inr m) = let le : suc q ≤ p = is_later (suc q) last ps p h.1 m in omega (arith, le, h.0)

pub grow_within : (first last : ℕ) (ps : List ℕ) → Grow first last ps → first ≤ last
grow_within first last [] h = h
grow_within first last (p ∷ ps) h = let le : suc p ≤ last = grow_within (suc p) last ps h.1 in omega (arith, h.0, le)

pub is_earlier : (first last : ℕ) (ps : List ℕ) (p : ℕ) → Grow first last ps → Among ps p → p < last
is_earlier first last [] p h m = absurd m
is_earlier first last (q ∷ ps) p h (inl same) = let le : suc q ≤ last = grow_within (suc q) last ps h.1 in subst (λ p. p < last) same (omega (arith, le))
is_earlier first last (q ∷ ps) p h (inr m) = is_earlier (suc q) last ps p h.1 m

grow_distinct : (first last : ℕ) (ps : List ℕ) → Grow first last ps → AreDistinct ps
grow_distinct first last [] h = tt
grow_distinct first last (p ∷ ps) h =
    (λ m. let le : suc p ≤ p = is_later (suc p) last ps p h.1 m in absurd (omega (arith, le)), grow_distinct (suc p) last ps h.1)

-- ---- one node, from its place up to the next

module _ (first place next last : ℕ) (from : first ≤ place) (before : place < next) (rest : Nodes) (h : Grow next last (places rest)) where
  skipping : Grow first last (places rest)
  skipping = grow_from first next last (places rest) (omega (arith, from, before)) h

  single : Grow first last (place ∷ places rest)
  single = (from, grow_from (suc place) next last (places rest) before h)

  grow_operator : (op : Op) → Grow first last (places (operator_at place op rest))
  grow_operator ops.Return = single
  grow_operator ops.Break = single
  grow_operator ops.Continue = single
  grow_operator op = skipping

  grow_plain : (p : PlainTree) → Grow first last (places (plain_at place p rest))
  grow_plain (outline.term (declare form before n behind)) = single
  grow_plain (outline.term (apply op vs)) = grow_operator op
  grow_plain (outline.term t) = skipping
  grow_plain (outline.external x) = skipping
  grow_plain (outline.alias source n) = single
  grow_plain (outline.table_region n vs) = single

  grow_closed : (f : FixedTree) → Grow first last (places (package_at place f no_nodes rest))
  grow_closed (outline.scope n) = single
  grow_closed (container form n vs) = single
  grow_closed (method n flags) = single
  grow_closed (if_so v) = single
  grow_closed otherwise = single
  grow_closed (while_so v) = single
  grow_closed (units form ns vs) = skipping

  grow_element : (vs : TermTrees) (e : FieldTree) → Grow first last (places (element_at place vs e rest))
  grow_element vs (unit g bits) = single
  grow_element vs e = skipping

-- the elements of a field list
grow_fields : (base start next last : ℕ) (vs : TermTrees) (es : FieldNodes) (rest : Nodes) → TilesFields start next es → Grow (base + next) last (places rest)
    → Grow (base + start) last (places (fields_at base vs es rest))
grow_fields base start next last vs no_more_fields rest t h = grow_from (base + start) (base + next) last (places rest) (omega (arith, t)) h
grow_fields base start next last vs (fields_lost place why) rest t h = grow_from (base + start) (base + next) last (places rest) (omega (arith, t.1)) h
grow_fields base start next last vs (field_node place offset e es) rest t h =
    grow_element (base + start) (base + place) (base + t.0) last (omega (arith, t.1)) (omega (arith, t.1, t.2))
    (fields_at base vs es rest) (grow_fields base t.0 next last vs es rest t.4 h) vs e

-- ---- packages

-- a place, the places inside, and those behind
grow_package : (first place inner next last : ℕ) (ps qs : List ℕ) → first ≤ place → place < inner → Grow inner next ps → Grow next last qs → Grow first last (place ∷ (ps ++ qs))
grow_package first place inner next last ps qs from before h n = (from, grow_from (suc place) inner last (ps ++ qs) before (grow_on inner next last ps qs h n))

grow_held : (first place inner next last : ℕ) (f : FixedTree) (inside rest : Nodes) → first ≤ place → place < inner → Grow inner next (places inside) → Grow next last (places rest)
    → Grow first last (places (package_at place f inside rest))
grow_held first place inner next last (outline.scope n) inside rest from before h m = grow_package first place inner next last (places inside) (places rest) from before h m
grow_held first place inner next last (container form n vs) inside rest from before h m = grow_package first place inner next last (places inside) (places rest) from before h m
grow_held first place inner next last (while_so v) inside rest from before h m = grow_package first place inner next last (places inside) (places rest) from before h m
grow_held first place inner next last otherwise inside rest from before h m = grow_package first place inner next last (places inside) (places rest) from before h m
grow_held first place inner next last (if_so v) inside rest from before h m =
    subst (λ ps. Grow first last (place ∷ (ps ++ places rest))) (sym (append-nil (places inside))) (grow_package first place inner next last (places inside) (places rest) from before h m)
grow_held first place inner next last f inside rest from before h m =
    let le : inner ≤ next = grow_within inner next (places inside) h in
    grow_closed first place next last from (omega (arith, before, le)) rest m f

-- ---- lists of nodes

-- the places of the nodes; and, where an Else begins the list, those inside it and behind it
pub record IsGrowing (first last : ℕ) (l : Listed) : Type 0 where
  pub nodes : Grow first last (places l.nodes)
  pub behind_if : Grow first last (places l.inside_else ++ places l.behind_else)

else_less : (first last : ℕ) (ns : Nodes) → Grow first last (places ns) → IsGrowing first last (no_else ns)
else_less first last ns h = record { nodes = h; behind_if = h }

abbrev pub AreGrowing : NodeTrees → Type 0
AreGrowing ns = (base start end : ℕ) → Tiles start end ns → IsGrowing (base + start) (base + end) (listed base ns)

abbrev AreGrowingInside : NodeTree → Type 0
AreGrowingInside (holds f ms) = AreGrowing ms
AreGrowingInside n = Unit {0}

-- a node up to the next, and the list behind it
module _ (first place next last : ℕ) (from : first ≤ place) (before : place < next) (rest : Listed) (h : IsGrowing next last rest) where
  -- .. an If, and the places inside it
  if_grows : (inner : ℕ) (inside : Nodes) → place < inner → Grow inner next (places inside) → IsGrowing first last (if_before place inside rest)
  if_grows inner inside within deep = else_less first last (branch place inside rest.inside_else rest.behind_else)
      (subst (λ ps. Grow first last (place ∷ ps)) (sym (append_assoc (places inside) (places rest.inside_else) (places rest.behind_else)))
      (grow_package first place inner next last (places inside) (places rest.inside_else ++ places rest.behind_else) from within deep h.behind_if))

  else_grows : (inner : ℕ) (inside : Nodes) → place < inner → Grow inner next (places inside) → IsGrowing first last (with_else place inside rest.nodes)
  else_grows inner inside within deep = record {
    nodes = grow_package first place inner next last (places inside) (places rest.nodes) from within deep h.nodes;
    behind_if = grow_from first inner last (places inside ++ places rest.nodes) (omega (arith, from, within)) (grow_on inner next last (places inside) (places rest.nodes) deep h.nodes);
  }

  held_grows : (f : FixedTree) (inner : ℕ) (inside : Nodes) → place < inner → Grow inner next (places inside) → IsGrowing first last (holding_at place f inside rest)
  held_grows (if_so v) inner inside within deep = if_grows inner inside within deep
  held_grows otherwise inner inside within deep = else_grows inner inside within deep
  held_grows f inner inside within deep = else_less first last (package_at place f inside rest.nodes) (grow_held first place inner next last f inside rest.nodes from within deep h.nodes)

  lost_grows : (form : PackedForm) → IsGrowing first last (lost_package_at place form rest)
  lost_grows forms.If = if_grows next no_nodes before (omega arith)
  lost_grows form = else_less first last rest.nodes (skipping first place next last from before rest.nodes h.nodes)

module _ (base first place next last : ℕ) (from : first ≤ base + place) (before : base + place < base + next) (rest : Listed) (h : IsGrowing (base + next) last rest) where
  node_grows : (n : NodeTree) → AreGrowingInside n → TilesInside place next n → IsGrowing first last (listed_node base place n rest)
  node_grows (plain p) hm t = else_less first last (plain_at (base + place) p rest.nodes) (grow_plain first (base + place) (base + next) last from before rest.nodes h.nodes p)
  node_grows (holds f ms) hm t =
      held_grows first (base + place) (base + next) last from before rest h f (base + t.0) (listed base ms).nodes (omega (arith, t.1)) (hm base t.0 next t.2).nodes
  node_grows (holds_fields f es) hm t =
      else_less first last (fields_at base (operands_of f) es rest.nodes)
      (grow_from first (base + t.0) last (places (fields_at base (operands_of f) es rest.nodes)) (omega (arith, from, t.1))
      (grow_fields base t.0 next last (operands_of f) es rest.nodes t.2 h.nodes))
  node_grows (closed f content) hm t = else_less first last (package_at (base + place) f no_nodes rest.nodes) (grow_closed first (base + place) (base + next) last from before rest.nodes h.nodes f)
  node_grows (package_lost form why) hm t = lost_grows first (base + place) (base + next) last from before rest h form
  node_grows (data_lost form why) hm t = else_less first last rest.nodes (skipping first (base + place) (base + next) last from before rest.nodes h.nodes)
  node_grows (name_lost n form why) hm t =
      else_less first last (declares (term_at (base + place) n false []) no_nodes rest.nodes) (single first (base + place) (base + next) last from before rest.nodes h.nodes)

mutual
  inside_grows : (n : NodeTree) → AreGrowingInside n
  inside_grows (holds f ms) = all_grow ms
  inside_grows n = tt

  pub all_grow : (ns : NodeTrees) → AreGrowing ns
  all_grow no_more base start end t = else_less (base + start) (base + end) no_nodes (omega (arith, t))
  all_grow (lost place why) base start end t = else_less (base + start) (base + end) no_nodes (omega (arith, t.1))
  all_grow (node place n ns) base start end t =
      node_grows base (base + start) place t.0 (base + end) (omega (arith, t.1)) (omega (arith, t.1, t.2)) (listed base ns) (all_grow ns base t.0 end t.5) n (inside_grows n) t.4

-- ---- tables

-- a code is shorter than what sets the places of two tables apart
pub code_short : (number : ℕ) (bytes : List ℕ) (j : TableContent) → IsJudged number bytes j → length (code_read j) ≤ 2 ^ 64
code_short number bytes (Unread why) h = omega arith
code_short number bytes (Read code is_cut has_bad_sum is_out_of_place trailing) h =
    let short : length (take (length_field bytes) bytes) ≤ length_field bytes = simp length-take (omega arith) in
    let is : length code ≡ length (take (length_field bytes) bytes) - 36 = ap length h.2 ∙ length-drop 36 (take (length_field bytes) bytes) in
    omega (arith, is, short, h.0.most)

pub tables_grow : (depth number : ℕ) (s last : Reading) (tables : List (List ℕ)) (nss : List NodeTrees) → AreRead depth number s tables nss last
    → (end : ℕ) × Grow (place_in number 0) end (flat_map places (all_nodes number nss))
tables_grow depth number s last [] [] h = (place_in number 0, omega arith)
tables_grow depth number s last (b ∷ bs) (ns ∷ nss) h =
    let base : ℕ = place_in number 0 in
    let code : List ℕ = code_read h.0 in
    let here : IsGrowing (base + 0) (base + length code) (listed base ns) = all_grow ns base 0 (length code) (outline_tiles survey_rules (at_table number s) depth code ns h.2) in
    let short : length code ≤ 2 ^ 64 = code_short number b h.0 h.1 in
    let later = tables_grow depth (suc number) (behind_table (after_all survey_rules (at_table number s) ns)) last bs nss h.3 in (
      later.0,
      grow_from base (base + 0) later.0 (places (nodes_of base ns) ++ flat_map places (all_nodes (suc number) nss)) (omega arith)
          (grow_on (base + 0) (base + length code) later.0 (places (nodes_of base ns)) (flat_map places (all_nodes (suc number) nss)) here.nodes
          (grow_from (base + length code) (place_in (suc number) 0) later.0 (flat_map places (all_nodes (suc number) nss)) (omega (arith, short)) later.1)),
    )
tables_grow depth number s last [] (ns ∷ nss) h = absurd h
tables_grow depth number s last (b ∷ bs) [] h = absurd h

pub places_are_distinct : (depth number : ℕ) (s last : Reading) (tables : List (List ℕ)) (nss : List NodeTrees) → AreRead depth number s tables nss last
    → AreDistinct (flat_map places (all_nodes number nss))
places_are_distinct depth number s last tables nss h =
    let grow = tables_grow depth number s last tables nss h in
    grow_distinct (place_in number 0) grow.0 (flat_map places (all_nodes number nss)) grow.1
