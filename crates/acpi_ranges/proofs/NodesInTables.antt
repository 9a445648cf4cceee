-- What the nodes of tables do is what parts of the tables do.
use Rattle.std.proofs.Common.{◌≡◌, ◌+◌, ◌^◌, ◌<◌, ◌≤◌, ℕ, suc, true, false, cond, List, [], ◌∷◌, ◌++◌, append_assoc, length, length-append, drop, slice_get, inl, inr, Option, Some, refl, sym, ap, ap₂, subst, ◌∙◌, arith}
use Rattle.std.specs.List.{AllByRecursion}
use Rattle.std.specs.Option.{option_and_then}
use Rattle.std.proofs.lemmas.Bool.{eq-eqb, ne_eqb}
use Rattle.acpi_space.specs.Laws.{Among}
use Rattle.acpi_tree.specs.declared.op.Op.{Op}
use Rattle.acpi_tree.specs.declared.op.Op.TheVariants as ops
use Rattle.acpi_tree.specs.Tree.{FieldTree, unit}
use Rattle.acpi_tree.specs.Terms.{TermTrees, apply, declare}
use Rattle.acpi_outline.specs.declared.form.PackedForm.{PackedForm}
use Rattle.acpi_outline.specs.declared.form.PackedForm.TheVariants as forms
use Rattle.acpi_outline.specs.declared.fault.LostFault.{LostFault}
use Rattle.acpi_outline.specs.Nodes as outline
use Rattle.acpi_outline.specs.Nodes.{PlainTree, FixedTree, container, method, if_so, otherwise, while_so, units, FieldNodes, no_more_fields, fields_lost, field_node}
use Rattle.acpi_outline.specs.Nodes.{NodeTree, plain, holds, holds_fields, closed, package_lost, data_lost, name_lost, NodeTrees, no_more, lost, node}
use Rattle.acpi_outline.specs.Tiling.{TilesFields, TilesInside, Tiles}
use Rattle.acpi_outline.specs.View.{nodes_view}
use Rattle.acpi_outline.proofs.One.{outline_tiles}
use Rattle.acpi_pieces.specs.Tables.{code_read}
use Rattle.acpi_conditions.specs.Nodes.{Place, Term, Nodes, no_nodes, declares, opens, branch, loop, stop}
use Rattle.acpi_conditions.specs.Entries.{within, asks_nothing, Entry}
use Rattle.acpi_conditions.specs.Survey.{surveys, all_entries}
use Rattle.acpi_conditions.proofs.Origins.{AreSo, coming_tables}
use Rattle.acpi_conditions.proofs.Viewing.{get_behind}
use Rattle.acpi_survey.specs.Nodes.{term_at, plain_at, package_at, element_at, operands_of, operator_at, fields_at, Listed, no_else, holding_at, lost_package_at, listed_node, listed, nodes_of}
use Rattle.acpi_survey.specs.Reading.{Reading, survey_rules}
use Rattle.acpi_survey.specs.Predefined.{first_reading, predefined_count}
use Rattle.acpi_survey.specs.Survey.{place_in, at_table, behind_table, all_nodes}
use Rattle.acpi_survey.specs.Surveys.{AreTables, behind_nodes, bytes_of, nodes_of_each}
use Rattle.acpi_survey.specs.declared.machine_survey.SurveyedTable.{SurveyedTable}
use Rattle.acpi_survey.proofs.Growing.{code_short}
use Rattle.acpi_survey.proofs.Surveys.{are_read, first_at_start}
use Rattle.acpi_survey.proofs.TableWalks.{read_is_survey}
use Rattle.acpi_survey.proofs.EntryOrder.{after_first}
use Rattle.acpi_ranges.specs.Ranges.{first_place, first_field_place}
use Rattle.acpi_ranges.specs.Lookup.{Found, node_found, element_found, part_at}
use Rattle.acpi_ranges.specs.EntryParts.{part_in}
use Rattle.acpi_ranges.specs.Laws.{part_does, Does, IsTurnIn, entries_of, EntriesHaveParts}
use Rattle.acpi_ranges.specs.steps.Search.{search_fields}
use Rattle.acpi_ranges.proofs.Searching.{part_is_searched}
use Rattle.acpi_ranges.proofs.PartLookups.{element_within, part_within, FindsParts, FindsNode, finds_node, finds_rest, in_table, at_byte}

module _ (kept : List SurveyedTable) (es : List Entry) where
  -- a part of the tables declares the term
  abbrev pub IsDeclared : Term → Type 0
  IsDeclared t = Does kept t.place (declares t no_nodes no_nodes)

  pub asking : (e : Entry) → Among es e → IsDeclared e.term → asks_nothing e.asks ≡ false → IsTurnIn kept es (within e.term.place)
  asking e m is asks = inl (e, m, refl, asks)

  -- what the nodes do is what parts of the tables do
  abbrev pub AreIn : Nodes → Type 0
  AreIn = AreSo es IsDeclared (IsTurnIn kept es) asking

  record Listing (l : Listed) : Type 0 where
    nodes : AreIn l.nodes
    inside : AreIn l.inside_else
    behind : AreIn l.behind_else

  without_else : (ns : Nodes) → AreIn ns → Listing (no_else ns)
  without_else ns h = record { nodes = h; inside = tt; behind = h }

  -- a term, and what stands in it
  declared : (t : Term) (inside rest : Nodes) → IsDeclared t → AreIn inside → AreIn rest → AreIn (declares t inside rest)
  declared t inside rest is i h = (is, i, h)

  module _ (place : Place) (part : Found) (there : part_in kept place ≡ Some part) where
    -- ---- plain nodes

    operator_in : (op : Op) (rest : Nodes) → part_does place part ≡ operator_at place op no_nodes → AreIn rest → AreIn (operator_at place op rest)
    operator_in ops.Return rest does h = ((_, (part, there, does)), h)
    operator_in ops.Break rest does h = ((_, (part, there, does)), h)
    operator_in ops.Continue rest does h = ((_, (part, there, does)), h)
    operator_in _ rest does h = h

    plain_in : (p : PlainTree) (rest : Nodes) → part_does place part ≡ plain_at place p no_nodes → AreIn rest → AreIn (plain_at place p rest)
    plain_in (outline.term (declare form before n behind)) rest does h = declared _ no_nodes rest (part, there, does) tt h
    plain_in (outline.term (apply op vs)) rest does h = operator_in op rest does h
    plain_in (outline.term t) rest does h = h
    plain_in (outline.external x) rest does h = h
    plain_in (outline.alias source n) rest does h = declared _ no_nodes rest (part, there, does) tt h
    plain_in (outline.table_region n vs) rest does h = declared _ no_nodes rest (part, there, does) tt h

    element_in : (vs : TermTrees) (e : FieldTree) (rest : Nodes) → part_does place part ≡ element_at place vs e no_nodes → AreIn rest → AreIn (element_at place vs e rest)
    element_in vs (unit g bits) rest does h = declared _ no_nodes rest (part, there, does) tt h
    element_in vs e rest does h = h

    -- ---- packages that aren't gone into

    closed_in : (f : FixedTree) (rest : Nodes) → part_does place part ≡ package_at place f no_nodes no_nodes → AreIn rest → AreIn (package_at place f no_nodes rest)
    closed_in (outline.scope n) rest does h = (inl refl, tt, h)
    closed_in (container form n vs) rest does h = declared _ no_nodes rest (part, there, does) tt h
    closed_in (method n flags) rest does h = declared _ no_nodes rest (part, there, does) tt h
    closed_in (if_so v) rest does h = (inl refl, (part, there, does), tt, tt, h)
    closed_in otherwise rest does h = (inl refl, (part, there, does), tt, tt, h)
    closed_in (while_so v) rest does h = (inl refl, tt, h)
    closed_in (units form ns vs) rest does h = h

  -- ---- packages, and what stands in them

  module _ (place to : Place) (ms : NodeTrees) (inside : Nodes) (i : AreIn inside) where
    held_in : (f : FixedTree) → part_in kept place ≡ Some (node_found to (holds f ms)) → (rest : Listed) → Listing rest → Listing (holding_at place f inside rest)
    held_in (if_so v) there rest h =
        without_else (branch place inside rest.inside_else rest.behind_else) (inr (v, (to, ms, there)), (node_found to (holds (if_so v) ms), there, refl), i, h.inside, h.behind)
    held_in otherwise there rest h = record {
      nodes = (inl refl, (node_found to (holds otherwise ms), there, refl), tt, i, h.nodes);
      inside = i;
      behind = h.nodes;
    }
    held_in (while_so v) there rest h = without_else (loop place inside rest.nodes) (inr (v, (to, ms, there)), i, h.nodes)
    held_in (outline.scope n) there rest h = without_else (opens place n inside rest.nodes) (inr (inr (n, (to, ms, there))), i, h.nodes)
    held_in (container form n vs) there rest h =
        without_else (declares (term_at place n true []) inside rest.nodes) (declared (term_at place n true []) inside rest.nodes (node_found to (holds (container form n vs) ms), there, refl) i h.nodes)
    held_in (method n flags) there rest h =
        without_else (declares (term_at place n false []) no_nodes rest.nodes) (declared (term_at place n false []) no_nodes rest.nodes (node_found to (holds (method n flags) ms), there, refl) tt h.nodes)
    held_in (units form ns vs) there rest h = without_else rest.nodes h.nodes

  lost_in : (place to : Place) (form : PackedForm) (why : LostFault) → part_in kept place ≡ Some (node_found to (package_lost form why)) → (rest : Listed) → Listing rest → Listing (lost_package_at place form rest)
  lost_in place to forms.If why there rest h =
      without_else (branch place no_nodes rest.inside_else rest.behind_else) (inl refl, (node_found to (package_lost forms.If why), there, refl), tt, h.inside, h.behind)
  lost_in place to form why there rest h = without_else rest.nodes h.nodes

  -- ---- the nodes of a table, whose code begins at `base`

  module _ (base : ℕ) where
    abbrev look : ℕ → Option Found
    look p = part_in kept (base + p)

    -- the elements of a field list, as parts
    elements_in : (to : ℕ) (f : FixedTree) (start limit : ℕ) (es : FieldNodes) → TilesFields start limit es → ((p : ℕ) (x : Found) → search_fields p to f es ≡ Some x → look p ≡ Some x) → (rest : Nodes) → AreIn rest
        → AreIn (fields_at base (operands_of f) es rest)
    elements_in to f start limit no_more_fields t finds rest h = h
    elements_in to f start limit (fields_lost place why) t finds rest h = h
    elements_in to f start limit (field_node place offset e es) t finds rest h =
        let x : Found = element_found (first_field_place to es) f offset e in
        let here : look place ≡ Some x = finds place x (ap (λ b. cond b (Some x) (search_fields place to f es)) (eq-eqb place place refl)) in
        element_in (base + place) x here (operands_of f) e (fields_at base (operands_of f) es rest) refl
        (elements_in to f t.0 limit es t.4 (λ p y is. finds p y (later p y is)) rest h)
      where
        later : (p : ℕ) (y : Found) → search_fields p to f es ≡ Some y → search_fields p to f (field_node place offset e es) ≡ Some y
        later p y is =
            let r = element_within p to f t.0 limit es t.4 y is in
            ap (λ b. cond b (Some (element_found (first_field_place to es) f offset e)) (search_fields p to f es)) (ne_eqb place p (λ same. omega (arith, same, r.0, t.1, t.2))) ∙ is

    abbrev AreListed : NodeTrees → Type 0
    AreListed ns = (end start limit : ℕ) → Tiles start limit ns → FindsParts look end ns → Listing (listed base ns)

    abbrev AreListedInside : NodeTree → Type 0
    AreListedInside (holds f ms) = AreListed ms
    AreListedInside n = Unit {0}

    node_in : (place to limit : ℕ) (n : NodeTree) → AreListedInside n → TilesInside place limit n → FindsNode look place to n → (rest : Listed) → Listing rest → Listing (listed_node base place n rest)
    node_in place to limit (plain p) hm t f rest h = without_else (plain_at (base + place) p rest.nodes) (plain_in (base + place) (node_found to (plain p)) f.itself p rest.nodes refl h.nodes)
    node_in place to limit (holds g ms) hm t f rest h = held_in (base + place) to ms (listed base ms).nodes (hm to t.0 limit t.2 f.inside).nodes g f.itself rest h
    node_in place to limit (holds_fields g es) hm t f rest h =
        without_else (fields_at base (operands_of g) es rest.nodes) (elements_in to g t.0 limit es t.2 f.inside rest.nodes h.nodes)
    node_in place to limit (closed g content) hm t f rest h =
        without_else (package_at (base + place) g no_nodes rest.nodes) (closed_in (base + place) (node_found to (closed g content)) f.itself g rest.nodes refl h.nodes)
    node_in place to limit (package_lost form why) hm t f rest h = lost_in (base + place) to form why f.itself rest h
    node_in place to limit (data_lost form why) hm t f rest h = without_else rest.nodes h.nodes
    node_in place to limit (name_lost n form why) hm t f rest h =
        let t' : Term = term_at (base + place) n false [] in
        without_else (declares t' no_nodes rest.nodes) (declared t' no_nodes rest.nodes (node_found to (name_lost n form why), f.itself, refl) tt h.nodes)

    mutual
      inside_in : (n : NodeTree) → AreListedInside n
      inside_in (holds f ms) = all_in ms
      inside_in n = tt

      all_in : (ns : NodeTrees) → AreListed ns
      all_in no_more end start limit t f = without_else no_nodes tt
      all_in (lost place why) end start limit t f = without_else no_nodes tt
      all_in (node place n ns) end start limit t f =
          node_in place (first_place end ns) t.0 n (inside_in n) t.4 (finds_node look end start limit place n ns t f) (listed base ns) (all_in ns end t.0 limit t.5 (finds_rest look end start limit place n ns t f))

  -- ---- table after table

  module _ (number : ℕ) (k : SurveyedTable) (here : slice_get kept number ≡ Some k) (tiles : Tiles 0 (length (code_read k.judged)) (nodes_view k.nodes)) (short : length (code_read k.judged) ≤ 2 ^ 64) where
    abbrev in_part : ℕ → ℕ → Option Found
    in_part table byte = option_and_then (λ (t : SurveyedTable). part_at byte (length (code_read t.judged)) (nodes_view t.nodes)) (slice_get kept table)

    table_finds : FindsParts (look (place_in number 0)) (length (code_read k.judged)) (nodes_view k.nodes)
    table_finds p x is =
        let within = part_within p (length (code_read k.judged)) 0 (length (code_read k.judged)) (nodes_view k.nodes) tiles x is in
        let low : p < 2 ^ 64 = omega (arith, within.1, short) in
        ap₂ in_part (in_table number p low) (at_byte number p low)
        ∙ ap (option_and_then (λ (t : SurveyedTable). part_at p (length (code_read t.judged)) (nodes_view t.nodes))) here
        ∙ part_is_searched p (length (code_read k.judged)) (nodes_view k.nodes)
        ∙ is

    table_in : AreIn (nodes_of (place_in number 0) (nodes_view k.nodes))
    table_in = (all_in (place_in number 0) (nodes_view k.nodes) (length (code_read k.judged)) 0 (length (code_read k.judged)) tiles table_finds).nodes

  tables_in : (depth number : ℕ) (s last : Reading) (front rest : List SurveyedTable) → kept ≡ front ++ rest → number ≡ length front → AreTables depth number s rest last
      → AllByRecursion AreIn (all_nodes number (nodes_of_each rest))
  tables_in depth number s last front [] whole count h = tt
  tables_in depth number s last front (k ∷ rest) whole count h =
      let here : slice_get kept number ≡ Some k = ap (λ l. slice_get l number) whole ∙ ap (slice_get (front ++ k ∷ rest)) count ∙ get_behind front rest k in
      let tiles : Tiles 0 (length (code_read k.judged)) (nodes_view k.nodes) = outline_tiles survey_rules (at_table number s) depth (code_read k.judged) (nodes_view k.nodes) h.0.outline in (
        table_in number k here tiles (code_short number k.bytes k.judged h.0.judged),
        tables_in depth (suc number) (behind_table (behind_nodes number s k)) last (front ++ k ∷ []) rest (whole ∙ sym (append_assoc front (k ∷ []) rest)) (omega (arith, count, length-append front (k ∷ []))) h.1,
      )

pub entries_have_parts : EntriesHaveParts
entries_have_parts depth last ts h e m =
    let es : List Entry = all_entries (surveys first_reading.walk.known (all_nodes 0 (nodes_of_each ts))) in
    let read = are_read depth 0 first_reading last ts h in
    let surveyed = read_is_survey depth 0 first_reading last (bytes_of ts) (nodes_of_each ts) first_at_start read in
    let are : entries_of last ≡ es = ap (drop predefined_count) surveyed.entries ∙ after_first es in
    let c = coming_tables (entries_of last) (IsDeclared ts (entries_of last)) (IsTurnIn ts (entries_of last)) (asking ts (entries_of last)) first_reading.walk.known (all_nodes 0 (nodes_of_each ts))
    (tables_in ts (entries_of last) depth 0 first_reading last [] ts refl refl h) (λ f n. subst (λ (es : List Entry). Among es f) (sym are) n) e (subst (λ (es : List Entry). Among es e) are m) in
    record { part = c.0; turns = c.1 }
