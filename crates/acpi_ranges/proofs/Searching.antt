-- The search for what begins at a place finds the first of the ranges that do.
use Rattle.std.proofs.Common.{◌≡◌, ◌==◌, ℕ, suc, true, false, Bool, cond, List, [], ◌∷◌, ◌++◌, slice_get, filter_map, Some, None, refl, ap, ◌∙◌}
use Rattle.std.specs.List.{cons_option}
use Rattle.std.specs.Option.{option_or}
use Rattle.std.proofs.lemmas.List.Elements.{filter_map-append}
use Rattle.acpi_outline.specs.Nodes.{FixedTree, NodeTree, holds, holds_fields, NodeTrees, no_more, lost, node, FieldNodes, no_more_fields, fields_lost, field_node}
use Rattle.acpi_conditions.specs.Entries.{Path}
use Rattle.acpi_ranges.specs.Ranges.{Range, Entered, scope_inside, is_if, first_place, first_field_place, element_ranges, inner_ranges, ranges_of, nothing_entered}
use Rattle.acpi_ranges.specs.Lookup.{Found, node_found, element_found, found_at, part_at}
use Rattle.acpi_ranges.specs.steps.Search.{search_fields, search_node, search_nodes}

first_of : (b : Bool) (x : Found) (xs : List Found) → slice_get (cons_option (cond b (Some x) None) xs) 0 ≡ cond b (Some x) (slice_get xs 0)
first_of true x xs = refl
first_of false x xs = refl

none_of : (b : Bool) → slice_get {X = Found} (cons_option (cond b None None) []) 0 ≡ None
none_of true = refl
none_of false = refl

first_both : (xs ys : List Found) → slice_get (xs ++ ys) 0 ≡ option_or (slice_get xs 0) (slice_get ys 0)
first_both [] ys = refl
first_both (x ∷ xs) ys = refl

module _ (place : ℕ) where
  abbrev founds : List Range → List Found
  founds rs = filter_map (found_at place) rs

  first_found : (rs us : List Range) → slice_get (founds (rs ++ us)) 0 ≡ option_or (slice_get (founds rs) 0) (slice_get (founds us) 0)
  first_found rs us = ap (λ xs. slice_get xs 0) (filter_map-append (found_at place) rs us) ∙ first_both (founds rs) (founds us)

  fields_searched : (depth : ℕ) (s : Path) (end : ℕ) (f : FixedTree) (es : FieldNodes) → slice_get (founds (element_ranges depth s end f es)) 0 ≡ search_fields place end f es
  fields_searched depth s end f no_more_fields = refl
  fields_searched depth s end f (fields_lost p why) = none_of (p == place)
  fields_searched depth s end f (field_node p offset e es) =
      let x : Found = element_found (first_field_place end es) f offset e in
      first_of (p == place) x (founds (element_ranges depth s end f es)) ∙ ap (λ o. cond (p == place) (Some x) o) (fields_searched depth s end f es)

  mutual
    inside_searched : (entered : Entered) (depth from : ℕ) (s : Path) (end : ℕ) (n : NodeTree) → slice_get (founds (inner_ranges entered depth from s end n)) 0 ≡ search_node place end n
    inside_searched entered depth from s end (holds f ns) = searched entered depth (scope_inside entered from f s) end false ns
    inside_searched entered depth from s end (holds_fields f es) = fields_searched depth s end f es
    inside_searched entered depth from s end n = refl

    searched : (entered : Entered) (depth : ℕ) (s : Path) (end : ℕ) (b : Bool) (ns : NodeTrees) → slice_get (founds (ranges_of entered depth s end b ns)) 0 ≡ search_nodes place end ns
    searched entered depth s end b no_more = refl
    searched entered depth s end b (lost p why) = none_of (p == place)
    searched entered depth s end b (node p n ns) =
        let to : ℕ = first_place end ns in
        let x : Found = node_found to n in
        let inner : List Range = inner_ranges entered (suc depth) p s to n in
        let rest : List Range = ranges_of entered depth s end (is_if n) ns in
        let inside = inside_searched entered (suc depth) p s to n in
        let behind = searched entered depth s end (is_if n) ns in
        first_of (p == place) x (founds (inner ++ rest))
        ∙ ap (λ o. cond (p == place) (Some x) o)
        (first_found inner rest ∙ ap (λ o. option_or o (slice_get (founds rest) 0)) inside ∙ ap (option_or (search_node place to n)) behind)

pub part_is_searched : (place end : ℕ) (ns : NodeTrees) → part_at place end ns ≡ search_nodes place end ns
part_is_searched place end ns = searched place nothing_entered 0 [] end false ns
