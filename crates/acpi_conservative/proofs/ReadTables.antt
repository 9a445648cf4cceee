-- The survey reads strict tables as the strict load does.
use Rattle.std.proofs.Common.{◌≡◌, ℕ, suc, List, [], ◌∷◌, ◌++◌, map, length, refl, sym, ap, subst, ◌∙◌}
use Rattle.std.specs.List.{AllZip, flat_map}
use Rattle.acpi_tree.specs.Tree.{ItemTrees}
use Rattle.acpi_space.specs.Lookups.{nothing}
use Rattle.acpi_terms.specs.Spelling.{SpellsItems}
use Rattle.acpi_declare.specs.Listing as strict
use Rattle.acpi_declare.specs.Predefined.{predefined}
use Rattle.acpi_declare.specs.Tables.{IsTableOf, code_of}
use Rattle.acpi_outline.specs.Nodes.{NodeTrees}
use Rattle.acpi_outline.specs.Rules.{after_all}
use Rattle.acpi_conservative.proofs.StrictNodes.{strict_kept}
use Rattle.acpi_conditions.specs.Nodes.{Nodes}
use Rattle.acpi_conditions.specs.Entries.{Entry}
use Rattle.acpi_conditions.specs.Entries as entries
use Rattle.acpi_conditions.specs.Known.{Known}
use Rattle.acpi_conditions.specs.Survey.{Around, Survey, survey, at_root, behind_table, table_survey, surveys, all_entries, all_refused}
use Rattle.acpi_conditions.specs.Walk.{Walk}
use Rattle.acpi_conditions.specs.Listings.{Placement, AreListings, entry_of}
use Rattle.acpi_conditions.specs.Laws.{IsStrict}
use Rattle.acpi_conditions.proofs.Strict.{strict_is_survey}
use Rattle.acpi_survey.specs.Nodes as read
use Rattle.acpi_survey.specs.Reading.{Reading, survey_rules}
use Rattle.acpi_survey.specs.Predefined.{first_reading, with_object}
use Rattle.acpi_survey.specs.Survey as tables
use Rattle.acpi_pieces.specs.Tables.{code_read}
use Rattle.acpi_survey.specs.Survey.{place_in, at_table, AreRead, all_nodes}
use Rattle.acpi_survey.specs.Laws.{IsAtStart, IsSurveyed}
use Rattle.acpi_survey.proofs.TableWalks.{read_is_survey}
use Rattle.acpi_conservative.specs.Strict.{nodes_of, all_placed, AreTablesOf, predefined_objects, placement_of, predefined_terms, predefined_known}
use Rattle.acpi_conservative.specs.Laws.{IsEntryOf, StrictReadIsSurvey}
use Rattle.acpi_conservative.proofs.Items.{strict_is_listing}
use Rattle.acpi_conservative.proofs.First.{predefined_agrees, predefined_is_known, items_of}
use Rattle.acpi_conservative.proofs.Places.{without_places, placement_without, terms_without, made_without, PlacedListings, placed_listings}
use Rattle.acpi_conservative.proofs.TableNodes.{ItemNodes, table_nodes}
use Rattle.acpi_conservative.proofs.WholeTables.{strict_table_is_read}

-- ---- table after table

-- the nodes of tables as a whole; where their surveys are strict, what is read gives the same
record WholeNodes (number : ℕ) (s : Reading) (iss : List ItemTrees) (nss : List NodeTrees) : Type 0 where
  wholes : List Nodes
  of_items : map without_places wholes ≡ map nodes_of iss
  same : (dss : List (List Placement)) → AllZip IsStrict dss (surveys s.walk.known wholes) → surveys s.walk.known (all_nodes number nss) ≡ surveys s.walk.known wholes

module _ (depth number : ℕ) (s : Reading) (start : IsAtStart s.walk) (b : List ℕ) (is : ItemTrees) (ns : NodeTrees) (nss : List NodeTrees) (t : IsTableOf depth number b is)
    (r : AreRead depth number s (b ∷ []) (ns ∷ []) (tables.behind_table (after_all survey_rules (at_table number s) ns))) where
  abbrev k : Known
  k = s.walk.known

  abbrev behind : Reading
  behind = tables.behind_table (after_all survey_rules (at_table number s) ns)

  abbrev nodes : Nodes
  nodes = read.nodes_of (place_in number 0) ns

  code : code_read r.0 ≡ code_of b
  code = ap code_read (strict_table_is_read depth number b is t r.0 r.1)

  here : ItemNodes (place_in number 0) is ns
  here = table_nodes (place_in number 0) is ns (strict_kept survey_rules (at_table number s) depth (code_read r.0) is ns (subst (SpellsItems is) (sym code) t.spelled) t.height r.2)

  same_survey : (table_survey k here.whole).refused ≡ [] → table_survey k nodes ≡ table_survey k here.whole
  same_survey none =
      let around : s.walk.around ≡ at_root = sym (ap (λ (w : Walk). w.around) start) in
      subst (λ (a : Around). (survey here.whole a k).refused ≡ [] → survey nodes a k ≡ survey here.whole a k) around
      (here.same depth (length (code_read r.0)) (at_table number s) (code_read r.0) refl r.2) none

  known_behind : behind.walk.known ≡ behind_table k (table_survey k nodes)
  known_behind = (read_is_survey depth number s behind (b ∷ []) (ns ∷ []) start r).known

  one_table_more : (iss : List ItemTrees) → WholeNodes (suc number) behind iss nss → WholeNodes number s (is ∷ iss) (ns ∷ nss)
  one_table_more iss later = record {
    wholes = here.whole ∷ later.wholes;
    of_items = ap (λ (m : Nodes). m ∷ map without_places later.wholes) here.of_items ∙ ap (λ (ms : List Nodes). nodes_of is ∷ ms) later.of_items;
    same = by;
  }
    where
      by : (dss : List (List Placement)) → AllZip IsStrict dss (surveys k (here.whole ∷ later.wholes)) → surveys k (all_nodes number (ns ∷ nss)) ≡ surveys k (here.whole ∷ later.wholes)
      by [] h = absurd h
      by (ds ∷ dss) h =
          let x : Survey = table_survey k here.whole in
          let alike : table_survey k nodes ≡ x = same_survey h.0.1 in
          let known : behind.walk.known ≡ behind_table k x = known_behind ∙ ap (behind_table k) alike in
          let rest : surveys behind.walk.known (all_nodes (suc number) nss) ≡ surveys behind.walk.known later.wholes =
          later.same dss (subst (λ (q : Known). AllZip IsStrict dss (surveys q later.wholes)) (sym known) h.1) in
          ap (λ (z : Survey). z ∷ surveys (behind_table k z) (all_nodes (suc number) nss)) alike
          ∙ ap (λ (zs : List Survey). x ∷ zs) (subst (λ (q : Known). surveys q (all_nodes (suc number) nss) ≡ surveys q later.wholes) known rest)

whole_nodes : (depth number : ℕ) (s last : Reading) → IsAtStart s.walk → (bs : List (List ℕ)) (iss : List ItemTrees) (nss : List NodeTrees) → AreTablesOf depth number bs iss → AreRead depth number s bs nss last
    → WholeNodes number s iss nss
whole_nodes depth number s last start [] [] [] t r = record { wholes = []; of_items = refl; same = λ dss h. refl }
whole_nodes depth number s last start [] [] (ns ∷ nss) t r = absurd r
whole_nodes depth number s last start [] (is ∷ iss) nss t r = absurd t
whole_nodes depth number s last start (b ∷ bs) [] nss t r = absurd t
whole_nodes depth number s last start (b ∷ bs) (is ∷ iss) [] t r = absurd r
whole_nodes depth number s last start (b ∷ bs) (is ∷ iss) (ns ∷ nss) t r =
    one_table_more depth number s start b is ns nss t.0 (r.0, r.1, r.2, refl) iss
    (whole_nodes depth (suc number) (tables.behind_table (after_all survey_rules (at_table number s) ns)) last refl bs iss nss t.1 r.3)

-- ---- the entries

entries_alike : (ps : List Placement) → AllZip IsEntryOf (map placement_without ps) (map entry_of ps)
entries_alike [] = tt
entries_alike (p ∷ ps) = (record { scope = refl; path = refl; name = refl; is_scope = refl; needs = refl; no_condition = (refl, refl) }, entries_alike ps)

both_alike : (ds es : List Placement) (xs ys : List Entry) → AllZip IsEntryOf ds xs → AllZip IsEntryOf es ys → AllZip IsEntryOf (ds ++ es) (xs ++ ys)
both_alike [] es [] ys h n = n
both_alike [] es (x ∷ xs) ys h n = absurd h
both_alike (d ∷ ds) es [] ys h n = absurd h
both_alike (d ∷ ds) es (x ∷ xs) ys h n = (h.0, both_alike ds es xs ys h.1 n)

tables_alike : (ts : List (List strict.Placement)) (pss : List (List Placement)) → map all_placed ts ≡ map (map placement_without) pss → AllZip IsEntryOf (flat_map all_placed ts) (flat_map (map entry_of) pss)
tables_alike [] [] e = tt
tables_alike [] (ps ∷ pss) e = let h : ⊥ = cc in absurd h
tables_alike (t ∷ ts) [] e = let h : ⊥ = cc in absurd h
tables_alike (t ∷ ts) (ps ∷ pss) e =
    let first : all_placed t ≡ map placement_without ps = cc in
    let rest : map all_placed ts ≡ map (map placement_without) pss = cc in
    both_alike (all_placed t) (flat_map all_placed ts) (map entry_of ps) (flat_map (map entry_of) pss)
    (subst (λ (ds : List Placement). AllZip IsEntryOf ds (map entry_of ps)) (sym first) (entries_alike ps)) (tables_alike ts pss rest)

strict_entries : (pss : List (List Placement)) (xs : List Survey) → AllZip IsStrict pss xs → (all_entries xs ≡ flat_map (map entry_of) pss) × (all_refused xs ≡ [])
strict_entries [] [] h = (refl, refl)
strict_entries [] (x ∷ xs) h = absurd h
strict_entries (ps ∷ pss) [] h = absurd h
strict_entries (ps ∷ pss) (x ∷ xs) h =
    let rest = strict_entries pss xs h.1 in
    (ap (λ (es : List Entry). es ++ all_entries xs) h.0.0 ∙ ap (λ (es : List Entry). map entry_of ps ++ es) rest.0, ap (λ (rs : List entries.Refusal). rs ++ all_refused xs) h.0.1 ∙ rest.1)

-- ---- all tables

first_terms : terms_without predefined_terms ≡ predefined_terms
first_terms = made_without nothing (map placement_of predefined_objects)

pub strict_read_is_survey : StrictReadIsSurvey
unfolding first_reading with_object
strict_read_is_survey depth bs ts l nss last r =
    let items = items_of depth 0 predefined bs ts l in
    let iss : List ItemTrees = items.0 in
    let w : WholeNodes 0 first_reading iss nss = whole_nodes depth 0 first_reading last refl bs iss nss items.1 r in
    let listings : AreListings (map nodes_of iss) predefined_terms (map all_placed ts) = strict_is_listing predefined predefined_terms predefined_agrees iss ts items.2 in
    let p : PlacedListings w.wholes predefined_terms (map all_placed ts) = placed_listings w.wholes predefined_terms (map all_placed ts)
    (subst (λ (ms : List Nodes). AreListings ms (terms_without predefined_terms) (map all_placed ts)) (sym w.of_items)
    (subst (λ (m : entries.Namespace). AreListings (map nodes_of iss) m (map all_placed ts)) (sym first_terms) listings)) in
    let strict : AllZip IsStrict p.placements (surveys predefined_known w.wholes) =
    strict_is_survey predefined_known predefined_terms w.wholes p.placements predefined_is_known p.listings in
    let given = strict_entries p.placements (surveys predefined_known w.wholes) strict in
    let same : surveys predefined_known (all_nodes 0 nss) ≡ surveys predefined_known w.wholes = w.same p.placements strict in
    let read : IsSurveyed 0 first_reading last nss = read_is_survey depth 0 first_reading last bs nss refl r in (
      flat_map (map entry_of) p.placements,
      read.entries ∙ ap (λ (es : List Entry). first_reading.walk.entries ++ es) (ap all_entries same ∙ given.0),
      tables_alike ts p.placements p.alike,
      read.refused ∙ ap all_refused same ∙ given.1,
    )
