-- The reading of strict tables follows their listings, table after table.
use Rattle.std.proofs.Common.{◌≡◌, ◌≤◌, ℕ, suc, List, [], ◌∷◌, ◌++◌, append_assoc, length, length-append, Option, None, refl, sym, ap, subst, ◌∙◌, arith}
use Rattle.std.specs.List.{AllByRecursion, AllZip}
use Rattle.std.specs.FinMap as finite
use Rattle.acpi_space.specs.Lookups.{Lookup, union}
use Rattle.acpi_tree.specs.Tree.{ItemTrees}
use Rattle.acpi_terms.specs.Spelling.{SpellsItems}
use Rattle.acpi_body.proofs.Kept.{all_left, all_right}
use Rattle.acpi_declare.specs.Namespace.{Namespace}
use Rattle.acpi_declare.specs.Predefined.{predefined}
use Rattle.acpi_declare.specs.Sites.{sites}
use Rattle.acpi_declare.specs.Listing.{Placement, objects_of, IsListing}
use Rattle.acpi_declare.specs.Loads.{AreListings}
use Rattle.acpi_declare.specs.Notes.{external_counts}
use Rattle.acpi_declare.specs.Tables.{IsTableOf}
use Rattle.acpi_pass.proofs.Unions.{counts-empty}
use Rattle.acpi_outline.specs.Nodes.{NodeTrees}
use Rattle.acpi_conservative.specs.StrictNodes.{AreItems}
use Rattle.acpi_outline.specs.Tiling.{Tiles}
use Rattle.acpi_outline.specs.View.{nodes_view}
use Rattle.acpi_outline.proofs.One.{outline_tiles}
use Rattle.acpi_conservative.proofs.StrictNodes.{strict_kept}
use Rattle.acpi_conditions.specs.Entries.{Entry, HasNoCondition}
use Rattle.acpi_conditions.specs.Survey.{Survey, survey, surveys, all_entries}
use Rattle.acpi_conditions.specs.Laws.{IsAllOf}
use Rattle.acpi_conditions.specs.Walk.{Walk, passed, pass}
use Rattle.acpi_conditions.proofs.Walks.{gives_nodes}
use Rattle.acpi_survey.specs.declared.machine_survey.SurveyedTable.{SurveyedTable}
use Rattle.acpi_survey.specs.Nodes.{nodes_of}
use Rattle.acpi_ranges.specs.Lookup.{Found}
use Rattle.acpi_ranges.specs.steps.Search.{search_nodes}
use Rattle.acpi_survey.specs.Laws.{IsAtStart, IsSurveyed}
use Rattle.acpi_survey.specs.Reading.{Reading, survey_rules}
use Rattle.acpi_survey.specs.Predefined.{first_reading, with_object}
use Rattle.acpi_pieces.specs.Tables.{code_read}
use Rattle.acpi_survey.specs.Survey.{place_in, at_table, behind_table, all_nodes}
use Rattle.acpi_survey.specs.Surveys.{IsTable, AreTables, behind_nodes, bytes_of, nodes_of_each}
use Rattle.acpi_survey.proofs.Surveys.{are_read, first_at_start}
use Rattle.acpi_survey.proofs.TableWalks.{read_is_survey}
use Rattle.acpi_survey.proofs.Walking.{nodes_walked}
use Rattle.acpi_conservative.specs.Strict.{predefined_terms}
use Rattle.acpi_conservative.specs.Parts.{declared}
use Rattle.acpi_conservative.specs.Laws.{HearsAlike, StrictExternals}
use Rattle.acpi_conservative.proofs.First.{predefined_agrees, predefined_is_known}
use Rattle.acpi_conservative.proofs.WholeTables.{strict_table_is_read}
use Rattle.acpi_conservative.proofs.StrictLinks.{is_all_there}
use Rattle.acpi_conservative.proofs.Standing.{StandsIn, stands_on}
use Rattle.acpi_conservative.proofs.Steps.{HaveEntries, Follows}
use Rattle.acpi_conservative.proofs.Following.{items_follow}
use Rattle.acpi_conservative.proofs.BehindTables.{all_behind, known_behind_table}

-- ---- one table

-- what the search finds in the table's nodes
abbrev pub part_of : SurveyedTable → ℕ → Option Found
part_of k p = search_nodes p (length (code_read k.judged)) (nodes_view k.nodes)

module _ (depth number : ℕ) (s : Reading) (k : SurveyedTable) (table : IsTable depth number s k) (is : ItemTrees) (t : IsTableOf depth number k.bytes is) where
  abbrev ns : NodeTrees
  ns = nodes_view k.nodes

  abbrev code : List ℕ
  code = code_read k.judged

  abbrev start : Reading
  start = at_table number s

  abbrev read : Reading
  read = behind_nodes number s k

  are_items : AreItems is ns
  are_items = strict_kept survey_rules start depth code is ns (subst (SpellsItems is) (sym (ap code_read (strict_table_is_read depth number k.bytes is t k.judged table.judged))) t.spelled) t.height table.outline

  pub code_tiles : Tiles 0 (length code) ns
  code_tiles = outline_tiles survey_rules start depth code ns table.outline

  pub table_follows : (objects : Namespace) → StandsIn objects [] s → (es : List Placement) → IsListing objects (sites is) es → Follows (part_of k) objects [] start read es
  table_follows objects h es l =
      items_follow is ns are_items (part_of k) objects [] None [] (λ more. refl) es l depth (length code) (length code) 0 (length code) start code table.outline code_tiles (λ p x e. e)
      (stands_on objects [] s start refl refl h)

  -- the table's entries are those of its nodes
  module _ (at_start : IsAtStart s.walk) where
    abbrev given : Survey
    given = survey (nodes_of start.base ns) s.walk.around s.walk.known

    walked : pass read.walk ≡ passed given s.walk
    walked = nodes_walked depth (length code) start ns code table.outline (sym (ap (λ (w : Walk). w.last_if) at_start)) ∙ gives_nodes (nodes_of start.base ns) s.walk

    stands_behind_table : (objects more : Namespace) → StandsIn objects [] s → StandsIn more [] read → AllByRecursion HasNoCondition read.walk.entries → StandsIn more [] (behind_table read)
    stands_behind_table objects more h i free = record {
      terms = i.terms;
      agrees = i.agrees;
      known = subst (IsAllOf i.terms) (sym (known_behind_table s.walk read.walk given at_start walked))
          (all_behind h.terms s.walk.known h.known i.terms read.walk.known given.entries i.known (ap (λ (w : Walk). w.known.entries) walked)
          (all_right HasNoCondition s.walk.entries given.entries (subst (AllByRecursion HasNoCondition) (ap (λ (w : Walk). w.entries) walked) free)));
      scope_is = refl;
    }

-- ---- table after table

-- what later tables add
entries_kept : (depth number : ℕ) (s last : Reading) (kept : List SurveyedTable) → IsAtStart s.walk → AreTables depth number s kept last → (more : List Entry) × (last.walk.entries ≡ s.walk.entries ++ more)
entries_kept depth number s last kept at_start a =
    let r : IsSurveyed number s last (nodes_of_each kept) = read_is_survey depth number s last (bytes_of kept) (nodes_of_each kept) at_start (are_read depth number s last kept a) in
    (all_entries (surveys s.walk.known (all_nodes number (nodes_of_each kept))), r.entries)

-- Of a table behind these entries: what its Externals say; and an entry for each object that it declares, in order.
pub record IsFollowed (last : Reading) (number : ℕ) (before : List Entry) (t : List Placement) (k : SurveyedTable) : Type 0 where
  pub heard : HearsAlike t k
  pub tiles : Tiles 0 (length (code_read k.judged)) (nodes_view k.nodes)
  pub news : List Entry
  pub later : List Entry
  pub entries : last.walk.entries ≡ before ++ (news ++ later)
  pub is_behind : 10 ≤ length before
  pub objects_there : HaveEntries (part_of k) (place_in number 0) (declared t) news

-- so is each table, behind those before it
abbrev pub AreFollowed : Reading → ℕ → List Entry → List (List Placement) → List SurveyedTable → Type 0
AreFollowed last number before [] [] = last.walk.entries ≡ before
AreFollowed last number before (t ∷ ts) (k ∷ kept) = (f : IsFollowed last number before t k) × AreFollowed last (suc number) (before ++ f.news) ts kept
AreFollowed last number before [] (k ∷ kept) = ⊥
AreFollowed last number before (t ∷ ts) [] = ⊥

module _ (depth number : ℕ) (s last : Reading) (k : SurveyedTable) (kept : List SurveyedTable) (table : IsTable depth number s k) (is : ItemTrees) (i : IsTableOf depth number k.bytes is)
    (objects : Namespace) (h : StandsIn objects [] s) (empty : s.expected ≡ finite.empty) (enough : 10 ≤ length s.walk.entries)
    (a : AreTables depth (suc number) (behind_table (behind_nodes number s k)) kept last) (t : List Placement) (l : IsListing objects (sites is) t) where
  abbrev end : Reading
  end = behind_nodes number s k

  f : Follows (part_of k) objects [] (at_table number s) end t
  f = table_follows depth number s k table is i objects h t l

  more : (later : List Entry) × (last.walk.entries ≡ end.walk.entries ++ later)
  more = entries_kept depth (suc number) (behind_table end) last kept refl a

  pub is_followed : IsFollowed last number s.walk.entries t k
  is_followed = record {
    heard =
        ap finite.get table.expected
        ∙ f.heard
        ∙ ap (λ (m : Lookup ℕ). union m (external_counts t)) (ap finite.get empty ∙ counts-empty);
    tiles = code_tiles depth number s k table is i;
    news = f.news;
    later = more.0;
    entries = more.1 ∙ ap (λ (es : List Entry). es ++ more.0) f.entries ∙ append_assoc s.walk.entries f.news more.0;
    is_behind = enough;
    objects_there = f.objects_there;
  }

  entries_behind : (behind_table end).walk.entries ≡ s.walk.entries ++ is_followed.news
  unfolding is_followed
  entries_behind = f.entries

  pub enough_behind : 10 ≤ length (behind_table end).walk.entries
  enough_behind = omega (arith, enough, ap length f.entries, length-append s.walk.entries f.news)

  pub stands_later : IsAtStart s.walk → AllByRecursion HasNoCondition last.walk.entries → StandsIn (union objects (objects_of t)) [] (behind_table end)
  stands_later at_start free =
      stands_behind_table depth number s k table is i at_start objects (union objects (objects_of t)) h f.stands
      (all_left HasNoCondition end.walk.entries more.0 (subst (AllByRecursion HasNoCondition) more.1 free))

tables_follow : (depth number : ℕ) (s last : Reading) (kept : List SurveyedTable) → IsAtStart s.walk → AreTables depth number s kept last → (objects : Namespace) → StandsIn objects [] s → s.expected ≡ finite.empty
    → 10 ≤ length s.walk.entries → AllByRecursion HasNoCondition last.walk.entries → (ts : List (List Placement)) → AreListings depth number objects (bytes_of kept) ts → AreFollowed last number s.walk.entries ts kept
tables_follow depth number s last [] at_start a objects h empty enough free [] l = ap (λ (r : Reading). r.walk.entries) a
tables_follow depth number s last [] at_start a objects h empty enough free (t ∷ ts) l = absurd l
tables_follow depth number s last (k ∷ kept) at_start a objects h empty enough free [] l = absurd l
tables_follow depth number s last (k ∷ kept) at_start a objects h empty enough free (t ∷ ts) l = (
  is_followed depth number s last k kept a.0 l.0.0 l.0.1 objects h empty enough a.1 t l.0.2,
  subst (λ (es : List Entry). AreFollowed last (suc number) es ts kept) (entries_behind depth number s last k kept a.0 l.0.0 l.0.1 objects h empty enough a.1 t l.0.2)
      (tables_follow depth (suc number) (behind_table (behind_nodes number s k)) last kept refl a.1 (union objects (objects_of t))
      (stands_later depth number s last k kept a.0 l.0.0 l.0.1 objects h empty enough a.1 t l.0.2 at_start free) refl
      (enough_behind depth number s last k kept a.0 l.0.0 l.0.1 objects h empty enough a.1 t l.0.2) free ts l.1),
)

first_stands : StandsIn predefined [] first_reading
unfolding first_reading with_object
first_stands = record { terms = predefined_terms; agrees = predefined_agrees; known = predefined_is_known; scope_is = refl }

first_hears_none : first_reading.expected ≡ finite.empty
unfolding first_reading with_object
first_hears_none = refl

first_enough : 10 ≤ length first_reading.walk.entries
unfolding first_reading with_object
first_enough = let ten : length first_reading.walk.entries ≡ 10 = refl in omega (arith, ten)

pub strict_tables_follow : (depth : ℕ) (kept : List SurveyedTable) (last : Reading) → AreTables depth 0 first_reading kept last
    → (ts : List (List Placement)) → AreListings depth 0 predefined (bytes_of kept) ts → AreFollowed last 0 first_reading.walk.entries ts kept
strict_tables_follow depth kept last a ts l =
    tables_follow depth 0 first_reading last kept first_at_start a predefined first_stands first_hears_none first_enough
    (is_all_there depth (bytes_of kept) ts l (nodes_of_each kept) last (are_read depth 0 first_reading last kept a)).no_condition ts l

all_heard : (last : Reading) (number : ℕ) (before : List Entry) (ts : List (List Placement)) (kept : List SurveyedTable) → AreFollowed last number before ts kept → AllZip HearsAlike ts kept
all_heard last number before [] [] h = tt
all_heard last number before [] (k ∷ kept) h = absurd h
all_heard last number before (t ∷ ts) [] h = absurd h
all_heard last number before (t ∷ ts) (k ∷ kept) h = (h.0.heard, all_heard last (suc number) (before ++ h.0.news) ts kept h.1)

pub strict_externals : StrictExternals
strict_externals depth kept last a ts l = all_heard last 0 first_reading.walk.entries ts kept (strict_tables_follow depth kept last a ts l)
