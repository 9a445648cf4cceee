-- The entries of a survey, and the runs of its tables.
use Rattle.std.proofs.Common.{◌≡◌, ◌≢◌, ◌+◌, ◌≤◌, ◌<◌, ◌^◌, ◌⊎◌, ℕ, zero, suc, true, false, not, List, [], ◌∷◌, ◌++◌, drop, length, inl, inr, Some, None, refl, sym, ap, subst, ◌∙◌, arith, flat_map}
use Rattle.std.specs.List.{AllByRecursion, list_any}
use Rattle.std.proofs.lemmas.Grind.{flat_map-append}
use Rattle.acpi_space.specs.Laws.{Among}
use Rattle.acpi_space.proofs.Elements.{among_left, among_right, among_append, among_all}
use Rattle.acpi_outline.specs.Nodes.{NodeTrees}
use Rattle.acpi_outline.specs.Rules.{after_all}
use Rattle.acpi_outline.proofs.One.{outline_tiles}
use Rattle.acpi_conditions.specs.Nodes.{Term, Nodes, places}
use Rattle.acpi_conditions.specs.Entries.{Path, Entry, Refusal}
use Rattle.acpi_conditions.specs.Known.{Known, is_certain}
use Rattle.acpi_conditions.specs.Links.{is_round}
use Rattle.acpi_conditions.specs.Survey.{Survey as NodeSurvey, known_behind, surveys, all_entries, all_refused}
use Rattle.acpi_conditions.specs.Runs.{State, AreRuns}
use Rattle.acpi_conditions.specs.Laws.{AreDistinct, IsRunOf, IsSure, AreSure, StandsExactly}
use Rattle.acpi_conditions.proofs.Tables.{longer_begins, made_is_entry}
use Rattle.acpi_conditions.proofs.Singles.{once_tables}
use Rattle.acpi_conditions.proofs.Standing.{objects_stand_exactly}
use Rattle.acpi_conditions.proofs.CertainKept.{certain_is_not_declared}
use Rattle.acpi_pieces.specs.Tables.{code_read}
use Rattle.acpi_survey.specs.Nodes.{listed, nodes_of}
use Rattle.acpi_survey.specs.Reading.{Reading, survey_rules}
use Rattle.acpi_survey.specs.Predefined.{first_reading, with_object, predefined_count}
use Rattle.acpi_survey.specs.Survey.{place_in, at_table, behind_table, AreRead, all_nodes}
use Rattle.acpi_survey.specs.Surveys.{bytes_of, nodes_of_each, IsSurvey}
use Rattle.acpi_survey.specs.Laws.{IsSurveyed, StandAlone, EntriesStandAlone}
use Rattle.acpi_survey.specs.RunLaws.{table_entries, IsRunOfTables, AreSureWithin, EntriesStandExactly, ObjectsAreEntries}
use Rattle.acpi_survey.specs.declared.machine_survey.Survey.{Survey}
use Rattle.acpi_survey.proofs.Growing.{Grow, IsGrowing, is_later, is_earlier, all_grow, code_short, tables_grow, places_are_distinct}
use Rattle.acpi_survey.proofs.TableWalks.{read_is_survey}
use Rattle.acpi_survey.proofs.Surveys.{are_read, first_at_start}
use Rattle.acpi_survey.proofs.SureCounts.{no_loop_first}
use Rattle.acpi_survey.proofs.EntryOrder.{after_first}

-- ---- the first tables, and those behind them

-- so many tables from a number on, and the others, by the places of their nodes
record Cut (end : ℕ) (all : List Nodes) : Type 0 where
  tables : List Nodes
  more : List Nodes
  whole : all ≡ tables ++ more
  below : (p : ℕ) → Among (flat_map places tables) p → p < place_in end 0
  behind : (p : ℕ) → Among (flat_map places more) p → place_in end 0 ≤ p

table_below : (depth number : ℕ) (s : Reading) (bytes : List ℕ) (ns : NodeTrees) (last : Reading) (bs : List (List ℕ)) (nss : List NodeTrees) → AreRead depth number s (bytes ∷ bs) (ns ∷ nss) last
    → (p : ℕ) → Among (places (nodes_of (place_in number 0) ns)) p → p < place_in (suc number) 0
table_below depth number s bytes ns last bs nss h p m =
    let base : ℕ = place_in number 0 in
    let code : List ℕ = code_read h.0 in
    let here : IsGrowing (base + 0) (base + length code) (listed base ns) = all_grow ns base 0 (length code) (outline_tiles survey_rules (at_table number s) depth code ns h.2) in
    let short : length code ≤ 2 ^ 64 = code_short number bytes h.0 h.1 in
    let before : p < base + length code = is_earlier (base + 0) (base + length code) (places (nodes_of base ns)) p here.nodes m in
    omega (arith, short, before)

cut : (count depth number end : ℕ) (s last : Reading) (tables : List (List ℕ)) (nss : List NodeTrees) → number + count ≡ end → AreRead depth number s tables nss last → Cut end (all_nodes number nss)
cut zero depth number end s last tables nss is h = record {
  tables = [];
  more = all_nodes number nss;
  whole = refl;
  below = λ p m. absurd m;
  behind = λ p m.
      let grow = tables_grow depth number s last tables nss h in
      let le : place_in number 0 ≤ p = is_later (place_in number 0) grow.0 (flat_map places (all_nodes number nss)) p grow.1 m in
      omega (arith, is, le);
}
cut (suc count) depth number end s last [] [] is h = record { tables = []; more = []; whole = refl; below = λ p m. absurd m; behind = λ p m. absurd m }
cut (suc count) depth number end s last [] (ns ∷ nss) is h = absurd h
cut (suc count) depth number end s last (b ∷ bs) [] is h = absurd h
cut (suc count) depth number end s last (b ∷ bs) (ns ∷ nss) is h =
    let t : Nodes = nodes_of (place_in number 0) ns in
    let next : suc number + count ≡ end = omega (arith, is) in
    let c : Cut end (all_nodes (suc number) nss) = cut count depth (suc number) end (behind_table (after_all survey_rules (at_table number s) ns)) last bs nss next h.3 in
    record {
      tables = t ∷ c.tables;
      more = c.more;
      whole = ap (λ ts. t ∷ ts) c.whole;
      below = λ p m. below c p (among_append (places t) (flat_map places c.tables) p m);
      behind = c.behind;
    }
  where
    below : (c : Cut end (all_nodes (suc number) nss)) (p : ℕ) → Among (places (nodes_of (place_in number 0) ns)) p ⊎ Among (flat_map places c.tables) p → p < place_in end 0
    below c p (inl m) = let lt : p < place_in (suc number) 0 = table_below depth number s b ns last bs nss h p m in omega (arith, is, lt)
    below c p (inr m) = c.below p m

runs_apart : (ts us : List Nodes) (S S' : State) → AreRuns (ts ++ us) S S' → (M : State) × AreRuns ts S M × AreRuns us M S'
runs_apart [] us S S' run = (S, refl, run)
runs_apart (t ∷ ts) us S S' run = let r = runs_apart ts us run.1 S' run.3 in (r.0, (run.0, run.1, run.2, r.1), r.2)

-- ---- what stands before all tables

first_certain : AllByRecursion (λ (f : Entry). is_certain first_reading.walk.known f.path ≡ true) first_reading.walk.known.entries
unfolding first_reading with_object
first_certain = (refl, (refl, (refl, (refl, (refl, (refl, (refl, (refl, (refl, (refl, tt))))))))))

-- ---- a survey of tables

module _ (depth : ℕ) (bytes : List (List ℕ)) (s : Survey) (S S' : State) (h : IsSurvey depth bytes s) (r : IsRunOfTables s S S') where
  abbrev known : Known
  known = first_reading.walk.known

  abbrev nss : List NodeTrees
  nss = nodes_of_each s.tables.items

  abbrev all : List Nodes
  all = all_nodes 0 nss

  read : AreRead depth 0 first_reading (bytes_of s.tables.items) nss s.reading
  read = are_read depth 0 first_reading s.reading s.tables.items h.read

  surveyed : IsSurveyed 0 first_reading s.reading nss
  surveyed = read_is_survey depth 0 first_reading s.reading (bytes_of s.tables.items) nss first_at_start read

  entries_are : table_entries s ≡ all_entries (surveys known all)
  entries_are = ap (drop predefined_count) surveyed.entries ∙ after_first (all_entries (surveys known all))

  refusal_is : (q : Refusal) → Among (all_refused (surveys known all)) q → Among s.reading.walk.refused q
  refusal_is q m = subst (λ (rs : List Refusal). Among rs q) (sym surveyed.refused) (among_right first_reading.walk.refused (all_refused (surveys known all)) q m)

  new : (e : Entry) → Among (all_entries (surveys known all)) e → S.objects e.path ≢ Some e.term
  new e m is =
      let f = r.predefined.possible no_loop_first e.path e.term is in
      let certain : is_certain known f.0.path ≡ true = among_all (λ (f : Entry). is_certain known f.path ≡ true) known.entries first_certain f.0 f.1 in
      let isnt : is_certain known e.path ≡ false = certain_is_not_declared known all e m in
      let both : is_certain known e.path ≡ true = subst (λ (p : Path). is_certain known p ≡ true) f.2 certain in
      absurd (never both isnt)
    where
      never : is_certain known e.path ≡ true → is_certain known e.path ≡ false → ⊥
      never is isnt = cc

  module _ (ts us : List Nodes) (whole : all ≡ ts ++ us) where
    abbrev first : List NodeSurvey
    first = surveys known ts

    abbrev second : List NodeSurvey
    second = surveys (known_behind known ts) us

    surveys_apart : surveys known all ≡ first ++ second
    surveys_apart = ap (surveys known) whole ∙ longer_begins known ts us

    entries_apart : (e : Entry) → Among (table_entries s) e → Among (all_entries first) e ⊎ Among (all_entries second) e
    entries_apart e m =
        let are : table_entries s ≡ all_entries first ++ all_entries second = entries_are ∙ ap all_entries surveys_apart ∙ flat_map-append (λ (x : NodeSurvey). x.entries) first second in
        among_append (all_entries first) (all_entries second) e (subst (λ (es : List Entry). Among es e) are m)

    refusals_first : (q : Refusal) → Among (all_refused first) q → Among s.reading.walk.refused q
    refusals_first q m =
        let are : all_refused (surveys known all) ≡ all_refused first ++ all_refused second = ap all_refused surveys_apart ∙ flat_map-append (λ (x : NodeSurvey). x.refused) first second in
        refusal_is q (subst (λ (rs : List Refusal). Among rs q) (sym are) (among_left (all_refused first) (all_refused second) q m))

    exactly : AreSure (all_refused first) → (e : Entry) → Among (table_entries s) e → Among (all_entries first) e → not (list_any is_round e.way) ≡ true → StandsExactly S' e
    exactly sure e m here outside =
        let runs = runs_apart ts us S S' (subst (λ (ns : List Nodes). AreRuns ns S S') whole r.run) in
        objects_stand_exactly known ts us S runs.0 S' (record { known = r.predefined; sure = sure; nothing_yet = r.nothing_yet; run = runs.1 }) runs.2
        (subst (λ (ns : List Nodes). AreDistinct (flat_map places ns)) whole (places_are_distinct depth 0 first_reading s.reading (bytes_of s.tables.items) nss read)) e here outside
        (new e (subst (λ (es : List Entry). Among es e) entries_are m))

pub entries_stand_exactly : EntriesStandExactly
entries_stand_exactly depth bytes s S S' h r count sure e m within outside =
    let c : Cut count (all_nodes 0 (nodes_of_each s.tables.items)) =
    cut count depth 0 count first_reading s.reading (bytes_of s.tables.items) (nodes_of_each s.tables.items) (omega arith) (read depth bytes s S S' h r) in
    exactly depth bytes s S S' h r c.tables c.more c.whole (are_sure c) e m (first c (entries_apart depth bytes s S S' h r c.tables c.more c.whole e m)) outside
  where
    are_sure : (c : Cut count (all_nodes 0 (nodes_of_each s.tables.items))) → AreSure (all_refused (surveys first_reading.walk.known c.tables))
    are_sure c q n = sure q (refusals_first depth bytes s S S' h r c.tables c.more c.whole q n) (c.below q.place ((once_tables first_reading.walk.known c.tables).at.refused q n))

    first : (c : Cut count (all_nodes 0 (nodes_of_each s.tables.items))) → Among (all_entries (surveys first_reading.walk.known c.tables)) e
        ⊎ Among (all_entries (surveys (known_behind first_reading.walk.known c.tables) c.more)) e → Among (all_entries (surveys first_reading.walk.known c.tables)) e
    first c (inl n) = n
    first c (inr n) =
        let le : place_in count 0 ≤ e.term.place = c.behind e.term.place ((once_tables (known_behind first_reading.walk.known c.tables) c.more).at.entries e n) in
        absurd (omega (arith, le, within))

pub objects_are_entries : ObjectsAreEntries
objects_are_entries depth bytes s S S' h r sure p t is =
    by (made_is_entry first_reading.walk.known (all_nodes 0 (nodes_of_each s.tables.items)) S S' (record {
      known = r.predefined;
      sure = λ q n. sure q (refusal_is depth bytes s S S' h r q n);
      nothing_yet = r.nothing_yet;
      run = r.run;
    }) p t is)
  where
    by : (S.objects p ≡ Some t) ⊎ ((e : Entry) × Among (all_entries (surveys first_reading.walk.known (all_nodes 0 (nodes_of_each s.tables.items)))) e × (e.path ≡ p) × (e.term ≡ t))
        → (S.objects p ≡ Some t) ⊎ ((e : Entry) × Among (table_entries s) e × (e.path ≡ p) × (e.term ≡ t))
    by (inl before) = inl before
    by (inr e) = inr (e.0, subst (λ (es : List Entry). Among es e.0) (sym (entries_are depth bytes s S S' h r)) e.1, e.2, e.3)

-- ---- one at each place

first_refused : first_reading.walk.refused ≡ []
unfolding first_reading with_object
first_refused = refl

pub entries_stand_alone : EntriesStandAlone
entries_stand_alone depth last tables nss read =
    let all : List Nodes = all_nodes 0 nss in
    let surveyed : IsSurveyed 0 first_reading last nss = read_is_survey depth 0 first_reading last tables nss first_at_start read in
    let es : List Entry = all_entries (surveys first_reading.walk.known all) in
    let rs : List Refusal = all_refused (surveys first_reading.walk.known all) in
    let entries : drop predefined_count last.walk.entries ≡ es = ap (drop predefined_count) surveyed.entries ∙ after_first es in
    let refused : last.walk.refused ≡ rs = surveyed.refused ∙ ap (λ (qs : List Refusal). qs ++ rs) first_refused in
    let single = (once_tables first_reading.walk.known all).single (places_are_distinct depth 0 first_reading last tables nss read) in
    subst (λ (es : List Entry). StandAlone es last.walk.refused) (sym entries) (subst (StandAlone es) (sym refused) (record { one = single.one; none = single.none }))
