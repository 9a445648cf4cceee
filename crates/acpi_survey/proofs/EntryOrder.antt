-- The entries of tables stand in the order of their places.
use Rattle.std.proofs.Common.{◌≡◌, ◌+◌, ◌≤◌, ◌<◌, ℕ, zero, suc, true, false, Bool, cond, List, [], ◌∷◌, ◌++◌, map, length, drop, slice_index_or, Option, Some, None, Result, Ok, Err, refl, sym, ap, subst, ◌∙◌, arith, flat_map}
use Rattle.std.specs.List.Sorted.{IsNonDecreasingBy}
use Rattle.acpi_outline.specs.Nodes.{NodeTrees}
use Rattle.acpi_outline.specs.View.{nodes_view}
use Rattle.acpi_outline.proofs.One.{outline_tiles}
use Rattle.acpi_conditions.specs.Nodes.{Nodes, no_nodes, declares, opens, branch, loop, stop, places, Term}
use Rattle.acpi_conditions.specs.Entries.{Path, Entry, Why, then_branch, else_branch, in_round}
use Rattle.acpi_conditions.specs.Known.{Known, declared_at, opened_at}
use Rattle.acpi_conditions.specs.Survey.{Around, Survey, Surveying, survey, declaring_as, declaring, opening_as, opening, branching, looping, stopping, entry_at, inside_of, known_inside, inside_scope, known_in_scope, turning, known_in_loop, behind, passing, at_root, behind_table, table_survey, surveys, all_entries}
use Rattle.acpi_survey.specs.Reading.{Reading, survey_rules}
use Rattle.acpi_pieces.specs.Tables.{code_read}
use Rattle.acpi_survey.specs.Survey.{place_in, at_table, behind_table as behind_read, all_nodes}
use Rattle.acpi_survey.specs.Surveys.{AreTables, behind_nodes, bytes_of, nodes_of_each}
use Rattle.acpi_survey.specs.Predefined.{first_reading, with_object}
use Rattle.acpi_survey.specs.SurveyOrder.{AllTile}
use Rattle.acpi_survey.specs.Predefined.{predefined_count}
use Rattle.acpi_survey.specs.declared.machine_survey.SurveyedTable.{SurveyedTable}
use Rattle.acpi_survey.proofs.Growing.{Grow, grow_from, grow_on, grow_within, tables_grow}
use Rattle.acpi_survey.proofs.TableWalks.{read_is_survey}
use Rattle.acpi_survey.proofs.Surveys.{are_read, first_at_start}

abbrev term_places : List Entry → List ℕ
term_places es = map (λ e. e.term.place) es

places_behind : (es fs : List Entry) → term_places (es ++ fs) ≡ term_places es ++ term_places fs
places_behind [] fs = refl
places_behind (e ∷ es) fs = ap (λ ps. e.term.place ∷ ps) (places_behind es fs)

grow_apart : (first last : ℕ) (ps qs : List ℕ) → Grow first last (ps ++ qs) → (middle : ℕ) × Grow first middle ps × Grow middle last qs
grow_apart first last [] qs h = (first, omega arith, h)
grow_apart first last (p ∷ ps) qs h = let rest = grow_apart (suc p) last ps qs h.1 in (rest.0, (h.0, rest.1), rest.2)

grow_both : (first middle last : ℕ) (es fs : List Entry) → Grow first middle (term_places es) → Grow middle last (term_places fs) → Grow first last (term_places (es ++ fs))
grow_both first middle last es fs h n = subst (Grow first last) (sym (places_behind es fs)) (grow_on first middle last (term_places es) (term_places fs) h n)

-- ---- the entries of nodes

abbrev GrowEntries : List ℕ → Surveying → Type 0
GrowEntries ps x = (first last : ℕ) → Grow first last ps → (a : Around) (k : Known) → Grow first last (term_places (x a k).entries)

followed : (ps qs : List ℕ) (here rest : Surveying) → GrowEntries ps here → GrowEntries qs rest → (first last : ℕ) → Grow first last (ps ++ qs) → (a : Around) (k : Known)
    → Grow first last (term_places ((here a k).entries ++ (rest (passing a (here a k)) (behind k (here a k))).entries))
followed ps qs here rest h n first last g a k =
    let parts = grow_apart first last ps qs g in
    grow_both first parts.0 last (here a k).entries (rest (passing a (here a k)) (behind k (here a k))).entries (h first parts.0 parts.1 a k)
    (n parts.0 last parts.2 (passing a (here a k)) (behind k (here a k)))

declared : (t : Term) (ps : List ℕ) (inside : Surveying) → GrowEntries ps inside → (first last : ℕ) → Grow first last (t.place ∷ ps) → (a : Around) (k : Known) (r : Result Path Why)
    → Grow first last (term_places (declaring_as t inside a k r).entries)
declared t ps inside h first last g a k (Ok p) = (g.0, h (suc t.place) last g.1 (inside_of (entry_at a k t p)) (known_inside k (entry_at a k t p)))
declared t ps inside h first last g a k (Err why) = grow_within first last (t.place ∷ ps) g

opened : (place : ℕ) (ps : List ℕ) (inside : Surveying) → GrowEntries ps inside → (first last : ℕ) → Grow first last (place ∷ ps) → (a : Around) (k : Known) (r : Result Path Why)
    → Grow first last (term_places (opening_as place inside a k r).entries)
opened place ps inside h first last g a k (Ok p) = h first last (grow_from first (suc place) last ps (omega (arith, g.0)) g.1) (inside_scope place a k p) (known_in_scope k p)
opened place ps inside h first last g a k (Err why) = grow_within first last (place ∷ ps) g

branched : (place : ℕ) (ps qs : List ℕ) (one other : Surveying) → GrowEntries ps one → GrowEntries qs other → GrowEntries (place ∷ (ps ++ qs)) (branching place one other)
branched place ps qs one other h n first last g a k =
    let parts = grow_apart first last ps qs (grow_from first (suc place) last (ps ++ qs) (omega (arith, g.0)) g.1) in
    grow_both first parts.0 last (one (turning a (then_branch place)) k).entries (other (turning a (else_branch place)) k).entries (h first parts.0 parts.1 (turning a (then_branch place)) k)
    (n parts.0 last parts.2 (turning a (else_branch place)) k)

entries_grow : (ns : Nodes) → GrowEntries (places ns) (survey ns)
entries_grow no_nodes first last g a k = g
entries_grow (declares t inside rest) first last g a k =
    followed (t.place ∷ places inside) (places rest) (declaring t (survey inside)) (survey rest)
    (λ first last g a k. declared t (places inside) (survey inside) (entries_grow inside) first last g a k (declared_at k a.scope t.name)) (entries_grow rest) first last g a k
entries_grow (opens place n inside rest) first last g a k =
    followed (place ∷ places inside) (places rest) (opening place n (survey inside)) (survey rest)
    (λ first last g a k. opened place (places inside) (survey inside) (entries_grow inside) first last g a k (opened_at k a.scope n)) (entries_grow rest) first last g a k
entries_grow (branch place one other rest) first last g a k =
    followed (place ∷ (places one ++ places other)) (places rest) (branching place (survey one) (survey other)) (survey rest)
    (branched place (places one) (places other) (survey one) (survey other) (entries_grow one) (entries_grow other)) (entries_grow rest) first last g a k
entries_grow (loop place body rest) first last g a k =
    followed (place ∷ places body) (places rest) (looping place (survey body)) (survey rest)
    (λ first last g a k. entries_grow body first last (grow_from first (suc place) last (places body) (omega (arith, g.0)) g.1) (turning a (in_round place)) (known_in_loop k))
    (entries_grow rest) first last g a k
entries_grow (stop place kind rest) first last g a k =
    followed (place ∷ []) (places rest) (stopping place kind) (survey rest) (λ first last g a k. grow_within first last (place ∷ []) g) (entries_grow rest) first last g a k

all_entries_grow : (k : Known) (ts : List Nodes) (first last : ℕ) → Grow first last (flat_map places ts) → Grow first last (term_places (all_entries (surveys k ts)))
all_entries_grow k [] first last g = g
all_entries_grow k (t ∷ ts) first last g =
    let parts = grow_apart first last (places t) (flat_map places ts) g in
    grow_both first parts.0 last (table_survey k t).entries (all_entries (surveys (behind_table k (table_survey k t)) ts)) (entries_grow t first parts.0 parts.1 at_root k)
    (all_entries_grow (behind_table k (table_survey k t)) ts parts.0 last parts.2)

-- ---- lists that grow are in order

no_less : {X : Type 0} (n : X → ℕ) (first last : ℕ) (xs : List X) (i : ℕ) (d : X) → Grow first last (map n xs) → i < length xs → first ≤ n (slice_index_or xs i d)
no_less n first last [] i d g lt = absurd (omega (arith, lt))
no_less n first last (x ∷ xs) zero d g lt = g.0
no_less n first last (x ∷ xs) (suc i) d g lt = omega (arith, g.0, no_less n (suc (n x)) last xs i d g.1 (omega (arith, lt)))

pub in_order : {X : Type 0} (n : X → ℕ) (first last : ℕ) (xs : List X) → Grow first last (map n xs) → IsNonDecreasingBy n xs
in_order n first last [] g i j d le lt = absurd (omega (arith, lt))
in_order n first last (x ∷ xs) g zero zero d le lt = omega arith
in_order n first last (x ∷ xs) g zero (suc j) d le lt = omega (arith, no_less n (suc (n x)) last xs j d g.1 (omega (arith, lt)))
in_order n first last (x ∷ xs) g (suc i) zero d le lt = absurd (omega (arith, le))
in_order n first last (x ∷ xs) g (suc i) (suc j) d le lt = in_order n (suc (n x)) last xs g.1 i j d (omega (arith, le)) (omega (arith, lt))

-- ---- tables

pub all_tile : (depth number : ℕ) (s last : Reading) (ts : List SurveyedTable) → AreTables depth number s ts last → AllTile ts
all_tile depth number s last [] h = tt
all_tile depth number s last (t ∷ ts) h =
    (outline_tiles survey_rules (at_table number s) depth (code_read t.judged) (nodes_view t.nodes) h.0.outline, all_tile depth (suc number) (behind_read (behind_nodes number s t)) last ts h.1)

-- the predefined objects are first
pub after_first : (es : List Entry) → drop predefined_count (first_reading.walk.entries ++ es) ≡ es
unfolding first_reading with_object
after_first es = refl

pub entries_in_order : (depth : ℕ) (last : Reading) (ts : List SurveyedTable) → AreTables depth 0 first_reading ts last
    → IsNonDecreasingBy (λ (e : Entry). e.term.place) (drop predefined_count last.walk.entries)
entries_in_order depth last ts h =
    let read = are_read depth 0 first_reading last ts h in
    let is = read_is_survey depth 0 first_reading last (bytes_of ts) (nodes_of_each ts) first_at_start read in
    let grow = tables_grow depth 0 first_reading last (bytes_of ts) (nodes_of_each ts) read in
    let es : List Entry = all_entries (surveys first_reading.walk.known (all_nodes 0 (nodes_of_each ts))) in
    let behind : drop predefined_count last.walk.entries ≡ es = ap (drop predefined_count) is.entries ∙ after_first es in
    subst (IsNonDecreasingBy (λ (e : Entry). e.term.place)) (sym behind)
    (in_order (λ (e : Entry). e.term.place) (place_in 0 0) grow.0 es (all_entries_grow first_reading.walk.known (all_nodes 0 (nodes_of_each ts)) (place_in 0 0) grow.0 grow.1))
