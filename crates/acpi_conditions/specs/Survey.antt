-- The survey: what tables may declare, whatever the tests of their Ifs and Whiles say (ACPI 6.5, 5.3 and 20.2.5).
use Rattle.std.specs.Prelude.{Bool, true, false, cond, List, [], ◌∷◌, ◌++◌, map, Result, Ok, Err}
use Rattle.std.specs.List.{filter, flat_map}
use Rattle.acpi_name.specs.Names.{NameParts}
use Rattle.acpi_conditions.specs.Nodes.{Place, Term, Stop, returns, breaks, continues, Nodes, no_nodes, declares, opens, branch, loop, stop}
use Rattle.acpi_conditions.specs.Entries.{Path, Turn, then_branch, else_branch, in_round, within, past, is_empty, asks_nothing, Entry, Why, Refusal, StopAt}
use Rattle.acpi_conditions.specs.Known.{Certain, Known, is_certain_scope, declared_at, asks_of, settled, opened_at}

-- where a node stands: the scope, and the way to it
pub record Around : Type 0 where
  pub scope : Path
  pub way : List Turn

abbrev pub turning : Around → Turn → Around
turning a turn = record a { way = a.way ++ turn ∷ [] }

-- what nodes give: entries, refusals and stops in their order, and what is certain behind them
pub record Survey : Type 0 where
  pub entries : List Entry
  pub refused : List Refusal
  pub stops : List StopAt
  pub certain : List Certain

-- what nodes give, by where they stand and what is known before them
abbrev pub Surveying : Type 0
Surveying = Around → Known → Survey

-- ---- one after another

abbrev pub behind : Known → Survey → Known
behind k x = record k { entries = k.entries ++ x.entries; certain = x.certain }

abbrev pub passing : Around → Survey → Around
passing a x = record a { way = a.way ++ map (λ s. past s.place) x.stops }

abbrev pub joined : Survey → Survey → Survey
joined x y =
    record {
      entries = x.entries ++ y.entries;
      refused = x.refused ++ y.refused;
      stops = x.stops ++ y.stops;
      certain = y.certain;
    }

abbrev pub followed_by : Surveying → Surveying → Surveying
followed_by here rest a k = joined (here a k) (rest (passing a (here a k)) (behind k (here a k)))

abbrev pub empty_survey : Surveying
empty_survey a k = record { entries = []; refused = []; stops = []; certain = k.certain }

abbrev pub refusing : Place → Why → Surveying
refusing place why a k =
    record (empty_survey a k) { refused = record { place = place; why = why } ∷ [] }

-- ---- each node

abbrev pub entry_at : Around → Known → Term → Path → Entry
entry_at a k t p =
    record { term = t; scope = a.scope; path = p; way = a.way; asks = asks_of k a.scope t p }

-- inside an entry's term; where that asks something, control takes one more turn
abbrev pub inside_of : Entry → Around
inside_of e =
    record {
      scope = e.path;
      way = e.way ++ cond (asks_nothing e.asks) [] (within e.term.place ∷ []);
    }

abbrev pub known_inside : Known → Entry → Known
known_inside k e =
    record k {
      entries = k.entries ++ e ∷ [];
      certain = record { path = e.path; is_scope = e.term.is_scope } ∷ k.certain;
    }

abbrev pub with_inside : Known → Entry → Survey → Survey
with_inside k e x =
    record x {
      entries = e ∷ x.entries;
      certain = cond (asks_nothing e.asks) x.certain (settled e ++ k.certain);
    }

abbrev pub declaring_as : Term → Surveying → Around → Known → Result Path Why → Survey
declaring_as t inside a k (Ok p) = with_inside k (entry_at a k t p)
    (inside (inside_of (entry_at a k t p)) (known_inside k (entry_at a k t p)))
declaring_as t inside a k (Err why) = refusing t.place why a k

abbrev pub declaring : Term → Surveying → Surveying
declaring t inside a k = declaring_as t inside a k (declared_at k a.scope t.name)

-- inside a Scope; where it asks for its target, control takes one more turn
abbrev pub inside_scope : Place → Around → Known → Path → Around
inside_scope place a k p =
    record { scope = p; way = a.way ++ cond (is_certain_scope k p) [] (within place ∷ []) }

abbrev pub known_in_scope : Known → Path → Known
known_in_scope k p = record k { certain = record { path = p; is_scope = true } ∷ k.certain }

abbrev pub with_scope : Known → Path → Survey → Survey
with_scope k p x = record x { certain = cond (is_certain_scope k p) x.certain k.certain }

abbrev pub opening_as : Place → Surveying → Around → Known → Result Path Why → Survey
opening_as place inside a k (Ok p) =
    with_scope k p (inside (inside_scope place a k p) (known_in_scope k p))
opening_as place inside a k (Err why) = refusing place why a k

abbrev pub opening : Place → NameParts → Surveying → Surveying
opening place n inside a k = opening_as place inside a k (opened_at k a.scope n)

-- behind an If; neither branch knows of the other's entries
abbrev pub either : Known → Survey → Survey → Survey
either k x y = record (joined x y) { certain = k.certain }

abbrev pub branching : Place → Surveying → Surveying → Surveying
branching place first other a k =
    either k (first (turning a (then_branch place)) k) (other (turning a (else_branch place)) k)

-- a Return ends the table; Break and Continue end at the innermost While around them (19.6)
abbrev pub leaves_table : Stop → Bool
leaves_table returns = true
leaves_table breaks = false
leaves_table continues = false

abbrev pub known_in_loop : Known → Known
known_in_loop k = record k { in_loop = true }

abbrev pub left_loop : Known → Survey → Survey
left_loop k x = record x { stops = filter (λ s. leaves_table s.kind) x.stops; certain = k.certain }

abbrev pub looping : Place → Surveying → Surveying
looping place body a k = left_loop k (body (turning a (in_round place)) (known_in_loop k))

abbrev pub stopping : Place → Stop → Surveying
stopping place kind a k =
    record (empty_survey a k) { stops = record { place = place; kind = kind } ∷ [] }

-- ---- all nodes

abbrev pub survey : Nodes → Surveying
survey no_nodes = empty_survey
survey (declares t inside rest) = followed_by (declaring t (survey inside)) (survey rest)
survey (opens place n inside rest) = followed_by (opening place n (survey inside)) (survey rest)
survey (branch place first other rest) =
    followed_by (branching place (survey first) (survey other)) (survey rest)
survey (loop place body rest) = followed_by (looping place (survey body)) (survey rest)
survey (stop place kind rest) = followed_by (stopping place kind) (survey rest)

-- ---- tables

-- where the first term of a table stands
abbrev pub at_root : Around
at_root = record { scope = []; way = [] }

abbrev pub lasting : Entry → List Certain
lasting e = cond (is_empty e.way) (settled e) []

-- Behind a table, wherever a Return left it, certain is what was certain before it, and what its entries with an empty
-- way settle.
abbrev pub behind_table : Known → Survey → Known
behind_table k x =
    record k { entries = k.entries ++ x.entries; certain = flat_map lasting x.entries ++ k.certain }

abbrev pub table_survey : Known → Nodes → Survey
table_survey k t = survey t at_root k

abbrev pub known_behind : Known → List Nodes → Known
known_behind k [] = k
known_behind k (t ∷ ts) = known_behind (behind_table k (table_survey k t)) ts

-- the surveys of tables that are loaded one after another
abbrev pub surveys : Known → List Nodes → List Survey
surveys k [] = []
surveys k (t ∷ ts) = table_survey k t ∷ surveys (behind_table k (table_survey k t)) ts

abbrev pub all_entries : List Survey → List Entry
all_entries = flat_map (λ x. x.entries)

abbrev pub all_refused : List Survey → List Refusal
all_refused = flat_map (λ x. x.refused)
