-- A walk over nodes: the survey one step after another, as a reader comes to them: past a term or a stop, into a
-- package, and out of it (ACPI 6.5, 5.3, 19.6 and 20.2.5).
use Rattle.std.specs.Prelude.{ℕ, Bool, false, cond, List, [], ◌∷◌, ◌++◌, length, take, drop, Option, Some, None, Result, Ok, Err}
use Rattle.std.specs.Option.{unwrap_or}
use Rattle.acpi_name.specs.Names.{NameParts}
use Rattle.acpi_conditions.specs.Nodes.{Place, Term, Stop, Nodes, no_nodes, declares, opens, branch, loop, stop}
use Rattle.acpi_conditions.specs.Entries.{Path, then_branch, else_branch, in_round, asks_nothing, Entry, Why, Refusal, StopAt}
use Rattle.acpi_conditions.specs.Known.{Certain, Known, is_certain_scope, declared_at, settled, opened_at}
use Rattle.acpi_conditions.specs.Listings.{entry_of}
use Rattle.acpi_conditions.specs.Survey.{Around, at_root, turning, Survey, passing, behind, empty_survey, refusing, entry_at, inside_of, known_inside, declaring, inside_scope, known_in_scope, known_in_loop, left_loop, stopping, behind_table}

-- ---- the state

-- What a package is of: a term, whose entry is the first of those inside; a Scope, and whether its target is a scope
-- for certain; the first branch of an If; its other branch; the body of a While.
pub data Kind : Type 0 where
  of_term : Kind
  of_scope : Bool → Kind
  of_first : Kind
  of_other : Kind
  of_body : Kind

-- a package around: what it is of, its place, where it stands, and before it what was known and how many entries and
-- stops there were
pub record Package : Type 0 where
  pub kind : Kind
  pub place : Place
  pub around : Around
  pub known : Known
  pub entries : ℕ
  pub stops : ℕ

-- what was known before a table, and how many entries there were
pub record Start : Type 0 where
  pub known : Known
  pub entries : ℕ

-- Where the walk stands and what is known there; all entries and refusals so far; the stops of the lists around; the
-- packages around, the innermost first; directly behind an If, the package of its first branch; and the start of the
-- table.
pub record Walk : Type 0 where
  pub around : Around
  pub known : Known
  pub entries : List Entry
  pub refused : List Refusal
  pub stops : List StopAt
  pub packages : List Package
  pub last_if : Option Package
  pub start : Start

-- ---- past nodes

-- behind nodes that give this
abbrev pub passed : Survey → Walk → Walk
passed x w = record w {
  around = passing w.around x;
  known = behind w.known x;
  entries = w.entries ++ x.entries;
  refused = w.refused ++ x.refused;
  stops = w.stops ++ x.stops;
  last_if = None;
}

-- a term with nothing inside
abbrev pub declare : Term → Walk → Walk
declare t w = passed (declaring t empty_survey w.around w.known) w

abbrev pub stop_at : Place → Stop → Walk → Walk
stop_at place kind w = passed (stopping place kind w.around w.known) w

-- some other node
abbrev pub pass : Walk → Walk
pass w = record w { last_if = None }

-- ---- into a package

abbrev pub package_at : Kind → Place → Walk → Package
package_at kind place w =
    record {
      kind = kind;
      place = place;
      around = w.around;
      known = w.known;
      entries = length w.entries;
      stops = length w.stops;
    }

abbrev pub into : Package → Around → Known → Walk → Walk
into p a k w = record w { around = a; known = k; packages = p ∷ w.packages; last_if = None }

-- a term; where it can't be declared it is refused, and its package isn't entered
abbrev pub into_term : Entry → Walk → Walk
into_term e w = into (package_at of_term e.term.place w) (inside_of e) (known_inside w.known e)
    (record w { entries = w.entries ++ e ∷ [] })

abbrev pub enter_term_as : Term → Walk → Result Path Why → Walk
enter_term_as t w (Ok p) = into_term (entry_at w.around w.known t p) w
enter_term_as t w (Err why) = passed (refusing t.place why w.around w.known) w

abbrev pub enter_term : Term → Walk → Walk
enter_term t w = enter_term_as t w (declared_at w.known w.around.scope t.name)

-- a Scope; where it opens none it is refused, and its package isn't entered
abbrev pub enter_scope_as : Place → Walk → Result Path Why → Walk
enter_scope_as place w (Ok p) = into (package_at (of_scope (is_certain_scope w.known p)) place w)
    (inside_scope place w.around w.known p) (known_in_scope w.known p) w
enter_scope_as place w (Err why) = passed (refusing place why w.around w.known) w

abbrev pub enter_scope : Place → NameParts → Walk → Walk
enter_scope place n w = enter_scope_as place w (opened_at w.known w.around.scope n)

-- the first branch of an If
abbrev pub enter_first : Place → Walk → Walk
enter_first place w =
    into (package_at of_first place w) (turning w.around (then_branch place)) w.known w

-- the other branch of an If that has this first branch; it knows nothing of that
abbrev pub into_other : Package → Walk → Walk
into_other p w =
    into (record p { kind = of_other }) (turning p.around (else_branch p.place)) p.known w

-- an Else; with no If before it, as behind an If that stands at its place and has an empty first branch
abbrev pub enter_other : Place → Walk → Walk
enter_other place w = into_other (unwrap_or w.last_if (package_at of_first place w)) w

-- behind an If whose test can't be read: only its other branch is
abbrev pub lost_if : Place → Walk → Walk
lost_if place w = record w { last_if = Some (package_at of_first place w) }

-- the body of a While
abbrev pub enter_body : Place → Walk → Walk
enter_body place w =
    into (package_at of_body place w) (turning w.around (in_round place)) (known_in_loop w.known) w

-- ---- out of a package

-- what has come behind so many entries and stops gives
abbrev pub given_behind : (entries stops : ℕ) → Walk → Survey
given_behind entries stops w =
    record {
      entries = drop entries w.entries;
      refused = [];
      stops = drop stops w.stops;
      certain = w.known.certain;
    }

abbrev pub given_inside : Package → Walk → Survey
given_inside p w = given_behind p.entries p.stops w

-- certain behind a term
abbrev pub certain_after : Known → List Entry → List Certain → List Certain
certain_after k [] inside = k.certain
certain_after k (e ∷ es) inside = cond (asks_nothing e.asks) inside (settled e ++ k.certain)

-- what the package gives
abbrev pub given_by : Kind → Known → Survey → Survey
given_by of_term k x = record x { certain = certain_after k x.entries x.certain }
given_by (of_scope is_certain) k x = record x { certain = cond is_certain x.certain k.certain }
given_by of_body k x = left_loop k x
given_by _ k x = record x { certain = k.certain }

-- an If, where the package is its first branch
abbrev pub if_of : Kind → Package → Option Package
if_of of_first p = Some p
if_of _ p = None

abbrev pub out_of : Package → List Package → Survey → Walk → Walk
out_of p outer x w = record w {
  around = passing p.around x;
  known = behind p.known x;
  stops = take p.stops w.stops ++ x.stops;
  packages = outer;
  last_if = if_of p.kind p;
}

abbrev pub leave_from : List Package → Walk → Walk
leave_from [] w = w
leave_from (p ∷ outer) w = out_of p outer (given_by p.kind p.known (given_inside p w)) w

abbrev pub leave : Walk → Walk
leave w = leave_from w.packages w

-- ---- tables

-- at the start of a table
abbrev pub started : Walk → Walk
started w =
    record w {
      around = at_root;
      stops = [];
      packages = [];
      last_if = None;
      start = record { known = w.known; entries = length w.entries };
    }

-- what the table gives
abbrev pub given_since : Start → Walk → Survey
given_since start w = given_behind start.entries 0 w

abbrev pub end_table : Walk → Walk
end_table w = started (record w { known = behind_table w.start.known (given_since w.start w) })

-- a term whose object is there before all tables
abbrev pub predefined_entry : Term → Path → Entry
predefined_entry t p = entry_of (record { term = t; scope = []; path = p })

abbrev pub predefine : Term → Path → Walk → Walk
predefine t p w = started
    (record w {
      known = known_inside w.known (predefined_entry t p);
      entries = w.entries ++ predefined_entry t p ∷ [];
    })

-- before all
abbrev pub first_walk : Walk
first_walk = record {
  around = at_root;
  known = record { entries = []; certain = []; in_loop = false };
  entries = [];
  refused = [];
  stops = [];
  packages = [];
  last_if = None;
  start = record { known = record { entries = []; certain = []; in_loop = false }; entries = 0 };
}

-- ---- the steps for nodes

-- through a term or a Scope; what stands in a refused one isn't gone through
abbrev pub through : {A : Type 0} → Result A Why → (Walk → Walk) → Walk → Walk
through (Ok p) inside w = leave (inside w)
through (Err why) inside w = w

abbrev pub walked_term : Term → (Walk → Walk) → Walk → Walk
walked_term t inside w = through (declared_at w.known w.around.scope t.name) inside (enter_term t w)

abbrev pub walked_scope : Place → NameParts → (Walk → Walk) → Walk → Walk
walked_scope place n inside w =
    through (opened_at w.known w.around.scope n) inside (enter_scope place n w)

abbrev pub walked_if : Place → (first other : Walk → Walk) → Walk → Walk
walked_if place first other w =
    leave (other (enter_other place (leave (first (enter_first place w)))))

abbrev pub walked_while : Place → (Walk → Walk) → Walk → Walk
walked_while place body w = leave (body (enter_body place w))

abbrev pub walked : Nodes → Walk → Walk
walked no_nodes w = w
walked (declares t inside rest) w = walked rest (walked_term t (walked inside) w)
walked (opens place n inside rest) w = walked rest (walked_scope place n (walked inside) w)
walked (branch place first other rest) w =
    walked rest (walked_if place (walked first) (walked other) w)
walked (loop place body rest) w = walked rest (walked_while place (walked body) w)
walked (stop place kind rest) w = walked rest (stop_at place kind w)

abbrev pub walked_tables : List Nodes → Walk → Walk
walked_tables [] w = w
walked_tables (t ∷ ts) w = walked_tables ts (end_table (walked t w))
