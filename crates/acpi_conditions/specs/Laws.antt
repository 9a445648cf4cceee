-- The laws of the survey, each as one statement (ACPI 6.5, 5.3, 19.6 and 20.2.5).
use Rattle.std.specs.Prelude.{◌≡◌, ◌≢◌, ◌⊎◌, ◌↔◌, false, not, IsTrue, List, [], ◌∷◌, ◌++◌, map, Some, None, ⊤}
use Rattle.std.specs.List.{AllByRecursion, AllZip, flat_map, list_any}
use Rattle.acpi_name.specs.Names.{NameParts}
use Rattle.acpi_name.specs.Paths.{place_of}
use Rattle.acpi_space.specs.Lookups.{is_defined_in}
use Rattle.acpi_space.specs.Search.{answer}
use Rattle.acpi_space.specs.Laws.{Among}
use Rattle.acpi_conditions.specs.Nodes.{Place, Term, Nodes, no_nodes, declares, opens, branch, loop, stop, places}
use Rattle.acpi_conditions.specs.Entries.{Path, Namespace, IsFoundIn, Turn, then_branch, else_branch, in_round, within, past, Entry, Holds, HasNoCondition, Why, unsure, Refusal}
use Rattle.acpi_conditions.specs.Known.{Known, is_certain, is_certain_scope, is_possible, is_possible_scope, candidates, is_certain_name, IsTrueOf}
use Rattle.acpi_conditions.specs.Survey.{Around, Survey, behind, survey, known_behind, surveys, all_entries, all_refused}
use Rattle.acpi_conditions.specs.Walk.{of_first, Package, Walk, passed, pass, enter_other, leave, started, walked, walked_tables}
use Rattle.acpi_conditions.specs.Runs.{Event, State, Ending, IsRun, AreRuns}
use Rattle.acpi_conditions.specs.Links.{is_round, seen_from, links}
use Rattle.acpi_conditions.specs.Views.{known_with}
use Rattle.acpi_conditions.specs.Listings.{Placement, AreListings, entry_of}

-- ---- sound

-- the way has the turn; a turn past a stop is none of a run's way, since the stop would have ended the run
abbrev pub HasTurn : List Turn → Turn → Type 0
HasTurn w (past place) = Unit {0}
HasTurn w turn = Among w turn

-- The entry of an event: it has the term, the scope and the path of that moment; control came by each turn of its way;
-- and the term declared its object exactly where what the entry asks was so.
pub record MatchesEntry (ev : Event) (e : Entry) : Type 0 where
  pub term : e.term ≡ ev.term
  pub scope : e.scope ≡ ev.scope
  pub path : place_of ev.scope ev.term.name ≡ Some e.path
  pub way : AllByRecursion (HasTurn ev.way) e.way
  pub exact : (p : Path) → (ev.object_path ≡ Some p) ↔ ((p ≡ e.path) × Holds ev.objects e)

-- .. or the refusal of an event: the term declared nothing
pub record MatchesRefusal (ev : Event) (r : Refusal) : Type 0 where
  pub place : r.place ≡ ev.term.place
  pub no_object : ev.object_path ≡ None

abbrev pub IsMatched : List Entry → List Refusal → Event → Type 0
IsMatched es rs ev = ((e : Entry) × Among es e × MatchesEntry ev e)
    ⊎ ((r : Refusal) × Among rs r × MatchesRefusal ev r)

-- it is known at which path each Scope is opened, if it is
abbrev pub IsSure : Why → Type 0
IsSure (unsure ps) = ⊥
IsSure _ = Unit {0}

abbrev pub AreSure : List Refusal → Type 0
AreSure rs = (r : Refusal) → Among rs r → IsSure r.why

-- the premises: a run of the tables from a state in which what is known is true, and a survey without unsure Scopes
pub record IsRunOf (k : Known) (tables : List Nodes) (S S' : State) : Type 0 where
  pub known : IsTrueOf S.objects k
  pub sure : AreSure (all_refused (surveys k tables))
  pub nothing_yet : (S.events ≡ []) × (S.turns ≡ []) × (S.stop_places ≡ [])
  pub run : AreRuns tables S S'

-- each time control comes to a term in a run, the term has an entry, and declares its object exactly where what the
-- entry asks is so at that moment; or it is refused, and declares none
abbrev pub SurveyIsExact : Type 0
SurveyIsExact = (k : Known) (tables : List Nodes) (S S' : State) → IsRunOf k tables S S'
    → AllByRecursion
    (IsMatched (all_entries (surveys k tables)) (all_refused (surveys k tables))) S'.events

-- so whatever is declared is an entry
abbrev pub MadeIsEntry : Type 0
MadeIsEntry = (k : Known) (tables : List Nodes) (S S' : State) → IsRunOf k tables S S'
    → (p : Path) (t : Term) → S'.objects p ≡ Some t
    → (S.objects p ≡ Some t)
    ⊎ ((e : Entry) × Among (all_entries (surveys k tables)) e × (e.path ≡ p) × (e.term ≡ t))

-- and an entry without a condition is declared in every run
abbrev pub UnconditionalIsMade : Type 0
UnconditionalIsMade = (k : Known) (tables : List Nodes) (S S' : State) → IsRunOf k tables S S'
    → (e : Entry) → Among (all_entries (surveys k tables)) e → HasNoCondition e
    → S'.objects e.path ≡ Some e.term

-- no two of them are the same
abbrev pub AreDistinct : List Place → Type 0
AreDistinct [] = ⊤
AreDistinct (p ∷ ps) = (Among ps p → ⊥) × AreDistinct ps

-- This is so of each entry, behind each run of tables whose nodes stand at distinct places.
abbrev pub OfEntries : (Known → List Nodes → State → Entry → Type 0) → Type 0
OfEntries IsSo = (k : Known) (tables : List Nodes) (S S' : State) → IsRunOf k tables S S'
    → AreDistinct (flat_map places tables)
    → (e : Entry) → Among (all_entries (surveys k tables)) e → IsSo k tables S' e

-- control has come to the entry's term
abbrev pub IsReached : State → Entry → Type 0
IsReached S e = (ev : Event) × Among S.events ev × (ev.term ≡ e.term)

-- control hasn't taken the turn; past a stop, it was stopped there
abbrev pub IsMissed : State → Turn → Type 0
IsMissed S (past place) = Among S.stop_places place
IsMissed S turn = Among S.turns turn → ⊥

-- Control comes to the term of each entry, unless it misses a turn of the entry's way. (Of entries inside a While,
-- where one round may miss one turn and another round another, nothing is said.)
abbrev pub ComesByWay : Type 0
ComesByWay = OfEntries (λ k tables S e.
    IsReached S e ⊎ ((turn : Turn) × Among e.way turn × IsMissed S turn)
    ⊎ ((place : Place) × Among e.way (in_round place)))

-- control has taken the turn; past a stop, it was not stopped there
abbrev pub IsTaken : State → Turn → Type 0
IsTaken S (past place) = Among S.stop_places place → ⊥
IsTaken S turn = Among S.turns turn

-- .. and where it comes to the term, it has taken each turn of the way
abbrev pub TakesTheWay : Type 0
TakesTheWay = OfEntries (λ k tables S e. IsReached S e
    → ((turn : Turn) → Among e.way turn → IsTaken S turn)
    ⊎ ((place : Place) × Among e.way (in_round place)))

-- where the turn's node stands
abbrev pub turn_place : Turn → Place
turn_place (then_branch place) = place
turn_place (else_branch place) = place
turn_place (in_round place) = place
turn_place (within place) = place
turn_place (past place) = place

-- a state whose record, that of `own`, was put in front of what was recorded before
abbrev pub recorded_on : State → State → State
recorded_on own before =
    record own {
      events = own.events ++ before.events;
      turns = own.turns ++ before.turns;
      stop_places = own.stop_places ++ before.stop_places;
    }

-- The premises of a run of nodes, such as one round of a While: a state in which what is known is true, whatever was
-- recorded before; a survey without unsure Scopes; nodes at distinct places; and a way whose turns stand elsewhere.
pub record IsRunAt (k : Known) (a : Around) (ns : Nodes) (S S' : State) : Type 0 where
  pub known : IsTrueOf S.objects k
  pub sure : AreSure (survey ns a k).refused
  pub distinct : AreDistinct (places ns)
  pub elsewhere : (turn : Turn) → Among a.way turn → Among (places ns) (turn_place turn) → ⊥
  pub way : List Turn
  pub comes : AllByRecursion (HasTurn way) a.way
  pub ending : Ending
  pub run : IsRun ns a.scope way S ending S'

-- the Whiles among nodes: where each stands, and where the nodes inside it stand
abbrev pub whiles : Nodes → List (Place × List Place)
whiles no_nodes = []
whiles (declares t inside rest) = whiles inside ++ whiles rest
whiles (opens place n inside rest) = whiles inside ++ whiles rest
whiles (branch place first other rest) = (whiles first ++ whiles other) ++ whiles rest
whiles (loop place body rest) = ((place, places body) ∷ whiles body) ++ whiles rest
whiles (stop place kind rest) = whiles rest

-- the turn stands inside one of these Whiles, and so does the entry
abbrev pub IsInWhile : List (Place × List Place) → Entry → Turn → Type 0
IsInWhile ls e turn =
    (l : Place × List Place) × Among ls l × Among e.way (in_round l.0) × Among l.1 (turn_place turn)

-- Where control comes in a run of nodes to the term of an entry, it takes in the same run each turn of the entry's way
-- that stands among the nodes; past a stop, it is not stopped there in the same run, whatever it was in others. (Where a
-- While among the nodes is around both the turn and the entry, this is said of each round, a run of the nodes inside.)
abbrev pub RunsTakeTheWay : Type 0
RunsTakeTheWay = (k : Known) (a : Around) (ns : Nodes) (S S' : State) → IsRunAt k a ns S S'
    → (own : State) × (S' ≡ recorded_on own S)
    × ((e : Entry) → Among (survey ns a k).entries e → IsReached own e
    → (turn : Turn) → Among e.way turn → Among (places ns) (turn_place turn)
    → IsTaken own turn ⊎ IsInWhile (whiles ns) e turn)

-- ---- what stands at the end

-- an object stays once it is declared
abbrev pub ObjectsStay : Type 0
ObjectsStay = (tables : List Nodes) (S S' : State) → AreRuns tables S S'
    → (p : Path) (t : Term) → S.objects p ≡ Some t → S'.objects p ≡ Some t

-- control has taken each turn of the entry's way
abbrev pub AllTaken : State → Entry → Type 0
AllTaken S e = (turn : Turn) → Among e.way turn → IsTaken S turn

-- what the entry asks was so when control came to its term
abbrev pub HoldsWhenReached : State → Entry → Type 0
HoldsWhenReached S e = (ev : Event) × Among S.events ev × (ev.term ≡ e.term) × Holds ev.objects e

-- Control has come to the entry's term exactly where it has taken each turn of the way; and the term's object stands
-- exactly where, moreover, what the entry asks was so when control came.
pub record StandsExactly (S : State) (e : Entry) : Type 0 where
  pub comes : IsReached S e ↔ AllTaken S e
  pub stands : (S.objects e.path ≡ Some e.term) ↔ (AllTaken S e × HoldsWhenReached S e)

-- This is so of each entry outside of Whiles whose object doesn't stand there before: at the end of a run of the tables
-- and of more tables behind them. (No Scope of the tables is unsure; of those behind them nothing is asked.)
abbrev pub ObjectsStandExactly : Type 0
ObjectsStandExactly = (k : Known) (tables more : List Nodes) (S M S' : State)
    → IsRunOf k tables S M → AreRuns more M S' → AreDistinct (flat_map places (tables ++ more))
    → (e : Entry) → Among (all_entries (surveys k tables)) e
    → IsTrue (not (list_any is_round e.way)) → S.objects e.path ≢ Some e.term → StandsExactly S' e

-- what is certain before tables isn't declared by them
abbrev pub CertainIsNotDeclared : Type 0
CertainIsNotDeclared = (k : Known) (tables : List Nodes) (e : Entry)
    → Among (all_entries (surveys k tables)) e → is_certain k e.path ≡ false

-- ---- links

-- a name is found at one of its candidates, if it is; and where one is certain, it is found
abbrev pub CandidatesCover : Type 0
CandidatesCover =
    (objects : Namespace) (k : Known) → IsTrueOf objects k → (s : Path) (n : NameParts)
    → ((p : Path) → answer (is_defined_in objects) s n ≡ Some p → Among (candidates k s n) p)
    × (IsTrue (is_certain_name k s n) → IsFoundIn objects s n)

-- where control came to the term of an entry outside of Whiles, what is seen from the entry is true of the namespace at
-- the end
abbrev pub SeenIsTrue : Type 0
SeenIsTrue = OfEntries (λ k tables S e.
    IsTrue (not (list_any is_round e.way)) → IsReached S e
    → IsTrueOf S.objects (seen_from k (all_entries (surveys k tables)) e))

-- so a name that is searched from the entry's scope at the end is found at one of its candidates, if it is; and it is
-- found where one is certain
abbrev pub LinksCover : Type 0
LinksCover = OfEntries (λ k tables S e.
    IsTrue (not (list_any is_round e.way)) → IsReached S e → (n : NameParts)
    → ((p : Path) → answer (is_defined_in S.objects) e.scope n ≡ Some p
    → Among (candidates (seen_from k (all_entries (surveys k tables)) e) e.scope n) p)
    × (IsTrue (is_certain_name (seen_from k (all_entries (surveys k tables)) e) e.scope n)
    → IsFoundIn S.objects e.scope n))

-- ---- behind tables

-- behind the tables what is known is true of the namespace
abbrev pub KnownStaysTrue : Type 0
KnownStaysTrue = (k : Known) (tables : List Nodes) (S S' : State) → IsRunOf k tables S S'
    → IsTrueOf S'.objects (known_behind k tables)

-- there are runs
abbrev pub RunsExist : Type 0
RunsExist = (tables : List Nodes) (S : State) → (S' : State) × AreRuns tables S S'

-- ---- strict

-- the namespace is known for certain, and has all that is known
pub record IsAllOf (objects : Namespace) (k : Known) : Type 0 where
  pub is_true : IsTrueOf objects k
  pub not_in_loop : k.in_loop ≡ false
  pub made_are_certain : (p : Path) (t : Term) → objects p ≡ Some t
      → Among k.certain (record { path = p; is_scope = t.is_scope })
  pub entries_are_made : (e : Entry) → Among k.entries e → objects e.path ≡ Some e.term

abbrev pub IsStrict : List Placement → Survey → Type 0
IsStrict ds x = (x.entries ≡ map entry_of ds) × (x.refused ≡ []) × (x.stops ≡ [])

-- where tables have strict listings, these are the surveys: no entry has a condition, and nothing is refused
abbrev pub StrictIsSurvey : Type 0
StrictIsSurvey = (k : Known) (objects : Namespace) (tables : List Nodes)
    (dss : List (List Placement)) → IsAllOf objects k → AreListings tables objects dss
    → AllZip IsStrict dss (surveys k tables)

-- ---- by four tests

-- they answer alike, whatever path is asked for
pub record AnswerAlike (k q : Known) : Type 0 where
  pub certain : (p : Path) → is_certain k p ≡ is_certain q p
  pub certain_scope : (p : Path) → is_certain_scope k p ≡ is_certain_scope q p
  pub possible : (p : Path) → is_possible k p ≡ is_possible q p
  pub possible_scope : (p : Path) → is_possible_scope k p ≡ is_possible_scope q p

pub record AreAlike (k q : Known) (x y : Survey) : Type 0 where
  pub entries : x.entries ≡ y.entries
  pub refused : x.refused ≡ y.refused
  pub stops : x.stops ≡ y.stops
  pub behind_them : AnswerAlike (behind k x) (behind q y)

-- what nodes give depends on four tests of what is known, and not on how it is kept
abbrev pub TestsDecide : Type 0
TestsDecide = (ns : Nodes) (a : Around) (k q : Known) → AnswerAlike k q
    → AreAlike k q (survey ns a k) (survey ns a q)

-- ---- of more tables

-- the surveys of a longer list begin with those of a shorter one
abbrev pub LongerBegins : Type 0
LongerBegins = (k : Known) (ts us : List Nodes)
    → surveys k (ts ++ us) ≡ surveys k ts ++ surveys (known_behind k ts) us

-- ---- one step after another

-- but for whether an If stands directly before, the walk through nodes gives their survey
abbrev pub WalkIsSurvey : Type 0
WalkIsSurvey = (ns : Nodes) (w : Walk) → pass (walked ns w) ≡ passed (survey ns w.around w.known) w

-- the innermost package is the first branch of an If
abbrev pub IsInFirst : Walk → Type 0
IsInFirst w =
    (p : Package) × (outer : List Package) × (w.packages ≡ p ∷ outer) × (p.kind ≡ of_first)

-- so an If without an Else is one whose Else has nothing inside
abbrev pub EmptyElseIsNone : Type 0
EmptyElseIsNone = (place : Place) (w : Walk) → IsInFirst w
    → pass (leave (enter_other place (leave w))) ≡ pass (leave w)

-- through tables it gives their surveys, and behind them the same is known
abbrev pub TableWalkIsSurveys : Type 0
TableWalkIsSurveys =
    (tables : List Nodes) (w : Walk) → walked_tables tables (started w) ≡ started (record w {
      known = known_behind w.known tables;
      entries = w.entries ++ all_entries (surveys w.known tables);
      refused = w.refused ++ all_refused (surveys w.known tables);
    })

-- ---- seen from an entry

-- entries without a condition, whose objects are there before all tables, may be counted among those of the tables
abbrev pub SeenAmongAll : Type 0
SeenAmongAll =
    (k : Known) (before es : List Entry) (e : Entry) → AllByRecursion HasNoCondition before
    → AnswerAlike (seen_from (known_with k before) es e) (seen_from k (before ++ es) e)

abbrev pub NamesAmongAll : Type 0
NamesAmongAll = (k : Known) (before es : List Entry) (e : Entry) (s : Path) (n : NameParts)
    → AllByRecursion HasNoCondition before
    → (candidates (seen_from (known_with k before) es e) s n
    ≡ candidates (seen_from k (before ++ es) e) s n)
    × (is_certain_name (seen_from (known_with k before) es e) s n
    ≡ is_certain_name (seen_from k (before ++ es) e) s n)

abbrev pub LinksAmongAll : Type 0
LinksAmongAll = (k : Known) (before es : List Entry) (e : Entry) (names : List NameParts)
    → AllByRecursion HasNoCondition before
    → links (known_with k before) es e names ≡ links k (before ++ es) e names
