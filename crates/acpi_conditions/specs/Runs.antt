-- Runs: which objects tables declare when control goes through them, with some choice at each If and some number of
-- rounds at each While, each time anew (ACPI 6.5, 5.3 and 19.6).
use Rattle.std.specs.Prelude.{◌≡◌, ◌≢◌, ◌⊎◌, ℕ, zero, suc, List, [], ◌∷◌, Option, Some, None}
use Rattle.std.specs.List.{AllByRecursion}
use Rattle.acpi_name.specs.Names.{NameParts}
use Rattle.acpi_name.specs.Paths.{place_of, parent_of}
use Rattle.acpi_space.specs.Lookups.{is_defined_in, singleton, union}
use Rattle.acpi_space.specs.Search.{answer}
use Rattle.acpi_conditions.specs.Nodes.{Place, Term, Stop, returns, breaks, continues, Nodes, no_nodes, declares, opens, branch, loop, stop}
use Rattle.acpi_conditions.specs.Entries.{Path, Namespace, IsScopeIn, IsFoundIn, Turn, then_branch, else_branch, in_round, within}

-- the term declares its object at the path: its parent is a scope, the path is free, and the names in its operands are
-- found
pub record Makes (objects : Namespace) (s : Path) (t : Term) (p : Path) : Type 0 where
  pub has_segments : t.name.segments ≢ []
  pub placed : place_of s t.name ≡ Some p
  pub parent : IsScopeIn objects (parent_of p)
  pub free : objects p ≡ None
  pub needs : AllByRecursion (IsFoundIn objects s) t.needs

-- control has come to a term: in which scope and by which way, the namespace of that moment, and where the term
-- declares its object, if it does
pub record Event : Type 0 where
  pub term : Term
  pub scope : Path
  pub way : List Turn
  pub objects : Namespace
  pub object_path : Option Path

-- the namespace, and what has happened so far: to which terms control has come, which turns it has taken, and where it
-- was stopped
pub record State : Type 0 where
  pub objects : Namespace
  pub events : List Event
  pub turns : List Turn
  pub stop_places : List Place

abbrev pub with_turn : Turn → State → State
with_turn turn S = record S { turns = turn ∷ S.turns }

abbrev pub with_stop : Place → State → State
with_stop place S = record S { stop_places = place ∷ S.stop_places }

abbrev pub with_event : Path → List Turn → Term → Option Path → State → State
with_event s w t o S = record S {
  events =
      record { term = t; scope = s; way = w; objects = S.objects; object_path = o } ∷ S.events;
}

-- the term declares its object, and control goes into it; or it declares nothing
abbrev pub state_inside : Path → List Turn → Term → Path → State → State
state_inside s w t p S = record (with_turn (within t.place) (with_event s w t (Some p) S)) {
  objects = union S.objects (singleton p t);
}

abbrev pub state_past : Path → List Turn → Term → State → State
state_past s w t S = with_event s w t None S

pub data Ending : Type 0 where
  goes_on : Ending
  stops : Stop → Ending

-- from one state to another, with an ending
abbrev pub Going : Type 1
Going = State → Ending → State → Type 0

-- .. in a scope, by a way (the last turn first)
abbrev pub Running : Type 1
Running = Path → List Turn → Going

abbrev pub Stays : Going
Stays S e S' = (e ≡ goes_on) × (S' ≡ S)

abbrev pub Staying : Running
Staying s w = Stays

-- what follows does so only where nothing has stopped control
abbrev pub Continues : Ending → Going → Going
Continues goes_on next S e S' = next S e S'
Continues (stops kind) next S e S' = (e ≡ stops kind) × (S' ≡ S)

abbrev pub IsFollowed : Running → Running → Running
IsFollowed here rest s w S e S' =
    (m : Ending) × (M : State) × here s w S m M × Continues m (rest s w) M e S'

abbrev pub IsDeclaring : Term → Running → Running
IsDeclaring t inside s w S e S' =
    ((p : Path) × Makes S.objects s t p
    × inside p (within t.place ∷ w) (state_inside s w t p S) e S')
    ⊎ (((p : Path) → Makes S.objects s t p → ⊥) × Stays (state_past s w t S) e S')

-- a Scope is gone through where its name finds a scope
abbrev pub Finds : Namespace → Path → NameParts → Path → Type 0
Finds objects s n p = (answer (is_defined_in objects) s n ≡ Some p) × IsScopeIn objects p

abbrev pub IsOpening : Place → NameParts → Running → Running
IsOpening place n inside s w S e S' =
    ((p : Path) × Finds S.objects s n p
    × inside p (within place ∷ w) (with_turn (within place) S) e S')
    ⊎ (((p : Path) → Finds S.objects s n p → ⊥) × Stays S e S')

abbrev pub IsBranching : Place → Running → Running → Running
IsBranching place first other s w S e S' =
    first s (then_branch place ∷ w) (with_turn (then_branch place) S) e S'
    ⊎ other s (else_branch place ∷ w) (with_turn (else_branch place) S) e S'

-- behind a round: the next one, or the end of the While
abbrev pub NextRound : Ending → Going → Going
NextRound goes_on next S e S' = next S e S'
NextRound (stops continues) next S e S' = next S e S'
NextRound (stops breaks) next S e S' = Stays S e S'
NextRound (stops returns) next S e S' = (e ≡ stops returns) × (S' ≡ S)

-- at most so many rounds
abbrev pub AreRounds : ℕ → Going → Going
AreRounds zero round S e S' = Stays S e S'
AreRounds (suc n) round S e S' =
    (m : Ending) × (M : State) × round S m M × NextRound m (AreRounds n round) M e S'

abbrev pub IsRound : Place → Running → Running
IsRound place body s w S e S' = body s (in_round place ∷ w) (with_turn (in_round place) S) e S'

abbrev pub IsLooping : Place → Running → Running
IsLooping place body s w S e S' = (n : ℕ) × AreRounds n (IsRound place body s w) S e S'

abbrev pub IsStopping : Place → Stop → Running
IsStopping place kind s w S e S' = (e ≡ stops kind) × (S' ≡ with_stop place S)

-- control goes through nodes
abbrev pub IsRun : Nodes → Running
IsRun no_nodes = Staying
IsRun (declares t inside rest) = IsFollowed (IsDeclaring t (IsRun inside)) (IsRun rest)
IsRun (opens place n inside rest) = IsFollowed (IsOpening place n (IsRun inside)) (IsRun rest)
IsRun (branch place first other rest) =
    IsFollowed (IsBranching place (IsRun first) (IsRun other)) (IsRun rest)
IsRun (loop place body rest) = IsFollowed (IsLooping place (IsRun body)) (IsRun rest)
IsRun (stop place kind rest) = IsFollowed (IsStopping place kind) (IsRun rest)

-- .. through tables, one after another, wherever it leaves each
abbrev pub AreRuns : List Nodes → State → State → Type 0
AreRuns [] S S' = S' ≡ S
AreRuns (t ∷ ts) S S' = (e : Ending) × (M : State) × IsRun t [] [] S e M × AreRuns ts M S'
