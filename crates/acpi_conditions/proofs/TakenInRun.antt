-- Where control comes to an entry's term in a run of nodes, it takes in the run each turn of the entry's way among them.
use Rattle.std.proofs.Common.{◌≡◌, List, [], ◌∷◌, ◌++◌, ◌⊎◌, inl, inr}
use Rattle.acpi_space.specs.Laws.{Among}
use Rattle.acpi_space.proofs.Elements.{among_left, among_append}
use Rattle.acpi_conditions.specs.Nodes.{Place, Nodes, places}
use Rattle.acpi_conditions.specs.Entries.{Turn, then_branch, else_branch, in_round, within, past, Entry, Refusal}
use Rattle.acpi_conditions.specs.Known.{Known}
use Rattle.acpi_conditions.specs.Survey.{Around, survey}
use Rattle.acpi_conditions.specs.Runs.{State, IsRun}
use Rattle.acpi_conditions.specs.Laws.{IsReached, IsTaken, turn_place, whiles, IsInWhile, recorded_on, IsRunAt, RunsTakeTheWay}
use Rattle.acpi_conditions.proofs.Outcomes.{IsCovered}
use Rattle.acpi_conditions.proofs.Taken.{Untouched, AroundTaken, taking_nodes}
use Rattle.acpi_conditions.proofs.Recorded.{Recording, recording_nodes}

module _ (k : Known) (a : Around) (ns : Nodes) (S S' : State) (r : IsRunAt k a ns S S') where
  abbrev es : List Entry
  es = (survey ns a k).entries

  abbrev rs : List Refusal
  rs = (survey ns a k).refused

  recording : Recording (IsRun ns a.scope r.way) S r.ending S'
  recording = recording_nodes ns a.scope r.way S r.ending S' r.run

  -- before it, the turns of the way alone are recorded
  abbrev before : State
  before = record { objects = S.objects; events = []; turns = a.way; stop_places = [] }

  around : AroundTaken (places ns) before a.way
  around turn m = (taken turn m, r.elsewhere turn m)
    where
      taken : (turn : Turn) → Among a.way turn → IsTaken before turn
      taken (then_branch p) m = m
      taken (else_branch p) m = m
      taken (in_round p) m = m
      taken (within p) m = m
      taken (past p) m = λ n. n

  clean : Untouched (places ns) before
  clean = record { stops = λ p m n. m; events = λ ev m n. m }

  covered : IsCovered es rs (survey ns a k)
  covered = record { entries = λ e m. m; refused = λ q m. m }

  -- what is taken with the turns of the way before it is taken in the run, where it stands among the nodes
  taken_own : (own : State) (turn : Turn) → Among (places ns) (turn_place turn) → IsTaken (recorded_on own before) turn → IsTaken own turn
  taken_own own (then_branch p) here m = by (among_append own.turns a.way (then_branch p) m)
    where
      by : Among own.turns (then_branch p) ⊎ Among a.way (then_branch p) → Among own.turns (then_branch p)
      by (inl m) = m
      by (inr m) = absurd (r.elsewhere (then_branch p) m here)
  taken_own own (else_branch p) here m = by (among_append own.turns a.way (else_branch p) m)
    where
      by : Among own.turns (else_branch p) ⊎ Among a.way (else_branch p) → Among own.turns (else_branch p)
      by (inl m) = m
      by (inr m) = absurd (r.elsewhere (else_branch p) m here)
  taken_own own (in_round p) here m = by (among_append own.turns a.way (in_round p) m)
    where
      by : Among own.turns (in_round p) ⊎ Among a.way (in_round p) → Among own.turns (in_round p)
      by (inl m) = m
      by (inr m) = absurd (r.elsewhere (in_round p) m here)
  taken_own own (within p) here m = by (among_append own.turns a.way (within p) m)
    where
      by : Among own.turns (within p) ⊎ Among a.way (within p) → Among own.turns (within p)
      by (inl m) = m
      by (inr m) = absurd (r.elsewhere (within p) m here)
  taken_own own (past p) here not = λ m. not (among_left own.stop_places [] p m)

  takes : (en : Entry) → Among es en → IsReached recording.own en → (turn : Turn) → Among en.way turn → Among (places ns) (turn_place turn) → IsTaken recording.own turn ⊎ IsInWhile (whiles ns) en turn
  takes en m reached turn n here = by (taking_nodes es rs r.sure ns a k r.way before r.ending (recorded_on recording.own before) r.known r.comes covered r.distinct clean around (recording.again before) en m
      reached.0 (among_left recording.own.events [] reached.0 reached.1) reached.2 turn n)
    where
      by : IsTaken (recorded_on recording.own before) turn ⊎ IsInWhile (whiles ns) en turn → IsTaken recording.own turn ⊎ IsInWhile (whiles ns) en turn
      by (inl x) = inl (taken_own recording.own turn here x)
      by (inr l) = inr l

pub runs_take_the_way : RunsTakeTheWay
runs_take_the_way k a ns S S' r = (
  (recording k a ns S S' r).own,
  (recording k a ns S S' r).put,
  takes k a ns S S' r,
)
