-- What a run does depends on the objects alone, and its own record is put in front of what was recorded before.
use Rattle.std.proofs.Common.{◌≡◌, ℕ, zero, suc, List, [], ◌∷◌, ◌++◌, ◌⊎◌, inl, inr, Some, None, refl, sym, ap, subst, ◌∙◌, append_assoc}
use Rattle.acpi_name.specs.Names.{NameParts}
use Rattle.acpi_space.specs.Lookups.{singleton, union}
use Rattle.acpi_conditions.specs.Nodes.{Place, Term, Stop, returns, breaks, continues, Nodes, no_nodes, declares, opens, branch, loop, stop}
use Rattle.acpi_conditions.specs.Entries.{Path, Namespace, Turn, then_branch, else_branch, in_round, within}
use Rattle.acpi_conditions.specs.Runs.{Makes, Event, State, with_turn, with_stop, state_inside, state_past, Ending, goes_on, stops, Going, Running, Stays, Continues, IsFollowed, IsDeclaring, Finds, IsOpening, IsBranching, NextRound, AreRounds, IsRound, IsLooping, IsStopping, IsRun}
use Rattle.acpi_conditions.specs.Laws.{recorded_on}

-- other things recorded, the same objects
abbrev pub at_objects : Namespace → State → State
at_objects objects T = record T { objects = objects }

abbrev the_state : Namespace → List Event → List Turn → List Place → State
the_state objects evs ts qs = record { objects = objects; events = evs; turns = ts; stop_places = qs }

state_is : (objects : Namespace) (evs evs' : List Event) (ts ts' : List Turn) (qs qs' : List Place) → evs ≡ evs' → ts ≡ ts' → qs ≡ qs' → the_state objects evs ts qs ≡ the_state objects evs' ts' qs'
state_is objects evs evs' ts ts' qs qs' e t q =
    ap (λ (l : List Event). the_state objects l ts qs) e ∙ ap (λ (l : List Turn). the_state objects evs' l qs) t ∙ ap (λ (l : List Place). the_state objects evs' ts' l) q

-- one record after another
pub recorded_twice : (later own T : State) → recorded_on later (recorded_on own T) ≡ recorded_on (recorded_on later own) T
recorded_twice later own T = state_is later.objects
    (later.events ++ (own.events ++ T.events)) ((later.events ++ own.events) ++ T.events)
    (later.turns ++ (own.turns ++ T.turns)) ((later.turns ++ own.turns) ++ T.turns)
    (later.stop_places ++ (own.stop_places ++ T.stop_places)) ((later.stop_places ++ own.stop_places) ++ T.stop_places)
    (sym (append_assoc later.events own.events T.events)) (sym (append_assoc later.turns own.turns T.turns)) (sym (append_assoc later.stop_places own.stop_places T.stop_places))

-- what goes on records this, and does so again whatever was recorded before
pub record Recording (r : Going) (S : State) (e : Ending) (S' : State) : Type 0 where
  pub own : State
  pub put : S' ≡ recorded_on own S
  pub again : (T : State) → r (at_objects S.objects T) e (recorded_on own T)

abbrev pub IsRecording : Going → Type 0
IsRecording r = (S : State) (e : Ending) (S' : State) → r S e S' → Recording r S e S'

abbrev nothing_more : Namespace → State
nothing_more objects = record { objects = objects; events = []; turns = []; stop_places = [] }

recording_stays : IsRecording Stays
recording_stays S e S' run = record { own = nothing_more S.objects; put = run.1; again = λ T. (run.0, refl) }

-- behind a first step, which records alike
recording_behind : (r q : Going) (step S : State) (e : Ending) (S' : State) → Recording r (recorded_on step S) e S'
    → ((T U : State) → r (recorded_on step T) e U → q (at_objects S.objects T) e U) → Recording q S e S'
recording_behind r q step S e S' l into = record {
  own = recorded_on l.own step;
  put = l.put ∙ recorded_twice l.own step S;
  again = λ T. into T (recorded_on (recorded_on l.own step) T)
      (subst (λ (U : State). r (recorded_on step T) e U) (recorded_twice l.own step T) (l.again (recorded_on step T)));
}

-- one after the other
recording_next : (r next q : Going) (S : State) (m : Ending) (M : State) (e : Ending) (S' : State) → Recording r S m M → IsRecording next → next M e S'
    → ((T N U : State) → r (at_objects S.objects T) m N → next N e U → q (at_objects S.objects T) e U) → Recording q S e S'
recording_next r next q S m M e S' l more run into = record {
  own = recorded_on n.own l.own;
  put = n.put ∙ recorded_twice n.own l.own S;
  again = λ T. into T (recorded_on l.own T) (recorded_on (recorded_on n.own l.own) T) (l.again T)
      (subst (λ (U : State). next (recorded_on l.own T) e U) (recorded_twice n.own l.own T) (n.again (recorded_on l.own T)));
}
  where
    n : Recording next (recorded_on l.own S) e S'
    n = more (recorded_on l.own S) e S' (subst (λ (T : State). next T e S') l.put run)

-- nothing follows
recording_last : (r q : Going) (S : State) (m : Ending) (M : State) (e : Ending) (S' : State) → Recording r S m M → S' ≡ M
    → ((T N : State) → r (at_objects S.objects T) m N → q (at_objects S.objects T) e N) → Recording q S e S'
recording_last r q S m M e S' l same into = record { own = l.own; put = same ∙ l.put; again = λ T. into T (recorded_on l.own T) (l.again T) }

abbrev pub AreRecording : Running → Type 0
AreRecording r = (s : Path) (w : List Turn) → IsRecording (r s w)

recording_followed : (rh rr : Running) → AreRecording rh → AreRecording rr → AreRecording (IsFollowed rh rr)
recording_followed rh rr lh lr s w S e S' run = by run.0 run.1 run.2 run.3
  where
    by : (m : Ending) (M : State) → rh s w S m M → Continues m (rr s w) M e S' → Recording (IsFollowed rh rr s w) S e S'
    by goes_on M r next =
        recording_next (rh s w) (rr s w) (IsFollowed rh rr s w) S goes_on M e S' (lh s w S goes_on M r) (lr s w) next (λ T N U r n. (goes_on, N, r, n))
    by (stops kind) M r next =
        recording_last (rh s w) (IsFollowed rh rr s w) S (stops kind) M e S' (lh s w S (stops kind) M r) next.1 (λ T N r. (stops kind, N, r, (next.0, refl)))

recording_declaring : (t : Term) (ri : Running) → AreRecording ri → AreRecording (IsDeclaring t ri)
recording_declaring t ri li s w S e S' (inl m) =
    recording_behind (ri m.0 (within t.place ∷ w)) (IsDeclaring t ri s w) (state_inside s w t m.0 (nothing_more S.objects)) S e S'
    (li m.0 (within t.place ∷ w) (state_inside s w t m.0 S) e S' m.2) (λ T U r. inl (m.0, m.1, r))
recording_declaring t ri li s w S e S' (inr m) =
    record { own = state_past s w t (nothing_more S.objects); put = m.1.1; again = λ T. inr (m.0, (m.1.0, refl)) }

recording_turn : (turn : Turn) (r q : Going) (S : State) (e : Ending) (S' : State) → IsRecording r → r (with_turn turn S) e S'
    → ((T U : State) → r (with_turn turn (at_objects S.objects T)) e U → q (at_objects S.objects T) e U) → Recording q S e S'
recording_turn turn r q S e S' l run into = recording_behind r q (with_turn turn (nothing_more S.objects)) S e S' (l (with_turn turn S) e S' run) into

recording_opening : (place : Place) (n : NameParts) (ri : Running) → AreRecording ri → AreRecording (IsOpening place n ri)
recording_opening place n ri li s w S e S' (inl m) =
    recording_turn (within place) (ri m.0 (within place ∷ w)) (IsOpening place n ri s w) S e S' (li m.0 (within place ∷ w)) m.2 (λ T U r. inl (m.0, m.1, r))
recording_opening place n ri li s w S e S' (inr m) =
    record { own = nothing_more S.objects; put = m.1.1; again = λ T. inr (m.0, (m.1.0, refl)) }

recording_branching : (place : Place) (rf ro : Running) → AreRecording rf → AreRecording ro → AreRecording (IsBranching place rf ro)
recording_branching place rf ro lf lo s w S e S' (inl run) =
    recording_turn (then_branch place) (rf s (then_branch place ∷ w)) (IsBranching place rf ro s w) S e S' (lf s (then_branch place ∷ w)) run (λ T U r. inl r)
recording_branching place rf ro lf lo s w S e S' (inr run) =
    recording_turn (else_branch place) (ro s (else_branch place ∷ w)) (IsBranching place rf ro s w) S e S' (lo s (else_branch place ∷ w)) run (λ T U r. inr r)

recording_rounds : (round : Going) → IsRecording round → (n : ℕ) → IsRecording (AreRounds n round)
recording_rounds round l zero S e S' run = record { own = nothing_more S.objects; put = run.1; again = λ T. (run.0, refl) }
recording_rounds round l (suc n) S e S' run = by run.0 run.1 run.2 run.3 (recording_rounds round l n)
  where
    by : (m : Ending) (M : State) → round S m M → NextRound m (AreRounds n round) M e S' → IsRecording (AreRounds n round) → Recording (AreRounds (suc n) round) S e S'
    by goes_on M r next more = recording_next round (AreRounds n round) (AreRounds (suc n) round) S goes_on M e S' (l S goes_on M r) more next (λ T N U r n. (goes_on, N, r, n))
    by (stops continues) M r next more =
        recording_next round (AreRounds n round) (AreRounds (suc n) round) S (stops continues) M e S' (l S (stops continues) M r) more next (λ T N U r n. (stops continues, N, r, n))
    by (stops breaks) M r next more =
        recording_last round (AreRounds (suc n) round) S (stops breaks) M e S' (l S (stops breaks) M r) next.1 (λ T N r. (stops breaks, N, r, (next.0, refl)))
    by (stops returns) M r next more =
        recording_last round (AreRounds (suc n) round) S (stops returns) M e S' (l S (stops returns) M r) next.1 (λ T N r. (stops returns, N, r, (next.0, refl)))

recording_looping : (place : Place) (rb : Running) → AreRecording rb → AreRecording (IsLooping place rb)
recording_looping place rb lb s w S e S' run =
    let l : Recording (AreRounds run.0 (IsRound place rb s w)) S e S' = recording_rounds (IsRound place rb s w) round run.0 S e S' run.1 in
    record { own = l.own; put = l.put; again = λ T. (run.0, l.again T) }
  where
    round : IsRecording (IsRound place rb s w)
    round S e S' r = recording_turn (in_round place) (rb s (in_round place ∷ w)) (IsRound place rb s w) S e S' (lb s (in_round place ∷ w)) r (λ T U r. r)

recording_stopping : (place : Place) (kind : Stop) → AreRecording (IsStopping place kind)
recording_stopping place kind s w S e S' run = record { own = with_stop place (nothing_more S.objects); put = run.1; again = λ T. (run.0, refl) }

pub recording_nodes : (ns : Nodes) → AreRecording (IsRun ns)
recording_nodes no_nodes = λ s w. recording_stays
recording_nodes (declares t inside rest) = recording_followed (IsDeclaring t (IsRun inside)) (IsRun rest) (recording_declaring t (IsRun inside) (recording_nodes inside)) (recording_nodes rest)
recording_nodes (opens place n inside rest) = recording_followed (IsOpening place n (IsRun inside)) (IsRun rest) (recording_opening place n (IsRun inside) (recording_nodes inside)) (recording_nodes rest)
recording_nodes (branch place first other rest) =
    recording_followed (IsBranching place (IsRun first) (IsRun other)) (IsRun rest) (recording_branching place (IsRun first) (IsRun other) (recording_nodes first) (recording_nodes other)) (recording_nodes rest)
recording_nodes (loop place body rest) = recording_followed (IsLooping place (IsRun body)) (IsRun rest) (recording_looping place (IsRun body) (recording_nodes body)) (recording_nodes rest)
recording_nodes (stop place kind rest) = recording_followed (IsStopping place kind) (IsRun rest) (recording_stopping place kind) (recording_nodes rest)
