-- What a run adds to the turns, the stops and the events of a state.
use Rattle.std.proofs.Common.{◌≡◌, ℕ, zero, suc, List, [], ◌∷◌, ◌++◌, ◌⊎◌, inl, inr, Some, None, refl, sym, ap, subst}
use Rattle.std.specs.List.{flat_map}
use Rattle.acpi_name.specs.Names.{NameParts}
use Rattle.acpi_space.specs.Lookups.{singleton}
use Rattle.acpi_space.specs.Laws.{Among}
use Rattle.acpi_space.proofs.Elements.{among_left, among_right}
use Rattle.acpi_conditions.specs.Nodes.{Place, Term, Stop, returns, breaks, continues, Nodes, no_nodes, declares, opens, branch, loop, stop, places}
use Rattle.acpi_conditions.specs.Entries.{Path, Turn, then_branch, else_branch, in_round, within, past}
use Rattle.acpi_conditions.specs.Runs.{Event, State, with_turn, state_inside, state_past, Ending, goes_on, stops, Going, Running, Continues, IsFollowed, IsDeclaring, IsOpening, IsBranching, NextRound, AreRounds, IsRound, IsLooping, IsStopping, IsRun, AreRuns}
use Rattle.acpi_conditions.specs.Laws.{turn_place}
use Rattle.acpi_conditions.proofs.Basics.{union_grows, union_cases}

-- the term made its object there in some event
abbrev pub IsMaking : List Event → Path → Term → Type 0
IsMaking evs p t = (ev : Event) × Among evs ev × (ev.term ≡ t) × (ev.object_path ≡ Some p)

-- turns, stops and events at these places alone are added, and nothing is taken away
pub record Logged (ps : List Place) (S S' : State) : Type 0 where
  pub turns : (turn : Turn) → Among S'.turns turn → Among S.turns turn ⊎ Among ps (turn_place turn)
  pub keeps : (turn : Turn) → Among S.turns turn → Among S'.turns turn
  pub stop_places : (p : Place) → Among S.stop_places p → Among S'.stop_places p
  pub new_stops : (p : Place) → Among S'.stop_places p → Among S.stop_places p ⊎ Among ps p
  pub events : (ev : Event) → Among S.events ev → Among S'.events ev
  pub new_events : (ev : Event) → Among S'.events ev → Among S.events ev ⊎ Among ps ev.term.place
  pub grows : (p : Path) (t : Term) → S.objects p ≡ Some t → S'.objects p ≡ Some t
  pub made_by : (p : Path) (t : Term) → S'.objects p ≡ Some t → (S.objects p ≡ Some t) ⊎ IsMaking S'.events p t

abbrev pub IsLogged : List Place → Running → Type 0
IsLogged ps r = (s : Path) (w : List Turn) (S : State) (e : Ending) (S' : State) → r s w S e S' → Logged ps S S'

logged_itself : (ps : List Place) (S : State) → Logged ps S S
logged_itself ps S = record {
  turns = λ turn m. inl m;
  keeps = λ turn m. m;
  stop_places = λ p m. m;
  new_stops = λ p m. inl m;
  events = λ ev m. m;
  new_events = λ ev m. inl m;
  grows = λ p t is. is;
  made_by = λ p t is. inl is;
}

sooner : {X : Type 0} (ps qs : List Place) → ((p : Place) → Among ps p → Among qs p) → (xs : List X) (x : X) (p : Place) → Among xs x ⊎ Among ps p → Among xs x ⊎ Among qs p
sooner ps qs sub xs x p (inl m) = inl m
sooner ps qs sub xs x p (inr m) = inr (sub p m)

chained : {X : Type 0} (ps : List Place) (xs ys : List X) (x : X) (p : Place) → (Among ys x → Among xs x ⊎ Among ps p) → Among ys x ⊎ Among ps p → Among xs x ⊎ Among ps p
chained ps xs ys x p f (inl m) = f m
chained ps xs ys x p f (inr m) = inr m

pub logged_within : (ps qs : List Place) (S S' : State) → ((p : Place) → Among ps p → Among qs p) → Logged ps S S' → Logged qs S S'
logged_within ps qs S S' sub l = record {
  turns = λ turn m. sooner ps qs sub S.turns turn (turn_place turn) (l.turns turn m);
  keeps = l.keeps;
  stop_places = l.stop_places;
  new_stops = λ p m. sooner ps qs sub S.stop_places p p (l.new_stops p m);
  events = l.events;
  new_events = λ ev m. sooner ps qs sub S.events ev ev.term.place (l.new_events ev m);
  grows = l.grows;
  made_by = l.made_by;
}

pub logged_again : (ps : List Place) (S M S' : State) → Logged ps S M → Logged ps M S' → Logged ps S S'
logged_again ps S M S' l n = record {
  turns = λ turn m. chained ps S.turns M.turns turn (turn_place turn) (l.turns turn) (n.turns turn m);
  keeps = λ turn m. n.keeps turn (l.keeps turn m);
  stop_places = λ p m. n.stop_places p (l.stop_places p m);
  new_stops = λ p m. chained ps S.stop_places M.stop_places p p (l.new_stops p) (n.new_stops p m);
  events = λ ev m. n.events ev (l.events ev m);
  new_events = λ ev m. chained ps S.events M.events ev ev.term.place (l.new_events ev) (n.new_events ev m);
  grows = λ p t is. n.grows p t (l.grows p t is);
  made_by = λ p t is. objects p t (n.made_by p t is);
}
  where
    before : (p : Path) (t : Term) → (S.objects p ≡ Some t) ⊎ IsMaking M.events p t → (S.objects p ≡ Some t) ⊎ IsMaking S'.events p t
    before p t (inl is) = inl is
    before p t (inr ev) = inr (ev.0, n.events ev.0 ev.1, ev.2, ev.3)

    objects : (p : Path) (t : Term) → (M.objects p ≡ Some t) ⊎ IsMaking S'.events p t → (S.objects p ≡ Some t) ⊎ IsMaking S'.events p t
    objects p t (inl is) = before p t (l.made_by p t is)
    objects p t (inr ev) = inr ev

pub logged_both : (ps qs : List Place) (S M S' : State) → Logged ps S M → Logged qs M S' → Logged (ps ++ qs) S S'
logged_both ps qs S M S' l n =
    logged_again (ps ++ qs) S M S' (logged_within ps (ps ++ qs) S M (λ p m. among_left ps qs p m) l) (logged_within qs (ps ++ qs) M S' (λ p m. among_right ps qs p m) n)

-- one turn more
pub logged_turn : (ps : List Place) (S : State) (turn : Turn) → Among ps (turn_place turn) → Logged ps S (with_turn turn S)
logged_turn ps S turn here = record {
  turns = λ other m. at other m;
  keeps = λ other m. inr m;
  stop_places = λ p m. m;
  new_stops = λ p m. inl m;
  events = λ ev m. m;
  new_events = λ ev m. inl m;
  grows = λ p t is. is;
  made_by = λ p t is. inl is;
}
  where
    at : (other : Turn) → Among (turn ∷ S.turns) other → Among S.turns other ⊎ Among ps (turn_place other)
    at other (inl same) = inr (subst (λ (other : Turn). Among ps (turn_place other)) same here)
    at other (inr m) = inl m

new_event : (ps : List Place) (evs : List Event) (new : Event) → Among ps new.term.place → (ev : Event) → Among (new ∷ evs) ev → Among evs ev ⊎ Among ps ev.term.place
new_event ps evs new here ev (inl same) = inr (subst (λ (ev : Event). Among ps ev.term.place) same here)
new_event ps evs new here ev (inr m) = inl m

pub logged_making : (t : Term) (qs : List Place) (s : Path) (w : List Turn) (S : State) (p : Path) → Logged (t.place ∷ qs) S (state_inside s w t p S)
logged_making t qs s w S p = record {
  turns = (logged_turn (t.place ∷ qs) S (within t.place) (inl refl)).turns;
  keeps = λ turn m. inr m;
  stop_places = λ q m. m;
  new_stops = λ q m. inl m;
  events = λ ev m. inr m;
  new_events = λ ev m. new_event (t.place ∷ qs) S.events (record { term = t; scope = s; way = w; objects = S.objects; object_path = Some p }) (inl refl) ev m;
  grows = λ q u is. union_grows S.objects (singleton p t) q u is;
  made_by = λ q u is. objects q u (union_cases S.objects p q t u is);
}
  where
    objects : (q : Path) (u : Term) → (S.objects q ≡ Some u) ⊎ ((p ≡ q) × (t ≡ u)) → (S.objects q ≡ Some u) ⊎ IsMaking (state_inside s w t p S).events q u
    objects q u (inl is) = inl is
    objects q u (inr is) = inr (record { term = t; scope = s; way = w; objects = S.objects; object_path = Some p }, inl refl, is.1, ap Some is.0)

pub logged_unmaking : (t : Term) (qs : List Place) (s : Path) (w : List Turn) (S : State) → Logged (t.place ∷ qs) S (state_past s w t S)
logged_unmaking t qs s w S = record {
  turns = λ turn m. inl m;
  keeps = λ turn m. m;
  stop_places = λ q m. m;
  new_stops = λ q m. inl m;
  events = λ ev m. inr m;
  new_events = λ ev m. new_event (t.place ∷ qs) S.events (record { term = t; scope = s; way = w; objects = S.objects; object_path = None }) (inl refl) ev m;
  grows = λ q u is. is;
  made_by = λ q u is. inl is;
}

logged_followed : (ps qs : List Place) (rh rr : Running) → IsLogged ps rh → IsLogged qs rr → IsLogged (ps ++ qs) (IsFollowed rh rr)
logged_followed ps qs rh rr lh lr s w S e S' run = by run.0 run.1 run.2 run.3
  where
    by : (m : Ending) (M : State) → rh s w S m M → Continues m (rr s w) M e S' → Logged (ps ++ qs) S S'
    by goes_on M r next = logged_both ps qs S M S' (lh s w S goes_on M r) (lr s w M e S' next)
    by (stops kind) M r next =
        subst (λ (T : State). Logged (ps ++ qs) S T) (sym next.1) (logged_within ps (ps ++ qs) S M (λ p m. among_left ps qs p m) (lh s w S (stops kind) M r))

pub logged_declaring : (t : Term) (qs : List Place) (ri : Running) → IsLogged qs ri → IsLogged (t.place ∷ qs) (IsDeclaring t ri)
logged_declaring t qs ri li s w S e S' (inl m) =
    let M : State = state_inside s w t m.0 S in
    let more : Logged (t.place ∷ qs) M S' = logged_within qs (t.place ∷ qs) M S' (λ p m. inr m) (li m.0 (within t.place ∷ w) M e S' m.2) in
    logged_again (t.place ∷ qs) S M S' (logged_making t qs s w S m.0) more
logged_declaring t qs ri li s w S e S' (inr m) = subst (λ (T : State). Logged (t.place ∷ qs) S T) (sym m.1.1) (logged_unmaking t qs s w S)

logged_in : (place : Place) (turn : Turn) (qs : List Place) (r : Going) (S : State) (e : Ending) (S' : State) → turn_place turn ≡ place → ((T : State) → r T e S' → Logged qs T S') → r (with_turn turn S) e S' → Logged (place ∷ qs) S S'
logged_in place turn qs r S e S' at l run =
    logged_again (place ∷ qs) S (with_turn turn S) S' (logged_turn (place ∷ qs) S turn (inl (sym at)))
    (logged_within qs (place ∷ qs) (with_turn turn S) S' (λ p m. inr m) (l (with_turn turn S) run))

pub logged_opening : (place : Place) (n : NameParts) (qs : List Place) (ri : Running) → IsLogged qs ri → IsLogged (place ∷ qs) (IsOpening place n ri)
logged_opening place n qs ri li s w S e S' (inl m) =
    logged_in place (within place) qs (ri m.0 (within place ∷ w)) S e S' refl (λ T run. li m.0 (within place ∷ w) T e S' run) m.2
logged_opening place n qs ri li s w S e S' (inr m) = subst (λ (T : State). Logged (place ∷ qs) S T) (sym m.1.1) (logged_itself (place ∷ qs) S)

pub logged_branching : (place : Place) (fs os : List Place) (rf ro : Running) → IsLogged fs rf → IsLogged os ro → IsLogged (place ∷ (fs ++ os)) (IsBranching place rf ro)
logged_branching place fs os rf ro lf lo s w S e S' (inl run) =
    logged_in place (then_branch place) (fs ++ os) (rf s (then_branch place ∷ w)) S e S' refl
    (λ T run. logged_within fs (fs ++ os) T S' (λ p m. among_left fs os p m) (lf s (then_branch place ∷ w) T e S' run)) run
logged_branching place fs os rf ro lf lo s w S e S' (inr run) =
    logged_in place (else_branch place) (fs ++ os) (ro s (else_branch place ∷ w)) S e S' refl
    (λ T run. logged_within os (fs ++ os) T S' (λ p m. among_right fs os p m) (lo s (else_branch place ∷ w) T e S' run)) run

module _ (ps : List Place) (round : Going) (l : (S : State) (e : Ending) (S' : State) → round S e S' → Logged ps S S') where
  logged_next : (m : Ending) (M : State) (next : Going) (e : Ending) (S' : State) → (next M e S' → Logged ps M S') → NextRound m next M e S' → Logged ps M S'
  logged_next goes_on M next e S' more run = more run
  logged_next (stops continues) M next e S' more run = more run
  logged_next (stops breaks) M next e S' more run = subst (λ (T : State). Logged ps M T) (sym run.1) (logged_itself ps M)
  logged_next (stops returns) M next e S' more run = subst (λ (T : State). Logged ps M T) (sym run.1) (logged_itself ps M)

  logged_rounds : (n : ℕ) (S : State) (e : Ending) (S' : State) → AreRounds n round S e S' → Logged ps S S'
  logged_rounds zero S e S' run = subst (λ (T : State). Logged ps S T) (sym run.1) (logged_itself ps S)
  logged_rounds (suc n) S e S' run =
      logged_again ps S run.1 S' (l S run.0 run.1 run.2) (logged_next run.0 run.1 (AreRounds n round) e S' (λ next. logged_rounds n run.1 e S' next) run.3)

pub logged_looping : (place : Place) (bs : List Place) (rb : Running) → IsLogged bs rb → IsLogged (place ∷ bs) (IsLooping place rb)
logged_looping place bs rb lb s w S e S' run =
    logged_rounds (place ∷ bs) (IsRound place rb s w)
    (λ T m U r. logged_in place (in_round place) bs (rb s (in_round place ∷ w)) T m U refl (λ V r. lb s (in_round place ∷ w) V m U r) r) run.0 S e S' run.1

pub logged_stopping : (place : Place) (kind : Stop) → IsLogged (place ∷ []) (IsStopping place kind)
logged_stopping place kind s w S e S' run = subst (λ (T : State). Logged (place ∷ []) S T) (sym run.1) (record {
  turns = λ turn m. inl m;
  keeps = λ turn m. m;
  stop_places = λ p m. inr m;
  new_stops = λ p m. at p m;
  events = λ ev m. m;
  new_events = λ ev m. inl m;
  grows = λ p t is. is;
  made_by = λ p t is. inl is;
})
  where
    at : (p : Place) → Among (place ∷ S.stop_places) p → Among S.stop_places p ⊎ Among (place ∷ []) p
    at p (inl same) = inr (inl same)
    at p (inr m) = inl m

pub logged_nodes : (ns : Nodes) → IsLogged (places ns) (IsRun ns)
logged_nodes no_nodes = λ s w S e S' run. subst (λ (T : State). Logged [] S T) (sym run.1) (logged_itself [] S)
logged_nodes (declares t inside rest) =
    logged_followed (t.place ∷ places inside) (places rest) (IsDeclaring t (IsRun inside)) (IsRun rest) (logged_declaring t (places inside) (IsRun inside) (logged_nodes inside)) (logged_nodes rest)
logged_nodes (opens place n inside rest) =
    logged_followed (place ∷ places inside) (places rest) (IsOpening place n (IsRun inside)) (IsRun rest) (logged_opening place n (places inside) (IsRun inside) (logged_nodes inside)) (logged_nodes rest)
logged_nodes (branch place first other rest) =
    logged_followed (place ∷ (places first ++ places other)) (places rest) (IsBranching place (IsRun first) (IsRun other)) (IsRun rest)
    (logged_branching place (places first) (places other) (IsRun first) (IsRun other) (logged_nodes first) (logged_nodes other)) (logged_nodes rest)
logged_nodes (loop place body rest) =
    logged_followed (place ∷ places body) (places rest) (IsLooping place (IsRun body)) (IsRun rest) (logged_looping place (places body) (IsRun body) (logged_nodes body)) (logged_nodes rest)
logged_nodes (stop place kind rest) = logged_followed (place ∷ []) (places rest) (IsStopping place kind) (IsRun rest) (logged_stopping place kind) (logged_nodes rest)

pub logged_tables : (ts : List Nodes) (S S' : State) → AreRuns ts S S' → Logged (flat_map places ts) S S'
logged_tables [] S S' run = subst (λ (T : State). Logged [] S T) (sym run) (logged_itself [] S)
logged_tables (t ∷ ts) S S' run = logged_both (places t) (flat_map places ts) S run.1 S' (logged_nodes t [] [] S run.0 run.1 run.2) (logged_tables ts run.1 S' run.3)
