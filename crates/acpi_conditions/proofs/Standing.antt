-- Which objects stand at the end of a run.
use Rattle.std.proofs.Common.{◌≡◌, ◌≢◌, ℕ, zero, suc, true, not, List, [], ◌∷◌, ◌++◌, ◌⊎◌, inl, inr, Some, None, refl, sym, ap, subst, ◌∙◌}
use Rattle.std.specs.List.{flat_map, list_any}
use Rattle.std.specs.Prelude.{IsTrue}
use Rattle.std.proofs.lemmas.Grind.{flat_map-append}
use Rattle.acpi_space.specs.Lookups.{singleton}
use Rattle.acpi_space.specs.Laws.{Among}
use Rattle.acpi_space.proofs.Elements.{among_left, among_right, among_append, not_both, one_some, among_all}
use Rattle.acpi_name.specs.Names.{NameParts}
use Rattle.acpi_conditions.specs.Nodes.{Place, Term, Stop, returns, breaks, continues, Nodes, no_nodes, declares, opens, branch, loop, stop, places}
use Rattle.acpi_conditions.specs.Entries.{Path, Turn, then_branch, else_branch, in_round, within, past, Entry, Refusal}
use Rattle.acpi_conditions.specs.Known.{Known}
use Rattle.acpi_conditions.specs.Survey.{at_root, behind_table, table_survey, surveys, all_entries, all_refused}
use Rattle.acpi_conditions.specs.Runs.{Event, State, with_turn, state_inside, state_past, Ending, goes_on, stops, Going, Running, Continues, IsFollowed, IsDeclaring, IsOpening, IsBranching, NextRound, AreRounds, IsRound, IsLooping, IsStopping, IsRun, AreRuns}
use Rattle.acpi_conditions.specs.Links.{is_round}
use Rattle.acpi_conditions.specs.Laws.{MatchesEntry, IsMatched, IsRunOf, AreDistinct, IsReached, IsMissed, IsTaken, turn_place, AllTaken, HoldsWhenReached, StandsExactly}
use Rattle.acpi_conditions.proofs.Basics.{among_nothing, union_grows, union_new}
use Rattle.acpi_conditions.proofs.Tables.{survey_is_exact}
use Rattle.acpi_conditions.proofs.Logs.{Logged, IsMaking, logged_tables}
use Rattle.acpi_conditions.proofs.EntryWays.{ways_nodes}
use Rattle.acpi_conditions.proofs.Reached.{distinct_left, apart, comes_by_way}
use Rattle.acpi_conditions.proofs.Taken.{HasRound, taken_grows}
use Rattle.acpi_conditions.proofs.SeenIsTrue.{takes_the_way, taken_not_missed, outside_round}
use Rattle.acpi_conditions.proofs.Singles.{Once, once_tables}

-- ---- what was declared stands

-- the objects that the events declared stand
abbrev pub HaveStayed : State → Type 0
HaveStayed S = (ev : Event) → Among S.events ev → (p : Path) → ev.object_path ≡ Some p → S.objects p ≡ Some ev.term

abbrev IsStaying : Running → Type 0
IsStaying r = (s : Path) (w : List Turn) (S : State) (e : Ending) (S' : State) → HaveStayed S → r s w S e S' → HaveStayed S'

made_stays : (s : Path) (w : List Turn) (t : Term) (p : Path) (S : State) → S.objects p ≡ None → HaveStayed S → HaveStayed (state_inside s w t p S)
made_stays s w t p S free h ev (inr m) q is = union_grows S.objects (singleton p t) q ev.term (h ev m q is)
made_stays s w t p S free h ev (inl same) q is = subst (λ (ev : Event). (q : Path) → ev.object_path ≡ Some q → (state_inside s w t p S).objects q ≡ Some ev.term) same here q is
  where
    here : (q : Path) → Some p ≡ Some q → (state_inside s w t p S).objects q ≡ Some t
    here q is = subst (λ (q : Path). (state_inside s w t p S).objects q ≡ Some t) (one_some p q is) (union_new S.objects p t free)

unmade_stays : (s : Path) (w : List Turn) (t : Term) (S : State) → HaveStayed S → HaveStayed (state_past s w t S)
unmade_stays s w t S h ev (inr m) = h ev m
unmade_stays s w t S h ev (inl same) = subst (λ (ev : Event). (q : Path) → ev.object_path ≡ Some q → S.objects q ≡ Some ev.term) same (λ q is. absurd (not_both None q is refl))

staying_followed : (rh rr : Running) → IsStaying rh → IsStaying rr → IsStaying (IsFollowed rh rr)
staying_followed rh rr sh sr s w S e S' h run = by run.0 run.1 (sh s w S run.0 run.1 h run.2) run.3
  where
    by : (m : Ending) (M : State) → HaveStayed M → Continues m (rr s w) M e S' → HaveStayed S'
    by goes_on M k next = sr s w M e S' k next
    by (stops kind) M k next = subst HaveStayed (sym next.1) k

staying_declaring : (t : Term) (ri : Running) → IsStaying ri → IsStaying (IsDeclaring t ri)
staying_declaring t ri si s w S e S' h (inl m) = si m.0 (within t.place ∷ w) (state_inside s w t m.0 S) e S' (made_stays s w t m.0 S (m.1).free h) m.2
staying_declaring t ri si s w S e S' h (inr m) = subst HaveStayed (sym m.1.1) (unmade_stays s w t S h)

staying_opening : (place : Place) (n : NameParts) (ri : Running) → IsStaying ri → IsStaying (IsOpening place n ri)
staying_opening place n ri si s w S e S' h (inl f) = si f.0 (within place ∷ w) (with_turn (within place) S) e S' h f.2
staying_opening place n ri si s w S e S' h (inr f) = subst HaveStayed (sym f.1.1) h

staying_branching : (place : Place) (rf ro : Running) → IsStaying rf → IsStaying ro → IsStaying (IsBranching place rf ro)
staying_branching place rf ro sf so s w S e S' h (inl r) = sf s (then_branch place ∷ w) (with_turn (then_branch place) S) e S' h r
staying_branching place rf ro sf so s w S e S' h (inr r) = so s (else_branch place ∷ w) (with_turn (else_branch place) S) e S' h r

module _ (round : Going) (sr : (S : State) (e : Ending) (S' : State) → HaveStayed S → round S e S' → HaveStayed S') where
  staying_next : (m : Ending) (M : State) (next : Going) (e : Ending) (S' : State) → (next M e S' → HaveStayed S') → HaveStayed M → NextRound m next M e S' → HaveStayed S'
  staying_next goes_on M next e S' more h run = more run
  staying_next (stops continues) M next e S' more h run = more run
  staying_next (stops breaks) M next e S' more h run = subst HaveStayed (sym run.1) h
  staying_next (stops returns) M next e S' more h run = subst HaveStayed (sym run.1) h

  staying_rounds : (n : ℕ) (S : State) (e : Ending) (S' : State) → HaveStayed S → AreRounds n round S e S' → HaveStayed S'
  staying_rounds zero S e S' h run = subst HaveStayed (sym run.1) h
  staying_rounds (suc n) S e S' h run =
      let k : HaveStayed run.1 = sr S run.0 run.1 h run.2 in
      staying_next run.0 run.1 (AreRounds n round) e S' (λ next. staying_rounds n run.1 e S' k next) k run.3

staying_looping : (place : Place) (rb : Running) → IsStaying rb → IsStaying (IsLooping place rb)
staying_looping place rb sb s w S e S' h run =
    staying_rounds (IsRound place rb s w) (λ T m U k r. sb s (in_round place ∷ w) (with_turn (in_round place) T) m U k r) run.0 S e S' h run.1

staying_stopping : (place : Place) (kind : Stop) → IsStaying (IsStopping place kind)
staying_stopping place kind s w S e S' h run = subst HaveStayed (sym run.1) h

staying_nodes : (ns : Nodes) → IsStaying (IsRun ns)
staying_nodes no_nodes = λ s w S e S' h run. subst HaveStayed (sym run.1) h
staying_nodes (declares t inside rest) = staying_followed (IsDeclaring t (IsRun inside)) (IsRun rest) (staying_declaring t (IsRun inside) (staying_nodes inside)) (staying_nodes rest)
staying_nodes (opens place n inside rest) = staying_followed (IsOpening place n (IsRun inside)) (IsRun rest) (staying_opening place n (IsRun inside) (staying_nodes inside)) (staying_nodes rest)
staying_nodes (branch place first other rest) =
    staying_followed (IsBranching place (IsRun first) (IsRun other)) (IsRun rest) (staying_branching place (IsRun first) (IsRun other) (staying_nodes first) (staying_nodes other)) (staying_nodes rest)
staying_nodes (loop place body rest) = staying_followed (IsLooping place (IsRun body)) (IsRun rest) (staying_looping place (IsRun body) (staying_nodes body)) (staying_nodes rest)
staying_nodes (stop place kind rest) = staying_followed (IsStopping place kind) (IsRun rest) (staying_stopping place kind) (staying_nodes rest)

staying_tables : (ts : List Nodes) (S S' : State) → HaveStayed S → AreRuns ts S S' → HaveStayed S'
staying_tables [] S S' h run = subst HaveStayed (sym run) h
staying_tables (t ∷ ts) S S' h run = staying_tables ts run.1 S' (staying_nodes t [] [] S run.0 run.1 h run.2) run.3

pub objects_stay : (ts : List Nodes) (S S' : State) → AreRuns ts S S' → (p : Path) (t : Term) → S.objects p ≡ Some t → S'.objects p ≡ Some t
objects_stay ts S S' run = (logged_tables ts S S' run).grows

-- ---- the turns of an entry's way stand in the tables

abbrev IsTurnIn : List Place → Turn → Type 0
IsTurnIn ps turn = Among ps (turn_place turn)

turned_table : (k : Known) (t : Nodes) (e : Entry) → Among (table_survey k t).entries e → (turn : Turn) → Among e.way turn → IsTurnIn (places t) turn
turned_table k t e m turn n = by (ways_nodes t at_root k e m turn n)
  where
    by : Among [] turn ⊎ IsTurnIn (places t) turn → IsTurnIn (places t) turn
    by (inl none) = absurd none
    by (inr there) = there

turned_tables : (k : Known) (ts : List Nodes) (e : Entry) → Among (all_entries (surveys k ts)) e → (turn : Turn) → Among e.way turn → IsTurnIn (flat_map places ts) turn
turned_tables k [] e m turn n = absurd m
turned_tables k (t ∷ ts) e m turn n =
    by (among_append (table_survey k t).entries (all_entries (surveys (behind_table k (table_survey k t)) ts)) e m) (λ m. turned_tables (behind_table k (table_survey k t)) ts e m turn n)
  where
    by : Among (table_survey k t).entries e ⊎ Among (all_entries (surveys (behind_table k (table_survey k t)) ts)) e
        → (Among (all_entries (surveys (behind_table k (table_survey k t)) ts)) e → IsTurnIn (flat_map places ts) turn) → IsTurnIn (places t ++ flat_map places ts) turn
    by (inl m) more = among_left (places t) (flat_map places ts) (turn_place turn) (turned_table k t e m turn n)
    by (inr m) more = among_right (places t) (flat_map places ts) (turn_place turn) (more m)

-- ---- at the end of the tables

module _ (k : Known) (ts : List Nodes) (S M : State) (r : IsRunOf k ts S M) (d : AreDistinct (flat_map places ts)) (e : Entry) (m : Among (all_entries (surveys k ts)) e)
    (outside : not (list_any is_round e.way) ≡ true) (new : S.objects e.path ≢ Some e.term) where
  abbrev es : List Entry
  es = all_entries (surveys k ts)

  abbrev rs : List Refusal
  rs = all_refused (surveys k ts)

  once : Once (flat_map places ts) es rs
  once = once_tables k ts

  taken : IsReached M e → AllTaken M e
  taken reached = by (takes_the_way k ts S M r d e m reached)
    where
      by : AllTaken M e ⊎ HasRound e → AllTaken M e
      by (inl all) = all
      by (inr l) = absurd (outside_round e.way outside l.0 l.1)

  reached : AllTaken M e → IsReached M e
  reached all = by (comes_by_way k ts S M r d e m)
    where
      by : IsReached M e ⊎ ((turn : Turn) × Among e.way turn × IsMissed M turn) ⊎ HasRound e → IsReached M e
      by (inl is) = is
      by (inr (inl t)) = absurd (taken_not_missed M t.0 (all t.0 t.1) t.2)
      by (inr (inr l)) = absurd (outside_round e.way outside l.0 l.1)

  -- an event of the entry's term is one of the entry
  matched : (ev : Event) → Among M.events ev → ev.term ≡ e.term → MatchesEntry ev e
  matched ev n same = by (among_all (IsMatched es rs) M.events (survey_is_exact k ts S M r) ev n)
    where
      by : IsMatched es rs ev → MatchesEntry ev e
      by (inl f) = subst (λ (f : Entry). MatchesEntry ev f) (((once.single d).one f.0 e f.1 m) (ap (λ (t : Term). t.place) ((f.2).term ∙ same))) f.2
      by (inr q) = absurd ((once.single d).none e q.0 m q.1 (sym (ap (λ (t : Term). t.place) same) ∙ sym (q.2).place))

  held : M.objects e.path ≡ Some e.term → HoldsWhenReached M e
  held is = by ((logged_tables ts S M r.run).made_by e.path e.term is)
    where
      by : (S.objects e.path ≡ Some e.term) ⊎ IsMaking M.events e.path e.term → HoldsWhenReached M e
      by (inl before) = absurd (new before)
      by (inr ev) = (ev.0, ev.1, ev.2, (((matched ev.0 ev.1 ev.2).exact e.path).0 ev.3).1)

  pub stayed : HaveStayed M
  stayed = staying_tables ts S M (λ ev n. absurd (among_nothing S.events ev r.nothing_yet.0 n)) r.run

  stands : HoldsWhenReached M e → M.objects e.path ≡ Some e.term
  stands h = stayed h.0 h.1 e.path (((matched h.0 h.1 h.2).exact e.path).1 (refl, h.3)) ∙ ap Some h.2

  reached_held : HoldsWhenReached M e → IsReached M e
  reached_held h = (h.0, h.1, h.2)

  pub stands_exactly : StandsExactly M e
  stands_exactly = record {
    comes = (taken, reached);
    stands = (λ is. let h = held is in (taken (reached_held h), h), λ h. stands h.1);
  }

-- ---- behind more tables

taken_before : (qs : List Place) (M S' : State) → Logged qs M S' → (turn : Turn) → (Among qs (turn_place turn) → ⊥) → IsTaken S' turn → IsTaken M turn
taken_before qs M S' l turn out is = by turn out is (l.turns turn)
  where
    old : {A B : Type 0} → (B → ⊥) → A ⊎ B → A
    old out (inl a) = a
    old out (inr b) = absurd (out b)

    by : (turn : Turn) → (Among qs (turn_place turn) → ⊥) → IsTaken S' turn → (Among S'.turns turn → Among M.turns turn ⊎ Among qs (turn_place turn)) → IsTaken M turn
    by (then_branch p) out is f = old out (f is)
    by (else_branch p) out is f = old out (f is)
    by (in_round p) out is f = old out (f is)
    by (within p) out is f = old out (f is)
    by (past p) out is f = λ m. is (l.stop_places p m)

module _ (ps qs : List Place) (d : AreDistinct (ps ++ qs)) (M S' : State) (l : Logged qs M S') (stayed : HaveStayed M) (e : Entry) (at : Among ps e.term.place)
    (turned : (turn : Turn) → Among e.way turn → IsTurnIn ps turn) where
  all_later : AllTaken M e → AllTaken S' e
  all_later all turn n = taken_grows qs M S' l turn (λ q. apart ps qs d (turn_place turn) (turned turn n) q) (all turn n)

  all_before : AllTaken S' e → AllTaken M e
  all_before all turn n = taken_before qs M S' l turn (λ q. apart ps qs d (turn_place turn) (turned turn n) q) (all turn n)

  event_before : (ev : Event) → Among S'.events ev → ev.term ≡ e.term → Among M.events ev
  event_before ev n same = by (l.new_events ev n)
    where
      by : Among M.events ev ⊎ Among qs ev.term.place → Among M.events ev
      by (inl old) = old
      by (inr q) = absurd (apart ps qs d e.term.place at (subst (λ (t : Term). Among qs t.place) same q))

  object_before : S'.objects e.path ≡ Some e.term → M.objects e.path ≡ Some e.term
  object_before is = by (l.made_by e.path e.term is)
    where
      by : (M.objects e.path ≡ Some e.term) ⊎ IsMaking S'.events e.path e.term → M.objects e.path ≡ Some e.term
      by (inl old) = old
      by (inr ev) = stayed ev.0 (event_before ev.0 ev.1 ev.2) e.path ev.3 ∙ ap Some ev.2

  held_later : HoldsWhenReached M e → HoldsWhenReached S' e
  held_later h = (h.0, l.events h.0 h.1, h.2, h.3)

  held_before : HoldsWhenReached S' e → HoldsWhenReached M e
  held_before h = (h.0, event_before h.0 h.1 h.2, h.2, h.3)

  pub exactly_later : StandsExactly M e → StandsExactly S' e
  exactly_later x = record {
    comes = (
      λ is. all_later (x.comes.0 (is.0, event_before is.0 is.1 is.2, is.2)),
      λ all. let is = x.comes.1 (all_before all) in (is.0, l.events is.0 is.1, is.2),
    );
    stands = (
      λ is. let h = x.stands.0 (object_before is) in (all_later h.0, held_later h.1),
      λ h. l.grows e.path e.term (x.stands.1 (all_before h.0, held_before h.1)),
    );
  }

pub objects_stand_exactly : (k : Known) (ts us : List Nodes) (S M S' : State) → IsRunOf k ts S M → AreRuns us M S' → AreDistinct (flat_map places (ts ++ us)) → (e : Entry)
    → Among (all_entries (surveys k ts)) e → IsTrue (not (list_any is_round e.way)) → S.objects e.path ≢ Some e.term → StandsExactly S' e
objects_stand_exactly k ts us S M S' r on d e m outside new =
    exactly_later (flat_map places ts) (flat_map places us) both M S' (logged_tables us M S' on) (stayed k ts S M r first e m outside new) e ((once_tables k ts).at.entries e m) (turned_tables k ts e m)
    (stands_exactly k ts S M r first e m outside new)
  where
    both : AreDistinct (flat_map places ts ++ flat_map places us)
    both = subst AreDistinct (flat_map-append places ts us) d

    first : AreDistinct (flat_map places ts)
    first = distinct_left (flat_map places ts) (flat_map places us) both
