-- Where control has come to an entry's term, it has taken each turn of the entry's way, and was not stopped there.
use Rattle.std.proofs.Common.{◌≡◌, ℕ, zero, suc, Bool, true, false, cond, List, [], ◌∷◌, ◌++◌, map, ◌⊎◌, inl, inr, refl, sym, subst, Result, Ok, Err}
use Rattle.std.specs.List.{AllByRecursion, flat_map}
use Rattle.acpi_name.specs.Names.{NameParts}
use Rattle.acpi_space.specs.Laws.{Among}
use Rattle.acpi_space.proofs.Elements.{among_left, among_right, among_append, all_append}
use Rattle.acpi_conditions.specs.Nodes.{Place, Term, Stop, returns, breaks, continues, Nodes, no_nodes, declares, opens, branch, loop, stop, places}
use Rattle.acpi_conditions.specs.Entries.{Path, Turn, then_branch, else_branch, in_round, within, past, asks_nothing, Entry, Why, Refusal, StopAt}
use Rattle.acpi_conditions.specs.Known.{Known, is_certain_scope, declared_at, opened_at, IsTrueOf}
use Rattle.acpi_conditions.specs.Survey.{Around, turning, at_root, Survey, Surveying, behind, passing, followed_by, entry_at, inside_of, known_inside, declaring_as, declaring, inside_scope, known_in_scope, opening_as, opening, branching, known_in_loop, looping, stopping, behind_table, table_survey, surveys, all_entries, all_refused, survey}
use Rattle.acpi_conditions.specs.Runs.{Makes, Event, State, with_turn, state_inside, state_past, Ending, goes_on, stops, Running, Continues, IsFollowed, IsDeclaring, Finds, IsOpening, IsBranching, NextRound, AreRounds, IsRound, IsLooping, IsStopping, IsRun, AreRuns}
use Rattle.acpi_conditions.specs.Laws.{HasTurn, AreSure, AreDistinct, turn_place, whiles, IsInWhile, IsTaken, AllTaken}
use Rattle.acpi_conditions.proofs.Knowing.{one_found}
use Rattle.acpi_conditions.proofs.Declaring.{makes_allowed, true_inside, true_in_scope, opened_is}
use Rattle.acpi_conditions.proofs.Outcomes.{Outcome, IsCovered, covered_here, covered_rest, past_turns, true_behind}
use Rattle.acpi_conditions.proofs.Steps.{maybe_turned, no_more}
use Rattle.acpi_conditions.proofs.Tables.{true_behind_table, table_outcome}
use Rattle.acpi_conditions.proofs.Logs.{Logged, IsLogged, logged_turn, logged_making, logged_looping, logged_nodes, logged_tables}
use Rattle.acpi_conditions.proofs.EntryWays.{passing_way}
use Rattle.acpi_conditions.proofs.Reached.{distinct_left, distinct_right, apart, turn_all}
use Rattle.acpi_conditions.proofs.Pieces.{Piece, piece_nodes, piece_declaring, piece_opening, piece_branching, piece_looping, piece_stopping}
use Rattle.acpi_conditions.proofs.Ended.{IsEnding, ending_declaring, ending_opening, ending_branching, ending_looping, ending_stopping, ending_nodes}

abbrev pub HasRound : Entry → Type 0
HasRound en = (place : Place) × Among en.way (in_round place)

-- control has taken each turn of the way, but those inside one of the Whiles in which the entry is
abbrev pub TakenBut : List (Place × List Place) → State → Entry → Type 0
TakenBut ls S en = (turn : Turn) → Among en.way turn → IsTaken S turn ⊎ IsInWhile ls en turn

wider : (ls ms : List (Place × List Place)) (S : State) (en : Entry) → ((l : Place × List Place) → Among ls l → Among ms l) → TakenBut ls S en → TakenBut ms S en
wider ls ms S en sub f turn m = by (f turn m)
  where
    by : IsTaken S turn ⊎ IsInWhile ls en turn → IsTaken S turn ⊎ IsInWhile ms en turn
    by (inl x) = inl x
    by (inr r) = inr (r.0, sub r.0 r.1, r.2, r.3)

all_or_round : (ls : List (Place × List Place)) (S : State) (en : Entry) (w : List Turn) → ((turn : Turn) → Among w turn → IsTaken S turn ⊎ IsInWhile ls en turn)
    → ((turn : Turn) → Among w turn → IsTaken S turn) ⊎ HasRound en
all_or_round ls S en [] f = inl (λ turn m. absurd m)
all_or_round ls S en (t ∷ w) f = by (f t (inl refl)) (all_or_round ls S en w (λ turn m. f turn (inr m)))
  where
    at : IsTaken S t → ((turn : Turn) → Among w turn → IsTaken S turn) → (turn : Turn) → Among (t ∷ w) turn → IsTaken S turn
    at x all turn (inl same) = subst (λ (turn : Turn). IsTaken S turn) same x
    at x all turn (inr m) = all turn m

    by : IsTaken S t ⊎ IsInWhile ls en t → ((turn : Turn) → Among w turn → IsTaken S turn) ⊎ HasRound en → ((turn : Turn) → Among (t ∷ w) turn → IsTaken S turn) ⊎ HasRound en
    by (inl x) (inl all) = inl (at x all)
    by (inl x) (inr r) = inr r
    by (inr r) rest = inr (r.0.0, r.2)

pub taken_grows : (qs : List Place) (M S' : State) → Logged qs M S' → (turn : Turn) → (Among qs (turn_place turn) → ⊥) → IsTaken M turn → IsTaken S' turn
taken_grows qs M S' l (then_branch p) out is = l.keeps (then_branch p) is
taken_grows qs M S' l (else_branch p) out is = l.keeps (else_branch p) is
taken_grows qs M S' l (in_round p) out is = l.keeps (in_round p) is
taken_grows qs M S' l (within p) out is = l.keeps (within p) is
taken_grows qs M S' l (past p) out is = λ m. by (l.new_stops p m)
  where
    by : Among M.stop_places p ⊎ Among qs p → ⊥
    by (inl m) = is m
    by (inr m) = out m

-- neither stopped nor come to a term at one of these places
pub record Untouched (ps : List Place) (S : State) : Type 0 where
  pub stops : (p : Place) → Among S.stop_places p → Among ps p → ⊥
  pub events : (ev : Event) → Among S.events ev → Among ps ev.term.place → ⊥

-- the turns around are taken, and stand elsewhere
abbrev pub AroundTaken : List Place → State → List Turn → Type 0
AroundTaken ps S way = (turn : Turn) → Among way turn → IsTaken S turn × (Among ps (turn_place turn) → ⊥)

module _ (F : List Entry) (R : List Refusal) where
  abbrev pub IsTaking : List Place → List (Place × List Place) → Surveying → Running → Type 0
  IsTaking ps ls x r = (a : Around) (k : Known) (w : List Turn) (S : State) (e : Ending) (S' : State) → IsTrueOf S.objects k → AllByRecursion (HasTurn w) a.way → IsCovered F R (x a k)
      → AreDistinct ps → Untouched ps S → AroundTaken ps S a.way → r a.scope w S e S' → (en : Entry) → Among (x a k).entries en → (ev : Event) → Among S'.events ev → ev.term ≡ en.term
      → TakenBut ls S' en

  same_place : (ps : List Place) (ev : Event) (en : Entry) → ev.term ≡ en.term → Among ps en.term.place → Among ps ev.term.place
  same_place ps ev en same m = subst (λ (t : Term). Among ps t.place) (sym same) m

  taking_followed : (ps qs : List Place) (ls ms : List (Place × List Place)) (here rest : Surveying) (rh rr : Running) → Piece F R ps here rh → Piece F R qs rest rr → IsEnding F R ps here rh → IsTaking ps ls here rh → IsTaking qs ms rest rr
      → IsTaking (ps ++ qs) (ls ++ ms) (followed_by here rest) (IsFollowed rh rr)
  taking_followed ps qs ls ms here rest rh rr P Q uh th tr a k w S e S' h way c d clean around run en m ev is same =
      by run.0 run.1 run.2 run.3 (among_append (here a k).entries (rest (passing a (here a k)) (behind k (here a k))).entries en m)
    where
      c_here : IsCovered F R (here a k)
      c_here = covered_here F R (here a k) (rest (passing a (here a k)) (behind k (here a k))) c

      clean_here : Untouched ps S
      clean_here = record { stops = λ p m n. clean.stops p m (among_left ps qs p n); events = λ ev m n. clean.events ev m (among_left ps qs ev.term.place n) }

      around_here : AroundTaken ps S a.way
      around_here turn m = ((around turn m).0, λ n. (around turn m).1 (among_left ps qs (turn_place turn) n))

      first : (x : Ending) (M : State) → rh a.scope w S x M → Among (here a k).entries en → Among M.events ev → TakenBut (ls ++ ms) M en
      first x M r n is = wider ls (ls ++ ms) M en (λ l m. among_left ls ms l m) (th a k w S x M h way c_here (distinct_left ps qs d) clean_here around_here r en n ev is same)

      carried : (M : State) → Logged qs M S' → Among (here a k).entries en → TakenBut (ls ++ ms) M en → TakenBut (ls ++ ms) S' en
      carried M l n f turn m = on (f turn m)
        where
          at : (turn : Turn) → Among qs (turn_place turn) → Among a.way turn ⊎ Among ps (turn_place turn) → ⊥
          at turn q (inl o) = (around turn o).1 (among_right ps qs (turn_place turn) q)
          at turn q (inr p) = apart ps qs d (turn_place turn) p q

          on : IsTaken M turn ⊎ IsInWhile (ls ++ ms) en turn → IsTaken S' turn ⊎ IsInWhile (ls ++ ms) en turn
          on (inl x) = inl (taken_grows qs M S' l turn (λ q. at turn q (P.along a k en n turn m)) x)
          on (inr r) = inr r

      clean_rest : (M : State) → Logged ps S M → Untouched qs M
      clean_rest M l = record { stops = λ p m q. stop_at p q (l.new_stops p m); events = λ ev m q. event_at ev q (l.new_events ev m) }
        where
          stop_at : (p : Place) → Among qs p → Among S.stop_places p ⊎ Among ps p → ⊥
          stop_at p q (inl o) = clean.stops p o (among_right ps qs p q)
          stop_at p q (inr n) = apart ps qs d p n q

          event_at : (ev : Event) → Among qs ev.term.place → Among S.events ev ⊎ Among ps ev.term.place → ⊥
          event_at ev q (inl o) = clean.events ev o (among_right ps qs ev.term.place q)
          event_at ev q (inr n) = apart ps qs d ev.term.place n q

      around_rest : (M : State) → rh a.scope w S goes_on M → AroundTaken qs M (passing a (here a k)).way
      around_rest M r turn m = at (passing_way ps here P.stopping a k turn m)
        where
          l : Logged ps S M
          l = P.logged a.scope w S goes_on M r

          at : Among a.way turn ⊎ ((m : StopAt) × Among (here a k).stops m × (past m.place ≡ turn) × Among ps m.place) → IsTaken M turn × (Among qs (turn_place turn) → ⊥)
          at (inl o) = (taken_grows ps S M l turn (λ p. (around turn o).1 (among_left ps qs (turn_place turn) p)) (around turn o).0, λ q. (around turn o).1 (among_right ps qs (turn_place turn) q))
          at (inr s) = subst (λ (turn : Turn). IsTaken M turn × (Among qs (turn_place turn) → ⊥)) s.2 (
            (λ stopped. no_more s.0.kind (uh a k w S goes_on M h way c_here (distinct_left ps qs d) r s.0 s.1 (λ o. clean.stops s.0.place o (among_left ps qs s.0.place s.3)) stopped)),
            (λ q. apart ps qs d s.0.place s.3 q),
          )

      by : (x : Ending) (M : State) → rh a.scope w S x M → Continues x (rr a.scope w) M e S' → Among (here a k).entries en ⊎ Among (rest (passing a (here a k)) (behind k (here a k))).entries en
          → TakenBut (ls ++ ms) S' en
      by goes_on M r next (inl n) = at ((Q.logged a.scope w M e S' next).new_events ev is)
        where
          at : Among M.events ev ⊎ Among qs ev.term.place → TakenBut (ls ++ ms) S' en
          at (inl old) = carried M (Q.logged a.scope w M e S' next) n (first goes_on M r n old)
          at (inr q) = absurd (apart ps qs d ev.term.place (same_place ps ev en same (P.placed a k en n)) q)
      by goes_on M r next (inr n) =
          let o : Outcome F R (here a k) S goes_on M = P.sound a k w S goes_on M h way c_here r in
          wider ms (ls ++ ms) S' en (λ l m. among_right ls ms l m) (tr (passing a (here a k)) (behind k (here a k)) w M e S' (true_behind F R k (here a k) S M h o)
          (all_append (HasTurn w) a.way (map (λ s. past s.place) (here a k).stops) way (past_turns w (here a k).stops))
          (covered_rest F R (here a k) (rest (passing a (here a k)) (behind k (here a k))) c) (distinct_right ps qs d)
          (clean_rest M (P.logged a.scope w S goes_on M r)) (around_rest M r) next en n ev is same)
      by (stops kind) M r next (inl n) =
          subst (λ (T : State). TakenBut (ls ++ ms) T en) (sym next.1) (first (stops kind) M r n (subst (λ (T : State). Among T.events ev) next.1 is))
      by (stops kind) M r next (inr n) = absurd (at ((P.logged a.scope w S (stops kind) M r).new_events ev (subst (λ (T : State). Among T.events ev) next.1 is)))
        where
          q : Among qs ev.term.place
          q = same_place qs ev en same (Q.placed (passing a (here a k)) (behind k (here a k)) en n)

          at : Among S.events ev ⊎ Among ps ev.term.place → ⊥
          at (inl o) = clean.events ev o (among_right ps qs ev.term.place q)
          at (inr p) = apart ps qs d ev.term.place p q

  -- the turns around, and maybe one more
  around_more : (place : Place) (qs : List Place) (S T : State) (way : List Turn) (b : Bool) → AroundTaken (place ∷ qs) S way → Logged (place ∷ qs) S T → Among T.turns (within place) → (Among qs place → ⊥)
      → AroundTaken qs T (way ++ cond b [] (within place ∷ []))
  around_more place qs S T way b around l here out turn m = by (among_append way (cond b [] (within place ∷ [])) turn m)
    where
      more : (b : Bool) → Among (cond b [] (within place ∷ [])) turn → IsTaken T turn × (Among qs (turn_place turn) → ⊥)
      more true m = absurd m
      more false (inl same) = subst (λ (turn : Turn). IsTaken T turn × (Among qs (turn_place turn) → ⊥)) same (here, out)
      more false (inr m) = absurd m

      by : Among way turn ⊎ Among (cond b [] (within place ∷ [])) turn → IsTaken T turn × (Among qs (turn_place turn) → ⊥)
      by (inl m) = (taken_grows (place ∷ qs) S T l turn (around turn m).1 (around turn m).0, λ q. (around turn m).1 (inr q))
      by (inr m) = more b m

  around_branch : (turn : Turn) (qs : List Place) (S : State) (way : List Turn) → AroundTaken (turn_place turn ∷ qs) S way → IsTaken (with_turn turn S) turn → (Among qs (turn_place turn) → ⊥)
      → AroundTaken qs (with_turn turn S) (way ++ turn ∷ [])
  around_branch turn qs S way around here out other m = by (among_append way (turn ∷ []) other m)
    where
      by : Among way other ⊎ Among (turn ∷ []) other → IsTaken (with_turn turn S) other × (Among qs (turn_place other) → ⊥)
      by (inl m) = (taken_grows (turn_place turn ∷ qs) S (with_turn turn S) (logged_turn (turn_place turn ∷ qs) S turn (inl refl)) other (around other m).1 (around other m).0, λ q. (around other m).1 (inr q))
      by (inr (inl same)) = subst (λ (other : Turn). IsTaken (with_turn turn S) other × (Among qs (turn_place other) → ⊥)) same (here, out)
      by (inr (inr m)) = absurd m

  module _ (t : Term) (qs : List Place) (ls : List (Place × List Place)) (inside : Surveying) (ri : Running) (P : Piece F R qs inside ri) (lt : IsLogged (t.place ∷ qs) (IsDeclaring t ri)) (ti : IsTaking qs ls inside ri) (a : Around) (k : Known) (w : List Turn)
      (S : State) (e : Ending) (S' : State) (h : IsTrueOf S.objects k) (way : AllByRecursion (HasTurn w) a.way) (d : AreDistinct (t.place ∷ qs)) (clean : Untouched (t.place ∷ qs) S)
      (around : AroundTaken (t.place ∷ qs) S a.way) (p : Path) (ok : declared_at k a.scope t.name ≡ Ok p) (c : IsCovered F R (declaring_as t inside a k (Ok p)))
      (en : Entry) (ev : Event) (is : Among S'.events ev) (same : ev.term ≡ en.term) where
    abbrev own : Entry
    own = entry_at a k t p

    abbrev under : Survey
    under = inside (inside_of own) (known_inside k own)

    own_taken : Logged (t.place ∷ qs) S S' → own ≡ en → AllTaken S' en
    own_taken l here turn m =
        let n : Among a.way turn = subst (λ (e : Entry). Among e.way turn) (sym here) m in
        taken_grows (t.place ∷ qs) S S' l turn (around turn n).1 (around turn n).0

    inside_taken : Makes S.objects a.scope t p → ri p (within t.place ∷ w) (state_inside a.scope w t p S) e S' → Among under.entries en → TakenBut ls S' en
    inside_taken m run n = ti (inside_of own) (known_inside k own) (within t.place ∷ w) (state_inside a.scope w t p S) e S' (true_inside S.objects k h own m.free) (maybe_turned w a.way t.place (asks_nothing own.asks) way)
        (record { entries = λ e m. c.entries e (inr m); refused = c.refused }) d.1 (record { stops = λ q m n. clean.stops q m (inr n); events = events })
        (around_more t.place qs S (state_inside a.scope w t p S) a.way (asks_nothing own.asks) around (logged_making t qs a.scope w S p) (inl refl) d.0) run en n ev is same
      where
        events : (ev : Event) → Among (state_inside a.scope w t p S).events ev → Among qs ev.term.place → ⊥
        events ev (inl here) q = d.0 (subst (λ (ev : Event). Among qs ev.term.place) (sym here) q)
        events ev (inr m) q = clean.events ev m (inr q)

    inside_not_come : IsDeclaring t ri a.scope w S e S' → ((q : Path) → Makes S.objects a.scope t q → ⊥) × (S' ≡ state_past a.scope w t S) → Among under.entries en → ⊥
    inside_not_come run none n = by (subst (λ (T : State). Among T.events ev) none.1 is)
      where
        q : Among qs ev.term.place
        q = same_place qs ev en same (P.placed (inside_of own) (known_inside k own) en n)

        by : Among (state_past a.scope w t S).events ev → ⊥
        by (inl here) = d.0 (subst (λ (ev : Event). Among qs ev.term.place) (sym here) q)
        by (inr m) = clean.events ev m (inr q)

    placed_taken : IsDeclaring t ri a.scope w S e S' → Among (own ∷ under.entries) en → TakenBut ls S' en
    placed_taken run (inl here) = λ turn n. inl (own_taken (lt a.scope w S e S' run) here turn n)
    placed_taken (inr m) (inr n) = absurd (inside_not_come (inr m) (m.0, m.1.1) n)
    placed_taken (inl m) (inr n) =
        let allowed : declared_at k a.scope t.name ≡ Ok m.0 = makes_allowed S.objects k h a.scope t m.0 m.1 in
        let path : p ≡ m.0 = cc in
        subst (λ (q : Path). Makes S.objects a.scope t q → ri q (within t.place ∷ w) (state_inside a.scope w t q S) e S' → Among under.entries en → TakenBut ls S' en) path inside_taken m.1 m.2 n

  taking_declaring : (t : Term) (qs : List Place) (ls : List (Place × List Place)) (inside : Surveying) (ri : Running) → Piece F R qs inside ri → IsLogged (t.place ∷ qs) (IsDeclaring t ri) → IsTaking qs ls inside ri
      → IsTaking (t.place ∷ qs) ls (declaring t inside) (IsDeclaring t ri)
  taking_declaring t qs ls inside ri P lt ti a k w S e S' h way c d clean around run en m ev is same = by (declared_at k a.scope t.name) refl c m
    where
      by : (r : Result Path Why) → declared_at k a.scope t.name ≡ r → IsCovered F R (declaring_as t inside a k r) → Among (declaring_as t inside a k r).entries en → TakenBut ls S' en
      by (Err why) ok c m = absurd m
      by (Ok p) ok c m = placed_taken t qs ls inside ri P lt ti a k w S e S' h way d clean around p ok c en ev is same run m

  taking_opening : (place : Place) (n : NameParts) (qs : List Place) (ls : List (Place × List Place)) (inside : Surveying) (ri : Running) → Piece F R qs inside ri → IsTaking qs ls inside ri → IsTaking (place ∷ qs) ls (opening place n inside) (IsOpening place n ri)
  taking_opening place n qs ls inside ri P ti a k w S e S' h way c d clean around run en m ev is same = by (opened_at k a.scope n) refl c m
    where
      by : (r : Result Path Why) → opened_at k a.scope n ≡ r → IsCovered F R (opening_as place inside a k r) → Among (opening_as place inside a k r).entries en → TakenBut ls S' en
      by (Err why) ok c m = absurd m
      by (Ok p) ok c m = at run
        where
          opened : Finds S.objects a.scope n p → ri p (within place ∷ w) (with_turn (within place) S) e S' → TakenBut ls S' en
          opened f r = ti (inside_scope place a k p) (known_in_scope k p) (within place ∷ w) (with_turn (within place) S) e S' (true_in_scope S.objects k h p f.1) (maybe_turned w a.way place (is_certain_scope k p) way)
              (record { entries = c.entries; refused = c.refused }) d.1 (record { stops = λ q m n. clean.stops q m (inr n); events = λ ev m n. clean.events ev m (inr n) })
              (around_more place qs S (with_turn (within place) S) a.way (is_certain_scope k p) around (logged_turn (place ∷ qs) S (within place) (inl refl)) (inl refl) d.0) r en m ev is same

          at : IsOpening place n ri a.scope w S e S' → TakenBut ls S' en
          at (inr f) = absurd (clean.events ev (subst (λ (T : State). Among T.events ev) f.1.1 is) (inr (same_place qs ev en same (P.placed (inside_scope place a k p) (known_in_scope k p) en m))))
          at (inl f) = subst (λ (q : Path). Finds S.objects a.scope n q → ri q (within place ∷ w) (with_turn (within place) S) e S' → TakenBut ls S' en)
              (one_found S.objects k h a.scope n p (opened_is k a.scope n p ok) f.0 f.1.0) opened f.1 f.2

  taking_branching : (place : Place) (fs os : List Place) (ls ms : List (Place × List Place)) (first other : Surveying) (rf ro : Running) → Piece F R fs first rf → Piece F R os other ro → IsTaking fs ls first rf → IsTaking os ms other ro
      → IsTaking (place ∷ (fs ++ os)) (ls ++ ms) (branching place first other) (IsBranching place rf ro)
  taking_branching place fs os ls ms first other rf ro P Q tf to a k w S e S' h way c d clean around run en m ev is same =
      by run (among_append (first (turning a (then_branch place)) k).entries (other (turning a (else_branch place)) k).entries en m)
    where
      around_then : AroundTaken fs (with_turn (then_branch place) S) (a.way ++ then_branch place ∷ [])
      around_then turn m = let r = around_branch (then_branch place) (fs ++ os) S a.way around (inl refl) d.0 turn m in (r.0, λ n. r.1 (among_left fs os (turn_place turn) n))

      around_else : AroundTaken os (with_turn (else_branch place) S) (a.way ++ else_branch place ∷ [])
      around_else turn m = let r = around_branch (else_branch place) (fs ++ os) S a.way around (inl refl) d.0 turn m in (r.0, λ n. r.1 (among_right fs os (turn_place turn) n))

      by : IsBranching place rf ro a.scope w S e S' → Among (first (turning a (then_branch place)) k).entries en ⊎ Among (other (turning a (else_branch place)) k).entries en → TakenBut (ls ++ ms) S' en
      by (inl r) (inl n) = wider ls (ls ++ ms) S' en (λ l m. among_left ls ms l m) (tf (turning a (then_branch place)) k (then_branch place ∷ w) (with_turn (then_branch place) S) e S' h (turn_all F R a w (then_branch place) way (inl refl)) (record {
        entries = λ e m. c.entries e (among_left (first (turning a (then_branch place)) k).entries (other (turning a (else_branch place)) k).entries e m);
        refused = λ q m. c.refused q (among_left (first (turning a (then_branch place)) k).refused (other (turning a (else_branch place)) k).refused q m);
      }) (distinct_left fs os d.1)
          (record { stops = λ p m n. clean.stops p m (inr (among_left fs os p n)); events = λ ev m n. clean.events ev m (inr (among_left fs os ev.term.place n)) }) around_then r en n ev is same)
      by (inr r) (inr n) = wider ms (ls ++ ms) S' en (λ l m. among_right ls ms l m) (to (turning a (else_branch place)) k (else_branch place ∷ w) (with_turn (else_branch place) S) e S' h (turn_all F R a w (else_branch place) way (inl refl)) (record {
        entries = λ e m. c.entries e (among_right (first (turning a (then_branch place)) k).entries (other (turning a (else_branch place)) k).entries e m);
        refused = λ q m. c.refused q (among_right (first (turning a (then_branch place)) k).refused (other (turning a (else_branch place)) k).refused q m);
      }) (distinct_right fs os d.1)
          (record { stops = λ p m n. clean.stops p m (inr (among_right fs os p n)); events = λ ev m n. clean.events ev m (inr (among_right fs os ev.term.place n)) }) around_else r en n ev is same)
      by (inl r) (inr n) = absurd (at ((P.logged a.scope (then_branch place ∷ w) (with_turn (then_branch place) S) e S' r).new_events ev is))
        where
          q : Among os ev.term.place
          q = same_place os ev en same (Q.placed (turning a (else_branch place)) k en n)

          at : Among S.events ev ⊎ Among fs ev.term.place → ⊥
          at (inl o) = clean.events ev o (inr (among_right fs os ev.term.place q))
          at (inr f) = apart fs os d.1 ev.term.place f q
      by (inr r) (inl n) = absurd (at ((Q.logged a.scope (else_branch place ∷ w) (with_turn (else_branch place) S) e S' r).new_events ev is))
        where
          q : Among fs ev.term.place
          q = same_place fs ev en same (P.placed (turning a (then_branch place)) k en n)

          at : Among S.events ev ⊎ Among os ev.term.place → ⊥
          at (inl o) = clean.events ev o (inr (among_left fs os ev.term.place q))
          at (inr f) = apart fs os d.1 ev.term.place q f

  -- control comes to a term inside a While, so it takes the turn into a round
  entered : (place : Place) (bs : List Place) (rb : Running) → IsLogged bs rb → (s : Path) (w : List Turn) (S : State) (e : Ending) (S' : State) → IsLooping place rb s w S e S' → (ev : Event) → Among S'.events ev
      → (Among S.events ev → ⊥) → Among S'.turns (in_round place)
  entered place bs rb lb s w S e S' (zero, run) ev is out = absurd (out (subst (λ (T : State). Among T.events ev) run.1 is))
  entered place bs rb lb s w S e S' (suc n, run) ev is out = by run.0 run.1 run.2 run.3
    where
      turned : (m : Ending) (M : State) → IsRound place rb s w S m M → Among M.turns (in_round place)
      turned m M r = (lb s (in_round place ∷ w) (with_turn (in_round place) S) m M r).keeps (in_round place) (inl refl)

      later : (M : State) → AreRounds n (IsRound place rb s w) M e S' → Among M.turns (in_round place) → Among S'.turns (in_round place)
      later M r m = (logged_looping place bs rb lb s w M e S' (n, r)).keeps (in_round place) m

      by : (m : Ending) (M : State) → IsRound place rb s w S m M → NextRound m (AreRounds n (IsRound place rb s w)) M e S' → Among S'.turns (in_round place)
      by goes_on M r next = later M next (turned goes_on M r)
      by (stops continues) M r next = later M next (turned (stops continues) M r)
      by (stops breaks) M r next = subst (λ (T : State). Among T.turns (in_round place)) (sym next.1) (turned (stops breaks) M r)
      by (stops returns) M r next = subst (λ (T : State). Among T.turns (in_round place)) (sym next.1) (turned (stops returns) M r)

  taking_looping : (place : Place) (bs : List Place) (ls : List (Place × List Place)) (body : Surveying) (rb : Running) → Piece F R bs body rb → IsTaking (place ∷ bs) ((place, bs) ∷ ls) (looping place body) (IsLooping place rb)
  taking_looping place bs ls body rb P a k w S e S' h way c d clean around run en m ev is same turn n = by (P.along (turning a (in_round place)) (known_in_loop k) en m turn n)
    where
      not_before : Among S.events ev → ⊥
      not_before old = clean.events ev old (inr (same_place bs ev en same (P.placed (turning a (in_round place)) (known_in_loop k) en m)))

      outside : Among a.way turn ⊎ Among (in_round place ∷ []) turn → IsTaken S' turn ⊎ IsInWhile ((place, bs) ∷ ls) en turn
      outside (inl o) = inl (taken_grows (place ∷ bs) S S' (logged_looping place bs rb P.logged a.scope w S e S' run) turn (around turn o).1 (around turn o).0)
      outside (inr (inl here)) = inl (subst (λ (turn : Turn). IsTaken S' turn) here (entered place bs rb P.logged a.scope w S e S' run ev is not_before))
      outside (inr (inr m)) = absurd m

      by : Among (a.way ++ in_round place ∷ []) turn ⊎ Among bs (turn_place turn) → IsTaken S' turn ⊎ IsInWhile ((place, bs) ∷ ls) en turn
      by (inl o) = outside (among_append a.way (in_round place ∷ []) turn o)
      by (inr q) = inr ((place, bs), inl refl, P.extended (turning a (in_round place)) (known_in_loop k) en m (in_round place) (among_right a.way (in_round place ∷ []) (in_round place) (inl refl)), q)

  module _ (sure : AreSure R) where
    pub taking_nodes : (ns : Nodes) → IsTaking (places ns) (whiles ns) (survey ns) (IsRun ns)
    taking_nodes no_nodes = λ a k w S e S' h way c d clean around run en m. absurd m
    taking_nodes (declares t inside rest) =
        taking_followed (t.place ∷ places inside) (places rest) (whiles inside) (whiles rest) (declaring t (survey inside)) (survey rest) (IsDeclaring t (IsRun inside)) (IsRun rest) (piece_declaring F R sure t inside) (piece_nodes F R sure rest)
        (ending_declaring F R t (places inside) (survey inside) (IsRun inside) (ending_nodes F R sure inside))
        (taking_declaring t (places inside) (whiles inside) (survey inside) (IsRun inside) (piece_nodes F R sure inside) (piece_declaring F R sure t inside).logged (taking_nodes inside)) (taking_nodes rest)
    taking_nodes (opens place n inside rest) =
        taking_followed (place ∷ places inside) (places rest) (whiles inside) (whiles rest) (opening place n (survey inside)) (survey rest) (IsOpening place n (IsRun inside)) (IsRun rest) (piece_opening F R sure place n inside)
        (piece_nodes F R sure rest) (ending_opening F R place n (places inside) (survey inside) (IsRun inside) (ending_nodes F R sure inside))
        (taking_opening place n (places inside) (whiles inside) (survey inside) (IsRun inside) (piece_nodes F R sure inside) (taking_nodes inside)) (taking_nodes rest)
    taking_nodes (branch place first other rest) =
        taking_followed (place ∷ (places first ++ places other)) (places rest) (whiles first ++ whiles other) (whiles rest) (branching place (survey first) (survey other)) (survey rest) (IsBranching place (IsRun first) (IsRun other)) (IsRun rest)
        (piece_branching F R sure place first other) (piece_nodes F R sure rest)
        (ending_branching F R place (places first) (places other) (survey first) (survey other) (IsRun first) (IsRun other) (piece_nodes F R sure first) (piece_nodes F R sure other) (ending_nodes F R sure first)
        (ending_nodes F R sure other))
        (taking_branching place (places first) (places other) (whiles first) (whiles other) (survey first) (survey other) (IsRun first) (IsRun other) (piece_nodes F R sure first) (piece_nodes F R sure other) (taking_nodes first)
        (taking_nodes other)) (taking_nodes rest)
    taking_nodes (loop place body rest) =
        taking_followed (place ∷ places body) (places rest) ((place, places body) ∷ whiles body) (whiles rest) (looping place (survey body)) (survey rest) (IsLooping place (IsRun body)) (IsRun rest) (piece_looping F R sure place body) (piece_nodes F R sure rest)
        (ending_looping F R place (places body) (survey body) (IsRun body) (piece_nodes F R sure body) (ending_nodes F R sure body))
        (taking_looping place (places body) (whiles body) (survey body) (IsRun body) (piece_nodes F R sure body)) (taking_nodes rest)
    taking_nodes (stop place kind rest) =
        taking_followed (place ∷ []) (places rest) [] (whiles rest) (stopping place kind) (survey rest) (IsStopping place kind) (IsRun rest) (piece_stopping F R sure place kind) (piece_nodes F R sure rest)
        (ending_stopping F R place kind) (λ a k w S e S' h way c d clean around run en m. absurd m) (taking_nodes rest)

    clean_behind : (ps qs : List Place) (S M : State) → AreDistinct (ps ++ qs) → Untouched (ps ++ qs) S → Logged ps S M → Untouched qs M
    clean_behind ps qs S M d clean l = record { stops = λ p m q. stop_at p q (l.new_stops p m); events = λ ev m q. event_at ev q (l.new_events ev m) }
      where
        stop_at : (p : Place) → Among qs p → Among S.stop_places p ⊎ Among ps p → ⊥
        stop_at p q (inl o) = clean.stops p o (among_right ps qs p q)
        stop_at p q (inr n) = apart ps qs d p n q

        event_at : (ev : Event) → Among qs ev.term.place → Among S.events ev ⊎ Among ps ev.term.place → ⊥
        event_at ev q (inl o) = clean.events ev o (among_right ps qs ev.term.place q)
        event_at ev q (inr n) = apart ps qs d ev.term.place n q

    clean_front : (ps qs : List Place) (S : State) → Untouched (ps ++ qs) S → Untouched ps S
    clean_front ps qs S clean = record { stops = λ p m n. clean.stops p m (among_left ps qs p n); events = λ ev m n. clean.events ev m (among_left ps qs ev.term.place n) }

    in_table : (t : Nodes) (qs : List Place) (k : Known) (M S' : State) (en : Entry) (ev : Event) → AreDistinct (places t ++ qs) → Logged qs M S' → ev.term ≡ en.term → Among (table_survey k t).entries en
        → Among M.events ev ⊎ Among qs ev.term.place → (Among M.events ev → AllTaken M en ⊎ HasRound en) → AllTaken S' en ⊎ HasRound en
    in_table t qs k M S' en ev d l same m (inr q) f = absurd (apart (places t) qs d ev.term.place (same_place (places t) ev en same ((piece_nodes F R sure t).placed at_root k en m)) q)
    in_table t qs k M S' en ev d l same m (inl old) f = by (f old)
      where
        by : AllTaken M en ⊎ HasRound en → AllTaken S' en ⊎ HasRound en
        by (inr r) = inr r
        by (inl all) = inl (λ turn n. taken_grows qs M S' l turn (λ q. at turn q ((piece_nodes F R sure t).along at_root k en m turn n)) (all turn n))
          where
            at : (turn : Turn) → Among qs (turn_place turn) → Among [] turn ⊎ Among (places t) (turn_place turn) → ⊥
            at turn q (inl o) = o
            at turn q (inr p) = apart (places t) qs d (turn_place turn) p q

    pub taking_tables : (k : Known) (ts : List Nodes) (S S' : State) → IsTrueOf S.objects k → ((e : Entry) → Among (all_entries (surveys k ts)) e → Among F e)
        → ((r : Refusal) → Among (all_refused (surveys k ts)) r → Among R r) → AreDistinct (flat_map places ts) → Untouched (flat_map places ts) S → AreRuns ts S S'
        → (en : Entry) → Among (all_entries (surveys k ts)) en → (ev : Event) → Among S'.events ev → ev.term ≡ en.term → AllTaken S' en ⊎ HasRound en
    taking_tables k [] S S' h es rs d clean run en m ev is same = absurd m
    taking_tables k (t ∷ ts) S S' h es rs d clean run en m ev is same =
        let x : Survey = table_survey k t in
        let M : State = run.1 in
        let qs : List Place = flat_map places ts in
        let more : List Survey = surveys (behind_table k x) ts in
        let c : IsCovered F R x = record { entries = λ e m. es e (among_left x.entries (all_entries more) e m); refused = λ r m. rs r (among_left x.refused (all_refused more) r m) } in
        let o : Outcome F R x S run.0 M = table_outcome F R sure k t S run.0 M h c run.2 in
        let n : Logged qs M S' = logged_tables ts M S' run.3 in
        by x (all_entries more) (among_append x.entries (all_entries more) en m)
        (λ m. in_table t qs k M S' en ev d n same m (n.new_events ev is) (λ old. all_or_round (whiles t) M en en.way (taking_nodes t at_root k [] S run.0 M h tt c (distinct_left (places t) qs d)
        (clean_front (places t) qs S clean) (λ turn m. absurd m) run.2 en m ev old same)))
        (λ m. taking_tables (behind_table k x) ts M S' (true_behind_table F R k x S M run.0 h o) (λ e m. es e (among_right x.entries (all_entries more) e m))
        (λ r m. rs r (among_right x.refused (all_refused more) r m)) (distinct_right (places t) qs d) (clean_behind (places t) qs S M d clean (logged_nodes t [] [] S run.0 M run.2)) run.3 en m ev is same)
      where
        by : (x : Survey) (ys : List Entry) → Among x.entries en ⊎ Among ys en → (Among x.entries en → AllTaken S' en ⊎ HasRound en) → (Among ys en → AllTaken S' en ⊎ HasRound en) → AllTaken S' en ⊎ HasRound en
        by x ys (inl m) f g = f m
        by x ys (inr m) f g = g m
