-- An If outside of Whiles takes one of its branches, and what is taken on the way to an event is kept.
use Rattle.std.proofs.Common.{◌≡◌, ℕ, zero, suc, Bool, true, false, cond, List, [], ◌∷◌, ◌++◌, map, ◌⊎◌, inl, inr, refl, sym, ap, subst, ◌∙◌, Result, Ok, Err}
use Rattle.std.specs.List.{AllByRecursion, flat_map}
use Rattle.acpi_name.specs.Names.{NameParts}
use Rattle.acpi_space.specs.Laws.{Among}
use Rattle.acpi_space.proofs.Elements.{among_left, among_right, among_append, all_append}
use Rattle.acpi_conditions.specs.Nodes.{Place, Term, returns, breaks, continues, Nodes, no_nodes, declares, opens, branch, loop, stop, places}
use Rattle.acpi_conditions.specs.Entries.{Path, Turn, then_branch, else_branch, in_round, within, past, asks_nothing, Entry, Why, Refusal, StopAt}
use Rattle.acpi_conditions.specs.Known.{Known, is_certain_scope, declared_at, opened_at, IsTrueOf}
use Rattle.acpi_conditions.specs.Survey.{Around, turning, at_root, Survey, Surveying, behind, passing, followed_by, entry_at, inside_of, known_inside, declaring_as, declaring, inside_scope, known_in_scope, opening_as, opening, branching, known_in_loop, looping, stopping, behind_table, table_survey, surveys, all_entries, all_refused, survey}
use Rattle.acpi_conditions.specs.Runs.{Makes, Event, State, with_turn, state_inside, state_past, Ending, goes_on, stops, Going, Running, Continues, IsFollowed, IsDeclaring, Finds, IsOpening, IsBranching, NextRound, AreRounds, IsRound, IsLooping, IsStopping, IsRun, AreRuns}
use Rattle.acpi_conditions.specs.Laws.{HasTurn, AreSure, AreDistinct, turn_place}
use Rattle.acpi_conditions.proofs.Knowing.{one_found}
use Rattle.acpi_conditions.proofs.Declaring.{makes_allowed, true_inside, true_in_scope, opened_is}
use Rattle.acpi_conditions.proofs.Outcomes.{Outcome, IsCovered, covered_here, covered_rest, past_turns, true_behind}
use Rattle.acpi_conditions.proofs.Steps.{maybe_turned}
use Rattle.acpi_conditions.proofs.Tables.{true_behind_table, table_outcome}
use Rattle.acpi_conditions.proofs.Logs.{Logged, IsLogged, logged_nodes, logged_tables}
use Rattle.acpi_conditions.proofs.EntryWays.{passing_way}
use Rattle.acpi_conditions.proofs.Reached.{distinct_left, distinct_right, apart, IsFresh, fresh_inside, turn_all}
use Rattle.acpi_conditions.proofs.Pieces.{Piece, piece_nodes, piece_declaring, piece_opening, piece_branching, piece_looping, piece_stopping}
use Rattle.acpi_conditions.proofs.Taken.{HasRound}

-- ---- ways are kept

abbrev pub AreTurned : List Turn → State → Type 0
AreTurned w S = (turn : Turn) → Among w turn → Among S.turns turn

-- a new event has taken the turns of its way
abbrev pub IsWayed : Running → Type 0
IsWayed r = (s : Path) (w : List Turn) (S : State) (e : Ending) (S' : State) → AreTurned w S → r s w S e S' → (ev : Event) → Among S'.events ev → Among S.events ev ⊎ AreTurned ev.way S'

kept_way : (ps : List Place) (S M S' : State) (ev : Event) → Logged ps M S' → Among S.events ev ⊎ AreTurned ev.way M → Among S.events ev ⊎ AreTurned ev.way S'
kept_way ps S M S' ev l (inl m) = inl m
kept_way ps S M S' ev l (inr f) = inr (λ turn m. l.keeps turn (f turn m))

wayed_followed : (ps qs : List Place) (rh rr : Running) → IsLogged ps rh → IsLogged qs rr → IsWayed rh → IsWayed rr → IsWayed (IsFollowed rh rr)
wayed_followed ps qs rh rr lh lr wh wr s w S e S' on run ev m = by run.0 run.1 run.2 run.3
  where
    by : (x : Ending) (M : State) → rh s w S x M → Continues x (rr s w) M e S' → Among S.events ev ⊎ AreTurned ev.way S'
    by goes_on M r next = at (wr s w M e S' (λ turn n. (lh s w S goes_on M r).keeps turn (on turn n)) next ev m)
      where
        at : Among M.events ev ⊎ AreTurned ev.way S' → Among S.events ev ⊎ AreTurned ev.way S'
        at (inl old) = kept_way qs S M S' ev (lr s w M e S' next) (wh s w S goes_on M on r ev old)
        at (inr f) = inr f
    by (stops kind) M r next =
        subst (λ (T : State). Among S.events ev ⊎ AreTurned ev.way T) (sym next.1) (wh s w S (stops kind) M on r ev (subst (λ (T : State). Among T.events ev) next.1 m))

wayed_declaring : (t : Term) (qs : List Place) (ri : Running) → IsLogged qs ri → IsWayed ri → IsWayed (IsDeclaring t ri)
wayed_declaring t qs ri li wi s w S e S' on (inl r) ev m = by (wi r.0 (within t.place ∷ w) (state_inside s w t r.0 S) e S' on_inside r.2 ev m)
  where
    on_inside : AreTurned (within t.place ∷ w) (state_inside s w t r.0 S)
    on_inside turn (inl same) = inl same
    on_inside turn (inr n) = inr (on turn n)

    by : Among (state_inside s w t r.0 S).events ev ⊎ AreTurned ev.way S' → Among S.events ev ⊎ AreTurned ev.way S'
    by (inr f) = inr f
    by (inl (inr n)) = inl n
    by (inl (inl same)) =
        subst (λ (ev : Event). Among S.events ev ⊎ AreTurned ev.way S') same (inr (λ turn n. (li r.0 (within t.place ∷ w) (state_inside s w t r.0 S) e S' r.2).keeps turn (inr (on turn n))))
wayed_declaring t qs ri li wi s w S e S' on (inr r) ev m =
    subst (λ (T : State). Among S.events ev ⊎ AreTurned ev.way T) (sym r.1.1) (by (subst (λ (T : State). Among T.events ev) r.1.1 m))
  where
    by : Among (state_past s w t S).events ev → Among S.events ev ⊎ AreTurned ev.way (state_past s w t S)
    by (inr n) = inl n
    by (inl same) = subst (λ (ev : Event). Among S.events ev ⊎ AreTurned ev.way (state_past s w t S)) same (inr on)

on_turned : (turn : Turn) (w : List Turn) (S : State) → AreTurned w S → AreTurned (turn ∷ w) (with_turn turn S)
on_turned turn w S on other (inl same) = inl same
on_turned turn w S on other (inr m) = inr (on other m)

wayed_opening : (place : Place) (n : NameParts) (ri : Running) → IsWayed ri → IsWayed (IsOpening place n ri)
wayed_opening place n ri wi s w S e S' on (inl f) ev m = wi f.0 (within place ∷ w) (with_turn (within place) S) e S' (on_turned (within place) w S on) f.2 ev m
wayed_opening place n ri wi s w S e S' on (inr f) ev m = inl (subst (λ (T : State). Among T.events ev) f.1.1 m)

wayed_branching : (place : Place) (rf ro : Running) → IsWayed rf → IsWayed ro → IsWayed (IsBranching place rf ro)
wayed_branching place rf ro wf wo s w S e S' on (inl r) ev m = wf s (then_branch place ∷ w) (with_turn (then_branch place) S) e S' (on_turned (then_branch place) w S on) r ev m
wayed_branching place rf ro wf wo s w S e S' on (inr r) ev m = wo s (else_branch place ∷ w) (with_turn (else_branch place) S) e S' (on_turned (else_branch place) w S on) r ev m

-- rounds, where each keeps the turns
module _ (place : Place) (bs : List Place) (rb : Running) (lb : IsLogged bs rb) (wb : IsWayed rb) (s : Path) (w : List Turn) where
  round_keeps : (S : State) (x : Ending) (M : State) → IsRound place rb s w S x M → (turn : Turn) → Among S.turns turn → Among M.turns turn
  round_keeps S x M r turn m = (lb s (in_round place ∷ w) (with_turn (in_round place) S) x M r).keeps turn (inr m)

  round_wayed : (S : State) (x : Ending) (M : State) → AreTurned w S → IsRound place rb s w S x M → (ev : Event) → Among M.events ev → Among S.events ev ⊎ AreTurned ev.way M
  round_wayed S x M on r = wb s (in_round place ∷ w) (with_turn (in_round place) S) x M (on_turned (in_round place) w S on) r

  next_keeps : (x : Ending) (M : State) (next : Going) (e : Ending) (S' : State) → (next M e S' → (turn : Turn) → Among M.turns turn → Among S'.turns turn) → NextRound x next M e S'
      → (turn : Turn) → Among M.turns turn → Among S'.turns turn
  next_keeps goes_on M next e S' more run turn m = more run turn m
  next_keeps (stops continues) M next e S' more run turn m = more run turn m
  next_keeps (stops breaks) M next e S' more run turn m = subst (λ (T : State). Among T.turns turn) (sym run.1) m
  next_keeps (stops returns) M next e S' more run turn m = subst (λ (T : State). Among T.turns turn) (sym run.1) m

  rounds_keep : (n : ℕ) (S : State) (e : Ending) (S' : State) → AreRounds n (IsRound place rb s w) S e S' → (turn : Turn) → Among S.turns turn → Among S'.turns turn
  rounds_keep zero S e S' run turn m = subst (λ (T : State). Among T.turns turn) (sym run.1) m
  rounds_keep (suc n) S e S' run turn m =
      next_keeps run.0 run.1 (AreRounds n (IsRound place rb s w)) e S' (λ next. rounds_keep n run.1 e S' next) run.3 turn (round_keeps S run.0 run.1 run.2 turn m)

  next_wayed : (x : Ending) (M : State) (next : Going) (e : Ending) (S' : State) (ev : Event) → (next M e S' → Among S'.events ev → Among M.events ev ⊎ AreTurned ev.way S') → NextRound x next M e S'
      → Among S'.events ev → Among M.events ev ⊎ AreTurned ev.way S'
  next_wayed goes_on M next e S' ev more run m = more run m
  next_wayed (stops continues) M next e S' ev more run m = more run m
  next_wayed (stops breaks) M next e S' ev more run m = inl (subst (λ (T : State). Among T.events ev) run.1 m)
  next_wayed (stops returns) M next e S' ev more run m = inl (subst (λ (T : State). Among T.events ev) run.1 m)

  wayed_rounds : (n : ℕ) (S : State) (e : Ending) (S' : State) → AreTurned w S → AreRounds n (IsRound place rb s w) S e S' → (ev : Event) → Among S'.events ev → Among S.events ev ⊎ AreTurned ev.way S'
  wayed_rounds zero S e S' on run ev m = inl (subst (λ (T : State). Among T.events ev) run.1 m)
  wayed_rounds (suc n) S e S' on run ev m =
      by (next_wayed run.0 run.1 (AreRounds n (IsRound place rb s w)) e S' ev (λ next m. wayed_rounds n run.1 e S' (λ turn k. round_keeps S run.0 run.1 run.2 turn (on turn k)) next ev m) run.3 m)
    where
      after : (turn : Turn) → Among (run.1).turns turn → Among S'.turns turn
      after = next_keeps run.0 run.1 (AreRounds n (IsRound place rb s w)) e S' (λ next. rounds_keep n run.1 e S' next) run.3

      old : Among S.events ev ⊎ AreTurned ev.way run.1 → Among S.events ev ⊎ AreTurned ev.way S'
      old (inl m) = inl m
      old (inr f) = inr (λ turn k. after turn (f turn k))

      by : Among (run.1).events ev ⊎ AreTurned ev.way S' → Among S.events ev ⊎ AreTurned ev.way S'
      by (inr f) = inr f
      by (inl m) = old (round_wayed S run.0 run.1 on run.2 ev m)

wayed_looping : (place : Place) (bs : List Place) (rb : Running) → IsLogged bs rb → IsWayed rb → IsWayed (IsLooping place rb)
wayed_looping place bs rb lb wb s w S e S' on run ev m = wayed_rounds place bs rb lb wb s w run.0 S e S' on run.1 ev m

module _ (F : List Entry) (R : List Refusal) (sure : AreSure R) where
  pub wayed_nodes : (ns : Nodes) → IsWayed (IsRun ns)
  wayed_nodes no_nodes = λ s w S e S' on run ev m. inl (subst (λ (T : State). Among T.events ev) run.1 m)
  wayed_nodes (declares t inside rest) =
      wayed_followed (t.place ∷ places inside) (places rest) (IsDeclaring t (IsRun inside)) (IsRun rest) (piece_declaring F R sure t inside).logged (logged_nodes rest)
      (wayed_declaring t (places inside) (IsRun inside) (logged_nodes inside) (wayed_nodes inside)) (wayed_nodes rest)
  wayed_nodes (opens place n inside rest) =
      wayed_followed (place ∷ places inside) (places rest) (IsOpening place n (IsRun inside)) (IsRun rest) (piece_opening F R sure place n inside).logged (logged_nodes rest)
      (wayed_opening place n (IsRun inside) (wayed_nodes inside)) (wayed_nodes rest)
  wayed_nodes (branch place first other rest) =
      wayed_followed (place ∷ (places first ++ places other)) (places rest) (IsBranching place (IsRun first) (IsRun other)) (IsRun rest) (piece_branching F R sure place first other).logged (logged_nodes rest)
      (wayed_branching place (IsRun first) (IsRun other) (wayed_nodes first) (wayed_nodes other)) (wayed_nodes rest)
  wayed_nodes (loop place body rest) =
      wayed_followed (place ∷ places body) (places rest) (IsLooping place (IsRun body)) (IsRun rest) (piece_looping F R sure place body).logged (logged_nodes rest)
      (wayed_looping place (places body) (IsRun body) (logged_nodes body) (wayed_nodes body)) (wayed_nodes rest)
  wayed_nodes (stop place kind rest) =
      wayed_followed (place ∷ []) (places rest) (IsStopping place kind) (IsRun rest) (piece_stopping F R sure place kind).logged (logged_nodes rest)
      (λ s w S e S' on run ev m. inl (subst (λ (T : State). Among T.events ev) run.1 m)) (wayed_nodes rest)

  pub wayed_tables : (ts : List Nodes) (S S' : State) → AreRuns ts S S' → (ev : Event) → Among S'.events ev → Among S.events ev ⊎ AreTurned ev.way S'
  wayed_tables [] S S' run ev m = inl (subst (λ (T : State). Among T.events ev) run m)
  wayed_tables (t ∷ ts) S S' run ev m = by (wayed_tables ts run.1 S' run.3 ev m)
    where
      by : Among (run.1).events ev ⊎ AreTurned ev.way S' → Among S.events ev ⊎ AreTurned ev.way S'
      by (inr f) = inr f
      by (inl n) = kept_way (flat_map places ts) S run.1 S' ev (logged_tables ts run.1 S' run.3) (wayed_nodes t [] [] S run.0 run.1 (λ turn m. absurd m) run.2 ev n)

-- ---- one branch

-- a turn into one of the branches of the If there
abbrev pub IsSide : Place → Turn → Type 0
IsSide p turn = (turn ≡ then_branch p) ⊎ (turn ≡ else_branch p)

pub side_place : (p : Place) (turn : Turn) → IsSide p turn → turn_place turn ≡ p
side_place p turn (inl e) = ap turn_place e
side_place p turn (inr e) = ap turn_place e

side_past : (p q : Place) (turn : Turn) → IsSide p turn → past q ≡ turn → ⊥
side_past p q turn (inl e) f = let g : past q ≡ then_branch p = f ∙ e in cc
side_past p q turn (inr e) f = let g : past q ≡ else_branch p = f ∙ e in cc

side_within : (p q : Place) (turn : Turn) → IsSide p turn → within q ≡ turn → ⊥
side_within p q turn (inl e) f = let g : within q ≡ then_branch p = f ∙ e in cc
side_within p q turn (inr e) f = let g : within q ≡ else_branch p = f ∙ e in cc

abbrev pub HasBoth : State → Place → Type 0
HasBoth S p = Among S.turns (then_branch p) × Among S.turns (else_branch p)

-- the turns around stand elsewhere
abbrev pub AroundOut : List Place → List Turn → Type 0
AroundOut ps way = (turn : Turn) → Among way turn → Among ps (turn_place turn) → ⊥

module _ (F : List Entry) (R : List Refusal) where
  -- where both branches of an If are taken, what stands in one of them stands in a While
  abbrev pub IsOneBranch : List Place → Surveying → Running → Type 0
  IsOneBranch ps x r = (a : Around) (k : Known) (w : List Turn) (S : State) (e : Ending) (S' : State) → IsTrueOf S.objects k → AllByRecursion (HasTurn w) a.way → IsCovered F R (x a k)
      → AreDistinct ps → IsFresh ps S → AroundOut ps a.way → r a.scope w S e S' → (en : Entry) → Among (x a k).entries en → (p : Place) → Among ps p → (turn : Turn) → IsSide p turn → Among en.way turn
      → HasBoth S' p → HasRound en

  both_before : (qs : List Place) (M S' : State) (p : Place) → Logged qs M S' → (Among qs p → ⊥) → HasBoth S' p → HasBoth M p
  both_before qs M S' p l out b = (at (then_branch p) (l.turns (then_branch p) b.0) out, at (else_branch p) (l.turns (else_branch p) b.1) out)
    where
      at : (turn : Turn) → Among M.turns turn ⊎ Among qs (turn_place turn) → (Among qs (turn_place turn) → ⊥) → Among M.turns turn
      at turn (inl m) out = m
      at turn (inr q) out = absurd (out q)

  one_followed : (ps qs : List Place) (here rest : Surveying) (rh rr : Running) → Piece F R ps here rh → Piece F R qs rest rr → IsOneBranch ps here rh → IsOneBranch qs rest rr
      → IsOneBranch (ps ++ qs) (followed_by here rest) (IsFollowed rh rr)
  one_followed ps qs here rest rh rr P Q oh oq a k w S e S' h way c d fresh out run en m p spot turn side on both =
      by run.0 run.1 run.2 run.3 (among_append (here a k).entries (rest (passing a (here a k)) (behind k (here a k))).entries en m) (among_append ps qs p spot)
    where
      c_here : IsCovered F R (here a k)
      c_here = covered_here F R (here a k) (rest (passing a (here a k)) (behind k (here a k))) c

      turn_at : (rs : List Place) → Among rs p → Among rs (turn_place turn)
      turn_at rs m = subst (λ (q : Place). Among rs q) (sym (side_place p turn side)) m

      first : (x : Ending) (M : State) → rh a.scope w S x M → Among (here a k).entries en → Among ps p → HasBoth M p → HasRound en
      first x M r n q b = oh a k w S x M h way c_here (distinct_left ps qs d) (λ turn m n. fresh turn m (among_left ps qs (turn_place turn) n)) (λ turn m n. out turn m (among_left ps qs (turn_place turn) n)) r en n p q turn side on b

      -- not at a place of the rest, for an entry here
      not_rest : Among (here a k).entries en → Among qs p → ⊥
      not_rest n q = at (P.along a k en n turn on)
        where
          at : Among a.way turn ⊎ Among ps (turn_place turn) → ⊥
          at (inl m) = out turn m (among_right ps qs (turn_place turn) (turn_at qs q))
          at (inr m) = apart ps qs d (turn_place turn) m (turn_at qs q)

      -- not at a place here, for an entry of the rest
      not_here : Among (rest (passing a (here a k)) (behind k (here a k))).entries en → Among ps p → ⊥
      not_here n q = at (Q.along (passing a (here a k)) (behind k (here a k)) en n turn on)
        where
          around : Among a.way turn ⊎ ((m : StopAt) × Among (here a k).stops m × (past m.place ≡ turn) × Among ps m.place) → ⊥
          around (inl m) = out turn m (among_left ps qs (turn_place turn) (turn_at ps q))
          around (inr s) = side_past p s.0.place turn side s.2

          at : Among (passing a (here a k)).way turn ⊎ Among qs (turn_place turn) → ⊥
          at (inl m) = around (passing_way ps here P.stopping a k turn m)
          at (inr m) = apart ps qs d (turn_place turn) (turn_at ps q) m

      fresh_rest : (M : State) → Logged ps S M → IsFresh qs M
      fresh_rest M l turn m q = at (l.turns turn m)
        where
          at : Among S.turns turn ⊎ Among ps (turn_place turn) → ⊥
          at (inl o) = fresh turn o (among_right ps qs (turn_place turn) q)
          at (inr n) = apart ps qs d (turn_place turn) n q

      out_rest : AroundOut qs (passing a (here a k)).way
      out_rest turn m q = at (passing_way ps here P.stopping a k turn m)
        where
          at : Among a.way turn ⊎ ((m : StopAt) × Among (here a k).stops m × (past m.place ≡ turn) × Among ps m.place) → ⊥
          at (inl o) = out turn o (among_right ps qs (turn_place turn) q)
          at (inr s) = apart ps qs d s.0.place s.3 (subst (λ (turn : Turn). Among qs (turn_place turn)) (sym s.2) q)

      by : (x : Ending) (M : State) → rh a.scope w S x M → Continues x (rr a.scope w) M e S' → Among (here a k).entries en ⊎ Among (rest (passing a (here a k)) (behind k (here a k))).entries en
          → Among ps p ⊎ Among qs p → HasRound en
      by x M r next (inl n) (inr q) = absurd (not_rest n q)
      by x M r next (inr n) (inl q) = absurd (not_here n q)
      by goes_on M r next (inl n) (inl q) = first goes_on M r n q (both_before qs M S' p (Q.logged a.scope w M e S' next) (λ z. apart ps qs d p q z) both)
      by (stops kind) M r next (inl n) (inl q) = first (stops kind) M r n q (subst (λ (T : State). HasBoth T p) next.1 both)
      by goes_on M r next (inr n) (inr q) =
          let o : Outcome F R (here a k) S goes_on M = P.sound a k w S goes_on M h way c_here r in
          oq (passing a (here a k)) (behind k (here a k)) w M e S' (true_behind F R k (here a k) S M h o)
          (all_append (HasTurn w) a.way (map (λ s. past s.place) (here a k).stops) way (past_turns w (here a k).stops))
          (covered_rest F R (here a k) (rest (passing a (here a k)) (behind k (here a k))) c) (distinct_right ps qs d) (fresh_rest M (P.logged a.scope w S goes_on M r)) out_rest next en n p q turn side on both
      by (stops kind) M r next (inr n) (inr q) = absurd (fresh_rest M (P.logged a.scope w S (stops kind) M r) (then_branch p) (subst (λ (T : State). Among T.turns (then_branch p)) next.1 both.0) q)

  out_more : (place : Place) (qs : List Place) (way : List Turn) (b : Bool) → AroundOut (place ∷ qs) way → (Among qs place → ⊥) → AroundOut qs (way ++ cond b [] (within place ∷ []))
  out_more place qs way b out apart turn m q = by (among_append way (cond b [] (within place ∷ [])) turn m)
    where
      more : (b : Bool) → Among (cond b [] (within place ∷ [])) turn → ⊥
      more true m = m
      more false (inl same) = apart (subst (λ (turn : Turn). Among qs (turn_place turn)) (sym same) q)
      more false (inr m) = m

      by : Among way turn ⊎ Among (cond b [] (within place ∷ [])) turn → ⊥
      by (inl m) = out turn m (inr q)
      by (inr m) = more b m

  -- the turn isn't one into the term or Scope around
  not_into : (place : Place) (qs : List Place) (way : List Turn) (b : Bool) (p : Place) (turn : Turn) → IsSide p turn → AroundOut (place ∷ qs) way → AreDistinct (place ∷ qs) → place ≡ p
      → Among (way ++ cond b [] (within place ∷ [])) turn ⊎ Among qs (turn_place turn) → ⊥
  not_into place qs way b p turn side out d same (inr q) = d.0 (subst (λ (r : Place). Among qs r) (side_place p turn side ∙ sym same) q)
  not_into place qs way b p turn side out d same (inl m) = by (among_append way (cond b [] (within place ∷ [])) turn m)
    where
      more : (b : Bool) → Among (cond b [] (within place ∷ [])) turn → ⊥
      more true m = m
      more false (inl is) = side_within p place turn side is
      more false (inr m) = m

      by : Among way turn ⊎ Among (cond b [] (within place ∷ [])) turn → ⊥
      by (inl m) = out turn m (inl (same ∙ sym (side_place p turn side)))
      by (inr m) = more b m

  one_declaring : (t : Term) (qs : List Place) (inside : Surveying) (ri : Running) → Piece F R qs inside ri → IsOneBranch qs inside ri → IsOneBranch (t.place ∷ qs) (declaring t inside) (IsDeclaring t ri)
  one_declaring t qs inside ri P oi a k w S e S' h way c d fresh out run en m p spot turn side on both = by (declared_at k a.scope t.name) refl c m
    where
      by : (r : Result Path Why) → declared_at k a.scope t.name ≡ r → IsCovered F R (declaring_as t inside a k r) → Among (declaring_as t inside a k r).entries en → HasRound en
      by (Err why) ok c m = absurd m
      by (Ok q) ok c (inl here) = absurd (out turn (subst (λ (e : Entry). Among e.way turn) (sym here) on) (subst (λ (r : Place). Among (t.place ∷ qs) r) (sym (side_place p turn side)) spot))
      by (Ok q) ok c (inr n) = into spot run
        where
          objects : Among qs p → Makes S.objects a.scope t q → ri q (within t.place ∷ w) (state_inside a.scope w t q S) e S' → HasRound en
          objects in_qs makes r = oi (inside_of (entry_at a k t q)) (known_inside k (entry_at a k t q)) (within t.place ∷ w) (state_inside a.scope w t q S) e S' (true_inside S.objects k h (entry_at a k t q) makes.free)
              (maybe_turned w a.way t.place (asks_nothing (entry_at a k t q).asks) way) (record { entries = λ e m. c.entries e (inr m); refused = c.refused }) d.1
              (fresh_inside F R t.place (within t.place) qs S (state_inside a.scope w t q S) refl refl d fresh) (out_more t.place qs a.way (asks_nothing (entry_at a k t q).asks) out d.0) r en n p in_qs turn side on both

          into : Among (t.place ∷ qs) p → IsDeclaring t ri a.scope w S e S' → HasRound en
          into (inl same) run = absurd (not_into t.place qs a.way (asks_nothing (entry_at a k t q).asks) p turn side out d same (P.along (inside_of (entry_at a k t q)) (known_inside k (entry_at a k t q)) en n turn on))
          into (inr in_qs) (inr r) = absurd (fresh (then_branch p) (subst (λ (T : State). Among T.turns (then_branch p)) r.1.1 both.0) (inr in_qs))
          into (inr in_qs) (inl r) =
              let allowed : declared_at k a.scope t.name ≡ Ok r.0 = makes_allowed S.objects k h a.scope t r.0 r.1 in
              let path : q ≡ r.0 = cc in
              subst (λ (q : Path). Makes S.objects a.scope t q → ri q (within t.place ∷ w) (state_inside a.scope w t q S) e S' → HasRound en) path (objects in_qs) r.1 r.2

  one_opening : (place : Place) (n : NameParts) (qs : List Place) (inside : Surveying) (ri : Running) → Piece F R qs inside ri → IsOneBranch qs inside ri → IsOneBranch (place ∷ qs) (opening place n inside) (IsOpening place n ri)
  one_opening place n qs inside ri P oi a k w S e S' h way c d fresh out run en m p spot turn side on both = by (opened_at k a.scope n) refl c m
    where
      by : (r : Result Path Why) → opened_at k a.scope n ≡ r → IsCovered F R (opening_as place inside a k r) → Among (opening_as place inside a k r).entries en → HasRound en
      by (Err why) ok c m = absurd m
      by (Ok q) ok c m = into spot run
        where
          opened : Among qs p → Finds S.objects a.scope n q → ri q (within place ∷ w) (with_turn (within place) S) e S' → HasRound en
          opened in_qs f r = oi (inside_scope place a k q) (known_in_scope k q) (within place ∷ w) (with_turn (within place) S) e S' (true_in_scope S.objects k h q f.1)
              (maybe_turned w a.way place (is_certain_scope k q) way) (record { entries = c.entries; refused = c.refused }) d.1
              (fresh_inside F R place (within place) qs S (with_turn (within place) S) refl refl d fresh) (out_more place qs a.way (is_certain_scope k q) out d.0) r en m p in_qs turn side on both

          into : Among (place ∷ qs) p → IsOpening place n ri a.scope w S e S' → HasRound en
          into (inl same) run = absurd (not_into place qs a.way (is_certain_scope k q) p turn side out d same (P.along (inside_scope place a k q) (known_in_scope k q) en m turn on))
          into (inr in_qs) (inr f) = absurd (fresh (then_branch p) (subst (λ (T : State). Among T.turns (then_branch p)) f.1.1 both.0) (inr in_qs))
          into (inr in_qs) (inl f) = subst (λ (q : Path). Finds S.objects a.scope n q → ri q (within place ∷ w) (with_turn (within place) S) e S' → HasRound en)
              (one_found S.objects k h a.scope n q (opened_is k a.scope n q ok) f.0 f.1.0) (opened in_qs) f.1 f.2

  module _ (place : Place) (fs os : List Place) (first other : Surveying) (rf ro : Running) (P : Piece F R fs first rf) (Q : Piece F R os other ro) (one_first : IsOneBranch fs first rf) (one_other : IsOneBranch os other ro)
      (a : Around) (k : Known) (w : List Turn) (S : State) (e : Ending) (S' : State) (h : IsTrueOf S.objects k) (way : AllByRecursion (HasTurn w) a.way) (c : IsCovered F R (branching place first other a k))
      (d : AreDistinct (place ∷ (fs ++ os))) (fresh : IsFresh (place ∷ (fs ++ os)) S) (out : AroundOut (place ∷ (fs ++ os)) a.way)
      (en : Entry) (p : Place) (turn : Turn) (side : IsSide p turn) (on : Among en.way turn) (both : HasBoth S' p) where
    abbrev then_part : Survey
    then_part = first (turning a (then_branch place)) k

    abbrev else_part : Survey
    else_part = other (turning a (else_branch place)) k

    turn_spot : (rs : List Place) → Among rs p → Among rs (turn_place turn)
    turn_spot rs m = subst (λ (q : Place). Among rs q) (sym (side_place p turn side)) m

    -- this very If took one branch
    here_once : IsBranching place rf ro a.scope w S e S' → place ≡ p → ⊥
    here_once (inl r) same = by ((P.logged a.scope (then_branch place ∷ w) (with_turn (then_branch place) S) e S' r).turns (else_branch place) (subst (λ (q : Place). Among S'.turns (else_branch q)) (sym same) both.1))
      where
        by : Among (then_branch place ∷ S.turns) (else_branch place) ⊎ Among fs place → ⊥
        by (inl (inl e)) = cc
        by (inl (inr m)) = fresh (else_branch place) m (inl refl)
        by (inr m) = d.0 (among_left fs os place m)
    here_once (inr r) same = by ((Q.logged a.scope (else_branch place ∷ w) (with_turn (else_branch place) S) e S' r).turns (then_branch place) (subst (λ (q : Place). Among S'.turns (then_branch q)) (sym same) both.0))
      where
        by : Among (else_branch place ∷ S.turns) (then_branch place) ⊎ Among os place → ⊥
        by (inl (inl e)) = cc
        by (inl (inr m)) = fresh (then_branch place) m (inl refl)
        by (inr m) = d.0 (among_right fs os place m)

    -- not in the other branch
    not_there : (rs ts : List Place) (into : Turn) → turn_place into ≡ place → (Among rs place → ⊥) → ((q : Place) → Among rs q → Among ts q → ⊥) → ((q : Place) → Among rs q → Among (place ∷ (fs ++ os)) q)
        → Among rs p → Among (a.way ++ into ∷ []) turn ⊎ Among ts (turn_place turn) → ⊥
    not_there rs ts into is never disjoint sub m (inr n) = disjoint (turn_place turn) (turn_spot rs m) n
    not_there rs ts into is never disjoint sub m (inl n) = by (among_append a.way (into ∷ []) turn n)
      where
        by : Among a.way turn ⊎ Among (into ∷ []) turn → ⊥
        by (inl n) = out turn n (sub (turn_place turn) (turn_spot rs m))
        by (inr (inl same)) = never (subst (λ (q : Place). Among rs q) (ap turn_place (sym same) ∙ is) (turn_spot rs m))
        by (inr (inr n)) = n

    branch_turns : (into : Turn) → turn_place into ≡ place → (into ≡ then_branch p → ⊥) → (Among (fs ++ os) p) → Among (into ∷ S.turns) (then_branch p) → ⊥
    branch_turns into is never m (inl same) = never same
    branch_turns into is never m (inr n) = fresh (then_branch p) n (inr m)

    one_inside : Among then_part.entries en ⊎ Among else_part.entries en → Among (place ∷ (fs ++ os)) p → IsBranching place rf ro a.scope w S e S' → HasRound en
    one_inside n (inl same) run = absurd (here_once run same)
    one_inside n (inr m) run = by n (among_append fs os p m) run
      where
        by : Among then_part.entries en ⊎ Among else_part.entries en → Among fs p ⊎ Among os p → IsBranching place rf ro a.scope w S e S' → HasRound en
        by (inl n) (inr q) run = absurd (not_there os fs (then_branch place) refl (λ z. d.0 (among_right fs os place z)) (λ z u v. apart fs os d.1 z v u) (λ z u. inr (among_right fs os z u)) q
            (P.along (turning a (then_branch place)) k en n turn on))
        by (inr n) (inl q) run = absurd (not_there fs os (else_branch place) refl (λ z. d.0 (among_left fs os place z)) (λ z u v. apart fs os d.1 z u v) (λ z u. inr (among_left fs os z u)) q
            (Q.along (turning a (else_branch place)) k en n turn on))
        by (inl n) (inl q) (inl r) = one_first (turning a (then_branch place)) k (then_branch place ∷ w) (with_turn (then_branch place) S) e S' h (turn_all F R a w (then_branch place) way (inl refl)) (record {
          entries = λ e m. c.entries e (among_left then_part.entries else_part.entries e m);
          refused = λ q m. c.refused q (among_left then_part.refused else_part.refused q m);
        }) (distinct_left fs os d.1)
            (λ turn is here. fresh_inside F R place (then_branch place) (fs ++ os) S (with_turn (then_branch place) S) refl refl d fresh turn is (among_left fs os (turn_place turn) here)) then_out r en n p q turn side on both
          where
            then_out : AroundOut fs (a.way ++ then_branch place ∷ [])
            then_out other m z = at (among_append a.way (then_branch place ∷ []) other m)
              where
                at : Among a.way other ⊎ Among (then_branch place ∷ []) other → ⊥
                at (inl m) = out other m (inr (among_left fs os (turn_place other) z))
                at (inr (inl same)) = d.0 (among_left fs os place (subst (λ (other : Turn). Among fs (turn_place other)) (sym same) z))
                at (inr (inr m)) = m
        by (inr n) (inr q) (inr r) = one_other (turning a (else_branch place)) k (else_branch place ∷ w) (with_turn (else_branch place) S) e S' h (turn_all F R a w (else_branch place) way (inl refl)) (record {
          entries = λ e m. c.entries e (among_right then_part.entries else_part.entries e m);
          refused = λ q m. c.refused q (among_right then_part.refused else_part.refused q m);
        }) (distinct_right fs os d.1)
            (λ turn is here. fresh_inside F R place (else_branch place) (fs ++ os) S (with_turn (else_branch place) S) refl refl d fresh turn is (among_right fs os (turn_place turn) here)) else_out r en n p q turn side on both
          where
            else_out : AroundOut os (a.way ++ else_branch place ∷ [])
            else_out other m z = at (among_append a.way (else_branch place ∷ []) other m)
              where
                at : Among a.way other ⊎ Among (else_branch place ∷ []) other → ⊥
                at (inl m) = out other m (inr (among_right fs os (turn_place other) z))
                at (inr (inl same)) = d.0 (among_right fs os place (subst (λ (other : Turn). Among os (turn_place other)) (sym same) z))
                at (inr (inr m)) = m
        by (inl n) (inl q) (inr r) = absurd (at ((Q.logged a.scope (else_branch place ∷ w) (with_turn (else_branch place) S) e S' r).turns (then_branch p) both.0))
          where
            at : Among (else_branch place ∷ S.turns) (then_branch p) ⊎ Among os p → ⊥
            at (inl m) = branch_turns (else_branch place) refl (λ same. cc) (among_left fs os p q) m
            at (inr m) = apart fs os d.1 p q m
        by (inr n) (inr q) (inl r) = absurd (at ((P.logged a.scope (then_branch place ∷ w) (with_turn (then_branch place) S) e S' r).turns (else_branch p) both.1))
          where
            at : Among (then_branch place ∷ S.turns) (else_branch p) ⊎ Among fs p → ⊥
            at (inl (inl same)) = cc
            at (inl (inr m)) = fresh (else_branch p) m (inr (among_right fs os p q))
            at (inr m) = apart fs os d.1 p m q

  one_branching : (place : Place) (fs os : List Place) (first other : Surveying) (rf ro : Running) → Piece F R fs first rf → Piece F R os other ro → IsOneBranch fs first rf → IsOneBranch os other ro
      → IsOneBranch (place ∷ (fs ++ os)) (branching place first other) (IsBranching place rf ro)
  one_branching place fs os first other rf ro P Q one_first one_other a k w S e S' h way c d fresh out run en m p spot turn side on both =
      one_inside place fs os first other rf ro P Q one_first one_other a k w S e S' h way c d fresh out en p turn side on both
      (among_append (first (turning a (then_branch place)) k).entries (other (turning a (else_branch place)) k).entries en m) spot run

  module _ (sure : AreSure R) where
    pub one_nodes : (ns : Nodes) → IsOneBranch (places ns) (survey ns) (IsRun ns)
    one_nodes no_nodes = λ a k w S e S' h way c d fresh out run en m. absurd m
    one_nodes (declares t inside rest) =
        one_followed (t.place ∷ places inside) (places rest) (declaring t (survey inside)) (survey rest) (IsDeclaring t (IsRun inside)) (IsRun rest) (piece_declaring F R sure t inside) (piece_nodes F R sure rest)
        (one_declaring t (places inside) (survey inside) (IsRun inside) (piece_nodes F R sure inside) (one_nodes inside)) (one_nodes rest)
    one_nodes (opens place n inside rest) =
        one_followed (place ∷ places inside) (places rest) (opening place n (survey inside)) (survey rest) (IsOpening place n (IsRun inside)) (IsRun rest) (piece_opening F R sure place n inside)
        (piece_nodes F R sure rest) (one_opening place n (places inside) (survey inside) (IsRun inside) (piece_nodes F R sure inside) (one_nodes inside)) (one_nodes rest)
    one_nodes (branch place first other rest) =
        one_followed (place ∷ (places first ++ places other)) (places rest) (branching place (survey first) (survey other)) (survey rest) (IsBranching place (IsRun first) (IsRun other)) (IsRun rest)
        (piece_branching F R sure place first other) (piece_nodes F R sure rest)
        (one_branching place (places first) (places other) (survey first) (survey other) (IsRun first) (IsRun other) (piece_nodes F R sure first) (piece_nodes F R sure other) (one_nodes first) (one_nodes other))
        (one_nodes rest)
    one_nodes (loop place body rest) =
        one_followed (place ∷ places body) (places rest) (looping place (survey body)) (survey rest) (IsLooping place (IsRun body)) (IsRun rest) (piece_looping F R sure place body) (piece_nodes F R sure rest)
        (λ a k w S e S' h way c d fresh out run en m p spot turn side on both.
        (place, (piece_nodes F R sure body).extended (turning a (in_round place)) (known_in_loop k) en m (in_round place) (among_right a.way (in_round place ∷ []) (in_round place) (inl refl)))) (one_nodes rest)
    one_nodes (stop place kind rest) =
        one_followed (place ∷ []) (places rest) (stopping place kind) (survey rest) (IsStopping place kind) (IsRun rest) (piece_stopping F R sure place kind) (piece_nodes F R sure rest)
        (λ a k w S e S' h way c d fresh out run en m. absurd m) (one_nodes rest)

    -- the turn of an entry of these tables is at one of their places
    pub along_tables : (k : Known) (ts : List Nodes) (en : Entry) → Among (all_entries (surveys k ts)) en → (turn : Turn) → Among en.way turn → Among (flat_map places ts) (turn_place turn)
    along_tables k [] en m turn on = absurd m
    along_tables k (t ∷ ts) en m turn on = by (among_append (table_survey k t).entries (all_entries (surveys (behind_table k (table_survey k t)) ts)) en m) (along_tables (behind_table k (table_survey k t)) ts en)
      where
        front : Among [] turn ⊎ Among (places t) (turn_place turn) → Among (places t ++ flat_map places ts) (turn_place turn)
        front (inl m) = absurd m
        front (inr m) = among_left (places t) (flat_map places ts) (turn_place turn) m

        by : Among (table_survey k t).entries en ⊎ Among (all_entries (surveys (behind_table k (table_survey k t)) ts)) en
            → (Among (all_entries (surveys (behind_table k (table_survey k t)) ts)) en → (turn : Turn) → Among en.way turn → Among (flat_map places ts) (turn_place turn)) → Among (places t ++ flat_map places ts) (turn_place turn)
        by (inl m) ih = front ((piece_nodes F R sure t).along at_root k en m turn on)
        by (inr m) ih = among_right (places t) (flat_map places ts) (turn_place turn) (ih m turn on)

    fresh_behind : (ps qs : List Place) (S M : State) → AreDistinct (ps ++ qs) → IsFresh (ps ++ qs) S → Logged ps S M → IsFresh qs M
    fresh_behind ps qs S M d fresh l turn m q = at (l.turns turn m)
      where
        at : Among S.turns turn ⊎ Among ps (turn_place turn) → ⊥
        at (inl o) = fresh turn o (among_right ps qs (turn_place turn) q)
        at (inr n) = apart ps qs d (turn_place turn) n q

    pub one_tables : (k : Known) (ts : List Nodes) (S S' : State) → IsTrueOf S.objects k → ((e : Entry) → Among (all_entries (surveys k ts)) e → Among F e)
        → ((r : Refusal) → Among (all_refused (surveys k ts)) r → Among R r) → AreDistinct (flat_map places ts) → IsFresh (flat_map places ts) S → AreRuns ts S S'
        → (en : Entry) → Among (all_entries (surveys k ts)) en → (p : Place) (turn : Turn) → IsSide p turn → Among en.way turn → HasBoth S' p → HasRound en
    one_tables k [] S S' h es rs d fresh run en m p turn side on both = absurd m
    one_tables k (t ∷ ts) S S' h es rs d fresh run en m p turn side on both =
        let x : Survey = table_survey k t in
        let M : State = run.1 in
        let qs : List Place = flat_map places ts in
        let more : List Survey = surveys (behind_table k x) ts in
        let c : IsCovered F R x = record { entries = λ e m. es e (among_left x.entries (all_entries more) e m); refused = λ r m. rs r (among_left x.refused (all_refused more) r m) } in
        let o : Outcome F R x S run.0 M = table_outcome F R sure k t S run.0 M h c run.2 in
        let n : Logged qs M S' = logged_tables ts M S' run.3 in
        by x (all_entries more) (among_append x.entries (all_entries more) en m)
        (λ m. in_front (spot k x m)
        (λ at. one_nodes t at_root k [] S run.0 M h tt c (distinct_left (places t) qs d) (λ turn is here. fresh turn is (among_left (places t) qs (turn_place turn) here)) (λ turn m here. m) run.2 en m p at turn side on
        (both_before qs M S' p n (λ z. apart (places t) qs d p at z) both)))
        (λ m. one_tables (behind_table k x) ts M S' (true_behind_table F R k x S M run.0 h o) (λ e m. es e (among_right x.entries (all_entries more) e m))
        (λ r m. rs r (among_right x.refused (all_refused more) r m)) (distinct_right (places t) qs d) (fresh_behind (places t) qs S M d fresh (logged_nodes t [] [] S run.0 M run.2)) run.3 en m p turn side on both)
      where
        by : (x : Survey) (ys : List Entry) → Among x.entries en ⊎ Among ys en → (Among x.entries en → HasRound en) → (Among ys en → HasRound en) → HasRound en
        by x ys (inl m) f g = f m
        by x ys (inr m) f g = g m

        in_front : Among (places t) p → (Among (places t) p → HasRound en) → HasRound en
        in_front m f = f m

        spot : (k : Known) (x : Survey) → Among (table_survey k t).entries en → Among (places t) p
        spot k x m = at ((piece_nodes F R sure t).along at_root k en m turn on)
          where
            at : Among [] turn ⊎ Among (places t) (turn_place turn) → Among (places t) p
            at (inl m) = absurd m
            at (inr m) = subst (λ (q : Place). Among (places t) q) (side_place p turn side) m
