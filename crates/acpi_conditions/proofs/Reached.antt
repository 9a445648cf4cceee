-- Control comes to the term of each entry, unless it misses a turn of the entry's way.
use Rattle.std.proofs.Common.{◌≡◌, Bool, true, false, cond, List, [], ◌∷◌, ◌++◌, map, ◌⊎◌, inl, inr, Some, None, refl, sym, ap, subst, ◌∙◌, Result, Ok, Err}
use Rattle.std.specs.List.{AllByRecursion, flat_map}
use Rattle.acpi_name.specs.Names.{NameParts}
use Rattle.acpi_space.specs.Laws.{Among}
use Rattle.acpi_space.proofs.Elements.{among_left, among_right, among_append, all_append}
use Rattle.acpi_conditions.specs.Nodes.{Place, Term, Stop, Nodes, no_nodes, declares, opens, branch, loop, stop, places}
use Rattle.acpi_conditions.specs.Entries.{Path, Turn, then_branch, else_branch, in_round, within, past, asks_nothing, Entry, Why, Refusal, StopAt}
use Rattle.acpi_conditions.specs.Known.{Known, is_certain_scope, declared_at, candidates, opened_at, IsTrueOf}
use Rattle.acpi_conditions.specs.Survey.{Around, turning, at_root, Survey, Surveying, behind, passing, followed_by, entry_at, inside_of, known_inside, declaring_as, declaring, inside_scope, known_in_scope, opening_as, opening, branching, known_in_loop, looping, stopping, behind_table, table_survey, surveys, all_entries, all_refused, survey}
use Rattle.acpi_conditions.specs.Runs.{Makes, State, with_turn, state_inside, state_past, Ending, goes_on, stops, Running, Continues, IsFollowed, IsDeclaring, Finds, IsOpening, IsBranching, IsLooping, IsStopping, IsRun, AreRuns}
use Rattle.acpi_conditions.specs.Laws.{HasTurn, AreSure, IsRunOf, AreDistinct, IsReached, IsMissed, turn_place}
use Rattle.acpi_conditions.proofs.Basics.{among_nothing, union_new}
use Rattle.acpi_conditions.proofs.Knowing.{certain_scope_made, one_found, one_finds}
use Rattle.acpi_conditions.proofs.Declaring.{makes_allowed, nothing_makes, true_inside, true_in_scope, opened_is, settled_made, settled_unmade}
use Rattle.acpi_conditions.proofs.Outcomes.{Outcome, IsCovered, IsSound, covered_here, covered_rest, past_turns, true_behind, Lasts, lasts_grow}
use Rattle.acpi_conditions.proofs.Steps.{maybe_turned, all_farther, sound_declaring, sound_opening, sound_branching, sound_looping, sound_stopping, rooted_nodes, sound_nodes}
use Rattle.acpi_conditions.proofs.Tables.{true_behind_table, table_outcome}
use Rattle.acpi_conditions.proofs.Logs.{Logged, IsLogged, logged_declaring, logged_opening, logged_branching, logged_looping, logged_stopping, logged_nodes, logged_tables}
use Rattle.acpi_conditions.proofs.EntryWays as ways
use Rattle.acpi_conditions.proofs.EntryWays.{IsExtended, extended_nodes, stopping_declaring, stopping_opening, stopping_branching, stopping_looping, stopping_stop, stopping_nodes}

-- ---- distinct places

pub distinct_left : (ps qs : List Place) → AreDistinct (ps ++ qs) → AreDistinct ps
distinct_left [] qs d = tt
distinct_left (p ∷ ps) qs d = (λ m. d.0 (among_left ps qs p m), distinct_left ps qs d.1)

pub distinct_right : (ps qs : List Place) → AreDistinct (ps ++ qs) → AreDistinct qs
distinct_right [] qs d = d
distinct_right (p ∷ ps) qs d = distinct_right ps qs d.1

pub apart : (ps qs : List Place) → AreDistinct (ps ++ qs) → (p : Place) → Among ps p → Among qs p → ⊥
apart [] qs d p m n = m
apart (q ∷ ps) qs d p (inl same) n = d.0 (among_right ps qs q (subst (λ (r : Place). Among qs r) (sym same) n))
apart (q ∷ ps) qs d p (inr m) n = apart ps qs d.1 p m n

-- ---- reached, or a turn at one of these places missed

abbrev pub IsReachedIn : List Place → State → Entry → Type 0
IsReachedIn ps S en = (IsReached S en × Lasts S.objects en) ⊎ ((turn : Turn) × Among en.way turn × Among ps (turn_place turn) × IsMissed S turn) ⊎ ((place : Place) × Among en.way (in_round place))

pub widen : (ps qs : List Place) (S : State) (en : Entry) → ((p : Place) → Among ps p → Among qs p) → IsReachedIn ps S en → IsReachedIn qs S en
widen ps qs S en sub (inl r) = inl r
widen ps qs S en sub (inr (inl t)) = inr (inl (t.0, t.1, sub (turn_place t.0) t.2, t.3))
widen ps qs S en sub (inr (inr l)) = inr (inr l)

still_missed : (qs : List Place) (M S' : State) → Logged qs M S' → (turn : Turn) → (Among qs (turn_place turn) → ⊥) → IsMissed M turn → IsMissed S' turn
still_missed qs M S' l (then_branch p) out missed = λ m. at (l.turns (then_branch p) m)
  where
    at : Among M.turns (then_branch p) ⊎ Among qs p → ⊥
    at (inl m) = missed m
    at (inr m) = out m
still_missed qs M S' l (else_branch p) out missed = λ m. at (l.turns (else_branch p) m)
  where
    at : Among M.turns (else_branch p) ⊎ Among qs p → ⊥
    at (inl m) = missed m
    at (inr m) = out m
still_missed qs M S' l (in_round p) out missed = λ m. at (l.turns (in_round p) m)
  where
    at : Among M.turns (in_round p) ⊎ Among qs p → ⊥
    at (inl m) = missed m
    at (inr m) = out m
still_missed qs M S' l (within p) out missed = λ m. at (l.turns (within p) m)
  where
    at : Among M.turns (within p) ⊎ Among qs p → ⊥
    at (inl m) = missed m
    at (inr m) = out m
still_missed qs M S' l (past p) out missed = l.stop_places p missed

pub carry : (ps qs : List Place) (M S' : State) (en : Entry) → Logged qs M S' → ((p : Place) → Among ps p → Among qs p → ⊥) → IsReachedIn ps M en → IsReachedIn (ps ++ qs) S' en
carry ps qs M S' en l out (inl r) = inl ((r.0.0, l.events r.0.0 r.0.1, r.0.2), lasts_grow M.objects S'.objects en l.grows r.1)
carry ps qs M S' en l out (inr (inl t)) =
    inr (inl (t.0, t.1, among_left ps qs (turn_place t.0) t.2, still_missed qs M S' l t.0 (λ m. out (turn_place t.0) t.2 m) t.3))
carry ps qs M S' en l out (inr (inr r)) = inr (inr r)

-- no turn was taken at any of these places before
abbrev pub IsFresh : List Place → State → Type 0
IsFresh ps S = (turn : Turn) → Among S.turns turn → Among ps (turn_place turn) → ⊥

pub among_past : (ms : List StopAt) (m : StopAt) → Among ms m → Among (map (λ s. past s.place) ms) (past m.place)
among_past [] m is = absurd is
among_past (n ∷ ms) m (inl same) = inl (ap (λ (s : StopAt). past s.place) same)
among_past (n ∷ ms) m (inr is) = inr (among_past ms m is)

pub asked_turn : (w : List Turn) (turn : Turn) (b : Bool) → b ≡ false → Among (w ++ cond b [] (turn ∷ [])) turn
asked_turn w turn true e = cc
asked_turn w turn false e = among_right w (turn ∷ []) turn (inl refl)

module _ (F : List Entry) (R : List Refusal) where
  abbrev pub IsComing : List Place → Surveying → Running → Type 0
  IsComing ps x r = (a : Around) (k : Known) (w : List Turn) (S : State) (e : Ending) (S' : State) → IsTrueOf S.objects k → AllByRecursion (HasTurn w) a.way → IsCovered F R (x a k)
      → AreDistinct ps → IsFresh ps S → r a.scope w S e S' → (en : Entry) → Among (x a k).entries en → IsReachedIn ps S' en

  module _ (ps qs : List Place) (here rest : Surveying) (rh rr : Running) (sh : IsSound F R here rh) (lh : IsLogged ps rh) (lr : IsLogged qs rr) (th : ways.IsStopping ps here) (er : IsExtended rest)
      (a : Around) (k : Known) (w : List Turn) (S : State) (h : IsTrueOf S.objects k) (way : AllByRecursion (HasTurn w) a.way) (d : AreDistinct (ps ++ qs)) (fresh : IsFresh (ps ++ qs) S) where
    abbrev x : Survey
    x = here a k

    abbrev y : Survey
    y = rest (passing a x) (behind k x)

    fresh_rest : (m : Ending) (M : State) → rh a.scope w S m M → IsFresh qs M
    fresh_rest m M r turn is at = by (((lh a.scope w S m M r).turns) turn is)
      where
        by : Among S.turns turn ⊎ Among ps (turn_place turn) → ⊥
        by (inl old) = fresh turn old (among_right ps qs (turn_place turn) at)
        by (inr here) = apart ps qs d (turn_place turn) here at

    went_on : (M : State) (e : Ending) (S' : State) → rh a.scope w S goes_on M → rr a.scope w M e S' → (en : Entry)
        → (Among x.entries en → IsReachedIn ps M en) → (Among y.entries en → IsReachedIn qs S' en) → Among x.entries en ⊎ Among y.entries en → IsReachedIn (ps ++ qs) S' en
    went_on M e S' r next en before after (inl m) = carry ps qs M S' en (lr a.scope w M e S' next) (apart ps qs d) (before m)
    went_on M e S' r next en before after (inr m) = widen qs (ps ++ qs) S' en (λ p n. among_right ps qs p n) (after m)

    was_stopped : (M : State) (kind : Stop) → Outcome F R x S (stops kind) M → (en : Entry) → (Among x.entries en → IsReachedIn ps M en) → Among x.entries en ⊎ Among y.entries en → IsReachedIn (ps ++ qs) M en
    was_stopped M kind o en before (inl m) = widen ps (ps ++ qs) M en (λ p n. among_left ps qs p n) (before m)
    was_stopped M kind o en before (inr m) =
        let s = o.met kind refl in
        let turn : Among en.way (past s.0.place) = er (passing a x) (behind k x) en m (past s.0.place) (among_right a.way (map (λ s. past s.place) x.stops) (past s.0.place) (among_past x.stops s.0 s.1)) in
        inr (inl (past s.0.place, turn, among_left ps qs s.0.place (th a k s.0 s.1), s.3))

  coming_followed : (ps qs : List Place) (here rest : Surveying) (rh rr : Running) → IsSound F R here rh → IsLogged ps rh → IsLogged qs rr → ways.IsStopping ps here → IsExtended rest
      → IsComing ps here rh → IsComing qs rest rr → IsComing (ps ++ qs) (followed_by here rest) (IsFollowed rh rr)
  coming_followed ps qs here rest rh rr sh lh lr th er ch cr a k w S e S' h way c d fresh run en m = by run.0 run.1 run.2 run.3
    where
      split : Among (here a k).entries en ⊎ Among (rest (passing a (here a k)) (behind k (here a k))).entries en
      split = among_append (here a k).entries (rest (passing a (here a k)) (behind k (here a k))).entries en m

      before : (m : Ending) (M : State) → rh a.scope w S m M → Among (here a k).entries en → IsReachedIn ps M en
      before m M r = ch a k w S m M h way (covered_here F R (here a k) (rest (passing a (here a k)) (behind k (here a k))) c) (distinct_left ps qs d) (λ turn is at. fresh turn is (among_left ps qs (turn_place turn) at)) r en

      by : (m : Ending) (M : State) → rh a.scope w S m M → Continues m (rr a.scope w) M e S' → IsReachedIn (ps ++ qs) S' en
      by goes_on M r next =
          let o : Outcome F R (here a k) S goes_on M = sh a k w S goes_on M h way (covered_here F R (here a k) (rest (passing a (here a k)) (behind k (here a k))) c) r in
          went_on ps qs here rest rh rr sh lh lr th er a k w S h way d fresh M e S' r next en (before goes_on M r)
          (cr (passing a (here a k)) (behind k (here a k)) w M e S' (true_behind F R k (here a k) S M h o)
          (all_append (HasTurn w) a.way (map (λ s. past s.place) (here a k).stops) way (past_turns w (here a k).stops))
          (covered_rest F R (here a k) (rest (passing a (here a k)) (behind k (here a k))) c) (distinct_right ps qs d)
          (fresh_rest ps qs here rest rh rr sh lh lr th er a k w S h way d fresh goes_on M r) next en) split
      by (stops kind) M r next =
          let o : Outcome F R (here a k) S (stops kind) M = sh a k w S (stops kind) M h way (covered_here F R (here a k) (rest (passing a (here a k)) (behind k (here a k))) c) r in
          subst (λ (T : State). IsReachedIn (ps ++ qs) T en) (sym next.1) (was_stopped ps qs here rest rh rr sh lh lr th er a k w S h way d fresh M kind o en (before (stops kind) M r) split)

  -- ---- a term

  pub fresh_inside : (place : Place) (turn : Turn) (qs : List Place) (S T : State) → turn_place turn ≡ place → T.turns ≡ turn ∷ S.turns → AreDistinct (place ∷ qs) → IsFresh (place ∷ qs) S → IsFresh qs T
  fresh_inside place turn qs S T at is d fresh other m here = by (subst (λ (ts : List Turn). Among ts other) is m)
    where
      by : Among (turn ∷ S.turns) other → ⊥
      by (inl same) = d.0 (subst (λ (p : Place). Among qs p) (ap turn_place (sym same) ∙ at) here)
      by (inr m) = fresh other m (inr here)

  module _ (t : Term) (qs : List Place) (inside : Surveying) (ri : Running) (ci : IsComing qs inside ri) (li : IsLogged qs ri) (ei : IsExtended inside) (a : Around) (k : Known) (w : List Turn) (S : State) (e : Ending) (S' : State)
      (h : IsTrueOf S.objects k) (way : AllByRecursion (HasTurn w) a.way) (d : AreDistinct (t.place ∷ qs)) (fresh : IsFresh (t.place ∷ qs) S) (p : Path) (ok : declared_at k a.scope t.name ≡ Ok p)
      (c : IsCovered F R (declaring_as t inside a k (Ok p))) (en : Entry) where
    abbrev own : Entry
    own = entry_at a k t p

    abbrev under : Survey
    under = inside (inside_of own) (known_inside k own)

    made_reached : Makes S.objects a.scope t p → ri p (within t.place ∷ w) (state_inside a.scope w t p S) e S' → Among (own ∷ under.entries) en → IsReachedIn (t.place ∷ qs) S' en
    made_reached m run (inl same) =
        let l : Logged qs (state_inside a.scope w t p S) S' = li p (within t.place ∷ w) (state_inside a.scope w t p S) e S' run in
        let kept : S'.objects p ≡ Some t = l.grows p t (union_new S.objects p t m.free) in
        inl (
          (record { term = t; scope = a.scope; way = w; objects = S.objects; object_path = Some p }, l.events _ (inl refl), ap (λ (e : Entry). e.term) same),
          subst (λ (e : Entry). Lasts S'.objects e) same (settled_made S'.objects own kept, λ q. kept),
        )
    made_reached m run (inr n) =
        widen qs (t.place ∷ qs) S' en (λ q n. inr n)
        (ci (inside_of own) (known_inside k own) (within t.place ∷ w) (state_inside a.scope w t p S) e S' (true_inside S.objects k h own m.free) (maybe_turned w a.way t.place (asks_nothing own.asks) way)
        (record { entries = λ e m. c.entries e (inr m); refused = c.refused }) d.1 (fresh_inside t.place (within t.place) qs S (state_inside a.scope w t p S) refl refl d fresh) run en n)

    unmade_reached : ((q : Path) → Makes S.objects a.scope t q → ⊥) → Among (own ∷ under.entries) en → IsReachedIn (t.place ∷ qs) (state_past a.scope w t S) en
    unmade_reached none (inl same) = inl (
      (record { term = t; scope = a.scope; way = w; objects = S.objects; object_path = None }, inl refl, ap (λ (e : Entry). e.term) same),
      subst (λ (e : Entry). Lasts S.objects e) same (settled_unmade S.objects k h a t p ok none, λ q. absurd (none p (nothing_makes S.objects k h a t p ok q))),
    )
    unmade_reached none (inr n) = by (asks_nothing own.asks) refl
      where
        by : (b : Bool) → asks_nothing own.asks ≡ b → IsReachedIn (t.place ∷ qs) (state_past a.scope w t S) en
        by true is = absurd (none p (nothing_makes S.objects k h a t p ok is))
        by false is =
            let turn : Among en.way (within t.place) = ei (inside_of own) (known_inside k own) en n (within t.place) (asked_turn a.way (within t.place) (asks_nothing own.asks) is) in
            inr (inl (within t.place, turn, inl refl, λ m. fresh (within t.place) m (inl refl)))

    placed_reached : IsDeclaring t ri a.scope w S e S' → Among (own ∷ under.entries) en → IsReachedIn (t.place ∷ qs) S' en
    placed_reached (inr m) n = subst (λ (T : State). IsReachedIn (t.place ∷ qs) T en) (sym m.1.1) (unmade_reached m.0 n)
    placed_reached (inl m) n =
        subst (λ (q : Path). Makes S.objects a.scope t q → ri q (within t.place ∷ w) (state_inside a.scope w t q S) e S' → Among (own ∷ under.entries) en → IsReachedIn (t.place ∷ qs) S' en) same made_reached m.1 m.2 n
      where
        same : p ≡ m.0
        same = let allowed : declared_at k a.scope t.name ≡ Ok m.0 = makes_allowed S.objects k h a.scope t m.0 m.1 in cc

  coming_declaring : (t : Term) (qs : List Place) (inside : Surveying) (ri : Running) → IsComing qs inside ri → IsLogged qs ri → IsExtended inside → IsComing (t.place ∷ qs) (declaring t inside) (IsDeclaring t ri)
  coming_declaring t qs inside ri ci li ei a k w S e S' h way c d fresh run en m = by (declared_at k a.scope t.name) refl c m
    where
      by : (r : Result Path Why) → declared_at k a.scope t.name ≡ r → IsCovered F R (declaring_as t inside a k r) → Among (declaring_as t inside a k r).entries en → IsReachedIn (t.place ∷ qs) S' en
      by (Err why) is c m = absurd m
      by (Ok p) is c m = placed_reached t qs inside ri ci li ei a k w S e S' h way d fresh p is c en run m

  -- ---- a Scope

  module _ (place : Place) (n : NameParts) (qs : List Place) (inside : Surveying) (ri : Running) (ci : IsComing qs inside ri) (ei : IsExtended inside) (a : Around) (k : Known) (w : List Turn) (S : State) (e : Ending) (S' : State)
      (h : IsTrueOf S.objects k) (way : AllByRecursion (HasTurn w) a.way) (d : AreDistinct (place ∷ qs)) (fresh : IsFresh (place ∷ qs) S) (p : Path) (one : candidates k a.scope n ≡ p ∷ [])
      (c : IsCovered F R (opening_as place inside a k (Ok p))) (en : Entry) where
    abbrev scoped : Survey
    scoped = inside (inside_scope place a k p) (known_in_scope k p)

    opened_reached : Finds S.objects a.scope n p → ri p (within place ∷ w) (with_turn (within place) S) e S' → Among scoped.entries en → IsReachedIn (place ∷ qs) S' en
    opened_reached f run m =
        widen qs (place ∷ qs) S' en (λ q n. inr n)
        (ci (inside_scope place a k p) (known_in_scope k p) (within place ∷ w) (with_turn (within place) S) e S' (true_in_scope S.objects k h p f.1) (maybe_turned w a.way place (is_certain_scope k p) way)
        (record { entries = c.entries; refused = c.refused }) d.1 (fresh_inside place (within place) qs S (with_turn (within place) S) refl refl d fresh) run en m)

    passed_reached : ((q : Path) → Finds S.objects a.scope n q → ⊥) → Among scoped.entries en → IsReachedIn (place ∷ qs) S en
    passed_reached none m = by (is_certain_scope k p) refl
      where
        by : (b : Bool) → is_certain_scope k p ≡ b → IsReachedIn (place ∷ qs) S en
        by true is = let s = certain_scope_made S.objects k h p is in absurd (none p (one_finds S.objects k h a.scope n p one s.0 s.1, s))
        by false is =
            let turn : Among en.way (within place) = ei (inside_scope place a k p) (known_in_scope k p) en m (within place) (asked_turn a.way (within place) (is_certain_scope k p) is) in
            inr (inl (within place, turn, inl refl, λ m. fresh (within place) m (inl refl)))

    scope_reached : IsOpening place n ri a.scope w S e S' → Among scoped.entries en → IsReachedIn (place ∷ qs) S' en
    scope_reached (inr f) m = subst (λ (T : State). IsReachedIn (place ∷ qs) T en) (sym f.1.1) (passed_reached f.0 m)
    scope_reached (inl f) m =
        subst (λ (q : Path). Finds S.objects a.scope n q → ri q (within place ∷ w) (with_turn (within place) S) e S' → Among scoped.entries en → IsReachedIn (place ∷ qs) S' en)
        (one_found S.objects k h a.scope n p one f.0 f.1.0) opened_reached f.1 f.2 m

  coming_opening : (place : Place) (n : NameParts) (qs : List Place) (inside : Surveying) (ri : Running) → IsComing qs inside ri → IsExtended inside → IsComing (place ∷ qs) (opening place n inside) (IsOpening place n ri)
  coming_opening place n qs inside ri ci ei a k w S e S' h way c d fresh run en m = by (opened_at k a.scope n) refl c m
    where
      by : (r : Result Path Why) → opened_at k a.scope n ≡ r → IsCovered F R (opening_as place inside a k r) → Among (opening_as place inside a k r).entries en → IsReachedIn (place ∷ qs) S' en
      by (Err why) is c m = absurd m
      by (Ok p) is c m = scope_reached place n qs inside ri ci ei a k w S e S' h way d fresh p (opened_is k a.scope n p is) c en run m

  -- ---- an If

  pub turn_all : (a : Around) (w : List Turn) (turn : Turn) → AllByRecursion (HasTurn w) a.way → HasTurn (turn ∷ w) turn → AllByRecursion (HasTurn (turn ∷ w)) (a.way ++ turn ∷ [])
  turn_all a w turn way is = all_append (HasTurn (turn ∷ w)) a.way (turn ∷ []) (all_farther w a.way turn way) (is, tt)

  module _ (place : Place) (fs os : List Place) (first other : Surveying) (rf ro : Running) (cf : IsComing fs first rf) (co : IsComing os other ro) (lf : IsLogged fs rf) (lo : IsLogged os ro)
      (ef : IsExtended first) (eo : IsExtended other) (a : Around) (k : Known) (w : List Turn) (S : State) (e : Ending) (S' : State) (h : IsTrueOf S.objects k) (way : AllByRecursion (HasTurn w) a.way)
      (d : AreDistinct (place ∷ (fs ++ os))) (fresh : IsFresh (place ∷ (fs ++ os)) S) (c : IsCovered F R (branching place first other a k)) (en : Entry) where
    abbrev then_part : Survey
    then_part = first (turning a (then_branch place)) k

    abbrev else_part : Survey
    else_part = other (turning a (else_branch place)) k

    first_reached : rf a.scope (then_branch place ∷ w) (with_turn (then_branch place) S) e S' → Among then_part.entries en ⊎ Among else_part.entries en → IsReachedIn (place ∷ (fs ++ os)) S' en
    first_reached run (inl m) =
        widen fs (place ∷ (fs ++ os)) S' en (λ q n. inr (among_left fs os q n))
        (cf (turning a (then_branch place)) k (then_branch place ∷ w) (with_turn (then_branch place) S) e S' h (turn_all a w (then_branch place) way (inl refl))
        (record { entries = λ e m. c.entries e (among_left then_part.entries else_part.entries e m); refused = λ r m. c.refused r (among_left then_part.refused else_part.refused r m) })
        (distinct_left fs os d.1)
        (λ turn is at. fresh_inside place (then_branch place) (fs ++ os) S (with_turn (then_branch place) S) refl refl d fresh turn is (among_left fs os (turn_place turn) at)) run en m)
    first_reached run (inr m) =
        let turn : Among en.way (else_branch place) = eo (turning a (else_branch place)) k en m (else_branch place) (among_right a.way (else_branch place ∷ []) (else_branch place) (inl refl)) in
        inr (inl (else_branch place, turn, inl refl, λ taken. by ((lf a.scope (then_branch place ∷ w) (with_turn (then_branch place) S) e S' run).turns (else_branch place) taken)))
      where
        by : Among (then_branch place ∷ S.turns) (else_branch place) ⊎ Among fs place → ⊥
        by (inl (inl same)) = cc
        by (inl (inr m)) = fresh (else_branch place) m (inl refl)
        by (inr m) = d.0 (among_left fs os place m)

    other_reached : ro a.scope (else_branch place ∷ w) (with_turn (else_branch place) S) e S' → Among then_part.entries en ⊎ Among else_part.entries en → IsReachedIn (place ∷ (fs ++ os)) S' en
    other_reached run (inr m) =
        widen os (place ∷ (fs ++ os)) S' en (λ q n. inr (among_right fs os q n))
        (co (turning a (else_branch place)) k (else_branch place ∷ w) (with_turn (else_branch place) S) e S' h (turn_all a w (else_branch place) way (inl refl))
        (record { entries = λ e m. c.entries e (among_right then_part.entries else_part.entries e m); refused = λ r m. c.refused r (among_right then_part.refused else_part.refused r m) })
        (distinct_right fs os d.1)
        (λ turn is at. fresh_inside place (else_branch place) (fs ++ os) S (with_turn (else_branch place) S) refl refl d fresh turn is (among_right fs os (turn_place turn) at)) run en m)
    other_reached run (inl m) =
        let turn : Among en.way (then_branch place) = ef (turning a (then_branch place)) k en m (then_branch place) (among_right a.way (then_branch place ∷ []) (then_branch place) (inl refl)) in
        inr (inl (then_branch place, turn, inl refl, λ taken. by ((lo a.scope (else_branch place ∷ w) (with_turn (else_branch place) S) e S' run).turns (then_branch place) taken)))
      where
        by : Among (else_branch place ∷ S.turns) (then_branch place) ⊎ Among os place → ⊥
        by (inl (inl same)) = cc
        by (inl (inr m)) = fresh (then_branch place) m (inl refl)
        by (inr m) = d.0 (among_right fs os place m)

    branch_reached : IsBranching place rf ro a.scope w S e S' → Among (then_part.entries ++ else_part.entries) en → IsReachedIn (place ∷ (fs ++ os)) S' en
    branch_reached (inl run) m = first_reached run (among_append then_part.entries else_part.entries en m)
    branch_reached (inr run) m = other_reached run (among_append then_part.entries else_part.entries en m)

  coming_branching : (place : Place) (fs os : List Place) (first other : Surveying) (rf ro : Running) → IsComing fs first rf → IsComing os other ro → IsLogged fs rf → IsLogged os ro
      → IsExtended first → IsExtended other → IsComing (place ∷ (fs ++ os)) (branching place first other) (IsBranching place rf ro)
  coming_branching place fs os first other rf ro cf co lf lo ef eo a k w S e S' h way c d fresh run en m =
      branch_reached place fs os first other rf ro cf co lf lo ef eo a k w S e S' h way d fresh c en run m

  -- ---- a While

  coming_looping : (place : Place) (bs : List Place) (body : Surveying) (rb : Running) → IsExtended body → IsComing (place ∷ bs) (looping place body) (IsLooping place rb)
  coming_looping place bs body rb eb a k w S e S' h way c d fresh run en m =
      inr (inr (place, eb (turning a (in_round place)) (known_in_loop k) en m (in_round place) (among_right a.way (in_round place ∷ []) (in_round place) (inl refl))))

  -- ---- all nodes

  coming_nodes : AreSure R → (ns : Nodes) → IsComing (places ns) (survey ns) (IsRun ns)
  coming_nodes sure no_nodes = λ a k w S e S' h way c d fresh run en m. absurd m
  coming_nodes sure (declares t inside rest) =
      coming_followed (t.place ∷ places inside) (places rest) (declaring t (survey inside)) (survey rest) (IsDeclaring t (IsRun inside)) (IsRun rest)
      (sound_declaring F R t (survey inside) (IsRun inside) (sound_nodes F R sure inside) (rooted_nodes inside)) (logged_declaring t (places inside) (IsRun inside) (logged_nodes inside)) (logged_nodes rest)
      (stopping_declaring t (places inside) (survey inside) (stopping_nodes inside)) (extended_nodes rest)
      (coming_declaring t (places inside) (survey inside) (IsRun inside) (coming_nodes sure inside) (logged_nodes inside) (extended_nodes inside)) (coming_nodes sure rest)
  coming_nodes sure (opens place n inside rest) =
      coming_followed (place ∷ places inside) (places rest) (opening place n (survey inside)) (survey rest) (IsOpening place n (IsRun inside)) (IsRun rest)
      (sound_opening F R sure place n (survey inside) (IsRun inside) (sound_nodes F R sure inside) (rooted_nodes inside)) (logged_opening place n (places inside) (IsRun inside) (logged_nodes inside)) (logged_nodes rest)
      (stopping_opening place n (places inside) (survey inside) (stopping_nodes inside)) (extended_nodes rest)
      (coming_opening place n (places inside) (survey inside) (IsRun inside) (coming_nodes sure inside) (extended_nodes inside)) (coming_nodes sure rest)
  coming_nodes sure (branch place first other rest) =
      coming_followed (place ∷ (places first ++ places other)) (places rest) (branching place (survey first) (survey other)) (survey rest) (IsBranching place (IsRun first) (IsRun other)) (IsRun rest)
      (sound_branching F R place (survey first) (survey other) (IsRun first) (IsRun other) (sound_nodes F R sure first) (sound_nodes F R sure other) (rooted_nodes first) (rooted_nodes other))
      (logged_branching place (places first) (places other) (IsRun first) (IsRun other) (logged_nodes first) (logged_nodes other)) (logged_nodes rest)
      (stopping_branching place (places first) (places other) (survey first) (survey other) (stopping_nodes first) (stopping_nodes other)) (extended_nodes rest)
      (coming_branching place (places first) (places other) (survey first) (survey other) (IsRun first) (IsRun other) (coming_nodes sure first) (coming_nodes sure other) (logged_nodes first) (logged_nodes other)
      (extended_nodes first) (extended_nodes other)) (coming_nodes sure rest)
  coming_nodes sure (loop place body rest) =
      coming_followed (place ∷ places body) (places rest) (looping place (survey body)) (survey rest) (IsLooping place (IsRun body)) (IsRun rest)
      (sound_looping F R place (survey body) (IsRun body) (sound_nodes F R sure body) (rooted_nodes body)) (logged_looping place (places body) (IsRun body) (logged_nodes body)) (logged_nodes rest)
      (stopping_looping place (places body) (survey body) (stopping_nodes body)) (extended_nodes rest)
      (coming_looping place (places body) (survey body) (IsRun body) (extended_nodes body)) (coming_nodes sure rest)
  coming_nodes sure (stop place kind rest) =
      coming_followed (place ∷ []) (places rest) (stopping place kind) (survey rest) (IsStopping place kind) (IsRun rest)
      (sound_stopping F R place kind) (logged_stopping place kind) (logged_nodes rest) (stopping_stop place kind) (extended_nodes rest)
      (λ a k w S e S' h way c d fresh run en m. absurd m) (coming_nodes sure rest)

  -- ---- tables

  pub coming_tables : AreSure R → (k : Known) (ts : List Nodes) (S S' : State) → IsTrueOf S.objects k → ((e : Entry) → Among (all_entries (surveys k ts)) e → Among F e)
      → ((r : Refusal) → Among (all_refused (surveys k ts)) r → Among R r) → AreDistinct (flat_map places ts) → IsFresh (flat_map places ts) S → AreRuns ts S S'
      → (en : Entry) → Among (all_entries (surveys k ts)) en → IsReachedIn (flat_map places ts) S' en
  coming_tables sure k [] S S' h es rs d fresh run en m = absurd m
  coming_tables sure k (t ∷ ts) S S' h es rs d fresh run en m =
      let x : Survey = table_survey k t in
      let M : State = run.1 in
      let more : List Survey = surveys (behind_table k x) ts in
      let c : IsCovered F R x = record { entries = λ e m. es e (among_left x.entries (all_entries more) e m); refused = λ r m. rs r (among_left x.refused (all_refused more) r m) } in
      let o : Outcome F R x S run.0 M = table_outcome F R sure k t S run.0 M h c run.2 in
      by (behind_table k x) x.entries (all_entries more) M
      (λ m. carry (places t) (flat_map places ts) M S' en (logged_tables ts M S' run.3) (apart (places t) (flat_map places ts) d)
      (coming_nodes sure t at_root k [] S run.0 M h tt c (distinct_left (places t) (flat_map places ts) d) (λ turn is at. fresh turn is (among_left (places t) (flat_map places ts) (turn_place turn) at)) run.2 en m))
      (λ m. widen (flat_map places ts) (places t ++ flat_map places ts) S' en (λ p n. among_right (places t) (flat_map places ts) p n)
      (coming_tables sure (behind_table k x) ts M S' (true_behind_table F R k x S M run.0 h o) (λ e m. es e (among_right x.entries (all_entries more) e m))
      (λ r m. rs r (among_right x.refused (all_refused more) r m)) (distinct_right (places t) (flat_map places ts) d) (later M run.2) run.3 en m))
      (among_append x.entries (all_entries more) en m)
    where
      by : (q : Known) (xs ys : List Entry) (M : State) → (Among xs en → IsReachedIn (places t ++ flat_map places ts) S' en) → (Among ys en → IsReachedIn (places t ++ flat_map places ts) S' en) → Among xs en ⊎ Among ys en
          → IsReachedIn (places t ++ flat_map places ts) S' en
      by q xs ys M f g (inl m) = f m
      by q xs ys M f g (inr m) = g m

      later : (M : State) → IsRun t [] [] S run.0 M → IsFresh (flat_map places ts) M
      later M r turn is at = old ((logged_nodes t [] [] S run.0 M r).turns turn is)
        where
          old : Among S.turns turn ⊎ Among (places t) (turn_place turn) → ⊥
          old (inl m) = fresh turn m (among_right (places t) (flat_map places ts) (turn_place turn) at)
          old (inr m) = apart (places t) (flat_map places ts) d (turn_place turn) m at

pub comes_by_way : (k : Known) (ts : List Nodes) (S S' : State) → IsRunOf k ts S S' → AreDistinct (flat_map places ts) → (e : Entry) → Among (all_entries (surveys k ts)) e
    → IsReached S' e ⊎ ((turn : Turn) × Among e.way turn × IsMissed S' turn) ⊎ ((place : Place) × Among e.way (in_round place))
comes_by_way k ts S S' r d e m = by (coming_tables (all_entries (surveys k ts)) (all_refused (surveys k ts)) r.sure k ts S S' r.known (λ e m. m) (λ q m. m) d
    (λ turn is at. among_nothing S.turns turn r.nothing_yet.1 is) r.run e m)
  where
    by : IsReachedIn (flat_map places ts) S' e → IsReached S' e ⊎ ((turn : Turn) × Among e.way turn × IsMissed S' turn) ⊎ ((place : Place) × Among e.way (in_round place))
    by (inl r) = inl r.0
    by (inr (inl t)) = inr (inl (t.0, t.1, t.3))
    by (inr (inr l)) = inr (inr l)
