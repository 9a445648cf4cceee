-- What is seen from an entry is true at the end.
use Rattle.std.proofs.Common.{◌≡◌, Bool, true, false, cond, not, List, [], ◌∷◌, ◌++◌, ◌⊎◌, inl, inr, Some, refl, sym, ap, subst, ◌∙◌}
use Rattle.std.specs.List.{filter, flat_map, list_any, list_all}
use Rattle.std.specs.Prelude.{IsTrue}
use Rattle.std.proofs.lemmas.Bool.{eqb-true, not-true, false_from_ne_true}
use Rattle.acpi_name.specs.Names.{NameParts}
use Rattle.acpi_space.specs.Lookups.{is_defined_in}
use Rattle.acpi_space.specs.Search.{answer, skipped}
use Rattle.acpi_space.specs.Laws.{Among}
use Rattle.acpi_space.proofs.Elements.{among_left, among_right, among_append, not_both, among_all}
use Rattle.acpi_conditions.specs.Nodes.{Place, Term, Nodes, places}
use Rattle.acpi_conditions.specs.Entries.{Path, Namespace, IsFoundIn, Turn, then_branch, else_branch, in_round, within, past, Entry, Refusal}
use Rattle.acpi_conditions.specs.Known.{Certain, Known, candidates, is_certain_name, settled, IsTrueOf}
use Rattle.acpi_conditions.specs.Survey.{surveys, all_entries, all_refused}
use Rattle.acpi_conditions.specs.Runs.{Event, State}
use Rattle.acpi_conditions.specs.Links.{is_same_turn, is_opposite, are_exclusive, is_part_of, is_round, outside_loops, seen_from}
use Rattle.acpi_conditions.specs.Laws.{HasTurn, MatchesEntry, IsMatched, IsRunOf, AreDistinct, IsReached, IsMissed, IsTaken}
use Rattle.acpi_conditions.proofs.Basics.{among_nothing, among_flat, among_filter, any_some, some_any, and_left, and_right, never}
use Rattle.acpi_conditions.proofs.Knowing.{found_candidate, certain_found}
use Rattle.acpi_conditions.proofs.Outcomes.{Lasts, certain_grow}
use Rattle.acpi_conditions.proofs.Tables.{survey_is_exact}
use Rattle.acpi_conditions.proofs.Logs.{Logged, IsMaking, logged_tables}
use Rattle.acpi_conditions.proofs.EntryWays.{unfiltered}
use Rattle.acpi_conditions.proofs.Reached.{IsReachedIn, coming_tables}
use Rattle.acpi_conditions.proofs.Ended.{filtered}
use Rattle.acpi_conditions.proofs.Taken.{HasRound, Untouched, taking_tables}
use Rattle.acpi_conditions.proofs.Opposed.{IsSide, HasBoth, AreTurned, wayed_tables, one_tables}

pub candidates_cover : (objects : Namespace) (k : Known) → IsTrueOf objects k → (s : Path) (n : NameParts)
    → ((p : Path) → answer (is_defined_in objects) s n ≡ Some p → Among (candidates k s n) p) × (IsTrue (is_certain_name k s n) → IsFoundIn objects s n)
candidates_cover objects k h s n = (λ p e. found_candidate objects k h s n p e, λ e. certain_found objects k h s n e)

-- ---- tests of turns

same_turn_is : (t u : Turn) → is_same_turn t u ≡ true → t ≡ u
same_turn_is (then_branch p) (then_branch q) e = ap then_branch (eqb-true p q e)
same_turn_is (else_branch p) (else_branch q) e = ap else_branch (eqb-true p q e)
same_turn_is (in_round p) (in_round q) e = ap in_round (eqb-true p q e)
same_turn_is (within p) (within q) e = ap within (eqb-true p q e)
same_turn_is (past p) (past q) e = ap past (eqb-true p q e)
same_turn_is _ _ e = cc

-- the one is into the then-branch of an If, and the other into its else-branch
abbrev AreSides : Place → Turn → Turn → Type 0
AreSides p t u = (t ≡ then_branch p) × (u ≡ else_branch p) ⊎ (t ≡ else_branch p) × (u ≡ then_branch p)

opposite_is : (t u : Turn) → is_opposite t u ≡ true → (p : Place) × AreSides p t u
opposite_is (then_branch p) (else_branch q) e = (p, inl (refl, ap else_branch (sym (eqb-true p q e))))
opposite_is (else_branch p) (then_branch q) e = (p, inr (refl, ap then_branch (sym (eqb-true p q e))))
opposite_is _ _ e = absurd (different e)
  where
    different : false ≡ true → ⊥
    different e = cc

sides_of : (S : State) (p : Place) (t u : Turn) → AreSides p t u → Among S.turns t → Among S.turns u → HasBoth S p × IsSide p t × IsSide p u
sides_of S p t u (inl s) m n = ((subst (λ (x : Turn). Among S.turns x) s.0 m, subst (λ (x : Turn). Among S.turns x) s.1 n), inl s.0, inr s.1)
sides_of S p t u (inr s) m n = ((subst (λ (x : Turn). Among S.turns x) s.1 n, subst (λ (x : Turn). Among S.turns x) s.0 m), inr s.0, inl s.1)

side_turned : (S : State) (p : Place) (t : Turn) → IsSide p t → IsTaken S t → Among S.turns t
side_turned S p t (inl e) k = subst (λ (x : Turn). Among S.turns x) (sym e) (subst (λ (x : Turn). IsTaken S x) e k)
side_turned S p t (inr e) k = subst (λ (x : Turn). Among S.turns x) (sym e) (subst (λ (x : Turn). IsTaken S x) e k)

side_had : (w : List Turn) (p : Place) (t : Turn) → IsSide p t → HasTurn w t → Among w t
side_had w p t (inl e) k = subst (λ (x : Turn). Among w x) (sym e) (subst (λ (x : Turn). HasTurn w x) e k)
side_had w p t (inr e) k = subst (λ (x : Turn). Among w x) (sym e) (subst (λ (x : Turn). HasTurn w x) e k)

left_side : (p : Place) (t u : Turn) → AreSides p t u → IsSide p t
left_side p t u (inl s) = inl s.0
left_side p t u (inr s) = inr s.0

right_side : (p : Place) (t u : Turn) → AreSides p t u → IsSide p u
right_side p t u (inl s) = inr s.1
right_side p t u (inr s) = inl s.1

all_is : {X : Type 0} (test : X → Bool) (xs : List X) (x : X) → list_all test xs ≡ true → Among xs x → test x ≡ true
all_is test [] x e m = absurd m
all_is test (y ∷ xs) x e (inl same) = ap test (sym same) ∙ and_left (test y) (list_all test xs) e
all_is test (y ∷ xs) x e (inr m) = all_is test xs x (and_right (test y) (list_all test xs) e) m

part_has : (v w : List Turn) → is_part_of v w ≡ true → (t : Turn) → Among v t → Among w t
part_has v w e t m =
    let u = any_some (is_same_turn t) w (all_is (λ t. list_any (is_same_turn t) w) v t e m) in
    subst (λ (x : Turn). Among w x) (sym (same_turn_is t u.0 u.2)) u.1

pub taken_not_missed : (S : State) (t : Turn) → IsTaken S t → IsMissed S t → ⊥
taken_not_missed S (then_branch p) k m = m k
taken_not_missed S (else_branch p) k m = m k
taken_not_missed S (in_round p) k m = m k
taken_not_missed S (within p) k m = m k
taken_not_missed S (past p) k m = k m

pub outside_round : (w : List Turn) → not (list_any is_round w) ≡ true → (p : Place) → Among w (in_round p) → ⊥
outside_round w e p m = never (list_any is_round w) (some_any is_round w (in_round p) m refl) (not-true (list_any is_round w) e)

among_skipped : {X : Type 0} (test : X → Bool) (xs : List X) (x : X) → Among (skipped test xs) x → Among xs x
among_skipped test [] x m = absurd m
among_skipped test (y ∷ xs) x m = by (test y) m (among_skipped test xs x)
  where
    by : (b : Bool) → Among (cond b [] (y ∷ skipped test xs)) x → (Among (skipped test xs) x → Among xs x) → Among (y ∷ xs) x
    by true m ih = absurd m
    by false (inl e) ih = inl e
    by false (inr m) ih = inr (ih m)

module _ (k : Known) (ts : List Nodes) (S S' : State) (r : IsRunOf k ts S S') (d : AreDistinct (flat_map places ts)) where
  abbrev es : List Entry
  es = all_entries (surveys k ts)

  abbrev rs : List Refusal
  rs = all_refused (surveys k ts)

  untouched : Untouched (flat_map places ts) S
  untouched = record { stops = λ p m n. among_nothing S.stop_places p r.nothing_yet.2 m; events = λ ev m n. among_nothing S.events ev r.nothing_yet.0 m }

  pub takes_the_way : (e : Entry) → Among es e → IsReached S' e → ((turn : Turn) → Among e.way turn → IsTaken S' turn) ⊎ ((place : Place) × Among e.way (in_round place))
  takes_the_way e m reached = taking_tables es rs r.sure k ts S S' r.known (λ e m. m) (λ q m. m) d untouched r.run e m reached.0 reached.1 reached.2

  comes : (f : Entry) → Among es f → IsReachedIn (flat_map places ts) S' f
  comes f m = coming_tables es rs r.sure k ts S S' r.known (λ e m. m) (λ q m. m) d (λ turn is at. among_nothing S.turns turn r.nothing_yet.1 is) r.run f m

  module _ (e : Entry) (m : Among es e) (outside : not (list_any is_round e.way) ≡ true) (reached : IsReached S' e) where
    taken : (turn : Turn) → Among e.way turn → IsTaken S' turn
    taken = by (takes_the_way e m reached)
      where
        by : ((turn : Turn) → Among e.way turn → IsTaken S' turn) ⊎ ((place : Place) × Among e.way (in_round place)) → (turn : Turn) → Among e.way turn → IsTaken S' turn
        by (inl all) = all
        by (inr l) = absurd (outside_round e.way outside l.0 l.1)

    lasts : (f : Entry) → Among es f → is_part_of f.way e.way ≡ true → Lasts S'.objects f
    lasts f n part = by (comes f n)
      where
        by : IsReachedIn (flat_map places ts) S' f → Lasts S'.objects f
        by (inl x) = x.1
        by (inr (inl t)) = absurd (taken_not_missed S' t.0 (taken t.0 (part_has f.way e.way part t.0 t.1)) t.3)
        by (inr (inr l)) = absurd (outside_round e.way outside l.0 (part_has f.way e.way part (in_round l.0) l.1))

    not_exclusive : (ev : Event) → Among S'.events ev → (f : Entry) → MatchesEntry ev f → are_exclusive f.way e.way ≡ false
    not_exclusive ev n f matches = false_from_ne_true (are_exclusive f.way e.way) (λ x.
        let t = any_some (λ t. list_any (is_opposite t) (outside_loops e.way)) (outside_loops f.way) x in
        let u = any_some (is_opposite t.0) (outside_loops e.way) t.2 in
        let in_f : Among f.way t.0 = among_skipped is_round f.way t.0 t.1 in
        let in_e : Among e.way u.0 = among_skipped is_round e.way u.0 u.1 in
        let s = opposite_is t.0 u.0 u.2 in
        let had : Among ev.way t.0 = side_had ev.way s.0 t.0 (left_side s.0 t.0 u.0 s.1) (among_all (HasTurn ev.way) f.way matches.way t.0 in_f) in
        let turned_t : Among S'.turns t.0 = by (wayed_tables es rs r.sure ts S S' r.run ev n) t.0 had in
        let turned_u : Among S'.turns u.0 = side_turned S' s.0 u.0 (right_side s.0 t.0 u.0 s.1) (taken u.0 in_e) in
        let both : HasBoth S' s.0 = (sides_of S' s.0 t.0 u.0 s.1 turned_t turned_u).0 in
        let l : HasRound e = one_tables es rs r.sure k ts S S' r.known (λ e m. m) (λ q m. m) d (λ turn is at. among_nothing S.turns turn r.nothing_yet.1 is) r.run e m s.0 u.0 (right_side s.0 t.0 u.0 s.1) in_e both in
        outside_round e.way outside l.0 l.1)
      where
        by : Among S.events ev ⊎ AreTurned ev.way S' → (t : Turn) → Among ev.way t → Among S'.turns t
        by (inl old) t had = absurd (among_nothing S.events ev r.nothing_yet.0 old)
        by (inr all) t had = all t had

    abbrev seen : Known
    seen = seen_from k es e

    pub seen_is_true : IsTrueOf S'.objects seen
    seen_is_true = record { certain = λ c n. certain c (among_append (flat_map settled (filter (λ f. is_part_of f.way e.way) es)) k.certain c n); possible = λ l p t is. possible l p t (logged.made_by p t is) }
      where
        logged : Logged (flat_map places ts) S S'
        logged = logged_tables ts S S' r.run

        certain : (c : Certain) → Among (flat_map settled (filter (λ f. is_part_of f.way e.way) es)) c ⊎ Among k.certain c → (t : Term) × (S'.objects c.path ≡ Some t) × (IsTrue c.is_scope → IsTrue t.is_scope)
        certain c (inr n) = certain_grow S.objects S'.objects k.certain logged.grows r.known.certain c n
        certain c (inl n) =
            let f = among_flat settled (filter (λ f. is_part_of f.way e.way) es) c n in
            (lasts f.0 (unfiltered (λ (f : Entry). is_part_of f.way e.way) es f.0 f.1) (filtered (λ (f : Entry). is_part_of f.way e.way) es f.0 f.1)).0 c f.2

        made_by_entry : (p : Path) (t : Term) (ev : Event) → Among S'.events ev → ev.term ≡ t → ev.object_path ≡ Some p → IsMatched es rs ev
            → (f : Entry) × Among (k.entries ++ filter (λ f. not (are_exclusive f.way e.way)) es) f × (f.path ≡ p) × (f.term ≡ t)
        made_by_entry p t ev n same makes (inr refused) = absurd (not_both ev.object_path p makes refused.2.no_object)
        made_by_entry p t ev n same makes (inl f) = (
          f.0,
          among_right k.entries (filter (λ f. not (are_exclusive f.way e.way)) es) f.0 (among_filter (λ (f : Entry). not (are_exclusive f.way e.way)) es f.0 f.1 (ap not (not_exclusive ev n f.0 f.2))),
          sym (((f.2.exact p).0 makes).0),
          f.2.term ∙ same,
        )

        possible : IsTrue (not k.in_loop) → (p : Path) (t : Term) → (S.objects p ≡ Some t) ⊎ IsMaking S'.events p t
            → (f : Entry) × Among (k.entries ++ filter (λ f. not (are_exclusive f.way e.way)) es) f × (f.path ≡ p) × (f.term ≡ t)
        possible l p t (inl old) = let n = r.known.possible l p t old in (n.0, among_left k.entries (filter (λ f. not (are_exclusive f.way e.way)) es) n.0 n.1, n.2, n.3)
        possible l p t (inr ev) = made_by_entry p t ev.0 ev.1 ev.2 ev.3 (among_all (IsMatched es rs) S'.events (survey_is_exact k ts S S' r) ev.0 ev.1)

    -- .. so the entry's links are
    pub links_cover : (n : NameParts) → ((p : Path) → answer (is_defined_in S'.objects) e.scope n ≡ Some p → Among (candidates seen e.scope n) p) × (IsTrue (is_certain_name seen e.scope n) → IsFoundIn S'.objects e.scope n)
    links_cover n = candidates_cover S'.objects seen seen_is_true e.scope n
