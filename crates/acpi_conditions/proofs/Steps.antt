-- Each node is sound.
use Rattle.std.proofs.Common.{◌≡◌, ℕ, zero, suc, Bool, true, false, cond, List, [], ◌∷◌, ◌++◌, ◌⊎◌, inl, inr, Some, None, refl, sym, ap, subst, ◌∙◌, Result, Ok, Err}
use Rattle.std.specs.List.{AllByRecursion}
use Rattle.std.specs.Prelude.{IsTrue}
use Rattle.acpi_name.specs.Names.{NameParts}
use Rattle.acpi_space.specs.Lookups.{singleton}
use Rattle.acpi_space.specs.Laws.{Among}
use Rattle.acpi_space.proofs.Elements.{among_left, among_right, among_append, all_append, all_map, one_some}
use Rattle.acpi_conditions.specs.Nodes.{Place, Term, Stop, returns, breaks, continues, Nodes, no_nodes, declares, opens, branch, loop, stop}
use Rattle.acpi_conditions.specs.Entries.{Path, Turn, then_branch, else_branch, in_round, within, past, asks_nothing, Entry, Why, Refusal, StopAt}
use Rattle.acpi_conditions.specs.Known.{Certain, Known, is_certain_scope, declared_at, settled, candidates, opened_at, IsTrueOf}
use Rattle.acpi_conditions.specs.Survey.{Around, turning, Survey, Surveying, empty_survey, refusing, entry_at, inside_of, known_inside, with_inside, declaring_as, declaring, inside_scope, known_in_scope, with_scope, opening_as, opening, either, branching, leaves_table, known_in_loop, left_loop, looping, stopping, survey}
use Rattle.acpi_conditions.specs.Runs.{Makes, Event, State, state_inside, state_past, Ending, goes_on, stops, Going, Running, Staying, IsDeclaring, Finds, IsOpening, with_turn, with_stop, IsBranching, NextRound, AreRounds, IsRound, IsLooping, IsStopping, IsRun}
use Rattle.acpi_conditions.specs.Laws.{HasTurn, MatchesEntry, IsMatched, AreSure}
use Rattle.acpi_conditions.proofs.Basics.{append_nothing, among_filter, union_grows, union_new, union_cases}
use Rattle.acpi_conditions.proofs.Knowing.{certain_scope_made, one_found, one_finds}
use Rattle.acpi_conditions.proofs.Declaring.{declared_is, makes_allowed, makes_holds, holds_makes, nothing_makes, AreCertain, settled_made, settled_unmade, true_inside, true_in_scope, opened_is, refused_finds_none}
use Rattle.acpi_conditions.proofs.Outcomes.{IsEntryAt, certain_grow, Lasts, Outcome, IsCovered, IsSound, IsRooted, rooted_followed, sound_followed}

-- ---- entries stand behind what is around them

never_empty : (w : List Turn) (turn : Turn) → w ++ turn ∷ [] ≡ [] → ⊥
never_empty [] turn e = cc
never_empty (x ∷ w) turn e = cc

unturned : (w : List Turn) (b : Bool) (turn : Turn) → w ++ cond b [] (turn ∷ []) ≡ [] → (w ≡ []) × (b ≡ true)
unturned w true turn e = ((append_nothing w [] e).0, refl)
unturned w false turn e = absurd (never_empty w turn e)

rooted_declaring : (t : Term) (inside : Surveying) → IsRooted inside → IsRooted (declaring t inside)
rooted_declaring t inside root a k e m is = by (declared_at k a.scope t.name) m
  where
    by : (r : Result Path Why) → Among (declaring_as t inside a k r).entries e → a.way ≡ []
    by (Err why) m = absurd m
    by (Ok p) (inl same) = ap (λ (e : Entry). e.way) same ∙ is
    by (Ok p) (inr m) =
        (unturned a.way (asks_nothing (entry_at a k t p).asks) (within t.place) (root (inside_of (entry_at a k t p)) (known_inside k (entry_at a k t p)) e m is)).0

rooted_opening : (place : Place) (n : NameParts) (inside : Surveying) → IsRooted inside → IsRooted (opening place n inside)
rooted_opening place n inside root a k e m is = by (opened_at k a.scope n) m
  where
    by : (r : Result Path Why) → Among (opening_as place inside a k r).entries e → a.way ≡ []
    by (Err why) m = absurd m
    by (Ok p) m = (unturned a.way (is_certain_scope k p) (within place) (root (inside_scope place a k p) (known_in_scope k p) e m is)).0

rooted_branching : (place : Place) (first other : Surveying) → IsRooted first → IsRooted other → IsRooted (branching place first other)
rooted_branching place first other rf ro a k e m is = by (among_append (first (turning a (then_branch place)) k).entries (other (turning a (else_branch place)) k).entries e m)
  where
    by : Among (first (turning a (then_branch place)) k).entries e ⊎ Among (other (turning a (else_branch place)) k).entries e → a.way ≡ []
    by (inl m) = absurd (never_empty a.way (then_branch place) (rf (turning a (then_branch place)) k e m is))
    by (inr m) = absurd (never_empty a.way (else_branch place) (ro (turning a (else_branch place)) k e m is))

rooted_looping : (place : Place) (body : Surveying) → IsRooted body → IsRooted (looping place body)
rooted_looping place body root a k e m is = absurd (never_empty a.way (in_round place) (root (turning a (in_round place)) (known_in_loop k) e m is))

pub rooted_nodes : (ns : Nodes) → IsRooted (survey ns)
rooted_nodes no_nodes = λ a k e m is. absurd m
rooted_nodes (declares t inside rest) = rooted_followed (declaring t (survey inside)) (survey rest) (rooted_declaring t (survey inside) (rooted_nodes inside)) (rooted_nodes rest)
rooted_nodes (opens place n inside rest) =
    rooted_followed (opening place n (survey inside)) (survey rest) (rooted_opening place n (survey inside) (rooted_nodes inside)) (rooted_nodes rest)
rooted_nodes (branch place first other rest) =
    rooted_followed (branching place (survey first) (survey other)) (survey rest) (rooted_branching place (survey first) (survey other) (rooted_nodes first) (rooted_nodes other)) (rooted_nodes rest)
rooted_nodes (loop place body rest) = rooted_followed (looping place (survey body)) (survey rest) (rooted_looping place (survey body) (rooted_nodes body)) (rooted_nodes rest)
rooted_nodes (stop place kind rest) = rooted_followed (stopping place kind) (survey rest) (λ a k e m is. absurd m) (rooted_nodes rest)

-- ---- ways

farther : (w : List Turn) (more x : Turn) → HasTurn w x → HasTurn (more ∷ w) x
farther w more (then_branch p) h = inr h
farther w more (else_branch p) h = inr h
farther w more (in_round p) h = inr h
farther w more (within p) h = inr h
farther w more (past p) h = tt

pub all_farther : (w way : List Turn) (more : Turn) → AllByRecursion (HasTurn w) way → AllByRecursion (HasTurn (more ∷ w)) way
all_farther w way more h = all_map (HasTurn w) (HasTurn (more ∷ w)) (farther w more) way h

pub maybe_turned : (w way : List Turn) (place : Place) (b : Bool) → AllByRecursion (HasTurn w) way → AllByRecursion (HasTurn (within place ∷ w)) (way ++ cond b [] (within place ∷ []))
maybe_turned w way place true h = all_append (HasTurn (within place ∷ w)) way [] (all_farther w way (within place) h) tt
maybe_turned w way place false h = all_append (HasTurn (within place ∷ w)) way (within place ∷ []) (all_farther w way (within place) h) (inl refl, tt)

pub no_more : {A : Type 0} (kind : Stop) → goes_on ≡ stops kind → A
no_more kind e = let f : ⊥ = cc in absurd f

still_on : {A : Type 0} (kind : Stop) → stops kind ≡ goes_on → A
still_on kind e = let f : ⊥ = cc in absurd f

-- ---- nodes that do nothing

module _ (F : List Entry) (R : List Refusal) where
  -- the state stays, and nothing is declared or stopped
  idle : (x : Survey) (S : State) (es : List Event) (ts : List Turn) (ss : List Place) → (AllByRecursion (IsMatched F R) S.events → AllByRecursion (IsMatched F R) es) → AreCertain S.objects x.certain
      → ((en : Entry) → Among x.entries en → en.way ≡ [] → Lasts S.objects en) → Outcome F R x S goes_on (record { objects = S.objects; events = es; turns = ts; stop_places = ss })
  idle x S es ts ss matches certain lasting = record {
    grows = λ p t is. is;
    fresh = λ p t is. inl is;
    matches = matches;
    certain = λ is. certain;
    met = λ kind is. no_more kind is;
    lasting = lasting;
  }

  unturned_outcome : (x : Survey) (S S' : State) (e : Ending) (turn : Turn) → Outcome F R x (with_turn turn S) e S' → Outcome F R x S e S'
  unturned_outcome x S S' e turn o = record { grows = o.grows; fresh = o.fresh; matches = o.matches; certain = o.certain; met = o.met; lasting = o.lasting }

  settle : (x : Survey) (S M S' : State) (e m : Ending) → Outcome F R x S m M → e ≡ m → S' ≡ M → Outcome F R x S e S'
  settle x S M S' e m o f g = subst (λ (q : State). Outcome F R x S e q) (sym g) (subst (λ (q : Ending). Outcome F R x S q M) (sym f) o)

  sound_empty : IsSound F R empty_survey Staying
  sound_empty a k w S e S' h way c run = settle (empty_survey a k) S S S' e goes_on (idle (empty_survey a k) S S.events S.turns S.stop_places (λ all. all) h.certain (λ en m is. absurd m)) run.0 run.1

  pub sound_stopping : (place : Place) (kind : Stop) → IsSound F R (stopping place kind) (IsStopping place kind)
  sound_stopping place kind a k w S e S' h way c run = settle (stopping place kind a k) S (with_stop place S) S' e (stops kind) (record {
    grows = λ p t is. is;
    fresh = λ p t is. inl is;
    matches = λ all. all;
    certain = λ is. h.certain;
    met = λ other is. (record { place = place; kind = kind }, inl refl, same_stop kind other is, inl refl);
    lasting = λ en m is. absurd m;
  }) run.0 run.1
    where
      same_stop : (x y : Stop) → stops x ≡ stops y → x ≡ y
      same_stop x y e = cc

  -- ---- a term that declares

  module _ (t : Term) (inside : Surveying) (ri : Running) (si : IsSound F R inside ri) (root : IsRooted inside) (a : Around) (k : Known) (w : List Turn) (S : State) (e : Ending) (S' : State)
      (h : IsTrueOf S.objects k) (way : AllByRecursion (HasTurn w) a.way) where
    refused_outcome : (why : Why) → declared_at k a.scope t.name ≡ Err why → IsCovered F R (refusing t.place why a k) → IsDeclaring t ri a.scope w S e S' → Outcome F R (refusing t.place why a k) S e S'
    refused_outcome why is c (inl m) =
        let ok : declared_at k a.scope t.name ≡ Ok m.0 = makes_allowed S.objects k h a.scope t m.0 m.1 in let f : ⊥ = cc in absurd f
    refused_outcome why is c (inr m) =
        settle (refusing t.place why a k) S (state_past a.scope w t S) S' e goes_on
        (idle (refusing t.place why a k) S (state_past a.scope w t S).events S.turns S.stop_places
        (λ all. (inr (record { place = t.place; why = why }, c.refused _ (inl refl), record { place = refl; no_object = refl }), all)) h.certain (λ en m is. absurd m))
        m.1.0 m.1.1

    module _ (p : Path) (ok : declared_at k a.scope t.name ≡ Ok p) (c : IsCovered F R (declaring_as t inside a k (Ok p))) where
      abbrev en : Entry
      en = entry_at a k t p

      abbrev x : Survey
      x = inside (inside_of en) (known_inside k en)

      abbrev M : State
      M = state_inside a.scope w t p S

      told_made : Makes S.objects a.scope t p → MatchesEntry (record { term = t; scope = a.scope; way = w; objects = S.objects; object_path = Some p }) en
      told_made m = record { term = refl; scope = refl; path = (declared_is k a.scope t.name p ok).1; way = way; exact = λ q. ((λ is. (sym (one_some p q is), makes_holds S.objects k h a t p m)), (λ so. ap Some (sym so.0))) }

      made_outcome : Makes S.objects a.scope t p → ri p (within t.place ∷ w) M e S' → Outcome F R (with_inside k en x) S e S'
      made_outcome m run = record {
        grows = λ q u is. o.grows q u (union_grows S.objects (singleton p t) q u is);
        fresh = λ q u is. back q u (o.fresh q u is);
        matches = λ all. o.matches (inl (en, c.entries en (inl refl), told_made m), all);
        certain = λ is. behind_it is (asks_nothing en.asks);
        met = o.met;
        lasting = last;
      }
        where
          o : Outcome F R x M e S'
          o = si (inside_of en) (known_inside k en) (within t.place ∷ w) M e S' (true_inside S.objects k h en m.free) (maybe_turned w a.way t.place (asks_nothing en.asks) way)
              (record { entries = λ e m. c.entries e (inr m); refused = c.refused }) run

          back : (q : Path) (u : Term) → (M.objects q ≡ Some u) ⊎ IsEntryAt x.entries q u → (S.objects q ≡ Some u) ⊎ IsEntryAt (en ∷ x.entries) q u
          back q u (inl is) = at (union_cases S.objects p q t u is)
            where
              at : (S.objects q ≡ Some u) ⊎ ((p ≡ q) × (t ≡ u)) → (S.objects q ≡ Some u) ⊎ IsEntryAt (en ∷ x.entries) q u
              at (inl is) = inl is
              at (inr is) = inr (en, inl refl, is.0, is.1)
          back q u (inr n) = inr (n.0, inr n.1, n.2, n.3)

          kept : S'.objects p ≡ Some t
          kept = o.grows p t (union_new S.objects p t m.free)

          own : AreCertain S'.objects (settled en)
          own = settled_made S'.objects en kept

          behind_it : e ≡ goes_on → (b : Bool) → AreCertain S'.objects (cond b x.certain (settled en ++ k.certain))
          behind_it is true = o.certain is
          behind_it is false = λ q n. at q (among_append (settled en) k.certain q n)
            where
              at : (q : Certain) → Among (settled en) q ⊎ Among k.certain q → (u : Term) × (S'.objects q.path ≡ Some u) × (IsTrue q.is_scope → IsTrue u.is_scope)
              at q (inl n) = own q n
              at q (inr n) = certain_grow S.objects S'.objects k.certain (λ r u is. o.grows r u (union_grows S.objects (singleton p t) r u is)) h.certain q n

          last : (other : Entry) → Among (en ∷ x.entries) other → other.way ≡ [] → Lasts S'.objects other
          last other (inl same) is = subst (λ (other : Entry). Lasts S'.objects other) same (own, λ q. kept)
          last other (inr n) is = o.lasting other n is

      told_unmade : ((q : Path) → Makes S.objects a.scope t q → ⊥) → MatchesEntry (record { term = t; scope = a.scope; way = w; objects = S.objects; object_path = None }) en
      told_unmade none = record { term = refl; scope = refl; path = (declared_is k a.scope t.name p ok).1; way = way; exact = λ q. ((λ is. let f : ⊥ = cc in absurd f), (λ so. absurd (none p (holds_makes S.objects k h a t p ok so.1)))) }

      unmade_outcome : ((q : Path) → Makes S.objects a.scope t q → ⊥) → Outcome F R (with_inside k en x) S goes_on (state_past a.scope w t S)
      unmade_outcome none = idle (with_inside k en x) S (state_past a.scope w t S).events S.turns S.stop_places (λ all. (inl (en, c.entries en (inl refl), told_unmade none), all))
          (behind_it (asks_nothing en.asks) refl) last
        where
          own : AreCertain S.objects (settled en)
          own = settled_unmade S.objects k h a t p ok none

          behind_it : (b : Bool) → asks_nothing en.asks ≡ b → AreCertain S.objects (cond b x.certain (settled en ++ k.certain))
          behind_it true is = absurd (none p (nothing_makes S.objects k h a t p ok is))
          behind_it false is = λ q n. at q (among_append (settled en) k.certain q n)
            where
              at : (q : Certain) → Among (settled en) q ⊎ Among k.certain q → (u : Term) × (S.objects q.path ≡ Some u) × (IsTrue q.is_scope → IsTrue u.is_scope)
              at q (inl n) = own q n
              at q (inr n) = h.certain q n

          last : (other : Entry) → Among (en ∷ x.entries) other → other.way ≡ [] → Lasts S.objects other
          last other (inl same) is = subst (λ (other : Entry). Lasts S.objects other) same (own, λ q. absurd (none p (nothing_makes S.objects k h a t p ok q)))
          last other (inr n) is = absurd (none p (nothing_makes S.objects k h a t p ok (unturned a.way (asks_nothing en.asks) (within t.place) (root (inside_of en) (known_inside k en) other n is)).1))

      placed_outcome : IsDeclaring t ri a.scope w S e S' → Outcome F R (with_inside k en x) S e S'
      placed_outcome (inr m) = settle (with_inside k en x) S (state_past a.scope w t S) S' e goes_on (unmade_outcome m.0) m.1.0 m.1.1
      placed_outcome (inl m) = subst (λ (q : Path). Makes S.objects a.scope t q → ri q (within t.place ∷ w) (state_inside a.scope w t q S) e S' → Outcome F R (with_inside k en x) S e S') same made_outcome m.1 m.2
        where
          same : p ≡ m.0
          same = let allowed : declared_at k a.scope t.name ≡ Ok m.0 = makes_allowed S.objects k h a.scope t m.0 m.1 in cc

    declaring_outcome : (r : Result Path Why) → declared_at k a.scope t.name ≡ r → IsCovered F R (declaring_as t inside a k r) → IsDeclaring t ri a.scope w S e S' → Outcome F R (declaring_as t inside a k r) S e S'
    declaring_outcome (Err why) is c run = refused_outcome why is c run
    declaring_outcome (Ok p) is c run = placed_outcome p is c run

  pub sound_declaring : (t : Term) (inside : Surveying) (ri : Running) → IsSound F R inside ri → IsRooted inside → IsSound F R (declaring t inside) (IsDeclaring t ri)
  sound_declaring t inside ri si root a k w S e S' h way c run = declaring_outcome t inside ri si root a k w S e S' h way (declared_at k a.scope t.name) refl c run

  -- ---- a Scope

  module _ (sure : AreSure R) (place : Place) (n : NameParts) (inside : Surveying) (ri : Running) (si : IsSound F R inside ri) (root : IsRooted inside) (a : Around) (k : Known) (w : List Turn)
      (S : State) (e : Ending) (S' : State) (h : IsTrueOf S.objects k) (way : AllByRecursion (HasTurn w) a.way) where
    unopened_outcome : (why : Why) → opened_at k a.scope n ≡ Err why → IsCovered F R (refusing place why a k) → IsOpening place n ri a.scope w S e S' → Outcome F R (refusing place why a k) S e S'
    unopened_outcome why is c (inl m) =
        absurd (refused_finds_none S.objects k h a.scope n why (sure (record { place = place; why = why }) (c.refused _ (inl refl))) m.0 m.1 is)
    unopened_outcome why is c (inr m) =
        settle (refusing place why a k) S S S' e goes_on (idle (refusing place why a k) S S.events S.turns S.stop_places (λ all. all) h.certain (λ en m is. absurd m)) m.1.0 m.1.1

    module _ (p : Path) (one : candidates k a.scope n ≡ p ∷ []) (c : IsCovered F R (opening_as place inside a k (Ok p))) where
      abbrev under : Survey
      under = inside (inside_scope place a k p) (known_in_scope k p)

      opened_outcome : Finds S.objects a.scope n p → ri p (within place ∷ w) (with_turn (within place) S) e S' → Outcome F R (with_scope k p under) S e S'
      opened_outcome finds run = record { grows = o.grows; fresh = o.fresh; matches = o.matches; certain = λ is. behind_it is (is_certain_scope k p); met = o.met; lasting = o.lasting }
        where
          o : Outcome F R under S e S'
          o = unturned_outcome under S S' e (within place) (si (inside_scope place a k p) (known_in_scope k p) (within place ∷ w) (with_turn (within place) S) e S' (true_in_scope S.objects k h p finds.1) (maybe_turned w a.way place (is_certain_scope k p) way)
              (record { entries = c.entries; refused = c.refused }) run)

          behind_it : e ≡ goes_on → (b : Bool) → AreCertain S'.objects (cond b under.certain k.certain)
          behind_it is true = o.certain is
          behind_it is false = certain_grow S.objects S'.objects k.certain o.grows h.certain

      -- where the scope is there for certain, the Scope is gone through
      certain_finds : is_certain_scope k p ≡ true → Finds S.objects a.scope n p
      certain_finds is = let s = certain_scope_made S.objects k h p is in (one_finds S.objects k h a.scope n p one s.0 s.1, s)

      passed_outcome : ((q : Path) → Finds S.objects a.scope n q → ⊥) → Outcome F R (with_scope k p under) S goes_on S
      passed_outcome none = idle (with_scope k p under) S S.events S.turns S.stop_places (λ all. all) (behind_it (is_certain_scope k p) refl)
          (λ en m is. absurd (none p (certain_finds (unturned a.way (is_certain_scope k p) (within place) (root (inside_scope place a k p) (known_in_scope k p) en m is)).1)))
        where
          behind_it : (b : Bool) → is_certain_scope k p ≡ b → AreCertain S.objects (cond b under.certain k.certain)
          behind_it true is = absurd (none p (certain_finds is))
          behind_it false is = h.certain

      scope_outcome : IsOpening place n ri a.scope w S e S' → Outcome F R (with_scope k p under) S e S'
      scope_outcome (inr m) = settle (with_scope k p under) S S S' e goes_on (passed_outcome m.0) m.1.0 m.1.1
      scope_outcome (inl m) = subst (λ (q : Path). Finds S.objects a.scope n q → ri q (within place ∷ w) (with_turn (within place) S) e S' → Outcome F R (with_scope k p under) S e S')
          (one_found S.objects k h a.scope n p one m.0 m.1.0) opened_outcome m.1 m.2

    opening_outcome : (r : Result Path Why) → opened_at k a.scope n ≡ r → IsCovered F R (opening_as place inside a k r) → IsOpening place n ri a.scope w S e S' → Outcome F R (opening_as place inside a k r) S e S'
    opening_outcome (Err why) is c run = unopened_outcome why is c run
    opening_outcome (Ok p) is c run = scope_outcome p (opened_is k a.scope n p is) c run

  pub sound_opening : AreSure R → (place : Place) (n : NameParts) (inside : Surveying) (ri : Running) → IsSound F R inside ri → IsRooted inside → IsSound F R (opening place n inside) (IsOpening place n ri)
  sound_opening sure place n inside ri si root a k w S e S' h way c run = opening_outcome sure place n inside ri si root a k w S e S' h way (opened_at k a.scope n) refl c run

  -- ---- an If

  module _ (place : Place) (first other : Surveying) (rf ro : Running) (sf : IsSound F R first rf) (so : IsSound F R other ro) (root_first : IsRooted first) (root_other : IsRooted other)
      (a : Around) (k : Known) (w : List Turn) (S : State) (e : Ending) (S' : State) (h : IsTrueOf S.objects k) (way : AllByRecursion (HasTurn w) a.way) where
    abbrev taken_part : Survey
    taken_part = first (turning a (then_branch place)) k

    abbrev other_part : Survey
    other_part = other (turning a (else_branch place)) k

    never_lasting : (en : Entry) → Among (taken_part.entries ++ other_part.entries) en → en.way ≡ [] → Lasts S'.objects en
    never_lasting en m is = at (among_append taken_part.entries other_part.entries en m)
      where
        at : Among taken_part.entries en ⊎ Among other_part.entries en → Lasts S'.objects en
        at (inl m) = absurd (never_empty a.way (then_branch place) (root_first (turning a (then_branch place)) k en m is))
        at (inr m) = absurd (never_empty a.way (else_branch place) (root_other (turning a (else_branch place)) k en m is))

    turn_all : (turn : Turn) → HasTurn (turn ∷ w) turn → AllByRecursion (HasTurn (turn ∷ w)) (a.way ++ turn ∷ [])
    turn_all turn is = all_append (HasTurn (turn ∷ w)) a.way (turn ∷ []) (all_farther w a.way turn way) (is, tt)

    first_outcome : IsCovered F R (either k taken_part other_part) → rf a.scope (then_branch place ∷ w) (with_turn (then_branch place) S) e S' → Outcome F R (either k taken_part other_part) S e S'
    first_outcome c run =
        let o : Outcome F R taken_part S e S' = unturned_outcome taken_part S S' e (then_branch place) (sf (turning a (then_branch place)) k (then_branch place ∷ w) (with_turn (then_branch place) S) e S' h (turn_all (then_branch place) (inl refl))
        (record { entries = λ e m. c.entries e (among_left taken_part.entries other_part.entries e m); refused = λ r m. c.refused r (among_left taken_part.refused other_part.refused r m) }) run) in
        record {
          grows = o.grows;
          fresh = λ p t is. at p t (o.fresh p t is);
          matches = o.matches;
          certain = λ is. certain_grow S.objects S'.objects k.certain o.grows h.certain;
          met = λ kind is. let s = o.met kind is in (s.0, among_left taken_part.stops other_part.stops s.0 s.1, s.2, s.3);
          lasting = never_lasting;
        }
      where
        at : (p : Path) (t : Term) → (S.objects p ≡ Some t) ⊎ IsEntryAt taken_part.entries p t → (S.objects p ≡ Some t) ⊎ IsEntryAt (taken_part.entries ++ other_part.entries) p t
        at p t (inl is) = inl is
        at p t (inr n) = inr (n.0, among_left taken_part.entries other_part.entries n.0 n.1, n.2, n.3)

    other_outcome : IsCovered F R (either k taken_part other_part) → ro a.scope (else_branch place ∷ w) (with_turn (else_branch place) S) e S' → Outcome F R (either k taken_part other_part) S e S'
    other_outcome c run =
        let o : Outcome F R other_part S e S' = unturned_outcome other_part S S' e (else_branch place) (so (turning a (else_branch place)) k (else_branch place ∷ w) (with_turn (else_branch place) S) e S' h (turn_all (else_branch place) (inl refl))
        (record { entries = λ e m. c.entries e (among_right taken_part.entries other_part.entries e m); refused = λ r m. c.refused r (among_right taken_part.refused other_part.refused r m) }) run) in
        record {
          grows = o.grows;
          fresh = λ p t is. at p t (o.fresh p t is);
          matches = o.matches;
          certain = λ is. certain_grow S.objects S'.objects k.certain o.grows h.certain;
          met = λ kind is. let s = o.met kind is in (s.0, among_right taken_part.stops other_part.stops s.0 s.1, s.2, s.3);
          lasting = never_lasting;
        }
      where
        at : (p : Path) (t : Term) → (S.objects p ≡ Some t) ⊎ IsEntryAt other_part.entries p t → (S.objects p ≡ Some t) ⊎ IsEntryAt (taken_part.entries ++ other_part.entries) p t
        at p t (inl is) = inl is
        at p t (inr n) = inr (n.0, among_right taken_part.entries other_part.entries n.0 n.1, n.2, n.3)

    branch_outcome : IsCovered F R (either k taken_part other_part) → IsBranching place rf ro a.scope w S e S' → Outcome F R (either k taken_part other_part) S e S'
    branch_outcome c (inl run) = first_outcome c run
    branch_outcome c (inr run) = other_outcome c run

  pub sound_branching : (place : Place) (first other : Surveying) (rf ro : Running) → IsSound F R first rf → IsSound F R other ro → IsRooted first → IsRooted other
      → IsSound F R (branching place first other) (IsBranching place rf ro)
  sound_branching place first other rf ro sf so root_first root_other a k w S e S' h way c run = branch_outcome place first other rf ro sf so root_first root_other a k w S e S' h way c run

  -- ---- a While

  module _ (place : Place) (body : Surveying) (rb : Running) (sb : IsSound F R body rb) (root : IsRooted body) (a : Around) (k : Known) (w : List Turn) (way : AllByRecursion (HasTurn w) a.way)
      (c : IsCovered F R (looping place body a k)) where
    abbrev body_part : Survey
    body_part = body (turning a (in_round place)) (known_in_loop k)

    none_lasting : (T : State) (en : Entry) → Among body_part.entries en → en.way ≡ [] → Lasts T.objects en
    none_lasting T en m is = absurd (never_empty a.way (in_round place) (root (turning a (in_round place)) (known_in_loop k) en m is))

    left : (S : State) → AreCertain S.objects k.certain → Outcome F R (left_loop k body_part) S goes_on S
    left S certain = idle (left_loop k body_part) S S.events S.turns S.stop_places (λ all. all) certain (none_lasting S)

    one_round : (S : State) (m : Ending) (M : State) → AreCertain S.objects k.certain → IsRound place rb a.scope w S m M → Outcome F R body_part S m M
    one_round S m M certain run = unturned_outcome body_part S M m (in_round place) (sb (turning a (in_round place)) (known_in_loop k) (in_round place ∷ w) (with_turn (in_round place) S) m M
        (record { certain = certain; possible = λ l. let f : ⊥ = cc in absurd f })
        (all_append (HasTurn (in_round place ∷ w)) a.way (in_round place ∷ []) (all_farther w a.way (in_round place) way) (inl refl, tt))
        (record { entries = c.entries; refused = c.refused }) run)

    one_more : (S M S' : State) (e m : Ending) → Outcome F R body_part S m M → Outcome F R (left_loop k body_part) M e S' → Outcome F R (left_loop k body_part) S e S'
    one_more S M S' e m o n = record {
      grows = λ p t is. n.grows p t (o.grows p t is);
      fresh = λ p t is. at p t (n.fresh p t is);
      matches = λ all. n.matches (o.matches all);
      certain = n.certain;
      met = n.met;
      lasting = n.lasting;
    }
      where
        at : (p : Path) (t : Term) → (M.objects p ≡ Some t) ⊎ IsEntryAt body_part.entries p t → (S.objects p ≡ Some t) ⊎ IsEntryAt body_part.entries p t
        at p t (inl is) = o.fresh p t is
        at p t (inr q) = inr q

    returned : (S M : State) → Outcome F R body_part S (stops returns) M → Outcome F R (left_loop k body_part) S (stops returns) M
    returned S M o = record {
      grows = o.grows;
      fresh = o.fresh;
      matches = o.matches;
      certain = λ is. still_on returns is;
      met = λ kind is. let s = o.met returns refl in (s.0, among_filter (λ (s : StopAt). leaves_table s.kind) body_part.stops s.0 s.1 (ap leaves_table s.2), s.2 ∙ same_kind kind is, s.3);
      lasting = none_lasting M;
    }
      where
        same_kind : (kind : Stop) → stops returns ≡ stops kind → returns ≡ kind
        same_kind kind e = cc

    next_round : (S : State) (e : Ending) (S' : State) (m : Ending) (M : State) (next : Going) → AreCertain S.objects k.certain
        → (AreCertain M.objects k.certain → next M e S' → Outcome F R (left_loop k body_part) M e S') → Outcome F R body_part S m M → NextRound m next M e S' → Outcome F R (left_loop k body_part) S e S'
    next_round S e S' goes_on M next certain more o run = one_more S M S' e goes_on o (more (certain_grow S.objects M.objects k.certain o.grows certain) run)
    next_round S e S' (stops continues) M next certain more o run = one_more S M S' e (stops continues) o (more (certain_grow S.objects M.objects k.certain o.grows certain) run)
    next_round S e S' (stops breaks) M next certain more o run =
        settle (left_loop k body_part) S M S' e goes_on (one_more S M M goes_on (stops breaks) o (left M (certain_grow S.objects M.objects k.certain o.grows certain))) run.0 run.1
    next_round S e S' (stops returns) M next certain more o run = settle (left_loop k body_part) S M S' e (stops returns) (returned S M o) run.0 run.1

    rounds : (n : ℕ) (S : State) (e : Ending) (S' : State) → AreCertain S.objects k.certain → AreRounds n (IsRound place rb a.scope w) S e S' → Outcome F R (left_loop k body_part) S e S'
    rounds zero S e S' certain run = settle (left_loop k body_part) S S S' e goes_on (left S certain) run.0 run.1
    rounds (suc n) S e S' certain run =
        next_round S e S' run.0 run.1 (AreRounds n (IsRound place rb a.scope w)) certain (λ there next. rounds n run.1 e S' there next) (one_round S run.0 run.1 certain run.2) run.3

  pub sound_looping : (place : Place) (body : Surveying) (rb : Running) → IsSound F R body rb → IsRooted body → IsSound F R (looping place body) (IsLooping place rb)
  sound_looping place body rb sb root a k w S e S' h way c run = rounds place body rb sb root a k w way c run.0 S e S' h.certain run.1

  -- ---- all nodes

  pub sound_nodes : AreSure R → (ns : Nodes) → IsSound F R (survey ns) (IsRun ns)
  sound_nodes sure no_nodes = sound_empty
  sound_nodes sure (declares t inside rest) =
      sound_followed F R (declaring t (survey inside)) (survey rest) (IsDeclaring t (IsRun inside)) (IsRun rest)
      (sound_declaring t (survey inside) (IsRun inside) (sound_nodes sure inside) (rooted_nodes inside)) (sound_nodes sure rest) (rooted_nodes rest)
  sound_nodes sure (opens place n inside rest) =
      sound_followed F R (opening place n (survey inside)) (survey rest) (IsOpening place n (IsRun inside)) (IsRun rest)
      (sound_opening sure place n (survey inside) (IsRun inside) (sound_nodes sure inside) (rooted_nodes inside)) (sound_nodes sure rest) (rooted_nodes rest)
  sound_nodes sure (branch place first other rest) =
      sound_followed F R (branching place (survey first) (survey other)) (survey rest) (IsBranching place (IsRun first) (IsRun other)) (IsRun rest)
      (sound_branching place (survey first) (survey other) (IsRun first) (IsRun other) (sound_nodes sure first) (sound_nodes sure other) (rooted_nodes first) (rooted_nodes other))
      (sound_nodes sure rest) (rooted_nodes rest)
  sound_nodes sure (loop place body rest) =
      sound_followed F R (looping place (survey body)) (survey rest) (IsLooping place (IsRun body)) (IsRun rest)
      (sound_looping place (survey body) (IsRun body) (sound_nodes sure body) (rooted_nodes body)) (sound_nodes sure rest) (rooted_nodes rest)
  sound_nodes sure (stop place kind rest) =
      sound_followed F R (stopping place kind) (survey rest) (IsStopping place kind) (IsRun rest) (sound_stopping place kind) (sound_nodes sure rest) (rooted_nodes rest)
