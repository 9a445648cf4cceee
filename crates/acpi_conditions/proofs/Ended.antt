-- Where control was stopped by one of the stops of nodes, their run ends there.
use Rattle.std.proofs.Common.{◌≡◌, ℕ, zero, suc, Bool, true, false, cond, List, [], ◌∷◌, ◌++◌, map, ◌⊎◌, inl, inr, refl, sym, ap, subst, ◌∙◌, Result, Ok, Err}
use Rattle.std.specs.List.{AllByRecursion, filter}
use Rattle.acpi_name.specs.Names.{NameParts}
use Rattle.acpi_space.specs.Laws.{Among}
use Rattle.acpi_space.proofs.Elements.{among_left, among_right, among_append, all_append}
use Rattle.acpi_conditions.specs.Nodes.{Place, Term, Stop, returns, breaks, continues, Nodes, no_nodes, declares, opens, branch, loop, stop, places}
use Rattle.acpi_conditions.specs.Entries.{Path, Turn, then_branch, else_branch, in_round, within, past, asks_nothing, Entry, Why, Refusal, StopAt}
use Rattle.acpi_conditions.specs.Known.{Known, is_certain_scope, declared_at, opened_at, IsTrueOf}
use Rattle.acpi_conditions.specs.Survey.{Around, turning, Surveying, behind, passing, followed_by, entry_at, inside_of, known_inside, declaring_as, declaring, inside_scope, known_in_scope, opening_as, opening, branching, leaves_table, known_in_loop, looping, stopping, survey}
use Rattle.acpi_conditions.specs.Runs.{Makes, State, with_turn, state_inside, Ending, goes_on, stops, Running, Continues, IsFollowed, IsDeclaring, Finds, IsOpening, IsBranching, NextRound, AreRounds, IsRound, IsLooping, IsStopping, IsRun}
use Rattle.acpi_conditions.specs.Laws.{HasTurn, AreSure, AreDistinct}
use Rattle.acpi_conditions.proofs.Knowing.{one_found}
use Rattle.acpi_conditions.proofs.Declaring.{AreCertain, makes_allowed, true_inside, true_in_scope, opened_is}
use Rattle.acpi_conditions.proofs.Outcomes.{Outcome, IsCovered, certain_grow, covered_here, covered_rest, past_turns, true_behind}
use Rattle.acpi_conditions.proofs.Steps.{maybe_turned, no_more}
use Rattle.acpi_conditions.proofs.EntryWays.{unfiltered}
use Rattle.acpi_conditions.proofs.Reached.{distinct_left, distinct_right, apart, turn_all}
use Rattle.acpi_conditions.proofs.Pieces.{Piece, piece_nodes, piece_declaring, piece_opening, piece_branching, piece_looping, piece_stopping}

pub filtered : {X : Type 0} (test : X → Bool) (xs : List X) (x : X) → Among (filter test xs) x → test x ≡ true
filtered test [] x m = absurd m
filtered test (y ∷ xs) x m = by (test y) refl m (filtered test xs x)
  where
    by : (b : Bool) → test y ≡ b → Among (cond b (y ∷ filter test xs) (filter test xs)) x → (Among (filter test xs) x → test x ≡ true) → test x ≡ true
    by true e (inl same) ih = ap test (sym same) ∙ e
    by true e (inr m) ih = ih m
    by false e m ih = ih m

leaves : (kind : Stop) → leaves_table kind ≡ true → kind ≡ returns
leaves returns e = refl
leaves breaks e = cc
leaves continues e = cc

module _ (F : List Entry) (R : List Refusal) where
  -- where control was stopped by one of the stops, it goes no further
  abbrev pub IsEnding : List Place → Surveying → Running → Type 0
  IsEnding ps x r = (a : Around) (k : Known) (w : List Turn) (S : State) (e : Ending) (S' : State) → IsTrueOf S.objects k → AllByRecursion (HasTurn w) a.way → IsCovered F R (x a k)
      → AreDistinct ps → r a.scope w S e S' → (m : StopAt) → Among (x a k).stops m → (Among S.stop_places m.place → ⊥) → Among S'.stop_places m.place → e ≡ stops m.kind

  ending_followed : (ps qs : List Place) (here rest : Surveying) (rh rr : Running) → Piece F R ps here rh → Piece F R qs rest rr → IsEnding ps here rh → IsEnding qs rest rr
      → IsEnding (ps ++ qs) (followed_by here rest) (IsFollowed rh rr)
  ending_followed ps qs here rest rh rr P Q eh er a k w S e S' h way c d run m is out there = by run.0 run.1 run.2 run.3 (among_append (here a k).stops (rest (passing a (here a k)) (behind k (here a k))).stops m is)
    where
      c_here : IsCovered F R (here a k)
      c_here = covered_here F R (here a k) (rest (passing a (here a k)) (behind k (here a k))) c

      out_rest : (x : Ending) (M : State) → rh a.scope w S x M → Among qs m.place → Among M.stop_places m.place → ⊥
      out_rest x M r q is = at ((P.logged a.scope w S x M r).new_stops m.place is)
        where
          at : Among S.stop_places m.place ⊎ Among ps m.place → ⊥
          at (inl o) = out o
          at (inr p) = apart ps qs d m.place p q

      by : (x : Ending) (M : State) → rh a.scope w S x M → Continues x (rr a.scope w) M e S' → Among (here a k).stops m ⊎ Among (rest (passing a (here a k)) (behind k (here a k))).stops m → e ≡ stops m.kind
      by goes_on M r next (inl n) = at ((Q.logged a.scope w M e S' next).new_stops m.place there)
        where
          at : Among M.stop_places m.place ⊎ Among qs m.place → e ≡ stops m.kind
          at (inl old) = no_more m.kind (eh a k w S goes_on M h way c_here (distinct_left ps qs d) r m n out old)
          at (inr q) = absurd (apart ps qs d m.place (P.stopping a k m n) q)
      by goes_on M r next (inr n) =
          let o : Outcome F R (here a k) S goes_on M = P.sound a k w S goes_on M h way c_here r in
          er (passing a (here a k)) (behind k (here a k)) w M e S' (true_behind F R k (here a k) S M h o)
          (all_append (HasTurn w) a.way (map (λ s. past s.place) (here a k).stops) way (past_turns w (here a k).stops))
          (covered_rest F R (here a k) (rest (passing a (here a k)) (behind k (here a k))) c) (distinct_right ps qs d) next m n
          (out_rest goes_on M r (Q.stopping (passing a (here a k)) (behind k (here a k)) m n)) there
      by (stops kind) M r next (inl n) =
          next.0 ∙ eh a k w S (stops kind) M h way c_here (distinct_left ps qs d) r m n out (subst (λ (T : State). Among T.stop_places m.place) next.1 there)
      by (stops kind) M r next (inr n) =
          absurd (out_rest (stops kind) M r (Q.stopping (passing a (here a k)) (behind k (here a k)) m n) (subst (λ (T : State). Among T.stop_places m.place) next.1 there))

  pub ending_declaring : (t : Term) (qs : List Place) (inside : Surveying) (ri : Running) → IsEnding qs inside ri → IsEnding (t.place ∷ qs) (declaring t inside) (IsDeclaring t ri)
  ending_declaring t qs inside ri ei a k w S e S' h way c d run m is out there = by (declared_at k a.scope t.name) refl c is
    where
      by : (r : Result Path Why) → declared_at k a.scope t.name ≡ r → IsCovered F R (declaring_as t inside a k r) → Among (declaring_as t inside a k r).stops m → e ≡ stops m.kind
      by (Err why) ok c is = absurd is
      by (Ok p) ok c is = at run
        where
          made_at : Makes S.objects a.scope t p → ri p (within t.place ∷ w) (state_inside a.scope w t p S) e S' → e ≡ stops m.kind
          made_at makes r = ei (inside_of (entry_at a k t p)) (known_inside k (entry_at a k t p)) (within t.place ∷ w) (state_inside a.scope w t p S) e S'
              (true_inside S.objects k h (entry_at a k t p) makes.free) (maybe_turned w a.way t.place (asks_nothing (entry_at a k t p).asks) way)
              (record { entries = λ e m. c.entries e (inr m); refused = c.refused }) d.1 r m is out there

          at : IsDeclaring t ri a.scope w S e S' → e ≡ stops m.kind
          at (inr n) = absurd (out (subst (λ (T : State). Among T.stop_places m.place) n.1.1 there))
          at (inl n) =
              let allowed : declared_at k a.scope t.name ≡ Ok n.0 = makes_allowed S.objects k h a.scope t n.0 n.1 in
              let same : p ≡ n.0 = cc in
              subst (λ (q : Path). Makes S.objects a.scope t q → ri q (within t.place ∷ w) (state_inside a.scope w t q S) e S' → e ≡ stops m.kind) same made_at n.1 n.2

  pub ending_opening : (place : Place) (n : NameParts) (qs : List Place) (inside : Surveying) (ri : Running) → IsEnding qs inside ri → IsEnding (place ∷ qs) (opening place n inside) (IsOpening place n ri)
  ending_opening place n qs inside ri ei a k w S e S' h way c d run m is out there = by (opened_at k a.scope n) refl c is
    where
      by : (r : Result Path Why) → opened_at k a.scope n ≡ r → IsCovered F R (opening_as place inside a k r) → Among (opening_as place inside a k r).stops m → e ≡ stops m.kind
      by (Err why) ok c is = absurd is
      by (Ok p) ok c is = at run
        where
          opened : Finds S.objects a.scope n p → ri p (within place ∷ w) (with_turn (within place) S) e S' → e ≡ stops m.kind
          opened f r = ei (inside_scope place a k p) (known_in_scope k p) (within place ∷ w) (with_turn (within place) S) e S' (true_in_scope S.objects k h p f.1)
              (maybe_turned w a.way place (is_certain_scope k p) way) (record { entries = c.entries; refused = c.refused }) d.1 r m is out there

          at : IsOpening place n ri a.scope w S e S' → e ≡ stops m.kind
          at (inr f) = absurd (out (subst (λ (T : State). Among T.stop_places m.place) f.1.1 there))
          at (inl f) = subst (λ (q : Path). Finds S.objects a.scope n q → ri q (within place ∷ w) (with_turn (within place) S) e S' → e ≡ stops m.kind)
              (one_found S.objects k h a.scope n p (opened_is k a.scope n p ok) f.0 f.1.0) opened f.1 f.2

  pub ending_branching : (place : Place) (fs os : List Place) (first other : Surveying) (rf ro : Running) → Piece F R fs first rf → Piece F R os other ro → IsEnding fs first rf → IsEnding os other ro
      → IsEnding (place ∷ (fs ++ os)) (branching place first other) (IsBranching place rf ro)
  ending_branching place fs os first other rf ro P Q ef eo a k w S e S' h way c d run m is out there =
      by run (among_append (first (turning a (then_branch place)) k).stops (other (turning a (else_branch place)) k).stops m is)
    where
      by : IsBranching place rf ro a.scope w S e S' → Among (first (turning a (then_branch place)) k).stops m ⊎ Among (other (turning a (else_branch place)) k).stops m → e ≡ stops m.kind
      by (inl r) (inl n) = ef (turning a (then_branch place)) k (then_branch place ∷ w) (with_turn (then_branch place) S) e S' h (turn_all F R a w (then_branch place) way (inl refl)) (record {
        entries = λ e m. c.entries e (among_left (first (turning a (then_branch place)) k).entries (other (turning a (else_branch place)) k).entries e m);
        refused = λ q m. c.refused q (among_left (first (turning a (then_branch place)) k).refused (other (turning a (else_branch place)) k).refused q m);
      }) (distinct_left fs os d.1) r m n out there
      by (inr r) (inr n) = eo (turning a (else_branch place)) k (else_branch place ∷ w) (with_turn (else_branch place) S) e S' h (turn_all F R a w (else_branch place) way (inl refl)) (record {
        entries = λ e m. c.entries e (among_right (first (turning a (then_branch place)) k).entries (other (turning a (else_branch place)) k).entries e m);
        refused = λ q m. c.refused q (among_right (first (turning a (then_branch place)) k).refused (other (turning a (else_branch place)) k).refused q m);
      }) (distinct_right fs os d.1) r m n out there
      by (inl r) (inr n) = absurd (at ((P.logged a.scope (then_branch place ∷ w) (with_turn (then_branch place) S) e S' r).new_stops m.place there))
        where
          at : Among S.stop_places m.place ⊎ Among fs m.place → ⊥
          at (inl o) = out o
          at (inr f) = apart fs os d.1 m.place f (Q.stopping (turning a (else_branch place)) k m n)
      by (inr r) (inl n) = absurd (at ((Q.logged a.scope (else_branch place ∷ w) (with_turn (else_branch place) S) e S' r).new_stops m.place there))
        where
          at : Among S.stop_places m.place ⊎ Among os m.place → ⊥
          at (inl o) = out o
          at (inr f) = apart fs os d.1 m.place (P.stopping (turning a (then_branch place)) k m n) f

  module _ (place : Place) (bs : List Place) (body : Surveying) (rb : Running) (P : Piece F R bs body rb) (eb : IsEnding bs body rb) (a : Around) (k : Known) (w : List Turn) (way : AllByRecursion (HasTurn w) a.way)
      (c : IsCovered F R (looping place body a k)) (d : AreDistinct (place ∷ bs)) (m : StopAt) (n : Among (body (turning a (in_round place)) (known_in_loop k)).stops m) (kind : m.kind ≡ returns) where
    round_ends : (S : State) (x : Ending) (M : State) → AreCertain S.objects k.certain → IsRound place rb a.scope w S x M → (Among S.stop_places m.place → ⊥) → Among M.stop_places m.place → x ≡ stops m.kind
    round_ends S x M certain r out there = eb (turning a (in_round place)) (known_in_loop k) (in_round place ∷ w) (with_turn (in_round place) S) x M
        (record { certain = certain; possible = λ l. let f : ⊥ = cc in absurd f }) (turn_all F R a w (in_round place) way (inl refl)) (record { entries = c.entries; refused = c.refused }) d.1 r m n out there

    ending_rounds : (count : ℕ) (S : State) (e : Ending) (S' : State) → AreCertain S.objects k.certain → AreRounds count (IsRound place rb a.scope w) S e S' → (Among S.stop_places m.place → ⊥)
        → Among S'.stop_places m.place → e ≡ stops m.kind
    ending_rounds zero S e S' certain run out there = absurd (out (subst (λ (T : State). Among T.stop_places m.place) run.1 there))
    ending_rounds (suc count) S e S' certain run out there = by run.0 run.1 run.2 run.3 (λ T. ending_rounds count T e S')
      where
        later : (x : Ending) (M : State) → IsRound place rb a.scope w S x M → AreCertain M.objects k.certain
        later x M r = certain_grow S.objects M.objects k.certain (P.logged a.scope (in_round place ∷ w) (with_turn (in_round place) S) x M r).grows certain

        by : (x : Ending) (M : State) → IsRound place rb a.scope w S x M → NextRound x (AreRounds count (IsRound place rb a.scope w)) M e S'
            → ((T : State) → AreCertain T.objects k.certain → AreRounds count (IsRound place rb a.scope w) T e S' → (Among T.stop_places m.place → ⊥) → Among S'.stop_places m.place → e ≡ stops m.kind) → e ≡ stops m.kind
        by goes_on M r next more = more M (later goes_on M r) next (λ is. no_more m.kind (round_ends S goes_on M certain r out is)) there
        by (stops continues) M r next more = more M (later (stops continues) M r) next (λ is. let f : stops continues ≡ stops returns = round_ends S (stops continues) M certain r out is ∙ ap stops kind in cc) there
        by (stops breaks) M r next more =
            let f : stops breaks ≡ stops returns = round_ends S (stops breaks) M certain r out (subst (λ (T : State). Among T.stop_places m.place) next.1 there) ∙ ap stops kind in
            let g : ⊥ = cc in absurd g
        by (stops returns) M r next more = next.0 ∙ ap stops (sym kind)

  pub ending_looping : (place : Place) (bs : List Place) (body : Surveying) (rb : Running) → Piece F R bs body rb → IsEnding bs body rb → IsEnding (place ∷ bs) (looping place body) (IsLooping place rb)
  ending_looping place bs body rb P eb a k w S e S' h way c d run m is out there =
      let xs : List StopAt = (body (turning a (in_round place)) (known_in_loop k)).stops in
      ending_rounds place bs body rb P eb a k w way c d m (unfiltered (λ (s : StopAt). leaves_table s.kind) xs m is) (leaves m.kind (filtered (λ (s : StopAt). leaves_table s.kind) xs m is)) run.0 S e S' h.certain run.1 out there

  pub ending_stopping : (place : Place) (kind : Stop) → IsEnding (place ∷ []) (stopping place kind) (IsStopping place kind)
  ending_stopping place kind a k w S e S' h way c d run m (inl same) out there = run.0 ∙ ap (λ (m : StopAt). stops m.kind) same
  ending_stopping place kind a k w S e S' h way c d run m (inr is) out there = absurd is

  module _ (sure : AreSure R) where
    pub ending_nodes : (ns : Nodes) → IsEnding (places ns) (survey ns) (IsRun ns)
    ending_nodes no_nodes = λ a k w S e S' h way c d run m is. absurd is
    ending_nodes (declares t inside rest) =
        ending_followed (t.place ∷ places inside) (places rest) (declaring t (survey inside)) (survey rest) (IsDeclaring t (IsRun inside)) (IsRun rest) (piece_declaring F R sure t inside) (piece_nodes F R sure rest)
        (ending_declaring t (places inside) (survey inside) (IsRun inside) (ending_nodes inside)) (ending_nodes rest)
    ending_nodes (opens place n inside rest) =
        ending_followed (place ∷ places inside) (places rest) (opening place n (survey inside)) (survey rest) (IsOpening place n (IsRun inside)) (IsRun rest) (piece_opening F R sure place n inside)
        (piece_nodes F R sure rest) (ending_opening place n (places inside) (survey inside) (IsRun inside) (ending_nodes inside)) (ending_nodes rest)
    ending_nodes (branch place first other rest) =
        ending_followed (place ∷ (places first ++ places other)) (places rest) (branching place (survey first) (survey other)) (survey rest) (IsBranching place (IsRun first) (IsRun other)) (IsRun rest)
        (piece_branching F R sure place first other) (piece_nodes F R sure rest)
        (ending_branching place (places first) (places other) (survey first) (survey other) (IsRun first) (IsRun other) (piece_nodes F R sure first) (piece_nodes F R sure other) (ending_nodes first) (ending_nodes other))
        (ending_nodes rest)
    ending_nodes (loop place body rest) =
        ending_followed (place ∷ places body) (places rest) (looping place (survey body)) (survey rest) (IsLooping place (IsRun body)) (IsRun rest) (piece_looping F R sure place body) (piece_nodes F R sure rest)
        (ending_looping place (places body) (survey body) (IsRun body) (piece_nodes F R sure body) (ending_nodes body)) (ending_nodes rest)
    ending_nodes (stop place kind rest) =
        ending_followed (place ∷ []) (places rest) (stopping place kind) (survey rest) (IsStopping place kind) (IsRun rest) (piece_stopping F R sure place kind) (piece_nodes F R sure rest)
        (ending_stopping place kind) (ending_nodes rest)
