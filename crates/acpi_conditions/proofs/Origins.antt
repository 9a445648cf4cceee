-- The terms of entries, and the turns of their ways, are those of the nodes.
use Rattle.std.proofs.Common.{◌≡◌, List, [], ◌∷◌, ◌++◌, map, ◌⊎◌, inl, inr, Bool, true, false, cond, refl, sym, subst, Result, Ok, Err}
use Rattle.std.specs.List.{AllByRecursion}
use Rattle.acpi_name.specs.Names.{NameParts}
use Rattle.acpi_space.specs.Laws.{Among}
use Rattle.acpi_space.proofs.Elements.{among_left, among_right, among_append, all_append}
use Rattle.acpi_conditions.specs.Nodes.{Place, Term, Stop, Nodes, no_nodes, declares, opens, branch, loop, stop}
use Rattle.acpi_conditions.specs.Entries.{Path, Turn, then_branch, else_branch, in_round, within, past, asks_nothing, Entry, Why, StopAt}
use Rattle.acpi_conditions.specs.Known.{Known, is_certain_scope, declared_at, opened_at}
use Rattle.acpi_conditions.specs.Survey.{Around, turning, at_root, Survey, Surveying, behind, passing, joined, followed_by, entry_at, inside_of, known_inside, declaring_as, declaring, inside_scope, known_in_scope, opening_as, opening, branching, leaves_table, known_in_loop, looping, stopping, behind_table, table_survey, surveys, all_entries, survey}
use Rattle.acpi_conditions.proofs.Basics.{among_nothing}
use Rattle.acpi_conditions.proofs.EntryWays.{unfiltered}

-- Terms are so, and turns; those into a Scope, the first branch of an If or the body of a While, if something stands
-- there; those into a term, if its entry asks something. F are all entries.
module _ (F : List Entry) (IsTerm : Term → Type 0) (IsTurn : Turn → Type 0) (asking : (e : Entry) → Among F e → IsTerm e.term → asks_nothing e.asks ≡ false → IsTurn (within e.term.place)) where
  abbrev pub AreSo : Nodes → Type 0
  AreSo no_nodes = Unit {0}
  AreSo (declares t inside rest) = IsTerm t × AreSo inside × AreSo rest
  AreSo (opens place n inside rest) = ((inside ≡ no_nodes) ⊎ IsTurn (within place)) × AreSo inside × AreSo rest
  AreSo (branch place first other rest) =
      ((first ≡ no_nodes) ⊎ IsTurn (then_branch place)) × IsTurn (else_branch place) × AreSo first × AreSo other × AreSo rest
  AreSo (loop place body rest) = ((body ≡ no_nodes) ⊎ IsTurn (in_round place)) × AreSo body × AreSo rest
  AreSo (stop place kind rest) = IsTurn (past place) × AreSo rest

  -- so it is of entries and stops
  pub record Come (x : Survey) : Type 0 where
    pub terms : (e : Entry) → Among x.entries e → IsTerm e.term
    pub turns : (e : Entry) → Among x.entries e → AllByRecursion IsTurn e.way
    pub stops : (m : StopAt) → Among x.stops m → IsTurn (past m.place)

  abbrev pub AreAmong : List Entry → Type 0
  AreAmong es = (e : Entry) → Among es e → Among F e

  abbrev pub IsComing : Surveying → Type 0
  IsComing x = (a : Around) (k : Known) → AllByRecursion IsTurn a.way → AreAmong (x a k).entries → Come (x a k)

  both_come : (x y : Survey) → Come x → Come y → Come (joined x y)
  both_come x y h n = record {
    terms = λ e m. term e (among_append x.entries y.entries e m);
    turns = λ e m. turn e (among_append x.entries y.entries e m);
    stops = λ s m. stop_at s (among_append x.stops y.stops s m);
  }
    where
      term : (e : Entry) → Among x.entries e ⊎ Among y.entries e → IsTerm e.term
      term e (inl m) = h.terms e m
      term e (inr m) = n.terms e m

      turn : (e : Entry) → Among x.entries e ⊎ Among y.entries e → AllByRecursion IsTurn e.way
      turn e (inl m) = h.turns e m
      turn e (inr m) = n.turns e m

      stop_at : (s : StopAt) → Among x.stops s ⊎ Among y.stops s → IsTurn (past s.place)
      stop_at s (inl m) = h.stops s m
      stop_at s (inr m) = n.stops s m

  all_past : (ms : List StopAt) → ((m : StopAt) → Among ms m → IsTurn (past m.place)) → AllByRecursion IsTurn (map (λ s. past s.place) ms)
  all_past [] h = tt
  all_past (m ∷ ms) h = (h m (inl refl), all_past ms (λ n is. h n (inr is)))

  maybe_turned : (w : List Turn) (b : Bool) (turn : Turn) → AllByRecursion IsTurn w → (b ≡ false → IsTurn turn) → AllByRecursion IsTurn (w ++ cond b [] (turn ∷ []))
  maybe_turned w true turn h is = all_append IsTurn w [] h tt
  maybe_turned w false turn h is = all_append IsTurn w (turn ∷ []) h (is refl, tt)

  turned : (w : List Turn) (turn : Turn) → AllByRecursion IsTurn w → IsTurn turn → AllByRecursion IsTurn (w ++ turn ∷ [])
  turned w turn h is = all_append IsTurn w (turn ∷ []) h (is, tt)

  coming_followed : (here rest : Surveying) → IsComing here → IsComing rest → IsComing (followed_by here rest)
  coming_followed here rest ch cr a k way c =
      let x : Survey = here a k in
      let y : Survey = rest (passing a x) (behind k x) in
      let h : Come x = ch a k way (λ e m. c e (among_left x.entries y.entries e m)) in
      both_come x y h (cr (passing a x) (behind k x) (all_append IsTurn a.way (map (λ s. past s.place) x.stops) way (all_past x.stops h.stops)) (λ e m. c e (among_right x.entries y.entries e m)))

  own_comes : (own : Entry) (x : Survey) → Come x → IsTerm own.term → AllByRecursion IsTurn own.way → Come (record x { entries = own ∷ x.entries })
  own_comes own x under is way = record { terms = λ e m. term e m; turns = λ e m. turn e m; stops = under.stops }
    where
      term : (e : Entry) → Among (own ∷ x.entries) e → IsTerm e.term
      term e (inl same) = subst (λ (e : Entry). IsTerm e.term) same is
      term e (inr m) = under.terms e m

      turn : (e : Entry) → Among (own ∷ x.entries) e → AllByRecursion IsTurn e.way
      turn e (inl same) = subst (λ (e : Entry). AllByRecursion IsTurn e.way) same way
      turn e (inr m) = under.turns e m

  none_come : (x : Survey) → x.entries ≡ [] → x.stops ≡ [] → Come x
  none_come x none off = record { terms = λ e m. absurd (among_nothing x.entries e none m); turns = λ e m. absurd (among_nothing x.entries e none m); stops = λ s m. absurd (among_nothing x.stops s off m) }

  coming_declaring : (t : Term) (inside : Surveying) → IsTerm t → IsComing inside → IsComing (declaring t inside)
  coming_declaring t inside is ci a k way c = by (declared_at k a.scope t.name) c
    where
      by : (r : Result Path Why) → AreAmong (declaring_as t inside a k r).entries → Come (declaring_as t inside a k r)
      by (Err why) c = none_come (declaring_as t inside a k (Err why)) refl refl
      by (Ok p) c =
          let own : Entry = entry_at a k t p in
          let x : Survey = inside (inside_of own) (known_inside k own) in
          let under : Come x = ci (inside_of own) (known_inside k own) (maybe_turned a.way (asks_nothing own.asks) (within t.place) way (λ asks. asking own (c own (inl refl)) is asks)) (λ e m. c e (inr m)) in
          let all = own_comes own x under is way in
          record { terms = all.terms; turns = all.turns; stops = all.stops }

  -- nodes behind a turn, if there are any
  coming_behind : (ns : Nodes) → IsComing (survey ns) → (turn : Turn) → (ns ≡ no_nodes) ⊎ IsTurn turn → (a : Around) (k : Known) (w : List Turn) → AllByRecursion IsTurn w
      → (IsTurn turn → AllByRecursion IsTurn a.way) → AreAmong (survey ns a k).entries → Come (survey ns a k)
  coming_behind ns cn turn (inr is) a k w way on c = cn a k (on is) c
  coming_behind ns cn turn (inl none) a k w way on c = subst (λ (ns : Nodes). Come (survey ns a k)) (sym none) (none_come (survey no_nodes a k) refl refl)

  coming_opening : (place : Place) (n : NameParts) (inside : Nodes) → (inside ≡ no_nodes) ⊎ IsTurn (within place) → IsComing (survey inside) → IsComing (opening place n (survey inside))
  coming_opening place n inside turn ci a k way c = by (opened_at k a.scope n) c
    where
      by : (r : Result Path Why) → AreAmong (opening_as place (survey inside) a k r).entries → Come (opening_as place (survey inside) a k r)
      by (Err why) c = none_come (opening_as place (survey inside) a k (Err why)) refl refl
      by (Ok p) c =
          let under : Come (survey inside (inside_scope place a k p) (known_in_scope k p)) =
          coming_behind inside ci (within place) turn (inside_scope place a k p) (known_in_scope k p) a.way way (λ is. maybe_turned a.way (is_certain_scope k p) (within place) way (λ _. is)) c in
          record { terms = under.terms; turns = under.turns; stops = under.stops }

  coming_branching : (place : Place) (first other : Nodes) → (first ≡ no_nodes) ⊎ IsTurn (then_branch place) → IsTurn (else_branch place) → IsComing (survey first) → IsComing (survey other)
      → IsComing (branching place (survey first) (survey other))
  coming_branching place first other turn turn' cf co a k way c =
      let x : Survey = survey first (turning a (then_branch place)) k in
      let y : Survey = survey other (turning a (else_branch place)) k in
      let h : Come x = coming_behind first cf (then_branch place) turn (turning a (then_branch place)) k a.way way (λ is. turned a.way (then_branch place) way is) (λ e m. c e (among_left x.entries y.entries e m)) in
      let n : Come y = co (turning a (else_branch place)) k (turned a.way (else_branch place) way turn') (λ e m. c e (among_right x.entries y.entries e m)) in
      let all : Come (joined x y) = both_come x y h n in
      record { terms = all.terms; turns = all.turns; stops = all.stops }

  coming_looping : (place : Place) (body : Nodes) → (body ≡ no_nodes) ⊎ IsTurn (in_round place) → IsComing (survey body) → IsComing (looping place (survey body))
  coming_looping place body turn cb a k way c =
      let x : Survey = survey body (turning a (in_round place)) (known_in_loop k) in
      let all : Come x = coming_behind body cb (in_round place) turn (turning a (in_round place)) (known_in_loop k) a.way way (λ is. turned a.way (in_round place) way is) c in
      record { terms = all.terms; turns = all.turns; stops = λ s m. all.stops s (unfiltered (λ (s : StopAt). leaves_table s.kind) x.stops s m) }

  coming_stopping : (place : Place) (kind : Stop) → IsTurn (past place) → IsComing (stopping place kind)
  coming_stopping place kind turn a k way c = record { terms = λ e m. absurd m; turns = λ e m. absurd m; stops = λ s m. one s m }
    where
      one : (s : StopAt) → Among (record { place = place; kind = kind } ∷ []) s → IsTurn (past s.place)
      one s (inl same) = subst (λ (s : StopAt). IsTurn (past s.place)) same turn
      one s (inr m) = absurd m

  coming_nodes : (ns : Nodes) → AreSo ns → IsComing (survey ns)
  coming_nodes no_nodes h = λ a k way c. none_come (survey no_nodes a k) refl refl
  coming_nodes (declares t inside rest) h =
      coming_followed (declaring t (survey inside)) (survey rest) (coming_declaring t (survey inside) h.0 (coming_nodes inside h.1)) (coming_nodes rest h.2)
  coming_nodes (opens place n inside rest) h =
      coming_followed (opening place n (survey inside)) (survey rest) (coming_opening place n inside h.0 (coming_nodes inside h.1)) (coming_nodes rest h.2)
  coming_nodes (branch place first other rest) h =
      coming_followed (branching place (survey first) (survey other)) (survey rest) (coming_branching place first other h.0 h.1 (coming_nodes first h.2) (coming_nodes other h.3)) (coming_nodes rest h.4)
  coming_nodes (loop place body rest) h = coming_followed (looping place (survey body)) (survey rest) (coming_looping place body h.0 (coming_nodes body h.1)) (coming_nodes rest h.2)
  coming_nodes (stop place kind rest) h = coming_followed (stopping place kind) (survey rest) (coming_stopping place kind h.0) (coming_nodes rest h.1)

  pub coming_tables : (k : Known) (ts : List Nodes) → AllByRecursion AreSo ts → AreAmong (all_entries (surveys k ts)) → (e : Entry) → Among (all_entries (surveys k ts)) e → IsTerm e.term × AllByRecursion IsTurn e.way
  coming_tables k [] h c e m = absurd m
  coming_tables k (t ∷ ts) h c e m =
      let x : Survey = table_survey k t in
      let ys : List Entry = all_entries (surveys (behind_table k x) ts) in
      let first : Come x = coming_nodes t h.0 at_root k tt (λ e m. c e (among_left x.entries ys e m)) in
      by x ys first (coming_tables (behind_table k x) ts h.1 (λ e m. c e (among_right x.entries ys e m)) e) (among_append x.entries ys e m)
    where
      by : (x : Survey) (ys : List Entry) → Come x → (Among ys e → IsTerm e.term × AllByRecursion IsTurn e.way) → Among x.entries e ⊎ Among ys e → IsTerm e.term × AllByRecursion IsTurn e.way
      by x ys first more (inl m) = (first.terms e m, first.turns e m)
      by x ys first more (inr m) = more m
