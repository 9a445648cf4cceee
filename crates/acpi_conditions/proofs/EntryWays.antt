-- The ways of entries begin with the way to the nodes that give them, and stops stand where the nodes stand.
use Rattle.std.proofs.Common.{◌≡◌, Bool, true, false, cond, List, [], ◌∷◌, ◌++◌, map, ◌⊎◌, inl, inr, refl, sym, ap, subst, Result, Ok, Err}
use Rattle.std.specs.List.{filter}
use Rattle.acpi_name.specs.Names.{NameParts}
use Rattle.acpi_space.specs.Laws.{Among}
use Rattle.acpi_space.proofs.Elements.{among_left, among_right, among_append}
use Rattle.acpi_conditions.specs.Nodes.{Place, Term, Stop, Nodes, no_nodes, declares, opens, branch, loop, stop, places}
use Rattle.acpi_conditions.specs.Entries.{Path, Turn, then_branch, else_branch, in_round, within, past, asks_nothing, Entry, Why, StopAt}
use Rattle.acpi_conditions.specs.Known.{Known, is_certain_scope, declared_at, opened_at}
use Rattle.acpi_conditions.specs.Survey.{Around, turning, Surveying, behind, passing, followed_by, entry_at, inside_of, known_inside, declaring_as, declaring, inside_scope, known_in_scope, opening_as, opening, branching, leaves_table, known_in_loop, looping, stopping, survey}
use Rattle.acpi_conditions.specs.Laws.{turn_place}

abbrev pub IsExtended : Surveying → Type 0
IsExtended x = (a : Around) (k : Known) (e : Entry) → Among (x a k).entries e → (turn : Turn) → Among a.way turn → Among e.way turn

extended_followed : (here rest : Surveying) → IsExtended here → IsExtended rest → IsExtended (followed_by here rest)
extended_followed here rest eh er a k e m turn is = by (among_append (here a k).entries (rest (passing a (here a k)) (behind k (here a k))).entries e m)
  where
    by : Among (here a k).entries e ⊎ Among (rest (passing a (here a k)) (behind k (here a k))).entries e → Among e.way turn
    by (inl m) = eh a k e m turn is
    by (inr m) = er (passing a (here a k)) (behind k (here a k)) e m turn (among_left a.way (map (λ s. past s.place) (here a k).stops) turn is)

pub extended_declaring : (t : Term) (inside : Surveying) → IsExtended inside → IsExtended (declaring t inside)
extended_declaring t inside ei a k e m turn is = by (declared_at k a.scope t.name) m
  where
    by : (r : Result Path Why) → Among (declaring_as t inside a k r).entries e → Among e.way turn
    by (Err why) m = absurd m
    by (Ok p) (inl same) = subst (λ (e : Entry). Among e.way turn) same is
    by (Ok p) (inr m) =
        ei (inside_of (entry_at a k t p)) (known_inside k (entry_at a k t p)) e m turn (among_left a.way (cond (asks_nothing (entry_at a k t p).asks) [] (within t.place ∷ [])) turn is)

pub extended_opening : (place : Place) (n : NameParts) (inside : Surveying) → IsExtended inside → IsExtended (opening place n inside)
extended_opening place n inside ei a k e m turn is = by (opened_at k a.scope n) m
  where
    by : (r : Result Path Why) → Among (opening_as place inside a k r).entries e → Among e.way turn
    by (Err why) m = absurd m
    by (Ok p) m = ei (inside_scope place a k p) (known_in_scope k p) e m turn (among_left a.way (cond (is_certain_scope k p) [] (within place ∷ [])) turn is)

pub extended_branching : (place : Place) (first other : Surveying) → IsExtended first → IsExtended other → IsExtended (branching place first other)
extended_branching place first other ef eo a k e m turn is = by (among_append (first (turning a (then_branch place)) k).entries (other (turning a (else_branch place)) k).entries e m)
  where
    by : Among (first (turning a (then_branch place)) k).entries e ⊎ Among (other (turning a (else_branch place)) k).entries e → Among e.way turn
    by (inl m) = ef (turning a (then_branch place)) k e m turn (among_left a.way (then_branch place ∷ []) turn is)
    by (inr m) = eo (turning a (else_branch place)) k e m turn (among_left a.way (else_branch place ∷ []) turn is)

pub extended_looping : (place : Place) (body : Surveying) → IsExtended body → IsExtended (looping place body)
extended_looping place body eb a k e m turn is = eb (turning a (in_round place)) (known_in_loop k) e m turn (among_left a.way (in_round place ∷ []) turn is)

pub extended_nodes : (ns : Nodes) → IsExtended (survey ns)
extended_nodes no_nodes = λ a k e m turn is. absurd m
extended_nodes (declares t inside rest) = extended_followed (declaring t (survey inside)) (survey rest) (extended_declaring t (survey inside) (extended_nodes inside)) (extended_nodes rest)
extended_nodes (opens place n inside rest) = extended_followed (opening place n (survey inside)) (survey rest) (extended_opening place n (survey inside) (extended_nodes inside)) (extended_nodes rest)
extended_nodes (branch place first other rest) =
    extended_followed (branching place (survey first) (survey other)) (survey rest) (extended_branching place (survey first) (survey other) (extended_nodes first) (extended_nodes other)) (extended_nodes rest)
extended_nodes (loop place body rest) = extended_followed (looping place (survey body)) (survey rest) (extended_looping place (survey body) (extended_nodes body)) (extended_nodes rest)
extended_nodes (stop place kind rest) = extended_followed (stopping place kind) (survey rest) (λ a k e m turn is. absurd m) (extended_nodes rest)

-- ---- stops

abbrev pub IsStopping : List Place → Surveying → Type 0
IsStopping ps x = (a : Around) (k : Known) (m : StopAt) → Among (x a k).stops m → Among ps m.place

stopping_followed : (ps qs : List Place) (here rest : Surveying) → IsStopping ps here → IsStopping qs rest → IsStopping (ps ++ qs) (followed_by here rest)
stopping_followed ps qs here rest sh sr a k m is = by (among_append (here a k).stops (rest (passing a (here a k)) (behind k (here a k))).stops m is)
  where
    by : Among (here a k).stops m ⊎ Among (rest (passing a (here a k)) (behind k (here a k))).stops m → Among (ps ++ qs) m.place
    by (inl is) = among_left ps qs m.place (sh a k m is)
    by (inr is) = among_right ps qs m.place (sr (passing a (here a k)) (behind k (here a k)) m is)

pub stopping_declaring : (t : Term) (qs : List Place) (inside : Surveying) → IsStopping qs inside → IsStopping (t.place ∷ qs) (declaring t inside)
stopping_declaring t qs inside si a k m is = by (declared_at k a.scope t.name) is
  where
    by : (r : Result Path Why) → Among (declaring_as t inside a k r).stops m → Among (t.place ∷ qs) m.place
    by (Err why) is = absurd is
    by (Ok p) is = inr (si (inside_of (entry_at a k t p)) (known_inside k (entry_at a k t p)) m is)

pub stopping_opening : (place : Place) (n : NameParts) (qs : List Place) (inside : Surveying) → IsStopping qs inside → IsStopping (place ∷ qs) (opening place n inside)
stopping_opening place n qs inside si a k m is = by (opened_at k a.scope n) is
  where
    by : (r : Result Path Why) → Among (opening_as place inside a k r).stops m → Among (place ∷ qs) m.place
    by (Err why) is = absurd is
    by (Ok p) is = inr (si (inside_scope place a k p) (known_in_scope k p) m is)

pub stopping_branching : (place : Place) (fs os : List Place) (first other : Surveying) → IsStopping fs first → IsStopping os other → IsStopping (place ∷ (fs ++ os)) (branching place first other)
stopping_branching place fs os first other sf so a k m is = inr (by (among_append (first (turning a (then_branch place)) k).stops (other (turning a (else_branch place)) k).stops m is))
  where
    by : Among (first (turning a (then_branch place)) k).stops m ⊎ Among (other (turning a (else_branch place)) k).stops m → Among (fs ++ os) m.place
    by (inl is) = among_left fs os m.place (sf (turning a (then_branch place)) k m is)
    by (inr is) = among_right fs os m.place (so (turning a (else_branch place)) k m is)

pub unfiltered : {X : Type 0} (test : X → Bool) (xs : List X) (x : X) → Among (filter test xs) x → Among xs x
unfiltered test [] x m = m
unfiltered test (y ∷ xs) x m = by (test y) m (unfiltered test xs x)
  where
    by : (b : Bool) → Among (cond b (y ∷ filter test xs) (filter test xs)) x → (Among (filter test xs) x → Among xs x) → Among (y ∷ xs) x
    by true (inl same) ih = inl same
    by true (inr m) ih = inr (ih m)
    by false m ih = inr (ih m)

pub stopping_looping : (place : Place) (bs : List Place) (body : Surveying) → IsStopping bs body → IsStopping (place ∷ bs) (looping place body)
stopping_looping place bs body sb a k m is =
    inr (sb (turning a (in_round place)) (known_in_loop k) m (unfiltered (λ (s : StopAt). leaves_table s.kind) (body (turning a (in_round place)) (known_in_loop k)).stops m is))

pub stopping_stop : (place : Place) (kind : Stop) → IsStopping (place ∷ []) (stopping place kind)
stopping_stop place kind a k m (inl same) = inl (ap (λ (m : StopAt). m.place) same)
stopping_stop place kind a k m (inr is) = absurd is

pub stopping_nodes : (ns : Nodes) → IsStopping (places ns) (survey ns)
stopping_nodes no_nodes = λ a k m is. is
stopping_nodes (declares t inside rest) =
    stopping_followed (t.place ∷ places inside) (places rest) (declaring t (survey inside)) (survey rest) (stopping_declaring t (places inside) (survey inside) (stopping_nodes inside)) (stopping_nodes rest)
stopping_nodes (opens place n inside rest) =
    stopping_followed (place ∷ places inside) (places rest) (opening place n (survey inside)) (survey rest) (stopping_opening place n (places inside) (survey inside) (stopping_nodes inside)) (stopping_nodes rest)
stopping_nodes (branch place first other rest) =
    stopping_followed (place ∷ (places first ++ places other)) (places rest) (branching place (survey first) (survey other)) (survey rest)
    (stopping_branching place (places first) (places other) (survey first) (survey other) (stopping_nodes first) (stopping_nodes other)) (stopping_nodes rest)
stopping_nodes (loop place body rest) =
    stopping_followed (place ∷ places body) (places rest) (looping place (survey body)) (survey rest) (stopping_looping place (places body) (survey body) (stopping_nodes body)) (stopping_nodes rest)
stopping_nodes (stop place kind rest) = stopping_followed (place ∷ []) (places rest) (stopping place kind) (survey rest) (stopping_stop place kind) (stopping_nodes rest)

-- ---- terms, and turns of ways

abbrev pub ArePlaced : List Place → Surveying → Type 0
ArePlaced ps x = (a : Around) (k : Known) (e : Entry) → Among (x a k).entries e → Among ps e.term.place

-- a turn of an entry's way is one of those around, or one at these places
abbrev pub AreWays : List Place → Surveying → Type 0
AreWays ps x = (a : Around) (k : Known) (e : Entry) → Among (x a k).entries e → (turn : Turn) → Among e.way turn → Among a.way turn ⊎ Among ps (turn_place turn)

placed_followed : (ps qs : List Place) (here rest : Surveying) → ArePlaced ps here → ArePlaced qs rest → ArePlaced (ps ++ qs) (followed_by here rest)
placed_followed ps qs here rest ph pr a k e m = by (among_append (here a k).entries (rest (passing a (here a k)) (behind k (here a k))).entries e m)
  where
    by : Among (here a k).entries e ⊎ Among (rest (passing a (here a k)) (behind k (here a k))).entries e → Among (ps ++ qs) e.term.place
    by (inl m) = among_left ps qs e.term.place (ph a k e m)
    by (inr m) = among_right ps qs e.term.place (pr (passing a (here a k)) (behind k (here a k)) e m)

pub placed_declaring : (t : Term) (qs : List Place) (inside : Surveying) → ArePlaced qs inside → ArePlaced (t.place ∷ qs) (declaring t inside)
placed_declaring t qs inside pi a k e m = by (declared_at k a.scope t.name) m
  where
    by : (r : Result Path Why) → Among (declaring_as t inside a k r).entries e → Among (t.place ∷ qs) e.term.place
    by (Err why) m = absurd m
    by (Ok p) (inl same) = inl (ap (λ (e : Entry). e.term.place) same)
    by (Ok p) (inr m) = inr (pi (inside_of (entry_at a k t p)) (known_inside k (entry_at a k t p)) e m)

pub placed_opening : (place : Place) (n : NameParts) (qs : List Place) (inside : Surveying) → ArePlaced qs inside → ArePlaced (place ∷ qs) (opening place n inside)
placed_opening place n qs inside pi a k e m = by (opened_at k a.scope n) m
  where
    by : (r : Result Path Why) → Among (opening_as place inside a k r).entries e → Among (place ∷ qs) e.term.place
    by (Err why) m = absurd m
    by (Ok p) m = inr (pi (inside_scope place a k p) (known_in_scope k p) e m)

pub placed_branching : (place : Place) (fs os : List Place) (first other : Surveying) → ArePlaced fs first → ArePlaced os other → ArePlaced (place ∷ (fs ++ os)) (branching place first other)
placed_branching place fs os first other pf po a k e m = inr (by (among_append (first (turning a (then_branch place)) k).entries (other (turning a (else_branch place)) k).entries e m))
  where
    by : Among (first (turning a (then_branch place)) k).entries e ⊎ Among (other (turning a (else_branch place)) k).entries e → Among (fs ++ os) e.term.place
    by (inl m) = among_left fs os e.term.place (pf (turning a (then_branch place)) k e m)
    by (inr m) = among_right fs os e.term.place (po (turning a (else_branch place)) k e m)

pub placed_looping : (place : Place) (bs : List Place) (body : Surveying) → ArePlaced bs body → ArePlaced (place ∷ bs) (looping place body)
placed_looping place bs body pb a k e m = inr (pb (turning a (in_round place)) (known_in_loop k) e m)

pub placed_nodes : (ns : Nodes) → ArePlaced (places ns) (survey ns)
placed_nodes no_nodes = λ a k e m. m
placed_nodes (declares t inside rest) =
    placed_followed (t.place ∷ places inside) (places rest) (declaring t (survey inside)) (survey rest) (placed_declaring t (places inside) (survey inside) (placed_nodes inside)) (placed_nodes rest)
placed_nodes (opens place n inside rest) =
    placed_followed (place ∷ places inside) (places rest) (opening place n (survey inside)) (survey rest) (placed_opening place n (places inside) (survey inside) (placed_nodes inside)) (placed_nodes rest)
placed_nodes (branch place first other rest) =
    placed_followed (place ∷ (places first ++ places other)) (places rest) (branching place (survey first) (survey other)) (survey rest)
    (placed_branching place (places first) (places other) (survey first) (survey other) (placed_nodes first) (placed_nodes other)) (placed_nodes rest)
placed_nodes (loop place body rest) =
    placed_followed (place ∷ places body) (places rest) (looping place (survey body)) (survey rest) (placed_looping place (places body) (survey body) (placed_nodes body)) (placed_nodes rest)
placed_nodes (stop place kind rest) = placed_followed (place ∷ []) (places rest) (stopping place kind) (survey rest) (λ a k e m. absurd m) (placed_nodes rest)

past_of : (ms : List StopAt) (turn : Turn) → Among (map (λ s. past s.place) ms) turn → (m : StopAt) × Among ms m × (past m.place ≡ turn)
past_of [] turn m = absurd m
past_of (n ∷ ms) turn (inl same) = (n, inl refl, same)
past_of (n ∷ ms) turn (inr m) = let r = past_of ms turn m in (r.0, inr r.1, r.2)

pub passing_way : (ps : List Place) (here : Surveying) → IsStopping ps here → (a : Around) (k : Known) (turn : Turn) → Among (passing a (here a k)).way turn
    → Among a.way turn ⊎ ((m : StopAt) × Among (here a k).stops m × (past m.place ≡ turn) × Among ps m.place)
passing_way ps here sh a k turn m = by (among_append a.way (map (λ s. past s.place) (here a k).stops) turn m)
  where
    by : Among a.way turn ⊎ Among (map (λ s. past s.place) (here a k).stops) turn → Among a.way turn ⊎ ((m : StopAt) × Among (here a k).stops m × (past m.place ≡ turn) × Among ps m.place)
    by (inl m) = inl m
    by (inr m) = let r = past_of (here a k).stops turn m in inr (r.0, r.1, r.2, sh a k r.0 r.1)

ways_followed : (ps qs : List Place) (here rest : Surveying) → IsStopping ps here → AreWays ps here → AreWays qs rest → AreWays (ps ++ qs) (followed_by here rest)
ways_followed ps qs here rest sh wh wr a k e m turn is = by (among_append (here a k).entries (rest (passing a (here a k)) (behind k (here a k))).entries e m)
  where
    mine : Among a.way turn ⊎ Among ps (turn_place turn) → Among a.way turn ⊎ Among (ps ++ qs) (turn_place turn)
    mine (inl m) = inl m
    mine (inr m) = inr (among_left ps qs (turn_place turn) m)

    around : Among a.way turn ⊎ ((m : StopAt) × Among (here a k).stops m × (past m.place ≡ turn) × Among ps m.place) → Among a.way turn ⊎ Among (ps ++ qs) (turn_place turn)
    around (inl m) = inl m
    around (inr s) = inr (among_left ps qs (turn_place turn) (subst (λ (turn : Turn). Among ps (turn_place turn)) s.2 s.3))

    later : Among (passing a (here a k)).way turn ⊎ Among qs (turn_place turn) → Among a.way turn ⊎ Among (ps ++ qs) (turn_place turn)
    later (inl m) = around (passing_way ps here sh a k turn m)
    later (inr m) = inr (among_right ps qs (turn_place turn) m)

    by : Among (here a k).entries e ⊎ Among (rest (passing a (here a k)) (behind k (here a k))).entries e → Among a.way turn ⊎ Among (ps ++ qs) (turn_place turn)
    by (inl m) = mine (wh a k e m turn is)
    by (inr m) = later (wr (passing a (here a k)) (behind k (here a k)) e m turn is)

-- some turns more around, all at one place
turned_way : (w more : List Turn) (place : Place) (qs : List Place) (turn : Turn) → ((t : Turn) → Among more t → turn_place t ≡ place) → Among (w ++ more) turn ⊎ Among qs (turn_place turn)
    → Among w turn ⊎ Among (place ∷ qs) (turn_place turn)
turned_way w more place qs turn at (inr m) = inr (inr m)
turned_way w more place qs turn at (inl m) = by (among_append w more turn m)
  where
    by : Among w turn ⊎ Among more turn → Among w turn ⊎ Among (place ∷ qs) (turn_place turn)
    by (inl m) = inl m
    by (inr m) = inr (inl (sym (at turn m)))

maybe_at : (b : Bool) (place : Place) (t : Turn) → Among (cond b [] (within place ∷ [])) t → turn_place t ≡ place
maybe_at true place t m = absurd m
maybe_at false place t (inl same) = ap turn_place (sym same)
maybe_at false place t (inr m) = absurd m

one_at : (turn t : Turn) → Among (turn ∷ []) t → turn_place t ≡ turn_place turn
one_at turn t (inl same) = ap turn_place (sym same)
one_at turn t (inr m) = absurd m

pub ways_declaring : (t : Term) (qs : List Place) (inside : Surveying) → AreWays qs inside → AreWays (t.place ∷ qs) (declaring t inside)
ways_declaring t qs inside wi a k e m turn is = by (declared_at k a.scope t.name) m
  where
    by : (r : Result Path Why) → Among (declaring_as t inside a k r).entries e → Among a.way turn ⊎ Among (t.place ∷ qs) (turn_place turn)
    by (Err why) m = absurd m
    by (Ok p) (inl same) = inl (subst (λ (e : Entry). Among e.way turn) (sym same) is)
    by (Ok p) (inr m) = turned_way a.way (cond (asks_nothing (entry_at a k t p).asks) [] (within t.place ∷ [])) t.place qs turn (maybe_at (asks_nothing (entry_at a k t p).asks) t.place)
        (wi (inside_of (entry_at a k t p)) (known_inside k (entry_at a k t p)) e m turn is)

pub ways_opening : (place : Place) (n : NameParts) (qs : List Place) (inside : Surveying) → AreWays qs inside → AreWays (place ∷ qs) (opening place n inside)
ways_opening place n qs inside wi a k e m turn is = by (opened_at k a.scope n) m
  where
    by : (r : Result Path Why) → Among (opening_as place inside a k r).entries e → Among a.way turn ⊎ Among (place ∷ qs) (turn_place turn)
    by (Err why) m = absurd m
    by (Ok p) m = turned_way a.way (cond (is_certain_scope k p) [] (within place ∷ [])) place qs turn (maybe_at (is_certain_scope k p) place)
        (wi (inside_scope place a k p) (known_in_scope k p) e m turn is)

pub ways_branching : (place : Place) (fs os : List Place) (first other : Surveying) → AreWays fs first → AreWays os other → AreWays (place ∷ (fs ++ os)) (branching place first other)
ways_branching place fs os first other wf wo a k e m turn is = by (among_append (first (turning a (then_branch place)) k).entries (other (turning a (else_branch place)) k).entries e m)
  where
    left_of : Among a.way turn ⊎ Among (place ∷ fs) (turn_place turn) → Among a.way turn ⊎ Among (place ∷ (fs ++ os)) (turn_place turn)
    left_of (inl m) = inl m
    left_of (inr (inl same)) = inr (inl same)
    left_of (inr (inr m)) = inr (inr (among_left fs os (turn_place turn) m))

    right_of : Among a.way turn ⊎ Among (place ∷ os) (turn_place turn) → Among a.way turn ⊎ Among (place ∷ (fs ++ os)) (turn_place turn)
    right_of (inl m) = inl m
    right_of (inr (inl same)) = inr (inl same)
    right_of (inr (inr m)) = inr (inr (among_right fs os (turn_place turn) m))

    by : Among (first (turning a (then_branch place)) k).entries e ⊎ Among (other (turning a (else_branch place)) k).entries e → Among a.way turn ⊎ Among (place ∷ (fs ++ os)) (turn_place turn)
    by (inl m) = left_of (turned_way a.way (then_branch place ∷ []) place fs turn (one_at (then_branch place)) (wf (turning a (then_branch place)) k e m turn is))
    by (inr m) = right_of (turned_way a.way (else_branch place ∷ []) place os turn (one_at (else_branch place)) (wo (turning a (else_branch place)) k e m turn is))

pub ways_looping : (place : Place) (bs : List Place) (body : Surveying) → AreWays bs body → AreWays (place ∷ bs) (looping place body)
ways_looping place bs body wb a k e m turn is = turned_way a.way (in_round place ∷ []) place bs turn (one_at (in_round place)) (wb (turning a (in_round place)) (known_in_loop k) e m turn is)

pub ways_nodes : (ns : Nodes) → AreWays (places ns) (survey ns)
ways_nodes no_nodes = λ a k e m turn is. absurd m
ways_nodes (declares t inside rest) =
    ways_followed (t.place ∷ places inside) (places rest) (declaring t (survey inside)) (survey rest) (stopping_declaring t (places inside) (survey inside) (stopping_nodes inside))
    (ways_declaring t (places inside) (survey inside) (ways_nodes inside)) (ways_nodes rest)
ways_nodes (opens place n inside rest) =
    ways_followed (place ∷ places inside) (places rest) (opening place n (survey inside)) (survey rest) (stopping_opening place n (places inside) (survey inside) (stopping_nodes inside))
    (ways_opening place n (places inside) (survey inside) (ways_nodes inside)) (ways_nodes rest)
ways_nodes (branch place first other rest) =
    ways_followed (place ∷ (places first ++ places other)) (places rest) (branching place (survey first) (survey other)) (survey rest)
    (stopping_branching place (places first) (places other) (survey first) (survey other) (stopping_nodes first) (stopping_nodes other))
    (ways_branching place (places first) (places other) (survey first) (survey other) (ways_nodes first) (ways_nodes other)) (ways_nodes rest)
ways_nodes (loop place body rest) =
    ways_followed (place ∷ places body) (places rest) (looping place (survey body)) (survey rest) (stopping_looping place (places body) (survey body) (stopping_nodes body))
    (ways_looping place (places body) (survey body) (ways_nodes body)) (ways_nodes rest)
ways_nodes (stop place kind rest) =
    ways_followed (place ∷ []) (places rest) (stopping place kind) (survey rest) (stopping_stop place kind) (λ a k e m turn is. absurd m) (ways_nodes rest)
