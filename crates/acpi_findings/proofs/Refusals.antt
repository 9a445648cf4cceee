-- Each refusal of what is read of tables stands at a place of its own, and at that of a range.
use Rattle.std.proofs.Common.{◌≡◌, ◌==◌, ◌⊎◌, ℕ, Bool, true, false, cond, List, [], ◌∷◌, ◌++◌, map, flat_map, Option, Some, Result, Ok, Err, inl, inr, refl, sym, ap, subst, ◌∙◌, arith}
use Rattle.std.proofs.lemmas.Bool.Decides.{nat_tests}
use Rattle.std.proofs.lemmas.List.{map-append}
use Rattle.acpi_space.specs.Laws.{Among}
use Rattle.acpi_conditions.specs.Nodes.{Term, Nodes, no_nodes, declares, opens, branch, loop, stop, places}
use Rattle.acpi_conditions.specs.Entries.{Path, then_branch, else_branch, in_round, Why, Refusal}
use Rattle.acpi_conditions.specs.Known.{Known, declared_at, opened_at}
use Rattle.acpi_conditions.specs.Survey.{Around, Survey, turning, behind, passing, declaring_as, opening_as, known_in_loop, left_loop, stopping, inside_of, entry_at, known_inside, inside_scope, known_in_scope, behind_table, table_survey, at_root, survey, surveys, all_refused}
use Rattle.acpi_conditions.specs.Laws.{AreDistinct}
use Rattle.acpi_ranges.specs.Places.{last_or}

-- ---- lists that have some items of others, in the same order

abbrev Has : List ℕ → List ℕ → Type 0
Has ys [] = Unit {0}
Has [] (x ∷ xs) = ⊥
Has (y ∷ ys) (x ∷ xs) = ((x ≡ y) × Has ys xs) ⊎ Has ys (x ∷ xs)

has_none : (ys : List ℕ) → Has ys []
has_none [] = tt
has_none (y ∷ ys) = tt

has_more : (y : ℕ) (ys xs : List ℕ) → Has ys xs → Has (y ∷ ys) xs
has_more y ys [] h = tt
has_more y ys (x ∷ xs) h = inr h

has_on : (ys xs vs us : List ℕ) → Has ys xs → Has vs us → Has (ys ++ vs) (xs ++ us)
has_on [] [] vs us h n = n
has_on [] (x ∷ xs) vs us h n = absurd h
has_on (y ∷ ys) [] vs us h n = has_more y (ys ++ vs) us (has_on ys [] vs us (has_none ys) n)
has_on (y ∷ ys) (x ∷ xs) vs us (inl h) n = inl (h.0, has_on ys xs vs us h.1 n)
has_on (y ∷ ys) (x ∷ xs) vs us (inr h) n = inr (has_on ys (x ∷ xs) vs us h n)

pub has_among : (ys xs : List ℕ) (p : ℕ) → Has ys xs → Among xs p → Among ys p
has_among ys [] p h m = absurd m
has_among [] (x ∷ xs) p h m = absurd h
has_among (y ∷ ys) (x ∷ xs) p (inl h) (inl e) = inl (sym h.0 ∙ e)
has_among (y ∷ ys) (x ∷ xs) p (inl h) (inr m) = inr (has_among ys xs p h.1 m)
has_among (y ∷ ys) (x ∷ xs) p (inr h) m = inr (has_among ys (x ∷ xs) p h m)

pub has_distinct : (ys xs : List ℕ) → Has ys xs → AreDistinct ys → AreDistinct xs
has_distinct ys [] h d = tt
has_distinct [] (x ∷ xs) h d = absurd h
has_distinct (y ∷ ys) (x ∷ xs) (inl h) d = (λ m. d.0 (subst (λ p. Among ys p) h.0 (has_among ys xs x h.1 m)), has_distinct ys xs h.1 d.1)
has_distinct (y ∷ ys) (x ∷ xs) (inr h) d = has_distinct ys (x ∷ xs) h d.1

-- ---- a refusal stands at a place of a node

abbrev pub places_of : List Refusal → List ℕ
places_of rs = map (λ (r : Refusal). r.place) rs

joined_has : (ys vs : List ℕ) (rs qs : List Refusal) → Has ys (places_of rs) → Has vs (places_of qs) → Has (ys ++ vs) (places_of (rs ++ qs))
joined_has ys vs rs qs h n = subst (λ ps. Has (ys ++ vs) ps) (sym (map-append (λ (r : Refusal). r.place) rs qs)) (has_on ys (places_of rs) vs (places_of qs) h n)

abbrev HasRefusals : Nodes → Type 0
HasRefusals ns = (a : Around) (k : Known) → Has (places ns) (places_of (survey ns a k).refused)

declaring_has : (t : Term) (inside : Nodes) → HasRefusals inside → (a : Around) (k : Known) (o : Result Path Why) → Has (t.place ∷ places inside) (places_of (declaring_as t (survey inside) a k o).refused)
declaring_has t inside h a k (Ok p) =
    let e = entry_at a k t p in
    has_more t.place (places inside) (places_of (survey inside (inside_of e) (known_inside k e)).refused) (h (inside_of e) (known_inside k e))
declaring_has t inside h a k (Err why) = inl (refl, has_none (places inside))

opening_has : (place : ℕ) (inside : Nodes) → HasRefusals inside → (a : Around) (k : Known) (o : Result Path Why) → Has (place ∷ places inside) (places_of (opening_as place (survey inside) a k o).refused)
opening_has place inside h a k (Ok p) =
    has_more place (places inside) (places_of (survey inside (inside_scope place a k p) (known_in_scope k p)).refused) (h (inside_scope place a k p) (known_in_scope k p))
opening_has place inside h a k (Err why) = inl (refl, has_none (places inside))

all_have : (ns : Nodes) → HasRefusals ns
all_have no_nodes a k = tt
all_have (declares t inside rest) a k =
    let x : Survey = declaring_as t (survey inside) a k (declared_at k a.scope t.name) in
    joined_has (t.place ∷ places inside) (places rest) x.refused (survey rest (passing a x) (behind k x)).refused
    (declaring_has t inside (all_have inside) a k (declared_at k a.scope t.name)) (all_have rest (passing a x) (behind k x))
all_have (opens place n inside rest) a k =
    let x : Survey = opening_as place (survey inside) a k (opened_at k a.scope n) in
    joined_has (place ∷ places inside) (places rest) x.refused (survey rest (passing a x) (behind k x)).refused
    (opening_has place inside (all_have inside) a k (opened_at k a.scope n)) (all_have rest (passing a x) (behind k x))
all_have (branch place first other rest) a k =
    let one : Survey = survey first (turning a (then_branch place)) k in
    let two : Survey = survey other (turning a (else_branch place)) k in
    let here : Survey = record { entries = one.entries ++ two.entries; refused = one.refused ++ two.refused; stops = one.stops ++ two.stops; certain = k.certain } in
    joined_has (place ∷ (places first ++ places other)) (places rest) (one.refused ++ two.refused) (survey rest (passing a here) (behind k here)).refused
    (has_more place (places first ++ places other) (places_of (one.refused ++ two.refused))
    (joined_has (places first) (places other) one.refused two.refused (all_have first (turning a (then_branch place)) k) (all_have other (turning a (else_branch place)) k)))
    (all_have rest (passing a here) (behind k here))
all_have (loop place body rest) a k =
    let in_body : Survey = survey body (turning a (in_round place)) (known_in_loop k) in
    let here : Survey = left_loop k in_body in
    joined_has (place ∷ places body) (places rest) in_body.refused (survey rest (passing a here) (behind k here)).refused
    (has_more place (places body) (places_of in_body.refused) (all_have body (turning a (in_round place)) (known_in_loop k)))
    (all_have rest (passing a here) (behind k here))
all_have (stop place kind rest) a k =
    let here : Survey = stopping place kind a k in
    has_more place (places rest) (places_of (survey rest (passing a here) (behind k here)).refused) (all_have rest (passing a here) (behind k here))

pub tables_have : (ts : List Nodes) (k : Known) → Has (flat_map places ts) (places_of (all_refused (surveys k ts)))
tables_have [] k = tt
tables_have (t ∷ ts) k =
    joined_has (places t) (flat_map places ts) (table_survey k t).refused (all_refused (surveys (behind_table k (table_survey k t)) ts))
    (all_have t at_root k) (tables_have ts (behind_table k (table_survey k t)))

-- ---- the last refusal at a place is the one that stands there

abbrev pub pairs_of : List Refusal → List (ℕ × Why)
pairs_of rs = map (λ (r : Refusal). (r.place, r.why)) rs

other_place : (p q : ℕ) (b : Bool) → (p == q) ≡ b → (p ≡ q → ⊥) → (o other : Option Why) → cond b o other ≡ other
other_place p q true e away o other = let same : p ≡ q = grind (arith, nat_tests) in absurd (away same)
other_place p q false e away o other = refl

absent : (rs : List Refusal) (p : ℕ) (o : Option Why) → (Among (places_of rs) p → ⊥) → last_or o (pairs_of rs) p ≡ o
absent [] p o away = refl
absent (r ∷ rs) p o away =
    absent rs p (cond (r.place == p) (Some r.why) o) (λ m. away (inr m))
    ∙ other_place r.place p (r.place == p) refl (λ e. away (inl e)) (Some r.why) o

same_place : (p : ℕ) → (p == p) ≡ true
same_place p = grind (arith, nat_tests)

pub place_among : (rs : List Refusal) (r : Refusal) → Among rs r → Among (places_of rs) r.place
place_among [] r m = absurd m
place_among (q ∷ rs) r (inl e) = inl (ap (λ (r : Refusal). r.place) e)
place_among (q ∷ rs) r (inr m) = inr (place_among rs r m)

pub last_of : (rs : List Refusal) (r : Refusal) (o : Option Why) → AreDistinct (places_of rs) → Among rs r → last_or o (pairs_of rs) r.place ≡ Some r.why
last_of [] r o d m = absurd m
last_of (q ∷ rs) r o d (inl e) =
    subst (λ (r : Refusal). last_or o (pairs_of (q ∷ rs)) r.place ≡ Some r.why) e
    (absent rs q.place (cond (q.place == q.place) (Some q.why) o) d.0 ∙ ap (λ b. cond b (Some q.why) o) (same_place q.place))
last_of (q ∷ rs) r o d (inr m) = last_of rs r (cond (q.place == r.place) (Some q.why) o) d.1 m
