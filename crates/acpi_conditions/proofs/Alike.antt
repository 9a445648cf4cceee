-- The survey depends on four tests of what is known.
use Rattle.std.proofs.Common.{◌≡◌, Bool, true, false, cond, not, ◌&&◌, ◌||◌, List, [], ◌∷◌, ◌++◌, map, append_assoc, Option, Some, None, refl, sym, ap, subst, ◌∙◌, Result, Ok, Err}
use Rattle.std.specs.List.{filter, list_any}
use Rattle.std.proofs.lemmas.List.Folds.{list_any-append}
use Rattle.acpi_name.specs.Names.{Segment, NameParts}
use Rattle.acpi_name.specs.Paths.{place_of, parent_of}
use Rattle.acpi_space.specs.Lookups.{is_same_path}
use Rattle.acpi_space.specs.Search.{tries}
use Rattle.acpi_conditions.specs.Nodes.{Place, Term, Nodes, no_nodes, declares, opens, branch, loop, stop}
use Rattle.acpi_conditions.specs.Entries.{Path, then_branch, else_branch, in_round, within, past, Asks, asks_nothing, Entry, Why, no_parent, not_a_scope, taken, Refusal, StopAt}
use Rattle.acpi_conditions.specs.Known.{Certain, Known, is_certain, is_certain_scope, up_to_certain, candidates, is_certain_name, declared_in, declared_at, asks_of, settled, why_missing, opened_in, opened_at}
use Rattle.acpi_conditions.specs.Survey.{Around, turning, Survey, Surveying, behind, passing, joined, followed_by, entry_at, inside_of, known_inside, with_inside, declaring_as, declaring, inside_scope, known_in_scope, with_scope, opening_as, opening, branching, leaves_table, known_in_loop, looping, stopping, survey}
use Rattle.acpi_conditions.specs.Laws.{AnswerAlike, AreAlike}

abbrev at_path : Path → Certain → Bool
at_path p c = is_same_path c.path p

abbrev scope_at_path : Path → Certain → Bool
scope_at_path p c = is_same_path c.path p && c.is_scope

abbrev entry_at_path : Path → Entry → Bool
entry_at_path p e = is_same_path e.path p

abbrev scope_entry_at_path : Path → Entry → Bool
scope_entry_at_path p e = is_same_path e.path p && e.term.is_scope

or_assoc : (a b c : Bool) → (a || (b || c)) ≡ ((a || b) || c)
or_assoc true b c = refl
or_assoc false b c = refl

more_entries : (test : Entry → Bool) (l : Bool) (xs ys : List Entry) → (l || list_any test (xs ++ ys)) ≡ ((l || list_any test xs) || list_any test ys)
more_entries test l xs ys = ap (λ b. l || b) (list_any-append test xs ys) ∙ or_assoc l (list_any test xs) (list_any test ys)

same_more : (test : Entry → Bool) (l m : Bool) (xs ys more other : List Entry) → (l || list_any test xs) ≡ (m || list_any test ys) → more ≡ other
    → (l || list_any test (xs ++ more)) ≡ (m || list_any test (ys ++ other))
same_more test l m xs ys more other e f =
    more_entries test l xs more ∙ ap (λ b. b || list_any test more) e ∙ ap (λ (zs : List Entry). (m || list_any test ys) || list_any test zs) f ∙ sym (more_entries test m ys other)

-- behind surveys with the same entries, where what is certain is alike
alike_behind : (k q : Known) (x y : Survey) → AnswerAlike k q → x.entries ≡ y.entries → ((p : Path) → list_any (at_path p) x.certain ≡ list_any (at_path p) y.certain)
    → ((p : Path) → list_any (scope_at_path p) x.certain ≡ list_any (scope_at_path p) y.certain) → AnswerAlike (behind k x) (behind q y)
alike_behind k q x y h es c s = record {
  certain = c;
  certain_scope = s;
  possible = λ p. same_more (entry_at_path p) k.in_loop q.in_loop k.entries q.entries x.entries y.entries (h.possible p) es;
  possible_scope = λ p. same_more (scope_entry_at_path p) k.in_loop q.in_loop k.entries q.entries x.entries y.entries (h.possible_scope p) es;
}

-- ---- one after another

assoc_behind : (k : Known) (x y : Survey) → behind (behind k x) y ≡ behind k (joined x y)
assoc_behind k x y = let e : (k.entries ++ x.entries) ++ y.entries ≡ k.entries ++ (x.entries ++ y.entries) = append_assoc k.entries x.entries y.entries in
    λ i. record { entries = e i; certain = y.certain; in_loop = k.in_loop }

alike_joined : (k q : Known) (x y u v : Survey) → AreAlike k q x y → AreAlike (behind k x) (behind q y) u v → AreAlike k q (joined x u) (joined y v)
alike_joined k q x y u v h n = record {
  entries = λ i. h.entries i ++ n.entries i;
  refused = λ i. h.refused i ++ n.refused i;
  stops = λ i. h.stops i ++ n.stops i;
  behind_them = subst (λ (r : Known). AnswerAlike r (behind q (joined y v))) (assoc_behind k x u) (subst (λ (r : Known). AnswerAlike (behind (behind k x) u) r) (assoc_behind q y v) n.behind_them);
}

alike_followed : (here rest : Surveying) → ((a : Around) (k q : Known) → AnswerAlike k q → AreAlike k q (here a k) (here a q)) → ((a : Around) (k q : Known) → AnswerAlike k q → AreAlike k q (rest a k) (rest a q))
    → (a : Around) (k q : Known) → AnswerAlike k q → AreAlike k q (followed_by here rest a k) (followed_by here rest a q)
alike_followed here rest bh br a k q h =
    let x : Survey = here a k in
    let y : Survey = here a q in
    let o : AreAlike k q x y = bh a k q h in
    let same : passing a x ≡ passing a y = ap (λ (ms : List StopAt). record { scope = a.scope; way = a.way ++ map (λ s. past s.place) ms }) o.stops in
    alike_joined k q x y (rest (passing a x) (behind k x)) (rest (passing a y) (behind q y)) o
    (subst (λ (b : Around). AreAlike (behind k x) (behind q y) (rest (passing a x) (behind k x)) (rest b (behind q y))) same (br (passing a x) (behind k x) (behind q y) o.behind_them))

-- where nothing is declared and nothing new is certain
alike_idle : (k q : Known) (rs : List Refusal) (ms : List StopAt) → AnswerAlike k q
    → AreAlike k q (record { entries = []; refused = rs; stops = ms; certain = k.certain }) (record { entries = []; refused = rs; stops = ms; certain = q.certain })
alike_idle k q rs ms h = record {
  entries = refl;
  refused = refl;
  stops = refl;
  behind_them = alike_behind k q (record { entries = []; refused = rs; stops = ms; certain = k.certain }) (record { entries = []; refused = rs; stops = ms; certain = q.certain }) h refl h.certain h.certain_scope;
}

-- ---- a term

module _ (k q : Known) (h : AnswerAlike k q) where
  same_in : (s : Path) (gs : List Segment) (place : Option Path) → declared_in k s gs place ≡ declared_in q s gs place
  same_in s [] place = refl
  same_in s (g ∷ gs) None = refl
  same_in s (g ∷ gs) (Some p) =
      λ i. cond (h.possible (parent_of p) i) (cond (h.possible_scope (parent_of p) i) (cond (h.certain p i) (Err (taken p)) (Ok p)) (Err (not_a_scope (parent_of p)))) (Err (no_parent (parent_of p)))

  pub same_name : (s : Path) (n : NameParts) → is_certain_name k s n ≡ is_certain_name q s n
  same_name s n = by (tries s n)
    where
      by : (ps : List Path) → list_any (is_certain k) ps ≡ list_any (is_certain q) ps
      by [] = refl
      by (p ∷ ps) = λ i. h.certain p i || by ps i

  same_asks : (s : Path) (t : Term) (p : Path) → asks_of k s t p ≡ asks_of q s t p
  same_asks s t p = λ i. record { has = not (h.certain_scope (parent_of p) i); no = h.possible p i; needs = by t.needs i }
    where
      by : (ns : List NameParts) → filter (λ n. not (is_certain_name k s n)) ns ≡ filter (λ n. not (is_certain_name q s n)) ns
      by [] = refl
      by (n ∷ ns) = λ i. cond (not (same_name s n i)) (n ∷ by ns i) (by ns i)

  pub same_up_to : (ps : List Path) → up_to_certain k ps ≡ up_to_certain q ps
  same_up_to [] = refl
  same_up_to (p ∷ ps) = λ i. cond (h.certain p i) (p ∷ []) (cond (h.possible p i) (p ∷ same_up_to ps i) (same_up_to ps i))

  same_opened : (why : Why) (ps : List Path) → opened_in k why ps ≡ opened_in q why ps
  same_opened why [] = refl
  same_opened why (p ∷ []) = λ i. cond (h.possible_scope p i) (Ok p) (Err (not_a_scope p))
  same_opened why (p ∷ r ∷ ps) = refl

  alike_inside : (en : Entry) → AnswerAlike (known_inside k en) (known_inside q en)
  alike_inside en = record {
    certain = λ p. ap (λ b. is_same_path en.path p || b) (h.certain p);
    certain_scope = λ p. ap (λ b. (is_same_path en.path p && en.term.is_scope) || b) (h.certain_scope p);
    possible = λ p. same_more (entry_at_path p) k.in_loop q.in_loop k.entries q.entries (en ∷ []) (en ∷ []) (h.possible p) refl;
    possible_scope = λ p. same_more (scope_entry_at_path p) k.in_loop q.in_loop k.entries q.entries (en ∷ []) (en ∷ []) (h.possible_scope p) refl;
  }

  any_settled : (test : Certain → Bool) (b : Bool) (xs ys zs : List Certain) → list_any test xs ≡ list_any test ys → list_any test k.certain ≡ list_any test q.certain
      → list_any test (cond b xs (zs ++ k.certain)) ≡ list_any test (cond b ys (zs ++ q.certain))
  any_settled test true xs ys zs e f = e
  any_settled test false xs ys zs e f = list_any-append test zs k.certain ∙ ap (λ b. list_any test zs || b) f ∙ sym (list_any-append test zs q.certain)

  alike_with_inside : (en : Entry) (x y : Survey) → AreAlike (known_inside k en) (known_inside q en) x y → AreAlike k q (with_inside k en x) (with_inside q en y)
  alike_with_inside en x y o = record {
    entries = λ i. en ∷ o.entries i;
    refused = o.refused;
    stops = o.stops;
    behind_them = alike_behind k q (with_inside k en x) (with_inside q en y) h (λ i. en ∷ o.entries i)
        (λ p. any_settled (at_path p) (asks_nothing en.asks) x.certain y.certain (settled en) (o.behind_them.certain p) (h.certain p))
        (λ p. any_settled (scope_at_path p) (asks_nothing en.asks) x.certain y.certain (settled en) (o.behind_them.certain_scope p) (h.certain_scope p));
  }

  alike_in_scope : (p : Path) → AnswerAlike (known_in_scope k p) (known_in_scope q p)
  alike_in_scope r = record {
    certain = λ p. ap (λ b. is_same_path r p || b) (h.certain p);
    certain_scope = λ p. ap (λ b. (is_same_path r p && true) || b) (h.certain_scope p);
    possible = h.possible;
    possible_scope = h.possible_scope;
  }

  any_either : (test : Certain → Bool) (b : Bool) (xs ys : List Certain) → list_any test xs ≡ list_any test ys → list_any test k.certain ≡ list_any test q.certain
      → list_any test (cond b xs k.certain) ≡ list_any test (cond b ys q.certain)
  any_either test true xs ys e f = e
  any_either test false xs ys e f = f

alike_declaring : (t : Term) (inside : Surveying) → ((a : Around) (k q : Known) → AnswerAlike k q → AreAlike k q (inside a k) (inside a q))
    → (a : Around) (k q : Known) → AnswerAlike k q → AreAlike k q (declaring t inside a k) (declaring t inside a q)
alike_declaring t inside bi a k q h =
    subst (λ (r : Result Path Why). AreAlike k q (declaring t inside a k) (declaring_as t inside a q r)) (same_in k q h a.scope t.name.segments (place_of a.scope t.name)) (by (declared_at k a.scope t.name))
  where
    by : (r : Result Path Why) → AreAlike k q (declaring_as t inside a k r) (declaring_as t inside a q r)
    by (Err why) = alike_idle k q (record { place = t.place; why = why } ∷ []) [] h
    by (Ok p) =
        let en : Entry = entry_at a k t p in
        let same : en ≡ entry_at a q t p = ap (λ (asks : Asks). record { term = t; scope = a.scope; path = p; way = a.way; asks = asks }) (same_asks k q h a.scope t p) in
        subst (λ (e : Entry). AreAlike k q (with_inside k en (inside (inside_of en) (known_inside k en))) (with_inside q e (inside (inside_of e) (known_inside q e)))) same
        (alike_with_inside k q h en (inside (inside_of en) (known_inside k en)) (inside (inside_of en) (known_inside q en))
        (bi (inside_of en) (known_inside k en) (known_inside q en) (alike_inside k q h en)))

alike_opening : (place : Place) (n : NameParts) (inside : Surveying) → ((a : Around) (k q : Known) → AnswerAlike k q → AreAlike k q (inside a k) (inside a q))
    → (a : Around) (k q : Known) → AnswerAlike k q → AreAlike k q (opening place n inside a k) (opening place n inside a q)
alike_opening place n inside bi a k q h =
    subst (λ (r : Result Path Why). AreAlike k q (opening place n inside a k) (opening_as place inside a q r))
    (same_opened k q h (why_missing a.scope (place_of a.scope n)) (candidates k a.scope n)
    ∙ ap (λ (ps : List Path). opened_in q (why_missing a.scope (place_of a.scope n)) ps) (same_up_to k q h (tries a.scope n)))
    (by (opened_at k a.scope n))
  where
    by : (r : Result Path Why) → AreAlike k q (opening_as place inside a k r) (opening_as place inside a q r)
    by (Err why) = alike_idle k q (record { place = place; why = why } ∷ []) [] h
    by (Ok p) =
        let b : Bool = is_certain_scope k p in
        let x : Survey = inside (inside_scope place a k p) (known_in_scope k p) in
        let y : Survey = inside (inside_scope place a k p) (known_in_scope q p) in
        let same : inside_scope place a k p ≡ inside_scope place a q p =
        ap (λ (b : Bool). record { scope = p; way = a.way ++ cond b [] (within place ∷ []) }) (h.certain_scope p) in
        let o : AreAlike (known_in_scope k p) (known_in_scope q p) x y = bi (inside_scope place a k p) (known_in_scope k p) (known_in_scope q p) (alike_in_scope k q h p) in
        subst (λ (c : Around). AreAlike k q (with_scope k p x) (with_scope q p (inside c (known_in_scope q p)))) same (scope k q h p x y o)
      where
        scope : (k q : Known) (h : AnswerAlike k q) (p : Path) (x y : Survey) → AreAlike (known_in_scope k p) (known_in_scope q p) x y → AreAlike k q (with_scope k p x) (with_scope q p y)
        scope k q h p x y o = record {
          entries = o.entries;
          refused = o.refused;
          stops = o.stops;
          behind_them = alike_behind k q (with_scope k p x) (with_scope q p y) h o.entries
              (λ r. any_either k q h (at_path r) (is_certain_scope k p) x.certain y.certain (o.behind_them.certain r) (h.certain r)
              ∙ ap (λ b. list_any (at_path r) (cond b y.certain q.certain)) (h.certain_scope p))
              (λ r. any_either k q h (scope_at_path r) (is_certain_scope k p) x.certain y.certain (o.behind_them.certain_scope r) (h.certain_scope r)
              ∙ ap (λ b. list_any (scope_at_path r) (cond b y.certain q.certain)) (h.certain_scope p));
        }

-- ---- If and While

alike_branching : (place : Place) (first other : Surveying) → ((a : Around) (k q : Known) → AnswerAlike k q → AreAlike k q (first a k) (first a q))
    → ((a : Around) (k q : Known) → AnswerAlike k q → AreAlike k q (other a k) (other a q))
    → (a : Around) (k q : Known) → AnswerAlike k q → AreAlike k q (branching place first other a k) (branching place first other a q)
alike_branching place first other bf bo a k q h = record {
  entries = λ i. x.entries i ++ y.entries i;
  refused = λ i. x.refused i ++ y.refused i;
  stops = λ i. x.stops i ++ y.stops i;
  behind_them = alike_behind k q (branching place first other a k) (branching place first other a q) h (λ i. x.entries i ++ y.entries i) h.certain h.certain_scope;
}
  where
    x : AreAlike k q (first (turning a (then_branch place)) k) (first (turning a (then_branch place)) q)
    x = bf (turning a (then_branch place)) k q h

    y : AreAlike k q (other (turning a (else_branch place)) k) (other (turning a (else_branch place)) q)
    y = bo (turning a (else_branch place)) k q h

alike_looping : (place : Place) (body : Surveying) → ((a : Around) (k q : Known) → AnswerAlike k q → AreAlike k q (body a k) (body a q))
    → (a : Around) (k q : Known) → AnswerAlike k q → AreAlike k q (looping place body a k) (looping place body a q)
alike_looping place body bb a k q h = record {
  entries = x.entries;
  refused = x.refused;
  stops = λ i. filter (λ s. leaves_table s.kind) (x.stops i);
  behind_them = alike_behind k q (looping place body a k) (looping place body a q) h x.entries h.certain h.certain_scope;
}
  where
    x : AreAlike (known_in_loop k) (known_in_loop q) (body (turning a (in_round place)) (known_in_loop k)) (body (turning a (in_round place)) (known_in_loop q))
    x = bb (turning a (in_round place)) (known_in_loop k) (known_in_loop q) (record { certain = h.certain; certain_scope = h.certain_scope; possible = λ p. refl; possible_scope = λ p. refl })

pub alike_nodes : (ns : Nodes) (a : Around) (k q : Known) → AnswerAlike k q → AreAlike k q (survey ns a k) (survey ns a q)
alike_nodes no_nodes = λ a k q h. alike_idle k q [] [] h
alike_nodes (declares t inside rest) = alike_followed (declaring t (survey inside)) (survey rest) (alike_declaring t (survey inside) (alike_nodes inside)) (alike_nodes rest)
alike_nodes (opens place n inside rest) = alike_followed (opening place n (survey inside)) (survey rest) (alike_opening place n (survey inside) (alike_nodes inside)) (alike_nodes rest)
alike_nodes (branch place first other rest) =
    alike_followed (branching place (survey first) (survey other)) (survey rest) (alike_branching place (survey first) (survey other) (alike_nodes first) (alike_nodes other)) (alike_nodes rest)
alike_nodes (loop place body rest) = alike_followed (looping place (survey body)) (survey rest) (alike_looping place (survey body) (alike_nodes body)) (alike_nodes rest)
alike_nodes (stop place kind rest) = alike_followed (stopping place kind) (survey rest) (λ a k q h. alike_idle k q [] (record { place = place; kind = kind } ∷ []) h) (alike_nodes rest)
