-- Strict listings are surveys.
use Rattle.std.proofs.Common.{◌≡◌, Bool, true, false, cond, not, ◌&&◌, List, [], ◌∷◌, ◌++◌, map, find, append_assoc, ◌⊎◌, inl, inr, Option, Some, None, refl, sym, ap, subst, ◌∙◌, Result, Ok, Err, append-nil}
use Rattle.std.specs.List.{AllByRecursion, AllZip, filter, flat_map, list_any}
use Rattle.std.specs.Prelude.{IsTrue}
use Rattle.std.proofs.Math.Bool.{and-true}
use Rattle.std.proofs.lemmas.Bool.{or_from, and_from, false_from_ne_true}
use Rattle.acpi_name.specs.Names.{NameParts}
use Rattle.acpi_name.specs.Paths.{place_of, parent_of}
use Rattle.acpi_space.specs.Lookups.{is_same_path, is_defined_in, singleton}
use Rattle.acpi_space.specs.Search.{tries}
use Rattle.acpi_space.specs.Laws.{Among}
use Rattle.acpi_space.proofs.Maps.{none_of_not_some}
use Rattle.acpi_space.proofs.Elements.{among_left, among_right, among_append, one_some, not_both, some_is}
use Rattle.acpi_conditions.specs.Nodes.{Term, Nodes, no_nodes, declares, opens, branch, loop, stop}
use Rattle.acpi_conditions.specs.Entries.{Path, Namespace, IsScopeIn, IsFoundIn, Turn, within, past, Asks, is_empty, asks_nothing, Entry, Why, not_a_scope, StopAt}
use Rattle.acpi_conditions.specs.Known.{Certain, Known, is_certain, is_certain_scope, is_possible, up_to_certain, is_certain_name, asks_of, settled, why_missing, opened_in, opened_at}
use Rattle.acpi_conditions.specs.Survey.{Around, Survey, Surveying, behind, passing, joined, followed_by, empty_survey, entry_at, inside_of, known_inside, with_inside, declaring_as, declaring, inside_scope, known_in_scope, with_scope, opening_as, opening, survey, at_root, lasting, behind_table, table_survey, surveys}
use Rattle.acpi_conditions.specs.Runs.{Makes, Finds}
use Rattle.acpi_conditions.specs.Listings.{Placement, with_object, made_behind, IsListing, AreListings, nothing_asked, entry_of}
use Rattle.acpi_conditions.specs.Laws.{IsAllOf, IsStrict}
use Rattle.acpi_conditions.proofs.Basics.{among_flat, any_some, some_any, same_path, path_itself, union_grows, union_new, union_cases}
use Rattle.acpi_conditions.proofs.Knowing.{free_uncertain, made_possible_scope}
use Rattle.acpi_conditions.proofs.Declaring.{makes_allowed, settled_made, true_inside, true_in_scope}

found_is : {X : Type 0} (test : X → Bool) (xs : List X) (x : X) → find test xs ≡ Some x → Among xs x × (test x ≡ true)
found_is test [] x e = cc
found_is test (y ∷ xs) x e = by (test y) refl e (found_is test xs x)
  where
    by : (b : Bool) → test y ≡ b → cond b (Some y) (find test xs) ≡ Some x → (find test xs ≡ Some x → Among xs x × (test x ≡ true)) → Among (y ∷ xs) x × (test x ≡ true)
    by true is e ih = let same : y ≡ x = one_some y x e in (inl same, ap test (sym same) ∙ is)
    by false is e ih = let r = ih e in (inr r.0, r.1)

pub none_pass : {X : Type 0} (test : X → Bool) (xs : List X) → AllByRecursion (λ x. test x ≡ false) xs → filter test xs ≡ []
none_pass test [] h = refl
none_pass test (x ∷ xs) h = ap (λ b. cond b (x ∷ filter test xs) (filter test xs)) h.0 ∙ none_pass test xs h.1

pub flat_among : {X Y : Type 0} (f : X → List Y) (xs : List X) (x : X) (y : Y) → Among xs x → Among (f x) y → Among (flat_map f xs) y
flat_among f [] x y m n = absurd m
flat_among f (z ∷ xs) x y (inl same) n = among_left (f z) (flat_map f xs) y (subst (λ (z : _). Among (f z) y) (sym same) n)
flat_among f (z ∷ xs) x y (inr m) n = among_right (f z) (flat_map f xs) y (flat_among f xs x y m n)

pub among_map : {X Y : Type 0} (f : X → Y) (xs : List X) (y : Y) → Among (map f xs) y → (x : X) × (f x ≡ y)
among_map f [] y m = absurd m
among_map f (x ∷ xs) y (inl same) = (x, same)
among_map f (x ∷ xs) y (inr m) = among_map f xs y m

map_both : {X Y : Type 0} (f : X → Y) (xs ys : List X) → map f (xs ++ ys) ≡ map f xs ++ map f ys
map_both f [] ys = refl
map_both f (x ∷ xs) ys = ap (λ zs. f x ∷ zs) (map_both f xs ys)

behind_both : (objects : Namespace) (ds es : List Placement) → made_behind objects (ds ++ es) ≡ made_behind (made_behind objects ds) es
behind_both objects [] es = refl
behind_both objects (d ∷ ds) es = behind_both (with_object objects d.path d.term) ds es

behind_grows : (objects : Namespace) (ds : List Placement) (p : Path) (t : Term) → objects p ≡ Some t → made_behind objects ds p ≡ Some t
behind_grows objects [] p t e = e
behind_grows objects (d ∷ ds) p t e = behind_grows (with_object objects d.path d.term) ds p t (union_grows objects (singleton d.path d.term) p t e)

-- ---- all that is made is certain

module _ (objects : Namespace) (k : Known) (all : IsAllOf objects k) where
  all_certain : (p : Path) (t : Term) → objects p ≡ Some t → is_certain k p ≡ true
  all_certain p t e = some_any (λ c. is_same_path c.path p) k.certain (record { path = p; is_scope = t.is_scope }) (all.made_are_certain p t e) (path_itself p p refl)

  all_certain_scope : (p : Path) → IsScopeIn objects p → is_certain_scope k p ≡ true
  all_certain_scope p s =
      some_any (λ c. is_same_path c.path p && c.is_scope) k.certain (record { path = p; is_scope = s.0.is_scope }) (all.made_are_certain p s.0 s.1)
      (and_from (is_same_path p p) s.0.is_scope (path_itself p p refl) s.2)

  free_impossible : (p : Path) → objects p ≡ None → is_possible k p ≡ false
  free_impossible p free = or_from k.in_loop (list_any (λ e. is_same_path e.path p) k.entries) all.not_in_loop (false_from_ne_true _ (λ is.
      let e = any_some (λ e. is_same_path e.path p) k.entries is in
      not_both (objects p) e.0.term (ap objects (sym (same_path e.0.path p e.2)) ∙ all.entries_are_made e.0 e.1) free))

  found_certain : (s : Path) (n : NameParts) → IsFoundIn objects s n → is_certain_name k s n ≡ true
  found_certain s n f =
      let q = found_is (is_defined_in objects) (tries s n) f.0 f.1 in
      let t = some_is (objects f.0) q.1 in
      some_any (is_certain k) (tries s n) f.0 q.0 (all_certain f.0 t.0 t.1)

  needs_certain : (s : Path) (ns : List NameParts) → AllByRecursion (IsFoundIn objects s) ns → AllByRecursion (λ n. not (is_certain_name k s n) ≡ false) ns
  needs_certain s [] h = tt
  needs_certain s (n ∷ ns) h = (ap not (found_certain s n h.0), needs_certain s ns h.1)

  asks_none : (s : Path) (t : Term) (p : Path) → Makes objects s t p → asks_of k s t p ≡ nothing_asked
  asks_none s t p m =
      let has : not (is_certain_scope k (parent_of p)) ≡ false = ap not (all_certain_scope (parent_of p) m.parent) in
      let no : is_possible k p ≡ false = free_impossible p m.free in
      let needs : filter (λ n. not (is_certain_name k s n)) t.needs ≡ [] = none_pass (λ n. not (is_certain_name k s n)) t.needs (needs_certain s t.needs m.needs) in
      λ i. record { has = has i; no = no i; needs = needs i }

  one_at : (q : Path) (p : Path) (rest : Option Path) (more : List Path) → (rest ≡ Some p → more ≡ p ∷ []) → (d : Bool) → is_defined_in objects q ≡ d → cond d (Some q) rest ≡ Some p
      → cond (is_certain k q) (q ∷ []) (cond (is_possible k q) (q ∷ more) more) ≡ p ∷ []
  one_at q p rest more ih true is e =
      let t = some_is (objects q) is in
      let same : q ≡ p = one_some q p e in
      ap (λ b. cond b (q ∷ []) (cond (is_possible k q) (q ∷ more) more)) (all_certain q t.0 t.1) ∙ ap (λ (q : Path). q ∷ []) same
  one_at q p rest more ih false is e =
      let free : objects q ≡ None = none_of_not_some (objects q) is in
      ap (λ b. cond b (q ∷ []) (cond (is_possible k q) (q ∷ more) more)) (free_uncertain objects k all.is_true q free)
      ∙ ap (λ b. cond b (q ∷ more) more) (free_impossible q free) ∙ ih e

  one_of : (ps : List Path) (p : Path) → find (is_defined_in objects) ps ≡ Some p → up_to_certain k ps ≡ p ∷ []
  one_of [] p e = cc
  one_of (q ∷ ps) p e = one_at q p (find (is_defined_in objects) ps) (up_to_certain k ps) (one_of ps p) (is_defined_in objects q) refl e

  -- a Scope that finds a scope is opened there
  finds_opened : (s : Path) (n : NameParts) (p : Path) → Finds objects s n p → opened_at k s n ≡ Ok p
  finds_opened s n p f =
      ap (λ (ps : List Path). opened_in k (why_missing s (place_of s n)) ps) (one_of (tries s n) p f.0)
      ∙ ap (λ b. cond b (Ok p) (Err (not_a_scope p))) (made_possible_scope objects k all.is_true p f.1)

  pub all_inside : (en : Entry) → objects en.path ≡ None → IsAllOf (with_object objects en.path en.term) (known_inside k en)
  all_inside en free = record {
    is_true = true_inside objects k all.is_true en free;
    not_in_loop = all.not_in_loop;
    made_are_certain = λ q u is. certain q u (union_cases objects en.path q en.term u is);
    entries_are_made = λ e m. there e (among_append k.entries (en ∷ []) e m);
  }
    where
      certain : (q : Path) (u : Term) → (objects q ≡ Some u) ⊎ ((en.path ≡ q) × (en.term ≡ u)) → Among (record { path = en.path; is_scope = en.term.is_scope } ∷ k.certain) (record { path = q; is_scope = u.is_scope })
      certain q u (inl is) = inr (all.made_are_certain q u is)
      certain q u (inr is) = inl (λ i. record { path = is.0 i; is_scope = (is.1 i).is_scope })

      there : (e : Entry) → Among k.entries e ⊎ Among (en ∷ []) e → with_object objects en.path en.term e.path ≡ Some e.term
      there e (inl m) = union_grows objects (singleton en.path en.term) e.path e.term (all.entries_are_made e m)
      there e (inr (inl same)) = subst (λ (e : Entry). with_object objects en.path en.term e.path ≡ Some e.term) same (union_new objects en.path en.term free)
      there e (inr (inr m)) = absurd m

  all_in_scope : (p : Path) → IsScopeIn objects p → IsAllOf objects (known_in_scope k p)
  all_in_scope p s = record {
    is_true = true_in_scope objects k all.is_true p s;
    not_in_loop = all.not_in_loop;
    made_are_certain = λ q u is. inr (all.made_are_certain q u is);
    entries_are_made = all.entries_are_made;
  }

-- ---- nodes

-- nodes that have the listing give it, and what is known stays all that is made
record Strictly (ds : List Placement) (objects : Namespace) (k : Known) (x : Survey) : Type 0 where
  entries : x.entries ≡ map entry_of ds
  refused : x.refused ≡ []
  stops : x.stops ≡ []
  all : IsAllOf (made_behind objects ds) (behind k x)

strict_joined : (ds es : List Placement) (objects : Namespace) (k : Known) (x y : Survey) → Strictly ds objects k x → Strictly es (made_behind objects ds) (behind k x) y → Strictly (ds ++ es) objects k (joined x y)
strict_joined ds es objects k x y h n = record {
  entries = λ i. entries i;
  refused = λ i. refused i;
  stops = λ i. stops i;
  all = subst (λ (m : Namespace). IsAllOf m (behind k (joined x y))) (sym (behind_both objects ds es)) (subst (λ (q : Known). IsAllOf (made_behind (made_behind objects ds) es) q) same n.all);
}
  where
    entries : x.entries ++ y.entries ≡ map entry_of (ds ++ es)
    entries = ap (λ zs. zs ++ y.entries) h.entries ∙ ap (λ zs. map entry_of ds ++ zs) n.entries ∙ sym (map_both entry_of ds es)

    refused : x.refused ++ y.refused ≡ []
    refused = ap (λ zs. zs ++ y.refused) h.refused ∙ n.refused

    stops : x.stops ++ y.stops ≡ []
    stops = ap (λ zs. zs ++ y.stops) h.stops ∙ n.stops

    same : behind (behind k x) y ≡ behind k (joined x y)
    same = let e : (k.entries ++ x.entries) ++ y.entries ≡ k.entries ++ (x.entries ++ y.entries) = append_assoc k.entries x.entries y.entries in
        λ i. record { entries = e i; certain = y.certain; in_loop = k.in_loop }

strict_empty : (a : Around) (objects : Namespace) (k : Known) → IsAllOf objects k → Strictly [] objects k (empty_survey a k)
strict_empty a objects k all = record {
  entries = refl;
  refused = refl;
  stops = refl;
  all = subst (λ (q : Known). IsAllOf objects q) same all;
}
  where
    same : k ≡ behind k (empty_survey a k)
    same = let e : k.entries ≡ k.entries ++ [] = sym (append-nil k.entries) in λ i. record { entries = e i; certain = k.certain; in_loop = k.in_loop }

no_stops : (w : List Turn) (ms : List StopAt) → w ≡ [] → ms ≡ [] → w ++ map (λ s. past s.place) ms ≡ []
no_stops w ms e f = ap (λ v. v ++ map (λ s. past s.place) ms) e ∙ ap (λ (ms : List StopAt). map (λ s. past s.place) ms) f

strict_followed : (here rest : Surveying) (a : Around) (k : Known) (objects : Namespace) (ds es : List Placement) → a.way ≡ [] → Strictly ds objects k (here a k)
    → ((b : Around) (q : Known) → b.scope ≡ a.scope → b.way ≡ [] → IsAllOf (made_behind objects ds) q → Strictly es (made_behind objects ds) q (rest b q)) → Strictly (ds ++ es) objects k (followed_by here rest a k)
strict_followed here rest a k objects ds es way h n =
    strict_joined ds es objects k (here a k) (rest (passing a (here a k)) (behind k (here a k))) h
    (n (passing a (here a k)) (behind k (here a k)) refl (no_stops a.way (here a k).stops way h.stops) h.all)

asked_none : (asks : Asks) → asks ≡ nothing_asked → asks_nothing asks ≡ true
asked_none asks e = ap asks_nothing e

way_none : (w : List Turn) (b : Bool) (turn : Turn) → w ≡ [] → b ≡ true → w ++ cond b [] (turn ∷ []) ≡ []
way_none w b turn e f = ap (λ v. v ++ cond b [] (turn ∷ [])) e ∙ ap (λ b. cond b [] (turn ∷ [])) f

strict_with_inside : (t : Term) (a : Around) (k : Known) (objects : Namespace) (p : Path) (xs : List Placement) (x : Survey) → a.way ≡ [] → asks_of k a.scope t p ≡ nothing_asked
    → Strictly xs (with_object objects p t) (known_inside k (entry_at a k t p)) x → Strictly (record { term = t; scope = a.scope; path = p } ∷ xs) objects k (with_inside k (entry_at a k t p) x)
strict_with_inside t a k objects p xs x way asks h = record {
  entries = λ i. en i ∷ h.entries i;
  refused = h.refused;
  stops = h.stops;
  all = subst (λ (q : Known). IsAllOf (made_behind (with_object objects p t) xs) q) same h.all;
}
  where
    en : entry_at a k t p ≡ entry_of (record { term = t; scope = a.scope; path = p })
    en = λ i. record { term = t; scope = a.scope; path = p; way = way i; asks = asks i }

    same : behind (known_inside k (entry_at a k t p)) x ≡ behind k (with_inside k (entry_at a k t p) x)
    same =
        let e : (k.entries ++ entry_at a k t p ∷ []) ++ x.entries ≡ k.entries ++ (entry_at a k t p ∷ x.entries) = append_assoc k.entries (entry_at a k t p ∷ []) x.entries in
        let c : x.certain ≡ cond (asks_nothing (entry_at a k t p).asks) x.certain (settled (entry_at a k t p) ++ k.certain) =
        sym (ap (λ b. cond b x.certain (settled (entry_at a k t p) ++ k.certain)) (asked_none (asks_of k a.scope t p) asks)) in
        λ i. record { entries = e i; certain = c i; in_loop = k.in_loop }

strict_with_scope : (k : Known) (objects : Namespace) (p : Path) (xs : List Placement) (x : Survey) → is_certain_scope k p ≡ true → Strictly xs objects (known_in_scope k p) x → Strictly xs objects k (with_scope k p x)
strict_with_scope k objects p xs x is h = record {
  entries = h.entries;
  refused = h.refused;
  stops = h.stops;
  all = subst (λ (q : Known). IsAllOf (made_behind objects xs) q) same h.all;
}
  where
    same : behind (known_in_scope k p) x ≡ behind k (with_scope k p x)
    same =
        let c : x.certain ≡ cond (is_certain_scope k p) x.certain k.certain = sym (ap (λ b. cond b x.certain k.certain) is) in
        λ i. record { entries = k.entries ++ x.entries; certain = c i; in_loop = k.in_loop }

strict_nodes : (ns : Nodes) (a : Around) (k : Known) (objects : Namespace) (ds : List Placement) → a.way ≡ [] → IsAllOf objects k → IsListing ns a.scope objects ds → Strictly ds objects k (survey ns a k)
strict_nodes no_nodes a k objects ds way all l = subst (λ (ds : List Placement). Strictly ds objects k (empty_survey a k)) (sym l) (strict_empty a objects k all)
strict_nodes (declares t inside rest) a k objects ds way all l =
    let p : Path = l.0 in
    let asks : asks_of k a.scope t p ≡ nothing_asked = asks_none objects k all a.scope t p l.3 in
    let en : Entry = entry_at a k t p in
    let x : Survey = survey inside (inside_of en) (known_inside k en) in
    let deep : Strictly l.1 (with_object objects p t) (known_inside k en) x = strict_nodes inside (inside_of en) (known_inside k en) (with_object objects p t) l.1
    (way_none a.way (asks_nothing en.asks) (within t.place) way (asked_none en.asks asks)) (all_inside objects k all en l.3.free) l.4 in
    let here : Strictly (record { term = t; scope = a.scope; path = p } ∷ l.1) objects k (declaring t (survey inside) a k) =
    subst (λ (r : Result Path Why). Strictly (record { term = t; scope = a.scope; path = p } ∷ l.1) objects k (declaring_as t (survey inside) a k r))
    (sym (makes_allowed objects k all.is_true a.scope t p l.3)) (strict_with_inside t a k objects p l.1 x way asks deep) in
    subst (λ (ds : List Placement). Strictly ds objects k (followed_by (declaring t (survey inside)) (survey rest) a k)) (sym l.6)
    (strict_followed (declaring t (survey inside)) (survey rest) a k objects (record { term = t; scope = a.scope; path = p } ∷ l.1) l.2 way here
    (λ b q same w known. strict_nodes rest b q (made_behind (with_object objects p t) l.1) l.2 w known
    (subst (λ (s : Path). IsListing rest s (made_behind (with_object objects p t) l.1) l.2) (sym same) l.5)))
strict_nodes (opens place n inside rest) a k objects ds way all l =
    let p : Path = l.0 in
    let certain : is_certain_scope k p ≡ true = all_certain_scope objects k all p l.3.1 in
    let x : Survey = survey inside (inside_scope place a k p) (known_in_scope k p) in
    let deep : Strictly l.1 objects (known_in_scope k p) x = strict_nodes inside (inside_scope place a k p) (known_in_scope k p) objects l.1
    (way_none a.way (is_certain_scope k p) (within place) way certain) (all_in_scope objects k all p l.3.1) l.4 in
    let here : Strictly l.1 objects k (opening place n (survey inside) a k) =
    subst (λ (r : Result Path Why). Strictly l.1 objects k (opening_as place (survey inside) a k r)) (sym (finds_opened objects k all a.scope n p l.3)) (strict_with_scope k objects p l.1 x certain deep) in
    subst (λ (ds : List Placement). Strictly ds objects k (followed_by (opening place n (survey inside)) (survey rest) a k)) (sym l.6)
    (strict_followed (opening place n (survey inside)) (survey rest) a k objects l.1 l.2 way here
    (λ b q same w known. strict_nodes rest b q (made_behind objects l.1) l.2 w known (subst (λ (s : Path). IsListing rest s (made_behind objects l.1) l.2) (sym same) l.5)))
strict_nodes (branch place first other rest) a k objects ds way all l = absurd l
strict_nodes (loop place body rest) a k objects ds way all l = absurd l
strict_nodes (stop place kind rest) a k objects ds way all l = absurd l

-- ---- tables

all_behind_table : (ds : List Placement) (objects : Namespace) (k : Known) (x : Survey) → IsAllOf objects k → Strictly ds objects k x → IsAllOf (made_behind objects ds) (behind_table k x)
all_behind_table ds objects k x all h = record {
  is_true = record { certain = λ c m. certain c (among_append (flat_map lasting x.entries) k.certain c m); possible = h.all.is_true.possible };
  not_in_loop = all.not_in_loop;
  made_are_certain = λ p t is. made_certain p t is;
  entries_are_made = h.all.entries_are_made;
}
  where
    lasting_certain : (e : Entry) → made_behind objects ds e.path ≡ Some e.term → (b : Bool) → (c : Certain) → Among (cond b (settled e) []) c → (t : Term) × (made_behind objects ds c.path ≡ Some t) × (IsTrue c.is_scope → IsTrue t.is_scope)
    lasting_certain e is true c m = settled_made (made_behind objects ds) e is c m
    lasting_certain e is false c m = absurd m

    certain : (c : Certain) → Among (flat_map lasting x.entries) c ⊎ Among k.certain c → (t : Term) × (made_behind objects ds c.path ≡ Some t) × (IsTrue c.is_scope → IsTrue t.is_scope)
    certain c (inl m) =
        let n = among_flat lasting x.entries c m in
        lasting_certain n.0 (h.all.entries_are_made n.0 (among_right k.entries x.entries n.0 n.1)) (is_empty n.0.way) c n.2
    certain c (inr m) = let n = all.is_true.certain c m in (n.0, behind_grows objects ds c.path n.0 n.1, n.2)

    old_certain : (p : Path) (t : Term) (e : Entry) → e.path ≡ p → e.term ≡ t → Among k.entries e → Among (flat_map lasting x.entries ++ k.certain) (record { path = p; is_scope = t.is_scope })
    old_certain p t e f g m =
        among_right (flat_map lasting x.entries) k.certain (record { path = p; is_scope = t.is_scope })
        (all.made_are_certain p t (ap objects (sym f) ∙ all.entries_are_made e m ∙ ap Some g))

    new_certain : (p : Path) (t : Term) (e : Entry) → e.path ≡ p → e.term ≡ t → Among x.entries e → Among (flat_map lasting x.entries ++ k.certain) (record { path = p; is_scope = t.is_scope })
    new_certain p t e f g m =
        let d = among_map entry_of ds e (subst (λ (es : List Entry). Among es e) h.entries m) in
        let scope : (d.0.term.is_scope && true) ≡ t.is_scope = and-true d.0.term.is_scope ∙ ap (λ (e : Entry). e.term.is_scope) d.1 ∙ ap (λ (t : Term). t.is_scope) g in
        let path : d.0.path ≡ p = ap (λ (e : Entry). e.path) d.1 ∙ f in
        let mine : Among (lasting (entry_of d.0)) (record { path = p; is_scope = t.is_scope }) = inl (λ i. record { path = path i; is_scope = scope i }) in
        among_left (flat_map lasting x.entries) k.certain (record { path = p; is_scope = t.is_scope })
        (flat_among lasting x.entries e (record { path = p; is_scope = t.is_scope }) m (subst (λ (e : Entry). Among (lasting e) (record { path = p; is_scope = t.is_scope })) d.1 mine))

    made_certain : (p : Path) (t : Term) → made_behind objects ds p ≡ Some t → Among (flat_map lasting x.entries ++ k.certain) (record { path = p; is_scope = t.is_scope })
    made_certain p t is = by (h.all.is_true.possible (ap not all.not_in_loop) p t is)
      where
        by : (e : Entry) × Among (k.entries ++ x.entries) e × (e.path ≡ p) × (e.term ≡ t) → Among (flat_map lasting x.entries ++ k.certain) (record { path = p; is_scope = t.is_scope })
        by e = at (among_append k.entries x.entries e.0 e.1)
          where
            at : Among k.entries e.0 ⊎ Among x.entries e.0 → Among (flat_map lasting x.entries ++ k.certain) (record { path = p; is_scope = t.is_scope })
            at (inl m) = old_certain p t e.0 e.2 e.3 m
            at (inr m) = new_certain p t e.0 e.2 e.3 m

pub strict_is_survey : (k : Known) (objects : Namespace) (ts : List Nodes) (dss : List (List Placement)) → IsAllOf objects k → AreListings ts objects dss → AllZip IsStrict dss (surveys k ts)
strict_is_survey k objects [] [] all l = tt
strict_is_survey k objects [] (ds ∷ dss) all l = absurd l
strict_is_survey k objects (t ∷ ts) [] all l = absurd l
strict_is_survey k objects (t ∷ ts) (ds ∷ dss) all l =
    let h : Strictly ds objects k (table_survey k t) = strict_nodes t at_root k objects ds refl all l.0 in
    ((h.entries, h.refused, h.stops), strict_is_survey (behind_table k (table_survey k t)) (made_behind objects ds) ts dss (all_behind_table ds objects k (table_survey k t) all h) l.1)
