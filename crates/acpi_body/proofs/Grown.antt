-- What the gathered sets hold: the misses of each search.
use Rattle.std.proofs.Common.{◌≡◌, ◌≢◌, ◌⊎◌, ◌↔◌, inl, inr, ℕ, Bool, true, false, cond, List, [], ◌∷◌, find, is_some, Option, Some, None, Result, Ok, Err, IfOk, true≢false, refl, sym, ap, subst, ◌∙◌}
use Rattle.std.specs.Prelude.{IsTrue}
use Rattle.std.specs.List.{filter}
use Rattle.std.specs.Option.{unwrap_or}
use Rattle.std.specs.FinMap.{get, insert, empty, get-insert, get-empty}
use Rattle.acpi_name.specs.Names.{Segment, NameParts}
use Rattle.acpi_name.specs.Paths.{path_cmp}
use Rattle.acpi_name.specs.steps.PathOrder.{path_cmp_total}
use Rattle.acpi_name.proofs.EqualPaths.{path_eq_Decides}
use Rattle.acpi_space.specs.Spaces.{PathMap, is_defined}
use Rattle.acpi_space.specs.Lookups.{Lookup, is_same_path, is_defined_in}
use Rattle.acpi_space.specs.Search.{answer, missed, tries}
use Rattle.acpi_space.specs.Laws.{Among}
use Rattle.acpi_space.specs.Wanted.{Wants}
use Rattle.acpi_space.proofs.Filters.{among_filter}
use Rattle.acpi_counts.specs.Counts.{first_of, with_first}
use Rattle.acpi_tree.specs.Terms.{TermTrees}
use Rattle.acpi_body.specs.declared.gathered.Gathered.{Gathered}
use Rattle.acpi_values.specs.Arguments.{Locals}
use Rattle.acpi_body.specs.Arguments.{namespace_of, with_path, defined_with, expected_place}
use Rattle.acpi_body.specs.Searches.{Searched, all_searches}
use Rattle.acpi_body.specs.Misses.{unless_found, awaited_place, IsMissedIn, IsAwaitedIn}
use Rattle.acpi_body.specs.steps.Setting.{Setting}
use Rattle.acpi_body.specs.steps.Gathering.{Paths, is_at, with_misses, with_awaited, if_wanted, with_search, with_searches, after_statements, Grows}
use Rattle.acpi_body.proofs.Gathering.{after_statements_are}

-- ---- sets that grow

pub grows_not : (m : Paths) → Grows m m (λ p. ⊥)
grows_not m p = (λ h. inl h, λ h. by h)
  where
    by : IsTrue (is_defined m p) ⊎ ⊥ → IsTrue (is_defined m p)
    by (inl h) = h
    by (inr h) = absurd h

pub grows_as : (a b : Paths) (P Q : List Segment → Type 0) → ((p : List Segment) → P p ↔ Q p) → Grows a b P → Grows a b Q
grows_as a b P Q same g p = (λ h. to ((g p).0 h), λ h. (g p).1 (from h))
  where
    to : IsTrue (is_defined a p) ⊎ P p → IsTrue (is_defined a p) ⊎ Q p
    to (inl h) = inl h
    to (inr h) = inr ((same p).0 h)

    from : IsTrue (is_defined a p) ⊎ Q p → IsTrue (is_defined a p) ⊎ P p
    from (inl h) = inl h
    from (inr h) = inr ((same p).1 h)

pub grows_then : (a b c : Paths) (P Q : List Segment → Type 0) → Grows a b P → Grows b c Q → Grows a c (λ p. P p ⊎ Q p)
grows_then a b c P Q f g p = (λ h. to ((g p).0 h), from)
  where
    first : IsTrue (is_defined a p) ⊎ P p → IsTrue (is_defined a p) ⊎ (P p ⊎ Q p)
    first (inl h) = inl h
    first (inr h) = inr (inl h)

    to : IsTrue (is_defined b p) ⊎ Q p → IsTrue (is_defined a p) ⊎ (P p ⊎ Q p)
    to (inl h) = first ((f p).0 h)
    to (inr h) = inr (inr h)

    from : IsTrue (is_defined a p) ⊎ (P p ⊎ Q p) → IsTrue (is_defined c p)
    from (inl h) = (g p).1 (inl ((f p).1 (inl h)))
    from (inr (inl h)) = (g p).1 (inl ((f p).1 (inr h)))
    from (inr (inr h)) = (g p).1 (inr h)

-- one path more
pub grows_local : (m : Paths) (q : List Segment) → Grows m (with_path m q) (λ p. q ≡ p)
grows_local m q p = by (is_defined m q) refl
  where
    put : (b : Bool) → is_same_path p q ≡ b → IsTrue (is_some (cond b (Some tt) (get m p))) ↔ (IsTrue (is_defined m p) ⊎ (q ≡ p))
    put true e = (λ h. inr (sym ((path_eq_Decides p q).0 e)), λ h. refl)
    put false e = (λ h. inl h, λ h. back h)
      where
        back : IsTrue (is_defined m p) ⊎ (q ≡ p) → IsTrue (is_defined m p)
        back (inl h) = h
        back (inr h) = absurd (true≢false (sym ((path_eq_Decides p q).1 (sym h)) ∙ e))

    by : (b : Bool) → is_defined m q ≡ b → IsTrue (is_defined (cond b m (insert m q tt)) p) ↔ (IsTrue (is_defined m p) ⊎ (q ≡ p))
    by true e = (λ h. inl h, λ h. back h)
      where
        back : IsTrue (is_defined m p) ⊎ (q ≡ p) → IsTrue (is_defined m p)
        back (inl h) = h
        back (inr h) = ap (is_defined m) (sym h) ∙ e
    by false e = subst (λ (o : Option (Unit {0})). IsTrue (is_some o) ↔ (IsTrue (is_defined m p) ⊎ (q ≡ p))) (sym (get-insert path_cmp_total m q tt p)) (put (is_same_path p q) refl)

-- what stands at the path that is awaited
is_at-true : (a : Option (List Segment)) (q : List Segment) → is_at a q ≡ true → a ≡ Some q
is_at-true None q e = absurd (true≢false (sym e))
is_at-true (Some r) q e = ap Some (sym ((path_eq_Decides q r).0 e))

is_at-false : (a : Option (List Segment)) (q : List Segment) → is_at a q ≡ false → a ≢ Some q
is_at-false None q e h = cc
is_at-false (Some r) q e h = let same : r ≡ q = cc in true≢false (sym ((path_eq_Decides q r).1 (sym same)) ∙ e)

one_miss : (a : Option (List Segment)) (m : Paths) (q : List Segment) → Grows m (cond (is_at a q) m (with_path m q)) (λ p. (q ≡ p) × (a ≢ Some p))
one_miss a m q = by (is_at a q) refl
  where
    by : (b : Bool) → is_at a q ≡ b → Grows m (cond b m (with_path m q)) (λ p. (q ≡ p) × (a ≢ Some p))
    by true e = grows_as m m (λ p. ⊥) (λ p. (q ≡ p) × (a ≢ Some p)) (λ p. (λ h. absurd h, λ h. h.1 (is_at-true a q e ∙ ap Some h.0))) (grows_not m)
    by false e = grows_as m (with_path m q) (λ p. q ≡ p) (λ p. (q ≡ p) × (a ≢ Some p)) (λ p. (λ h. (h, subst (λ r. a ≢ Some r) h (is_at-false a q e)), λ h. h.0)) (grows_local m q)

pub misses_grow : (a : Option (List Segment)) (m : Paths) (ps : List (List Segment)) → Grows m (with_misses a m ps) (λ p. Among ps p × (a ≢ Some p))
misses_grow a m [] = grows_as m m (λ p. ⊥) (λ p. ⊥ × (a ≢ Some p)) (λ p. (λ h. absurd h, λ h. h.0)) (grows_not m)
misses_grow a m (q ∷ ps) =
    let n = cond (is_at a q) m (with_path m q) in
    grows_as m (with_misses a n ps) (λ p. ((q ≡ p) × (a ≢ Some p)) ⊎ (Among ps p × (a ≢ Some p))) (λ p. ((q ≡ p) ⊎ Among ps p) × (a ≢ Some p)) (λ p. (to p, λ h. from p h.0 h.1))
    (grows_then m n (with_misses a n ps) (λ p. (q ≡ p) × (a ≢ Some p)) (λ p. Among ps p × (a ≢ Some p)) (one_miss a m q) (misses_grow a n ps))
  where
    to : (p : List Segment) → ((q ≡ p) × (a ≢ Some p)) ⊎ (Among ps p × (a ≢ Some p)) → ((q ≡ p) ⊎ Among ps p) × (a ≢ Some p)
    to p (inl h) = (inl h.0, h.1)
    to p (inr h) = (inr h.0, h.1)

    from : (p : List Segment) → (q ≡ p) ⊎ Among ps p → a ≢ Some p → ((q ≡ p) × (a ≢ Some p)) ⊎ (Among ps p × (a ≢ Some p))
    from p (inl h) k = inl (h, k)
    from p (inr h) k = inr (h, k)

-- ---- some search of a list

abbrev pub AnyOf : {A : Type 0} → (A → Type 0) → List A → Type 0
AnyOf P [] = ⊥
AnyOf P (x ∷ xs) = P x ⊎ AnyOf P xs

any_among : {A : Type 0} (P : A → Type 0) (xs : List A) → AnyOf P xs → (x : A) × Among xs x × P x
any_among P [] h = absurd h
any_among P (x ∷ xs) (inl h) = (x, inl refl, h)
any_among P (x ∷ xs) (inr h) = let r = any_among P xs h in (r.0, inr r.1, r.2)

among_any : {A : Type 0} (P : A → Type 0) (xs : List A) (x : A) → Among xs x → P x → AnyOf P xs
among_any P [] x m h = absurd m
among_any P (y ∷ xs) x (inl e) h = inl (subst P (sym e) h)
among_any P (y ∷ xs) x (inr m) h = inr (among_any P xs x m h)

abbrev place_of_search : Setting → Searched → Option (List Segment)
place_of_search c e = awaited_place (namespace_of c.objects) (get c.externals) c.method e.0 e.1

abbrev IsMissOf : Wants → Setting → List Segment → Searched → Type 0
IsMissOf w c p e = Among (filter w (missed (defined_with (namespace_of c.objects) e.0) c.method e.1)) p × (place_of_search c e ≢ Some p)

abbrev AwaitsAt : Wants → Setting → List Segment → Searched → Type 0
AwaitsAt w c p e = if_wanted w (place_of_search c e) ≡ Some p

searches_grow : (w : Wants) (c : Setting) (g : Gathered) (es : List Searched) → Grows g.firm (with_searches w c g es).firm (λ p. AnyOf (IsMissOf w c p) es)
unfolding with_search
searches_grow w c g [] = grows_not g.firm
searches_grow w c g (e ∷ es) =
    grows_then g.firm (with_search w c g e).firm (with_searches w c (with_search w c g e) es).firm (λ p. IsMissOf w c p e) (λ p. AnyOf (IsMissOf w c p) es)
    (misses_grow (place_of_search c e) g.firm (filter w (missed (defined_with (namespace_of c.objects) e.0) c.method e.1))) (searches_grow w c (with_search w c g e) es)

none_at_first : (p : List Segment) → IsTrue (is_defined (empty {X = Unit {0}} {R = path_cmp}) p) → ⊥
none_at_first p h = true≢false (sym h ∙ ap is_some (get-empty path_cmp p))

pub from_none : (m : Paths) (P : List Segment → Type 0) → Grows empty m P → (p : List Segment) → IsTrue (is_defined m p) ↔ P p
from_none m P g p = (λ h. to ((g p).0 h), λ h. (g p).1 (inr h))
  where
    to : IsTrue (is_defined (empty {X = Unit {0}} {R = path_cmp}) p) ⊎ P p → P p
    to (inl h) = absurd (none_at_first p h)
    to (inr h) = h

pub read_firm : (w : Wants) (c : Setting) (g : Gathered) (ts : TermTrees) → g.firm ≡ empty → (p : List Segment)
    → IsTrue (is_defined (with_searches w c g (all_searches c.method empty ts)).firm p) ↔ (IsMissedIn (namespace_of c.objects) (get c.externals) c.method ts p × IsTrue (w p))
read_firm w c g ts none p =
    let es = all_searches c.method empty ts in (
      λ h. to (any_among (IsMissOf w c p) es ((all p).0 h)),
      λ h. (all p).1
          (among_any (IsMissOf w c p) es (h.0.locals, h.0.name) h.0.searched
          ((among_filter w (missed (defined_with (namespace_of c.objects) h.0.locals) c.method h.0.name) p).1 (h.0.misses, h.1), h.0.firm)),
    )
  where
    all : (p : List Segment) → IsTrue (is_defined (with_searches w c g (all_searches c.method empty ts)).firm p) ↔ AnyOf (IsMissOf w c p) (all_searches c.method empty ts)
    all = from_none (with_searches w c g (all_searches c.method empty ts)).firm (λ p. AnyOf (IsMissOf w c p) (all_searches c.method empty ts))
        (subst (λ (m : Paths). Grows m (with_searches w c g (all_searches c.method empty ts)).firm
        (λ p. AnyOf (IsMissOf w c p) (all_searches c.method empty ts))) none (searches_grow w c g (all_searches c.method empty ts)))

    to : ((e : Searched) × Among (all_searches c.method empty ts) e × IsMissOf w c p e) → (IsMissedIn (namespace_of c.objects) (get c.externals) c.method ts p × IsTrue (w p))
    to r =
        let k = (among_filter w (missed (defined_with (namespace_of c.objects) r.0.0) c.method r.0.1) p).0 r.2.0 in
        (record { locals = r.0.0; name = r.0.1; searched = r.1; misses = k.0; firm = r.2.1 }, k.1)

-- ---- counts that are awaited

-- they are those of the Externals at the paths with P
abbrev pub Holds : Lookup ℕ → PathMap ℕ → (List Segment → Type 0) → Type 0
Holds externals m P = (p : List Segment) (n : ℕ) → (get m p ≡ Some n) ↔ (P p × (externals p ≡ Some n))

pub holds_as : (externals : Lookup ℕ) (m : PathMap ℕ) (P Q : List Segment → Type 0) → ((p : List Segment) → P p ↔ Q p) → Holds externals m P → Holds externals m Q
holds_as externals m P Q same h p n = (λ e. let r : P p × (externals p ≡ Some n) = (h p n).0 e in ((same p).0 r.0, r.1), λ r. (h p n).1 ((same p).1 r.0, r.1))

-- the count of an External more
pub one_count : (externals : Lookup ℕ) (m : PathMap ℕ) (P : List Segment → Type 0) (q : List Segment) (k : ℕ) → externals q ≡ Some k → Holds externals m P
    → Holds externals (with_first m q (unwrap_or (externals q) 0)) (λ p. P p ⊎ (q ≡ p))
one_count externals m P q k there h = by (get m q) refl
  where
    by : (o : Option ℕ) → get m q ≡ o → Holds externals (first_of m q (unwrap_or (externals q) 0) o) (λ p. P p ⊎ (q ≡ p))
    by (Some j) e p n = (λ f. let r : P p × (externals p ≡ Some n) = (h p n).0 f in (inl r.0, r.1), λ r. back r.0 r.1)
      where
        back : P p ⊎ (q ≡ p) → externals p ≡ Some n → get m p ≡ Some n
        back (inl x) f = (h p n).1 (x, f)
        back (inr s) f = (h p n).1 (((h p j).0 (ap (get m) (sym s) ∙ e)).0, f)
    by None e p n = subst (λ (o : Option ℕ). (o ≡ Some n) ↔ ((P p ⊎ (q ≡ p)) × (externals p ≡ Some n))) (sym (get-insert path_cmp_total m q (unwrap_or (externals q) 0) p)) (at (is_same_path p q) refl)
      where
        at : (b : Bool) → is_same_path p q ≡ b → (cond b (Some (unwrap_or (externals q) 0)) (get m p) ≡ Some n) ↔ ((P p ⊎ (q ≡ p)) × (externals p ≡ Some n))
        at true s =
            let same : p ≡ q = (path_eq_Decides p q).0 s in
            let here : Some (unwrap_or (externals q) 0) ≡ externals p = ap (λ (o : Option ℕ). Some (unwrap_or o 0)) there ∙ sym there ∙ ap externals (sym same) in
            (λ f. (inr (sym same), sym here ∙ f), λ r. here ∙ r.1)
        at false s = (λ f. let r : P p × (externals p ≡ Some n) = (h p n).0 f in (inl r.0, r.1), λ r. back r.0 r.1)
          where
            back : P p ⊎ (q ≡ p) → externals p ≡ Some n → get m p ≡ Some n
            back (inl x) f = (h p n).1 (x, f)
            back (inr k) f = absurd (true≢false (sym ((path_eq_Decides p q).1 (sym k)) ∙ s))

pub found_passes : {A : Type 0} (test : A → Bool) (xs : List A) (x : A) → find test xs ≡ Some x → test x ≡ true
found_passes test [] x e = cc
found_passes {A} test (y ∷ xs) x e = by (test y) refl e (found_passes test xs x)
  where
    by : (b : Bool) → test y ≡ b → cond b (Some y) (find test xs) ≡ Some x → (find test xs ≡ Some x → test x ≡ true) → test x ≡ true
    by true t f more = let same : y ≡ x = cc in ap test (sym same) ∙ t
    by false t f more = more f

-- what is awaited has a count
pub awaited_counts : (externals : Lookup ℕ) (s : List Segment) (n : NameParts) (o : Option (List Segment)) (q : List Segment)
    → unless_found o (expected_place externals s n) ≡ Some q → (k : ℕ) × (externals q ≡ Some k)
awaited_counts externals s n (Some p) q e = cc
awaited_counts externals s n None q e = by (externals q) refl (found_passes (is_defined_in externals) (tries s n) q e)
  where
    by : (o : Option ℕ) → externals q ≡ o → is_some o ≡ true → (k : ℕ) × (externals q ≡ Some k)
    by None f t = absurd (true≢false (sym t))
    by (Some k) f t = (k, f)

one_search : (externals : Lookup ℕ) (m : PathMap ℕ) (P : List Segment → Type 0) (a : Option (List Segment)) → ((q : List Segment) → a ≡ Some q → (k : ℕ) × (externals q ≡ Some k)) → Holds externals m P
    → Holds externals (with_awaited externals m a) (λ p. P p ⊎ (a ≡ Some p))
one_search externals m P None there h = holds_as externals m P (λ p. P p ⊎ (None ≡ Some p)) (λ p. (λ x. inl x, λ x. by p x)) h
  where
    by : (p : List Segment) → P p ⊎ (None ≡ Some p) → P p
    by p (inl x) = x
    by p (inr e) = cc
one_search externals m P (Some q) there h =
    let k : (k : ℕ) × (externals q ≡ Some k) = there q refl in
    holds_as externals (with_first m q (unwrap_or (externals q) 0)) (λ p. P p ⊎ (q ≡ p)) (λ p. P p ⊎ (Some q ≡ Some p)) (λ p. (λ x. to p x, λ x. from p x)) (one_count externals m P q k.0 k.1 h)
  where
    to : (p : List Segment) → P p ⊎ (q ≡ p) → P p ⊎ (Some q ≡ Some p)
    to p (inl x) = inl x
    to p (inr e) = inr (ap Some e)

    from : (p : List Segment) → P p ⊎ (Some q ≡ Some p) → P p ⊎ (q ≡ p)
    from p (inl x) = inl x
    from p (inr e) = let same : q ≡ p = cc in inr same

-- a path that is asked for
wanted_is : (w : Wants) (o : Option (List Segment)) (p : List Segment) → (if_wanted w o ≡ Some p) ↔ ((o ≡ Some p) × IsTrue (w p))
wanted_is w None p = (λ e. cc, λ r. r.0)
wanted_is w (Some q) p = by (w q) refl
  where
    by : (b : Bool) → w q ≡ b → (cond b (Some q) None ≡ Some p) ↔ ((Some q ≡ Some p) × IsTrue (w p))
    by true e = (λ h. let same : q ≡ p = cc in (h, ap w (sym same) ∙ e), λ r. r.0)
    by false e = (λ h. cc, λ r. let h : Some q ≡ Some p = r.0 in let same : q ≡ p = cc in absurd (true≢false (sym r.1 ∙ ap w (sym same) ∙ e)))

searches_hold : (w : Wants) (c : Setting) (g : Gathered) (P : List Segment → Type 0) (es : List Searched) → Holds (get c.externals) g.awaited P
    → Holds (get c.externals) (with_searches w c g es).awaited (λ p. P p ⊎ AnyOf (AwaitsAt w c p) es)
unfolding with_search
searches_hold w c g P [] h = holds_as (get c.externals) g.awaited P (λ p. P p ⊎ ⊥) (λ p. (λ x. inl x, λ x. by p x)) h
  where
    by : (p : List Segment) → P p ⊎ ⊥ → P p
    by p (inl x) = x
    by p (inr x) = absurd x
searches_hold w c g P (e ∷ es) h =
    holds_as (get c.externals) (with_searches w c (with_search w c g e) es).awaited (λ p. (P p ⊎ AwaitsAt w c p e) ⊎ AnyOf (AwaitsAt w c p) es) (λ p. P p ⊎ AnyOf (AwaitsAt w c p) (e ∷ es))
    (λ p. (λ x. to p x, λ x. from p x))
    (searches_hold w c (with_search w c g e) (λ p. P p ⊎ AwaitsAt w c p e) es
    (one_search (get c.externals) g.awaited P (if_wanted w (place_of_search c e))
    (λ q i. awaited_counts (get c.externals) c.method e.1 (answer (defined_with (namespace_of c.objects) e.0) c.method e.1) q ((wanted_is w (place_of_search c e) q).0 i).0) h))
  where
    to : (p : List Segment) → (P p ⊎ AwaitsAt w c p e) ⊎ AnyOf (AwaitsAt w c p) es → P p ⊎ AnyOf (AwaitsAt w c p) (e ∷ es)
    to p (inl (inl x)) = inl x
    to p (inl (inr x)) = inr (inl x)
    to p (inr x) = inr (inr x)

    from : (p : List Segment) → P p ⊎ AnyOf (AwaitsAt w c p) (e ∷ es) → (P p ⊎ AwaitsAt w c p e) ⊎ AnyOf (AwaitsAt w c p) es
    from p (inl x) = inl (inl x)
    from p (inr (inl x)) = inl (inr x)
    from p (inr (inr x)) = inr x

pub read_awaited : (w : Wants) (c : Setting) (g : Gathered) (ts : TermTrees) → g.awaited ≡ empty → (p : List Segment) (count : ℕ)
    → (get (with_searches w c g (all_searches c.method empty ts)).awaited p ≡ Some count) ↔ (IsAwaitedIn (namespace_of c.objects) (get c.externals) c.method ts p count × IsTrue (w p))
read_awaited w c g ts none p count =
    let es = all_searches c.method empty ts in (
      λ h. let r = (all p count).0 h in to (part r.0) r.1,
      λ h. (all p count).1 (
        inr (among_any (AwaitsAt w c p) es (h.0.locals, h.0.name) h.0.searched
            ((wanted_is w (place_of_search c (h.0.locals, h.0.name)) p).1 (h.0.awaits, h.1))),
        h.0.expects,
      ),
    )
  where
    at_first : Holds (get c.externals) g.awaited (λ p. ⊥)
    at_first p n = (λ e. not (get g.awaited p) (ap (λ (m : PathMap ℕ). get m p) none ∙ get-empty path_cmp p) e, λ r. absurd r.0)
      where
        not : (o : Option ℕ) → o ≡ None → o ≡ Some n → ⊥ × (get c.externals p ≡ Some n)
        not o e f = absurd (true≢false (sym (ap is_some (sym e ∙ f))))

    all : Holds (get c.externals) (with_searches w c g (all_searches c.method empty ts)).awaited (λ p. ⊥ ⊎ AnyOf (AwaitsAt w c p) (all_searches c.method empty ts))
    all = searches_hold w c g (λ p. ⊥) (all_searches c.method empty ts) at_first

    part : ⊥ ⊎ AnyOf (AwaitsAt w c p) (all_searches c.method empty ts) → (e : Searched) × Among (all_searches c.method empty ts) e × AwaitsAt w c p e
    part (inl x) = absurd x
    part (inr x) = any_among (AwaitsAt w c p) (all_searches c.method empty ts) x

    to : ((e : Searched) × Among (all_searches c.method empty ts) e × AwaitsAt w c p e) → get c.externals p ≡ Some count
        → (IsAwaitedIn (namespace_of c.objects) (get c.externals) c.method ts p count × IsTrue (w p))
    to r e =
        let k = (wanted_is w (place_of_search c r.0) p).0 r.2 in
        (record { locals = r.0.0; name = r.0.1; searched = r.1; awaits = k.0; expects = e }, k.1)

-- ---- as the code gathers them

abbrev pub nothing_gathered : Gathered
nothing_gathered = record { firm = empty; awaited = empty }

gathered_is : (w : Wants) (c : Setting) (locals : Locals) (g h : Gathered) (ts : TermTrees) → locals ≡ empty → h ≡ after_statements w c locals g ts
    → h ≡ with_searches w c g (all_searches c.method empty ts)
gathered_is w c locals g h ts none e = e ∙ after_statements_are w c locals g ts ∙ ap (λ (l : Locals). with_searches w c g (all_searches c.method l ts)) none

pub terms_firm : (w : Wants) (c : Setting) (locals : Locals) (g h : Gathered) (ts : TermTrees) → locals ≡ empty → g ≡ nothing_gathered → h ≡ after_statements w c locals g ts
    → (p : List Segment) → IsTrue (is_defined h.firm p) ↔ (IsMissedIn (namespace_of c.objects) (get c.externals) c.method ts p × IsTrue (w p))
terms_firm w c locals g h ts none start e p =
    subst (λ (k : Gathered). IsTrue (is_defined k.firm p) ↔ (IsMissedIn (namespace_of c.objects) (get c.externals) c.method ts p × IsTrue (w p)))
    (sym (gathered_is w c locals g h ts none e)) (read_firm w c g ts (ap (λ (k : Gathered). k.firm) start) p)

pub terms_awaited : (w : Wants) (c : Setting) (locals : Locals) (g h : Gathered) (ts : TermTrees) → locals ≡ empty → g ≡ nothing_gathered → h ≡ after_statements w c locals g ts
    → (p : List Segment) (count : ℕ) → (get h.awaited p ≡ Some count) ↔ (IsAwaitedIn (namespace_of c.objects) (get c.externals) c.method ts p count × IsTrue (w p))
terms_awaited w c locals g h ts none start e p count =
    subst (λ (k : Gathered). (get k.awaited p ≡ Some count) ↔ (IsAwaitedIn (namespace_of c.objects) (get c.externals) c.method ts p count
    × IsTrue (w p))) (sym (gathered_is w c locals g h ts none e)) (read_awaited w c g ts (ap (λ (k : Gathered). k.awaited) start) p count)

pub bytes_firm : (g : Gathered) (m : Paths) (P : List Segment → Type 0) → g ≡ nothing_gathered → Grows g.firm m P → (p : List Segment) → IsTrue (is_defined m p) ↔ P p
bytes_firm g m P start h = from_none m P (subst (λ (k : Gathered). Grows k.firm m P) start h)

pub bytes_awaited : (g : Gathered) → g ≡ nothing_gathered → (p : List Segment) (count : ℕ) → (get g.awaited p ≡ Some count) ↔ ⊥
bytes_awaited g start p count = (λ e. true≢false (ap is_some (sym e ∙ ap (λ (k : Gathered). get k.awaited p) start ∙ get-empty path_cmp p)), λ x. absurd x)

pub none_asked : {E : Type 0} (r : Result Gathered E) (w : Wants) → IfOk r (λ k. (p : List Segment) (count : ℕ) → (get k.awaited p ≡ Some count) ↔ ⊥)
    → IfOk r (λ k. (p : List Segment) (count : ℕ) → (get k.awaited p ≡ Some count) ↔ (⊥ × IsTrue (w p)))
none_asked (Ok k) w h = λ p count. (λ e. absurd ((h p count).0 e), λ r. absurd r.0)
none_asked (Err f) w h = tt
