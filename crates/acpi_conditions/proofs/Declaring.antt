-- When a term makes its object: exactly where its entry says so, and never where it is refused.
use Rattle.std.proofs.Common.{◌≡◌, ◌≢◌, Bool, true, false, cond, not, ◌&&◌, ◌||◌, List, [], ◌∷◌, ◌++◌, ◌⊎◌, inl, inr, Option, Some, None, refl, sym, ap, subst, Ok, Err}
use Rattle.std.specs.List.{AllByRecursion}
use Rattle.std.specs.Prelude.{IsTrue}
use Rattle.std.proofs.lemmas.Bool.{or_parts, not-true, not-false}
use Rattle.acpi_name.specs.Names.{Segment, NameParts}
use Rattle.acpi_name.specs.Paths.{place_of, parent_of}
use Rattle.acpi_space.specs.Lookups.{singleton, union}
use Rattle.acpi_space.specs.Laws.{Among}
use Rattle.acpi_space.proofs.Elements.{among_left, among_right}
use Rattle.acpi_conditions.specs.Nodes.{Term}
use Rattle.acpi_conditions.specs.Entries.{Path, Namespace, IsScopeIn, IsFoundIn, is_empty, asks_nothing, Entry, Holds, Why, no_parent, not_a_scope, taken, unsure}
use Rattle.acpi_conditions.specs.Known.{Certain, Known, is_certain, is_certain_scope, is_possible, is_possible_scope, candidates, is_certain_name, declared_in, declared_at, settled, why_missing, opened_in, opened_at, IsTrueOf}
use Rattle.acpi_conditions.specs.Survey.{Around, entry_at, known_inside, known_in_scope}
use Rattle.acpi_conditions.specs.Runs.{Makes, Finds}
use Rattle.acpi_conditions.specs.Laws.{IsSure}
use Rattle.acpi_conditions.proofs.Basics.{and_left, and_right, never, all_filter, all_both, union_grows, union_new, union_cases}
use Rattle.acpi_conditions.proofs.Knowing.{certain_scope_made, free_uncertain, made_possible, made_possible_scope, impossible_free, certain_found, found_candidate, one_found}

-- ---- where a term is not refused

below_is : (k : Known) (q p r : Path) (a b c : Bool) → is_possible k q ≡ a → is_possible_scope k q ≡ b → is_certain k p ≡ c → cond a (cond b (cond c (Err (taken p)) (Ok p)) (Err (not_a_scope q))) (Err (no_parent q)) ≡ Ok r
    → p ≡ r
below_is k q p r true true true x y z e = cc
below_is k q p r true true false x y z e = cc
below_is k q p r true false c x y z e = cc
below_is k q p r false b c x y z e = cc

pub declared_in_is : (k : Known) (s : Path) (gs : List Segment) (place : Option Path) (p : Path) → declared_in k s gs place ≡ Ok p → (gs ≢ []) × (place ≡ Some p)
declared_in_is k s [] place p e = cc
declared_in_is k s (g ∷ gs) None p e = cc
declared_in_is k s (g ∷ gs) (Some q) p e =
    ((λ f. cc), ap Some (below_is k (parent_of q) q p (is_possible k (parent_of q)) (is_possible_scope k (parent_of q)) (is_certain k q) refl refl refl e))

pub declared_is : (k : Known) (s : Path) (n : NameParts) (p : Path) → declared_at k s n ≡ Ok p → (n.segments ≢ []) × (place_of s n ≡ Some p)
declared_is k s n p e = declared_in_is k s n.segments (place_of s n) p e

below_allowed : (k : Known) (q p : Path) (a b c : Bool) → a ≡ true → b ≡ true → c ≡ false → cond a (cond b (cond c (Err (taken p)) (Ok p)) (Err (not_a_scope q))) (Err (no_parent q)) ≡ Ok p
below_allowed k q p true true false x y z = refl
below_allowed k q p true true true x y z = cc
below_allowed k q p true false c x y z = cc
below_allowed k q p false b c x y z = cc

asks_no_more : (e : Entry) → asks_nothing e.asks ≡ true → (e.asks.has ≡ false) × (e.asks.no ≡ false) × (is_empty e.asks.needs ≡ true)
asks_no_more e q = (
  not-true e.asks.has (and_left (not e.asks.has) (not e.asks.no) (and_left (not e.asks.has && not e.asks.no) (is_empty e.asks.needs) q)),
  not-true e.asks.no (and_right (not e.asks.has) (not e.asks.no) (and_left (not e.asks.has && not e.asks.no) (is_empty e.asks.needs) q)),
  and_right (not e.asks.has && not e.asks.no) (is_empty e.asks.needs) q,
)

all_empty : {X : Type 0} (P : X → Type 0) (xs : List X) → is_empty xs ≡ true → AllByRecursion P xs
all_empty P [] e = tt
all_empty P (x ∷ xs) e = cc

module _ (objects : Namespace) (k : Known) (h : IsTrueOf objects k) where
  allowed_in : (s : Path) (gs : List Segment) (place : Option Path) (p : Path) → gs ≢ [] → place ≡ Some p → IsScopeIn objects (parent_of p) → objects p ≡ None → declared_in k s gs place ≡ Ok p
  allowed_in s [] place p some e parent free = absurd (some refl)
  allowed_in s (g ∷ gs) place p some e parent free =
      subst (λ (o : Option Path). declared_in k s (g ∷ gs) o ≡ Ok p) (sym e)
      (below_allowed k (parent_of p) p (is_possible k (parent_of p)) (is_possible_scope k (parent_of p)) (is_certain k p)
      (made_possible objects k h (parent_of p) parent.0 parent.1) (made_possible_scope objects k h (parent_of p) parent) (free_uncertain objects k h p free))

  -- a term that makes its object isn't refused
  pub makes_allowed : (s : Path) (t : Term) (p : Path) → Makes objects s t p → declared_at k s t.name ≡ Ok p
  makes_allowed s t p m = allowed_in s t.name.segments (place_of s t.name) p m.has_segments m.placed m.parent m.free

  -- ---- exactly where what is asked is so

  pub makes_holds : (a : Around) (t : Term) (p : Path) → Makes objects a.scope t p → Holds objects (entry_at a k t p)
  makes_holds a t p m = record {
    has = λ e. m.parent;
    no = λ e. m.free;
    needs = all_filter (IsFoundIn objects a.scope) (λ n. not (is_certain_name k a.scope n)) t.needs m.needs;
  }

  pub holds_makes : (a : Around) (t : Term) (p : Path) → declared_at k a.scope t.name ≡ Ok p → Holds objects (entry_at a k t p) → Makes objects a.scope t p
  holds_makes a t p ok so = record {
    has_segments = (declared_is k a.scope t.name p ok).0;
    placed = (declared_is k a.scope t.name p ok).1;
    parent = parent (is_certain_scope k (parent_of p)) refl;
    free = free (is_possible k p) refl;
    needs = all_both (IsFoundIn objects a.scope) (λ n. not (is_certain_name k a.scope n)) (λ n e. certain_found objects k h a.scope n (not-false (is_certain_name k a.scope n) e)) t.needs so.needs;
  }
    where
      parent : (b : Bool) → is_certain_scope k (parent_of p) ≡ b → IsScopeIn objects (parent_of p)
      parent true e = certain_scope_made objects k h (parent_of p) e
      parent false e = so.has (ap not e)

      free : (b : Bool) → is_possible k p ≡ b → objects p ≡ None
      free true e = so.no e
      free false e = impossible_free objects k h p e

  -- ---- what is settled

  pub nothing_holds : (e : Entry) → asks_nothing e.asks ≡ true → Holds objects e
  nothing_holds e q =
      let n = asks_no_more e q in record {
        has = λ t. absurd (never e.asks.has t n.0);
        no = λ t. absurd (never e.asks.no t n.1);
        needs = all_empty (IsFoundIn objects e.scope) e.asks.needs n.2;
      }

  -- a term that asks nothing makes its object
  pub nothing_makes : (a : Around) (t : Term) (p : Path) → declared_at k a.scope t.name ≡ Ok p → asks_nothing (entry_at a k t p).asks ≡ true → Makes objects a.scope t p
  nothing_makes a t p ok q = holds_makes a t p ok (nothing_holds (entry_at a k t p) q)

abbrev pub AreCertain : Namespace → List Certain → Type 0
AreCertain objects cs = (c : Certain) → Among cs c → (t : Term) × (objects c.path ≡ Some t) × (IsTrue c.is_scope → IsTrue t.is_scope)

settled_at : (objects : Namespace) (e : Entry) (t : Term) → objects e.path ≡ Some t → (IsTrue (e.term.is_scope && not e.asks.no) → IsTrue t.is_scope) → (b : Bool)
    → AreCertain objects (cond b [] (record { path = e.path; is_scope = e.term.is_scope && not e.asks.no } ∷ []))
settled_at objects e t m is true c f = absurd f
settled_at objects e t m is false c (inr f) = absurd f
settled_at objects e t m is false c (inl same) =
    subst (λ (c : Certain). (t : Term) × (objects c.path ≡ Some t) × (IsTrue c.is_scope → IsTrue t.is_scope)) same (t, m, is)

-- .. behind a term that made its object
pub settled_made : (objects : Namespace) (e : Entry) → objects e.path ≡ Some e.term → AreCertain objects (settled e)
settled_made objects e m = settled_at objects e e.term m (λ b. and_left e.term.is_scope (not e.asks.no) b) (e.asks.has || not (is_empty e.asks.needs))

module _ (objects : Namespace) (k : Known) (h : IsTrueOf objects k) (a : Around) (t : Term) (p : Path) (ok : declared_at k a.scope t.name ≡ Ok p) (none : (q : Path) → Makes objects a.scope t q → ⊥) where
  abbrev e : Entry
  e = entry_at a k t p

  there_at : (b : Bool) → (e.asks.has || not (is_empty e.asks.needs)) ≡ b → (o : Option Term) → objects p ≡ o → AreCertain objects (cond b [] (record { path = p; is_scope = t.is_scope && not e.asks.no } ∷ []))
  there_at true x o y = λ c f. absurd f
  there_at false x None y =
      let n = or_parts e.asks.has (not (is_empty e.asks.needs)) x in
      let so : Holds objects e = record {
        has = λ t. absurd (never e.asks.has t n.0);
        no = λ t. y;
        needs = all_empty (IsFoundIn objects a.scope) e.asks.needs (not-false (is_empty e.asks.needs) n.1);
      } in
      absurd (none p (holds_makes objects k h a t p ok so))
  there_at false x (Some u) y =
      let asked : e.asks.no ≡ true = made_possible objects k h p u y in
      settled_at objects e u y (λ b. absurd (never e.asks.no asked (not-true e.asks.no (and_right t.is_scope (not e.asks.no) b)))) false

  -- .. and behind one that didn't
  pub settled_unmade : AreCertain objects (settled e)
  settled_unmade = there_at (e.asks.has || not (is_empty e.asks.needs)) refl (objects p) refl

-- ---- what is known inside

pub true_inside : (objects : Namespace) (k : Known) → IsTrueOf objects k → (en : Entry) → objects en.path ≡ None → IsTrueOf (union objects (singleton en.path en.term)) (known_inside k en)
true_inside objects k h en free = record { certain = certain; possible = λ l q u is. possible l q u (union_cases objects en.path q en.term u is) }
  where
    certain : (c : Certain) → Among (record { path = en.path; is_scope = en.term.is_scope } ∷ k.certain) c
        → (u : Term) × (union objects (singleton en.path en.term) c.path ≡ Some u) × (IsTrue c.is_scope → IsTrue u.is_scope)
    certain c (inl same) =
        subst (λ (c : Certain). (u : Term) × (union objects (singleton en.path en.term) c.path ≡ Some u) × (IsTrue c.is_scope → IsTrue u.is_scope)) same
        (en.term, union_new objects en.path en.term free, λ b. b)
    certain c (inr is) = let n = h.certain c is in (n.0, union_grows objects (singleton en.path en.term) c.path n.0 n.1, n.2)

    possible : IsTrue (not k.in_loop) → (q : Path) (u : Term) → (objects q ≡ Some u) ⊎ ((en.path ≡ q) × (en.term ≡ u)) → (e : Entry) × Among (k.entries ++ en ∷ []) e × (e.path ≡ q) × (e.term ≡ u)
    possible l q u (inl is) = let n = h.possible l q u is in (n.0, among_left k.entries (en ∷ []) n.0 n.1, n.2, n.3)
    possible l q u (inr is) = (en, among_right k.entries (en ∷ []) en (inl refl), is.0, is.1)

pub true_in_scope : (objects : Namespace) (k : Known) → IsTrueOf objects k → (p : Path) → IsScopeIn objects p → IsTrueOf objects (known_in_scope k p)
true_in_scope objects k h p s = record { certain = certain; possible = h.possible }
  where
    certain : (c : Certain) → Among (record { path = p; is_scope = true } ∷ k.certain) c → (u : Term) × (objects c.path ≡ Some u) × (IsTrue c.is_scope → IsTrue u.is_scope)
    certain c (inl same) = subst (λ (c : Certain). (u : Term) × (objects c.path ≡ Some u) × (IsTrue c.is_scope → IsTrue u.is_scope)) same (s.0, s.1, λ b. s.2)
    certain c (inr m) = h.certain c m

-- ---- a Scope

opened_in_is : (k : Known) (why : Why) (ps : List Path) (p : Path) → opened_in k why ps ≡ Ok p → ps ≡ p ∷ []
opened_in_is k why [] p e = cc
opened_in_is k why (q ∷ []) p e = by (is_possible_scope k q) e
  where
    by : (b : Bool) → cond b (Ok q) (Err (not_a_scope q)) ≡ Ok p → q ∷ [] ≡ p ∷ []
    by true e = cc
    by false e = cc
opened_in_is k why (q ∷ r ∷ ps) p e = cc

pub opened_is : (k : Known) (s : Path) (n : NameParts) (p : Path) → opened_at k s n ≡ Ok p → candidates k s n ≡ p ∷ []
opened_is k s n p e = opened_in_is k (why_missing s (place_of s n)) (candidates k s n) p e

module _ (objects : Namespace) (k : Known) (h : IsTrueOf objects k) (s : Path) (n : NameParts) (why : Why) (sure : IsSure why) (q : Path) (finds : Finds objects s n q) where
  scope_at : (p : Path) → candidates k s n ≡ p ∷ [] → (b : Bool) → is_possible_scope k p ≡ b → cond b (Ok p) (Err (not_a_scope p)) ≡ Err why → ⊥
  scope_at p one true x e = cc
  scope_at p one false x e =
      let same : p ≡ q = one_found objects k h s n p one q finds.0 in
      let is : is_possible_scope k p ≡ true = made_possible_scope objects k h p (subst (λ (r : Path). IsScopeIn objects r) (sym same) finds.1) in
      never (is_possible_scope k p) is x

  refused_in : (ps : List Path) → candidates k s n ≡ ps → Among ps q → opened_in k (why_missing s (place_of s n)) ps ≡ Err why → ⊥
  refused_in [] x m e = m
  refused_in (p ∷ []) x m e = scope_at p x (is_possible_scope k p) refl e
  refused_in (p ∷ r ∷ ps) x m e = let w : unsure (p ∷ r ∷ ps) ≡ why = cc in subst (λ (w : Why). IsSure w) (sym w) sure

  -- a Scope that is refused finds no scope, unless it is unsure
  pub refused_finds_none : opened_at k s n ≡ Err why → ⊥
  refused_finds_none e = refused_in (candidates k s n) refl found e
    where
      found : Among (candidates k s n) q
      found = found_candidate objects k h s n q finds.0
