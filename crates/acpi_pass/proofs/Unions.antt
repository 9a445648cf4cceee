-- Lookups, and the maps that hold them: an insertion at a free path adds one value behind those that are there.
use Rattle.std.proofs.Common.{◌≡◌, ℕ, List, [], Bool, true, false, cond, Option, Some, None, IsSome, subst, refl, sym, ap, ◌∙◌}
use Rattle.std.specs.FinMap.{empty, get-empty, get, insert, get-insert}
use Rattle.std.specs.Cmp.{Equal-is}
use Rattle.std.specs.Option.{option_map, option_or}
use Rattle.acpi_name.specs.Names.{Segment}
use Rattle.acpi_name.specs.Paths.{path_cmp}
use Rattle.acpi_name.specs.steps.PathOrder.{path_cmp_total, path_cmp-IsAntisymmetric}
use Rattle.acpi_space.specs.Spaces.{PathMap}
use Rattle.acpi_space.specs.Lookups.{Lookup, is_same_path, nothing, singleton, union}
use Rattle.acpi_space.proofs.Tree.{or_none}
use Rattle.acpi_counts.specs.Counts.{first_of, with_first}
use Rattle.acpi_tree.specs.declared.object.Object.{Object}
use Rattle.acpi_tree.specs.Objects.{ObjectTree, object_view}
use Rattle.acpi_pass.specs.Namespace.{Namespace, namespace_of}

-- ---- unions

pub union-nothing : {V : Type 0} (m : Lookup V) → union m nothing ≡ m
union-nothing m = λ i q. or_none (m q) i

pub or_assoc : {V : Type 0} (a b c : Option V) → option_or (option_or a b) c ≡ option_or a (option_or b c)
or_assoc None b c = refl
or_assoc (Some o) b c = refl

pub union_assoc : {V : Type 0} (a b c : Lookup V) → union (union a b) c ≡ union a (union b c)
union_assoc a b c = λ i q. or_assoc (a q) (b q) (c q) i

-- ---- insertions

-- paths that the order does not tell apart are equal
pub path_same : (p q : List Segment) → is_same_path p q ≡ true → p ≡ q
path_same p q e = path_cmp-IsAntisymmetric p q ((Equal-is _).0 e)

laid : {V W : Type 0} (f : V → W) (b : Bool) (a : Option V) (v : V) → (b ≡ true → a ≡ None) → option_map f (cond b (Some v) a) ≡ option_or (option_map f a) (cond b (Some (f v)) None)
laid f true None v h = refl
laid f true (Some o) v h = let e : Some o ≡ None = h refl in cc
laid f false None v h = refl
laid f false (Some o) v h = refl

-- the values of a map, seen through a function
abbrev pub seen_at : {V W : Type 0} → (V → W) → PathMap V → Lookup W
seen_at f m q = option_map f (get m q)

pub seen_insert : {V W : Type 0} (f : V → W) (m : PathMap V) (p : List Segment) (v : V) → get m p ≡ None → seen_at f (insert m p v) ≡ union (seen_at f m) (singleton p (f v))
seen_insert f m p v free = λ i q. at q i
  where
    at : (q : List Segment) → seen_at f (insert m p v) q ≡ union (seen_at f m) (singleton p (f v)) q
    at q = ap (option_map f) (get-insert path_cmp_total m p v q) ∙ laid f (is_same_path q p) (get m q) v (λ e. ap (get m) (path_same q p e) ∙ free)

-- where the path has a value, it stays
pub seen_kept : {V W : Type 0} (f : V → W) (m : PathMap V) (p : List Segment) (w : W) → IsSome (get m p) → seen_at f m ≡ union (seen_at f m) (singleton p w)
seen_kept f m p w there = λ i q. at q i
  where
    by : (o : Option _) (b : Bool) → (b ≡ true → IsSome o) → option_map f o ≡ option_or (option_map f o) (cond b (Some w) None)
    by None true h = let e : false ≡ true = h refl in cc
    by (Some v) b h = refl
    by None false h = refl

    at : (q : List Segment) → seen_at f m q ≡ union (seen_at f m) (singleton p w) q
    at q = by (get m q) (is_same_path q p) (λ e. subst (λ r. IsSome (get m r)) (sym (path_same q p e)) there)

pub namespace_insert : (m : PathMap Object) (p : List Segment) (o : Object) → get m p ≡ None → namespace_of (insert m p o) ≡ union (namespace_of m) (singleton p (object_view o))
namespace_insert = seen_insert object_view

pub seen-empty : {V W : Type 0} (f : V → W) → seen_at f empty ≡ nothing
seen-empty f = λ i q. ap (option_map f) (get-empty path_cmp q) i

pub namespace-empty : namespace_of empty ≡ nothing
namespace-empty = seen-empty object_view

-- ---- the predefined objects, one after another

-- one more object over a known namespace
pub laid_on : (m n o x : Namespace) → o ≡ union n x → n ≡ m → o ≡ union m x
laid_on m n o x e h = e ∙ ap (λ (k : Namespace). union k x) h

no_other : (a : Option ObjectTree) (b : Bool) (o : ObjectTree) → b ≡ false → a ≡ None → option_or a (cond b (Some o) None) ≡ None
no_other None false o h e = refl
no_other None true o h e = cc
no_other (Some x) b o h e = cc

-- another path stays free
pub still_free : (n m : Namespace) (p q : List Segment) (o : ObjectTree) → n ≡ union m (singleton p o) → is_same_path q p ≡ false → m q ≡ None → n q ≡ None
still_free n m p q o e other free = ap (λ (k : Namespace). k q) e ∙ no_other (m q) (is_same_path q p) o other free

-- .. behind the root, the first
pub root_first : (n m : Namespace) (p q : List Segment) (o : ObjectTree) → n ≡ union m (singleton p o) → m ≡ nothing → p ≡ [] → is_same_path q [] ≡ false → n q ≡ None
root_first n m p q o e none root other = still_free n m p q o e (ap (is_same_path q) root ∙ other) (ap (λ (k : Namespace). k q) none)

-- ---- counts

counted : (b : Bool) (a : Option ℕ) (v : ℕ) → (b ≡ true → a ≡ None) → cond b (Some v) a ≡ option_or a (cond b (Some v) None)
counted true None v h = refl
counted true (Some o) v h = let e : Some o ≡ None = h refl in cc
counted false None v h = refl
counted false (Some o) v h = refl

kept : (b : Bool) (a : Option ℕ) (v : ℕ) → (b ≡ true → IsSome a) → option_or a (cond b (Some v) None) ≡ a
kept true None v h = let e : false ≡ true = h refl in cc
kept true (Some o) v h = refl
kept false None v h = refl
kept false (Some o) v h = refl

-- a first count goes behind those that are there
pub counts_with_first : (m : PathMap ℕ) (p : List Segment) (v : ℕ) → get (with_first m p v) ≡ union (get m) (singleton p v)
counts_with_first m p v = by (get m p) refl
  where
    inserted : (q : List Segment) → get m p ≡ None → get (insert m p v) q ≡ union (get m) (singleton p v) q
    inserted q free = get-insert path_cmp_total m p v q ∙ counted (is_same_path q p) (get m q) v (λ e. ap (get m) (path_same q p e) ∙ free)

    taken : (q : List Segment) → IsSome (get m p) → union (get m) (singleton p v) q ≡ get m q
    taken q there = kept (is_same_path q p) (get m q) v (λ e. subst (λ r. IsSome (get m r)) (sym (path_same q p e)) there)

    by : (o : Option ℕ) → get m p ≡ o → get (first_of m p v o) ≡ union (get m) (singleton p v)
    by None e = λ i q. inserted q e i
    by (Some n) e = λ i q. sym (taken q (subst IsSome (sym e) refl)) i

pub counts-empty : get (empty {X = ℕ} {R = path_cmp}) ≡ nothing
counts-empty = λ i q. get-empty path_cmp q i
