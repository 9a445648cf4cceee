-- A map laid over another.
use Rattle.std.proofs.Common.{◌≡◌, ◌↔◌, ℕ, suc, Bool, true, false, cond, not, ◌||◌, max, List, [], ◌∷◌, ◌++◌, map, filter, length, Option, Some, None, IsSome, is_some, Bor, Result, Ok, Err, OnOk, IfErr, true≢false, refl, sym, ap, subst, ◌∙◌, arith}
use Rattle.std.specs.Prelude.{IsTrue}
use Rattle.std.specs.Option.{option_copied, option_map, option_or}
use Rattle.std.specs.Ordering.{is_eq, eq_by_cmp}
use Rattle.std.specs.FinMap.{empty, entries, from_entries, get, get-empty, get-entries, get-from_entries, get-insert, insert, keys, same_map}
use Rattle.std.specs.FinMap.Entries.{find}
use Rattle.std.specs.List.Sorted.{IsStrictlySortedBy}
use Rattle.std.specs.Map.{lookup}
use Rattle.std.specs.Prelude as lists
use Rattle.std.proofs.lemmas.List.{append-nil}
use Rattle.std.proofs.lemmas.List.Kept.{IsStrictlySortedBy-filter}
use Rattle.acpi_name.specs.Names.{Segment}
use Rattle.acpi_name.specs.Paths.{path_cmp}
use Rattle.acpi_name.specs.steps.PathOrder.{path_cmp_total, path_cmp-IsAntisymmetric}
use Rattle.acpi_space.specs.Laws.{Among}
use Rattle.acpi_space.specs.Overlays.{both, lent}
use Rattle.acpi_space.specs.Refusal.{IsRefusal}
use Rattle.acpi_space.specs.Search.{beginnings, nearest_scope}
use Rattle.acpi_space.specs.Spaces.{PathMap, is_defined}
use Rattle.acpi_space.specs.declared.space.Refused.{Refused}
use Rattle.acpi_space.specs.declared.space.Refused.TheVariants.{Taken, Memory}
use Rattle.acpi_space.specs.declared.overlay.OwnPaths.{OwnPaths}
use Rattle.acpi_space.specs.steps.Layers.{AddsOwn, longer, pairs_of}
use Rattle.acpi_space.proofs.Beginnings.{found_cons}
use Rattle.acpi_space.proofs.Comparisons.{same_path}
use Rattle.acpi_space.proofs.Filters.{among_filter}
use Rattle.acpi_space.proofs.Keys.{key_is, keys_ascend}
use Rattle.acpi_space.proofs.Maps.{entries_ascending, entries_none, get_is_lookup, none_of_not_some, put_is_insert}
use Rattle.acpi_space.proofs.Tree.{or_none}

find_both : {V : Type 0} (es fs : List (List Segment × V)) (q : List Segment) → find path_cmp q (es ++ fs) ≡ option_or (find path_cmp q es) (find path_cmp q fs)
find_both [] fs q = refl
find_both {V} (e ∷ es) fs q = by (eq_by_cmp path_cmp q e.0) (find_both es fs q)
  where
    by : (b : Bool) → find path_cmp q (es ++ fs) ≡ option_or (find path_cmp q es) (find path_cmp q fs)
        → cond b (Some e.1) (find path_cmp q (es ++ fs)) ≡ option_or (cond b (Some e.1) (find path_cmp q es)) (find path_cmp q fs)
    by true more = refl
    by false more = more

-- what stands at a path: what the first has there, or else what the second has
pub get-both : {V : Type 0} (lower upper : PathMap V) (q : List Segment) → get (both lower upper) q ≡ option_or (get lower q) (get upper q)
get-both lower upper q =
    get-from_entries path_cmp_total (entries lower ++ entries upper) q ∙ find_both (entries lower) (entries upper) q
    ∙ (λ i. option_or (sym (get-entries lower q) i) (sym (get-entries upper q) i))

pub same_paths : {V : Type 0} (m n : PathMap V) → ((q : List Segment) → get m q ≡ get n q) → m ≡ n
same_paths = same_map path_cmp_total path_cmp-IsAntisymmetric

-- nothing is laid over it, or it over nothing
pub both-nothing : {V : Type 0} (lower upper : PathMap V) → upper ≡ empty → both lower upper ≡ lower
both-nothing lower upper e = same_paths (both lower upper) lower (λ q. get-both lower upper q ∙ ap (λ m. option_or (get lower q) (get m q)) e
    ∙ ap (option_or (get lower q)) (get-empty path_cmp q) ∙ or_none (get lower q))

pub nothing-both : {V : Type 0} (upper : PathMap V) → both empty upper ≡ upper
nothing-both upper = same_paths (both empty upper) upper (λ q. get-both empty upper q ∙ ap (λ o. option_or o (get upper q)) (get-empty path_cmp q))

-- one pair more in the upper map, at a path that the lower one doesn't have
pub both-insert : {V : Type 0} (lower upper : PathMap V) (p : List Segment) (v : V) → get lower p ≡ None → both lower (insert upper p v) ≡ insert (both lower upper) p v
both-insert {V} lower upper p v free = same_paths _ _ (λ q. get-both lower (insert upper p v) q ∙ ap (option_or (get lower q)) (get-insert path_cmp_total upper p v q)
    ∙ at q (eq_by_cmp path_cmp q p) refl ∙ ap (cond (eq_by_cmp path_cmp q p) (Some v)) (sym (get-both lower upper q)) ∙ sym (get-insert path_cmp_total (both lower upper) p v q))
  where
    at : (q : List Segment) (b : Bool) → eq_by_cmp path_cmp q p ≡ b → option_or (get lower q) (cond b (Some v) (get upper q)) ≡ cond b (Some v) (option_or (get lower q) (get upper q))
    at q true e = ap (λ o. option_or o (Some v)) (ap (get lower) (same_path q p e) ∙ free)
    at q false e = refl

-- .. and not anything, where it has the path
pub both-first : {V : Type 0} (lower : PathMap V) (p : List Segment) (v : V) (more : List (List Segment × V)) → IsSome (get lower p)
    → both lower (from_entries ((p, v) ∷ more)) ≡ both lower (from_entries more)
both-first {V} lower p v more some = same_paths _ _ (λ q. get-both lower (from_entries ((p, v) ∷ more)) q
    ∙ ap (option_or (get lower q)) (get-insert path_cmp_total (from_entries {R = path_cmp} more) p v q)
    ∙ at q (eq_by_cmp path_cmp q p) refl ∙ sym (get-both lower (from_entries more) q))
  where
    kept : (o a b : Option V) → IsSome o → option_or o a ≡ option_or o b
    kept None a b s = absurd (true≢false (sym s))
    kept (Some x) a b s = refl

    at : (q : List Segment) (b : Bool) → eq_by_cmp path_cmp q p ≡ b → option_or (get lower q)
        (cond b (Some v) (get (from_entries {R = path_cmp} more) q)) ≡ option_or (get lower q) (get (from_entries {R = path_cmp} more) q)
    at q true e = kept (get lower q) _ _ (ap (λ r. is_some (get lower r)) (same_path q p e) ∙ some)
    at q false e = refl

-- the first of the pairs to come goes into the lower map
pub both-next : {V : Type 0} (lower : PathMap V) (p : List Segment) (v : V) (more : List (List Segment × V)) → get lower p ≡ None
    → both (insert lower p v) (from_entries more) ≡ both lower (from_entries ((p, v) ∷ more))
both-next {V} lower p v more free = same_paths _ _ (λ q. get-both (insert lower p v) (from_entries more) q
    ∙ ap (λ o. option_or o (get (from_entries {R = path_cmp} more) q)) (get-insert path_cmp_total lower p v q)
    ∙ at q (eq_by_cmp path_cmp q p) refl ∙ ap (option_or (get lower q)) (sym (get-insert path_cmp_total (from_entries more) p v q)) ∙ sym (get-both lower (from_entries ((p, v) ∷ more)) q))
  where
    at : (q : List Segment) (b : Bool) → eq_by_cmp path_cmp q p ≡ b → option_or (cond b (Some v) (get lower q))
        (get (from_entries {R = path_cmp} more) q) ≡ option_or (get lower q) (cond b (Some v) (get (from_entries {R = path_cmp} more) q))
    at q true e = ap (λ o. option_or o (Some v)) (sym (ap (get lower) (same_path q p e) ∙ free))
    at q false e = refl

-- ---- where nothing is lent

pub get-unlent : {V S : Type 0} (contents : S → PathMap V) (space : Option (Bor S)) (q : List Segment) → space ≡ None → None ≡ get (lent contents space) q
get-unlent contents space q e = sym (ap (λ s. get (lent contents s) q) e ∙ get-empty path_cmp q)

pub entries-unlent : {V S : Type 0} (contents : S → PathMap V) (space : Option (Bor S)) → space ≡ None → entries (lent contents space) ≡ []
entries-unlent contents space e = ap (λ s. entries (lent contents s)) e ∙ entries_none

never : {A : Type 0} (l : List A) → lists.find (λ _. false) l ≡ None
never [] = refl
never (x ∷ l) = never l

pub nearest-unlent : {V S : Type 0} (contents : S → PathMap V) (space : Option (Bor S)) (s : List Segment) (g : Segment) → space ≡ None
    → None ≡ option_map length (nearest_scope (is_defined (lent contents space)) s g)
nearest-unlent {V} {S} contents space s g e = sym (ap (λ o. option_map length (nearest_scope (is_defined (lent contents o)) s g)) e ∙ empties ∙ ap (option_map length) (never (beginnings s)))
  where
    empties : option_map length (nearest_scope (is_defined (empty {X = V} {R = path_cmp})) s g) ≡ option_map length (lists.find (λ _. false) (beginnings s))
    empties = λ i. option_map length (lists.find (λ q. is_some {T = V} (get-empty path_cmp (q ++ g ∷ []) i)) (beginnings s))

-- ---- what the lookups in the two parts say

pub found_below : {V : Type 0} (lower upper : PathMap V) (q : List Segment) (o : Option (Bor V)) (x : Bor V) → option_copied o ≡ get lower q → o ≡ Some x
    → Some x.now ≡ get (both lower upper) q
found_below lower upper q o x e is = sym (get-both lower upper q ∙ ap (λ r. option_or r (get upper q)) (sym e ∙ ap option_copied is))

pub found_above : {V : Type 0} (lower upper : PathMap V) (q : List Segment) (o r : Option (Bor V)) → option_copied o ≡ get lower q → o ≡ None
    → option_copied r ≡ get upper q → option_copied r ≡ get (both lower upper) q
found_above lower upper q o r e is f = f ∙ sym (get-both lower upper q ∙ ap (λ s. option_or s (get upper q)) (sym e ∙ ap option_copied is))

some_copied : {V : Type 0} (o : Option (Bor V)) (m : Option V) (b : Bool) → option_copied o ≡ m → b ≡ is_some o → is_some m ≡ b
some_copied None m b e f = ap is_some (sym e) ∙ sym f
some_copied (Some x) m b e f = ap is_some (sym e) ∙ sym f

some_or : {X : Type 0} (o p : Option X) → IsSome o → IsSome (option_or o p)
some_or None p s = absurd (true≢false (sym s))
some_or (Some x) p s = refl

pub taken_below : {V : Type 0} (lower upper : PathMap V) (q : List Segment) (o : Option (Bor V)) (b : Bool) → option_copied o ≡ get lower q
    → b ≡ is_some o → b ≡ true → IsSome (get (both lower upper) q)
taken_below lower upper q o b e f t = ap is_some (get-both lower upper q) ∙ some_or (get lower q) (get upper q) (some_copied o (get lower q) b e f ∙ t)

pub free_below : {V : Type 0} (lower : PathMap V) (q : List Segment) (o : Option (Bor V)) (b : Bool) → option_copied o ≡ get lower q → b ≡ is_some o → b ≡ false → get lower q ≡ None
free_below lower q o b e f t = none_of_not_some (get lower q) (some_copied o (get lower q) b e f ∙ t)

above : {V : Type 0} (lower upper : PathMap V) (q : List Segment) → get lower q ≡ None → get (both lower upper) q ≡ get upper q
above lower upper q free = get-both lower upper q ∙ ap (λ o. option_or o (get upper q)) free

-- an insertion into the upper part, at a path that the lower one doesn't have
pub inserted_free : {V R E : Type 0} (lower upper : PathMap V) (q : List Segment) (r : Result R E) → get lower q ≡ None → OnOk r (get upper q ≡ None)
    → OnOk r (get (both lower upper) q ≡ None)
inserted_free lower upper q (Ok x) free e = above lower upper q free ∙ e
inserted_free lower upper q (Err x) free e = tt

pub inserted_both : {V R E : Type 0} (lower upper new : PathMap V) (q : List Segment) (v : V) (r : Result R E) → get lower q ≡ None
    → OnOk r (new ≡ insert upper q v) → OnOk r (both lower new ≡ insert (both lower upper) q v)
inserted_both lower upper new q v (Ok x) free e = ap (both lower) e ∙ both-insert lower upper q v free
inserted_both lower upper new q v (Err x) free e = tt

pub refused_both : {V R : Type 0} (lower upper : PathMap V) (q : List Segment) (v : V) (r : Result R (Refused V)) → get lower q ≡ None
    → IfErr r (IsRefusal upper q v) → IfErr r (IsRefusal (both lower upper) q v)
refused_both lower upper q v (Ok x) free e = tt
refused_both lower upper q v (Err (Taken w)) free e = (ap is_some (above lower upper q free) ∙ e.0, e.1)
refused_both lower upper q v (Err (Memory w)) free e = (above lower upper q free ∙ e.0, e.1)

-- ---- the nearest scope

taller : {A : Type 0} (x : A) (o : Option (List A)) (b : Bool) → option_map length
    (option_or (option_map (λ q. x ∷ q) o) (cond b (Some []) None)) ≡ option_or (option_map suc (option_map length o)) (cond b (Some 0) None)
taller x None true = refl
taller x None false = refl
taller x (Some q) b = refl

abbrev root : Bool → Option ℕ
root b = cond b (Some 0) None

longer_step : (a b : Option ℕ) (u v : Bool) → option_or (option_map suc (longer a b)) (root (u || v)) ≡ longer (option_or (option_map suc a) (root u)) (option_or (option_map suc b) (root v))
longer_step None None true true = refl
longer_step None None true false = refl
longer_step None None false v = refl
longer_step None (Some b) true v = let e : suc b ≡ max 0 (suc b) = omega arith in ap Some e
longer_step None (Some b) false v = refl
longer_step (Some a) None u true = let e : suc a ≡ max (suc a) 0 = omega arith in ap Some e
longer_step (Some a) None u false = refl
longer_step (Some a) (Some b) u v = let e : suc (max a b) ≡ max (suc a) (suc b) = omega arith in ap Some e

root_or : (u v : Bool) → root (u || v) ≡ longer (root u) (root v)
root_or true true = refl
root_or true false = refl
root_or false v = refl

root_length : (A : Type 0) (b : Bool) → option_map (length {A = A}) (cond b (Some []) None) ≡ root b
root_length A true = refl
root_length A false = refl

depth : {A : Type 0} (p : List A → Bool) → List A → Option ℕ
depth p xs = option_map length (lists.find p (beginnings xs))

longer_depth : {A : Type 0} (p r : List A → Bool) (xs : List A) → depth (λ q. p q || r q) xs ≡ longer (depth p xs) (depth r xs)
unfolding depth
longer_depth {A} p r [] = root_length A (p [] || r []) ∙ root_or (p []) (r []) ∙ (λ i. longer (sym (root_length A (p [])) i) (sym (root_length A (r [])) i))
longer_depth {A} p r (x ∷ xs) = cons (λ q. p q || r q) ∙ ap (λ o. option_or (option_map suc o) (root (p [] || r []))) (longer_depth (λ q. p (x ∷ q)) (λ q. r (x ∷ q)) xs)
    ∙ longer_step (depth (λ q. p (x ∷ q)) xs) (depth (λ q. r (x ∷ q)) xs) (p []) (r []) ∙ (λ i. longer (sym (cons p) i) (sym (cons r) i))
  where
    cons : (t : List A → Bool) → option_map length (lists.find t (beginnings (x ∷ xs))) ≡ option_or
        (option_map suc (option_map length (lists.find (λ q. t (x ∷ q)) (beginnings xs)))) (root (t []))
    cons t = ap (option_map length) (found_cons t x xs) ∙ taller x (lists.find (λ q. t (x ∷ q)) (beginnings xs)) (t [])

some-both : {X : Type 0} (o p : Option X) → is_some (option_or o p) ≡ is_some o || is_some p
some-both None p = refl
some-both (Some x) p = refl

pub nearest-both : {V : Type 0} (lower upper : PathMap V) (s : List Segment) (g : Segment) (a b : Option ℕ)
    → a ≡ option_map length (nearest_scope (is_defined lower) s g) → b ≡ option_map length (nearest_scope (is_defined upper) s g) → longer a b
    ≡ option_map length (nearest_scope (is_defined (both lower upper)) s g)
unfolding depth
nearest-both lower upper s g a b e f =
    (λ i. longer (e i) (f i)) ∙ sym (longer_depth (λ q. is_defined lower (q ++ g ∷ [])) (λ q. is_defined upper (q ++ g ∷ [])) s)
    ∙ (λ i. option_map length (lists.find (λ q. sym (ap is_some (get-both lower upper (q ++ g ∷ [])) ∙ some-both (get lower (q ++ g ∷ [])) (get upper (q ++ g ∷ []))) i) (beginnings s)))

-- ---- the pairs of both, put into one map

abbrev seen : {V : Type 0} → List Segment × Bor V → List Segment × V
seen e = (e.0, e.1.now)

lookup-seen : {V : Type 0} (t : List Segment → Bool) (es : List (List Segment × Bor V)) → lookup t (map seen es) ≡ option_map (λ v. v.now) (lookup t es)
lookup-seen t [] = refl
lookup-seen {V} t (e ∷ es) = by (t e.0) (lookup-seen t es)
  where
    by : (b : Bool) → lookup t (map seen es) ≡ option_map (λ v. v.now) (lookup t es)
        → cond b (Some e.1.now) (lookup t (map seen es)) ≡ option_map (λ v. v.now) (cond b (Some e.1) (lookup t es))
    by true more = refl
    by false more = more

abbrev at : {X : Type 0} → List (List Segment × X) → List Segment → Option X
at es q = lookup (λ k. is_eq (path_cmp q k)) es

get-seen : {V : Type 0} (es : List (List Segment × Bor V)) (q : List Segment) → get (pairs_of es) q ≡ option_map (λ v. v.now) (at es q)
get-seen es q = get_is_lookup (map seen es) q ∙ lookup-seen (λ k. is_eq (path_cmp q k)) es

pub is_some-map : {X Y : Type 0} (f : X → Y) (o : Option X) → is_some (option_map f o) ≡ is_some o
is_some-map f None = refl
is_some-map f (Some x) = refl

one_put : {V : Type 0} (es fs : List (List Segment × Bor V)) (k : List Segment) (v : Bor V)
    → ((q : List Segment) → at fs q ≡ cond (is_eq (path_cmp k q)) (Some v) (at es q)) → pairs_of fs ≡ insert (pairs_of es) k v.now
one_put {V} es fs k v h = put_is_insert (map seen es) (map seen fs) k v.now
    (λ q. lookup-seen (λ x. is_eq (path_cmp q x)) fs ∙ ap (option_map (λ v. v.now)) (h q) ∙ by (is_eq (path_cmp k q)) (at es q)
    ∙ ap (cond (is_eq (path_cmp k q)) (Some v.now)) (sym (lookup-seen (λ x. is_eq (path_cmp q x)) es)))
  where
    by : (b : Bool) (o : Option (Bor V)) → option_map (λ v. v.now) (cond b (Some v) o) ≡ cond b (Some v.now) (option_map (λ v. v.now) o)
    by true o = refl
    by false o = refl

pub pair_added : {V : Type 0} (es fs : List (List Segment × Bor V)) (k : List Segment) (v : Bor V) (more left : List (List Segment × Bor V)) (all : PathMap V) (b : Bool)
    → both (pairs_of es) (pairs_of more) ≡ all → more ≡ (k, v) ∷ left → b ≡ is_some (at es k) → b ≡ false
    → ((q : List Segment) → at fs q ≡ cond (is_eq (path_cmp k q)) (Some v) (at es q))
    → both (pairs_of fs) (pairs_of left) ≡ all
pair_added es fs k v more left all b inv m e f h =
    ap (λ n. both n (pairs_of left)) (one_put es fs k v h)
    ∙ both-next (pairs_of es) k v.now (map seen left) (none_of_not_some (get (pairs_of es) k) (ap is_some (get-seen es k) ∙ is_some-map (λ v. v.now) (at es k) ∙ sym e ∙ f))
    ∙ ap (λ l. both (pairs_of es) (pairs_of l)) (sym m) ∙ inv

pub pair_passed : {V : Type 0} (es : List (List Segment × Bor V)) (k : List Segment) (v : Bor V) (more left : List (List Segment × Bor V)) (all : PathMap V) (b : Bool)
    → both (pairs_of es) (pairs_of more) ≡ all → more ≡ (k, v) ∷ left → b ≡ is_some (at es k) → b ≡ true → both (pairs_of es) (pairs_of left) ≡ all
pair_passed es k v more left all b inv m e t =
    sym (both-first (pairs_of es) k v.now (map seen left) (ap is_some (get-seen es k) ∙ is_some-map (λ v. v.now) (at es k) ∙ sym e ∙ t))
    ∙ ap (λ l. both (pairs_of es) (pairs_of l)) (sym m) ∙ inv

pub pairs_added : {V : Type 0} (es : List (List Segment × Bor V)) (more : List (List Segment × Bor V)) (all : PathMap V) → both (pairs_of es) (pairs_of more) ≡ all → more ≡ []
    → pairs_of es ≡ all
pairs_added es more all inv m = sym (both-nothing (pairs_of es) (pairs_of more) (ap pairs_of m)) ∙ inv

made_again : {V : Type 0} (xs : List (List Segment × Bor V)) (m : PathMap V) → map seen xs ≡ entries m → pairs_of xs ≡ m
made_again xs m e = ap from_entries e ∙ same_paths (from_entries (entries m)) m (λ q. get-from_entries path_cmp_total (entries m) q ∙ sym (get-entries m q))

-- the pairs of the lower map, and then those of the upper one
pub both_gathered : {V : Type 0} (none es fs xs ys : List (List Segment × Bor V)) (lower upper : PathMap V) → none ≡ [] → pairs_of es ≡ both (pairs_of none) (pairs_of xs)
    → map seen xs ≡ entries lower
    → pairs_of fs ≡ both (pairs_of es) (pairs_of ys) → map seen ys ≡ entries upper → pairs_of fs ≡ both lower upper
both_gathered none es fs xs ys lower upper n e x f y =
    let first : pairs_of es ≡ lower = e ∙ ap (λ l. both (pairs_of l) (pairs_of xs)) n ∙ nothing-both (pairs_of xs) ∙ made_again xs lower x in
    f ∙ (λ i. both (first i) (made_again ys upper y i))

-- ---- lists of pairs

firsts-seen : {V : Type 0} (es : List (List Segment × Bor V)) → map (λ e. e.0) (map seen es) ≡ map (λ e. e.0) es
firsts-seen [] = refl
firsts-seen (e ∷ es) = ap (λ l. e.0 ∷ l) (firsts-seen es)

pub listed_seen : {V : Type 0} (items rest all es : List (List Segment × Bor V)) → items ++ rest ≡ all → rest ≡ [] → all ≡ es
    → IsStrictlySortedBy path_cmp (map (λ e. e.0) es) → map seen items ≡ entries (pairs_of es)
listed_seen items rest all es e r a s =
    ap (map seen) (sym (append-nil items) ∙ ap (λ l. items ++ l) (sym r) ∙ e ∙ a)
    ∙ sym (entries_ascending (map seen es) (subst (IsStrictlySortedBy path_cmp) (sym (firsts-seen es)) s))

-- ---- the paths that the upper map alone has

pub own_ascend : {V : Type 0} (lower upper : PathMap V) (items : List (List Segment)) → items ≡ filter (λ p. not (is_defined lower p)) (keys upper) → IsStrictlySortedBy path_cmp items
own_ascend lower upper items e = subst (IsStrictlySortedBy path_cmp) (sym e) (IsStrictlySortedBy-filter path_cmp (λ p. not (is_defined lower p)) (keys upper) (keys_ascend upper))

pub own_are : {V : Type 0} (lower upper : PathMap V) (items : List (List Segment)) → items ≡ filter (λ p. not (is_defined lower p)) (keys upper)
    → (p : List Segment) → Among items p ↔ (IsTrue (is_defined (both lower upper) p) × (is_defined lower p ≡ false))
own_are lower upper items e p = (λ i. to (kept.0 (subst (λ (l : List (List Segment)). Among l p) e i)), λ r. subst (λ (l : List (List Segment)). Among l p) (sym e) (kept.1 (from r)))
  where
    kept : Among (filter (λ p. not (is_defined lower p)) (keys upper)) p ↔ (Among (keys upper) p × (not (is_defined lower p) ≡ true))
    kept = among_filter (λ p. not (is_defined lower p)) (keys upper) p

    there : is_defined (both lower upper) p ≡ (is_defined lower p || is_defined upper p)
    there = ap is_some (get-both lower upper p) ∙ some-both (get lower p) (get upper p)

    of_not : (b : Bool) → not b ≡ true → b ≡ false
    of_not true e = absurd (true≢false (sym e))
    of_not false e = refl

    to : Among (keys upper) p × (not (is_defined lower p) ≡ true) → IsTrue (is_defined (both lower upper) p) × (is_defined lower p ≡ false)
    to r = let n : is_defined lower p ≡ false = of_not (is_defined lower p) r.1 in (there ∙ ap (λ b. b || is_defined upper p) n ∙ (key_is upper p).0 r.0, n)

    from : IsTrue (is_defined (both lower upper) p) × (is_defined lower p ≡ false) → Among (keys upper) p × (not (is_defined lower p) ≡ true)
    from r = ((key_is upper p).1 (sym (ap (λ b. b || is_defined upper p) r.1) ∙ sym there ∙ r.0), ap not r.1)

-- .. gathered pair by pair
pub own_begins : {V S : Type 0} (contents : S → PathMap V) (first : OwnPaths S) → AddsOwn {V = V} contents first [] first
own_begins contents first = record { lower = refl; paths = sym (append-nil first.paths.items) }

pub own_gathered : {V S : Type 0} (contents : S → PathMap V) (first now : OwnPaths S) (upper : PathMap V) → first.paths.items ≡ [] → AddsOwn contents first (entries upper) now
    → now.paths.items ≡ filter (λ p. not (is_defined (lent contents first.lower) p)) (keys upper)
own_gathered contents first now upper none adds = adds.paths ∙ ap (λ l. l ++ filter (λ p. not (is_defined (lent contents first.lower) p)) (keys upper)) none
