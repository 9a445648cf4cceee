-- The paths of a map: they ascend, and are those that it has.
use Rattle.std.proofs.Common.{◌≡◌, ◌⊎◌, ◌↔◌, inl, inr, Bool, true, false, cond, ◌&&◌, List, [], ◌∷◌, map, is_some, Some, true≢false, refl, sym, ap, ◌∙◌}
use lib.Dec.{T}
use Rattle.std.specs.Prelude.{IsTrue}
use Rattle.std.specs.declared.cmp.Ordering.{Ordering}
use Rattle.std.specs.declared.cmp.Ordering.TheVariants.{Less, Equal, Greater}
use Rattle.std.specs.Ordering.{is_lt, is_eq}
use Rattle.std.specs.List.{AllByRecursion}
use Rattle.std.specs.List.Sorted.{IsStrictlySortedBy}
use Rattle.std.specs.FinMap.{entries, entries_sorted, get-entries, find, is_sorted, keys}
use Rattle.std.specs.FinMap.Entries.{below_all}
use Rattle.acpi_name.specs.Names.{Segment}
use Rattle.acpi_name.specs.Paths.{path_cmp}
use Rattle.acpi_space.specs.Laws.{Among}
use Rattle.acpi_space.specs.Spaces.{PathMap, is_defined}
use Rattle.acpi_space.proofs.Comparisons.{path_itself, same_path}

less : (o : Ordering) → IsTrue (is_lt o) → o ≡ Less
less Less h = refl
less Equal h = absurd (true≢false (sym h))
less Greater h = absurd (true≢false (sym h))

each : (a b : Bool) → IsTrue (a && b) → IsTrue a × IsTrue b
each true b h = (refl, h)
each false b h = absurd (true≢false (sym h))

all_above : {V : Type 0} (k : List Segment) (es : List (List Segment × V)) → IsTrue (below_all path_cmp k es) → AllByRecursion (λ q. path_cmp k q ≡ Less) (map (λ e. e.0) es)
all_above k [] h = tt
all_above k (e ∷ es) h = let r = each (is_lt (path_cmp k e.0)) (below_all path_cmp k es) h in (less (path_cmp k e.0) r.0, all_above k es r.1)

ascend : {V : Type 0} (es : List (List Segment × V)) → IsTrue (is_sorted path_cmp es) → IsStrictlySortedBy path_cmp (map (λ e. e.0) es)
unfolding IsStrictlySortedBy
ascend [] h = tt
ascend (e ∷ es) h = let r = each (below_all path_cmp e.0 es) (is_sorted path_cmp es) h in (all_above e.0 es r.0, ascend es r.1)

true_of : (b : Bool) → T b → IsTrue b
true_of true h = refl
true_of false h = absurd h

pub keys_ascend : {V : Type 0} (m : PathMap V) → IsStrictlySortedBy path_cmp (keys m)
keys_ascend m = ascend (entries m) (true_of (is_sorted path_cmp (entries m)) (entries_sorted m))

pub key_found : {V : Type 0} (es : List (List Segment × V)) (p : List Segment) → Among (map (λ e. e.0) es) p ↔ IsTrue (is_some (find path_cmp p es))
key_found [] p = (λ h. absurd h, λ h. absurd (true≢false (sym h)))
key_found (e ∷ es) p = by (is_eq (path_cmp p e.0)) refl (key_found es p)
  where
    by : (b : Bool) → is_eq (path_cmp p e.0) ≡ b → Among (map (λ e. e.0) es) p ↔ IsTrue (is_some (find path_cmp p es))
        → ((e.0 ≡ p) ⊎ Among (map (λ e. e.0) es) p) ↔ IsTrue (is_some (cond b (Some e.1) (find path_cmp p es)))
    by true s more = (λ h. refl, λ h. inl (sym (same_path p e.0 s)))
    by false s more = (to, λ h. inr (more.1 h))
      where
        to : (e.0 ≡ p) ⊎ Among (map (λ e. e.0) es) p → IsTrue (is_some (find path_cmp p es))
        to (inl h) = absurd (true≢false (sym (path_itself p) ∙ ap (λ q. is_eq (path_cmp p q)) (sym h) ∙ s))
        to (inr h) = more.0 h

pub key_is : {V : Type 0} (m : PathMap V) (p : List Segment) → Among (keys m) p ↔ IsTrue (is_defined m p)
key_is m p =
    let k = key_found (entries m) p in
    (λ i. ap is_some (get-entries m p) ∙ k.0 i, λ h. k.1 (ap is_some (sym (get-entries m p)) ∙ h))
