-- The entries of an ordered map, seen as a finite map.
use Rattle.std.proofs.Common.{◌≡◌, Bool, true, false, cond, List, [], ◌∷◌, map, length, arith, ◌++◌, append_assoc, Option, Some, None, IsSome, is_some, true≢false, refl, sym, ap, ◌∙◌, append-nil}
use Rattle.std.specs.Ordering.{is_eq}
use Rattle.std.specs.Cmp.{eq_by_cmp_equiv}
use Rattle.std.specs.Map.{lookup}
use Rattle.std.specs.FinMap.{FinMap, empty, get, insert, from_entries, get-empty, get-insert, same_map, entries, entries-insert, len-entries, len-empty}
use Rattle.std.specs.FinMap.Entries.{put, by_order}
use Rattle.std.specs.List.{AllByRecursion}
use Rattle.std.specs.List.Sorted.{IsStrictlySortedBy}
use Rattle.std.specs.declared.cmp.Ordering.TheVariants.{Less}
use Rattle.std.proofs.lemmas.List.{map-append}
use Rattle.acpi_name.specs.Names.{Segment}
use Rattle.acpi_name.specs.Paths.{path_cmp}
use Rattle.acpi_name.specs.steps.PathOrder.{path_cmp_total, path_cmp-IsAntisymmetric}

pub get_is_lookup : {V : Type 0} (es : List (List Segment × V)) (q : List Segment) → get (from_entries {R = path_cmp} es) q ≡ lookup (λ k. is_eq (path_cmp q k)) es
get_is_lookup [] q = get-empty path_cmp q
get_is_lookup (e ∷ es) q = get-insert path_cmp_total (from_entries es) e.0 e.1 q ∙ ap (cond (is_eq (path_cmp q e.0)) (Some e.1)) (get_is_lookup es q)

pub put_is_insert : {V : Type 0} (es fs : List (List Segment × V)) (k : List Segment) (v : V)
    → ((q : List Segment) → lookup (λ x. is_eq (path_cmp q x)) fs ≡ cond (is_eq (path_cmp k q)) (Some v) (lookup (λ x. is_eq (path_cmp q x)) es))
    → from_entries {R = path_cmp} fs ≡ insert (from_entries es) k v
put_is_insert es fs k v h =
    same_map path_cmp_total path_cmp-IsAntisymmetric _ _
    (λ q. get_is_lookup fs q ∙ h q
    ∙ (λ i. cond ((eq_by_cmp_equiv path_cmp_total).symm k q i) (Some v) (sym (get_is_lookup es q) i))
    ∙ sym (get-insert path_cmp_total (from_entries es) k v q))

pub none_of_not_some : {X : Type 0} (o : Option X) → is_some o ≡ false → o ≡ None
none_of_not_some None e = refl
none_of_not_some (Some x) e = absurd (true≢false e)

-- what the kept entries answer at a path, and what the map does that they stand for
pub get_of_view : {V : Type 0} (es : List (List Segment × V)) (m : FinMap path_cmp V) (q : List Segment) → from_entries es ≡ m → get m q ≡ lookup (λ k. is_eq (path_cmp q k)) es
get_of_view es m q e = ap (λ n. get n q) (sym e) ∙ get_is_lookup es q

pub some_of_view : {V : Type 0} (es : List (List Segment × V)) (m : FinMap path_cmp V) (q : List Segment) (b : Bool) → from_entries es ≡ m
    → b ≡ is_some (lookup (λ k. is_eq (path_cmp q k)) es) → b ≡ true → IsSome (get m q)
some_of_view es m q b e f t = ap is_some (get_of_view es m q e) ∙ sym f ∙ t

pub none_of_view : {V : Type 0} (es : List (List Segment × V)) (m : FinMap path_cmp V) (q : List Segment) (b : Bool) → from_entries es ≡ m
    → b ≡ is_some (lookup (λ k. is_eq (path_cmp q k)) es) → b ≡ false → get m q ≡ None
none_of_view es m q b e f t = get_of_view es m q e ∙ none_of_not_some _ (sym f ∙ t)

-- ascending entries are the map's own
first_put : {V : Type 0} (k : List Segment) (v : V) (es : List (List Segment × V)) → AllByRecursion (λ y. path_cmp k y ≡ Less) (map (λ e. e.0) es) → put path_cmp k v es ≡ (k, v) ∷ es
first_put k v [] h = refl
first_put k v (e ∷ es) h = ap (λ o. by_order o ((k, v) ∷ e ∷ es) ((e.0, v) ∷ es) (e ∷ put path_cmp k v es)) h.0

pub no_length : {A : Type 0} (l : List A) → length l ≡ 0 → l ≡ []
no_length [] e = refl
no_length (x ∷ l) e = absurd (omega arith)

pub entries_none : {V : Type 0} → entries (empty {K = List Segment} {X = V} {R = path_cmp}) ≡ []
entries_none = no_length _ (sym (len-entries _) ∙ len-empty path_cmp _)

pub entries_ascending : {V : Type 0} (es : List (List Segment × V)) → IsStrictlySortedBy path_cmp (map (λ e. e.0) es) → entries (from_entries {R = path_cmp} es) ≡ es
unfolding IsStrictlySortedBy
entries_ascending [] h = entries_none
entries_ascending (e ∷ es) h = entries-insert path_cmp_total (from_entries es) e.0 e.1 ∙ ap (put path_cmp e.0 e.1) (entries_ascending es h.1) ∙ first_put e.0 e.1 es h.0

-- one more pair of a map that is listed
pub listed_more : {A B : Type 0} (f : A → B) (items new : List A) (x : A) (y : B) (rest left all : List B)
    → map f items ++ rest ≡ all → rest ≡ y ∷ left → f x ≡ y → new ≡ items ++ x ∷ [] → map f new ++ left ≡ all
listed_more f items new x y rest left all e r h n =
    ap (λ l. map f l ++ left) n ∙ ap (λ l. l ++ left) (map-append f items (x ∷ [])) ∙ append_assoc (map f items) (f x ∷ []) left
    ∙ ap (λ z. map f items ++ z ∷ left) h ∙ ap (λ l. map f items ++ l) (sym r) ∙ e

pub listed_all : {V : Type 0} {A : Type 0} (f : A → List Segment × V) (items : List A) (rest all es : List (List Segment × V)) (m : FinMap path_cmp V)
    → map f items ++ rest ≡ all → rest ≡ [] → all ≡ es → IsStrictlySortedBy path_cmp (map (λ e. e.0) es) → from_entries es ≡ m → map f items ≡ entries m
listed_all f items rest all es m e r a s v =
    sym (append-nil (map f items)) ∙ ap (λ l. map f items ++ l) (sym r) ∙ e ∙ a ∙ sym (entries_ascending es s) ∙ ap entries v
