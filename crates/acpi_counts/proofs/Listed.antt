-- The counts of a list and those of a tree.
use Rattle.std.proofs.lemmas.Bool.Decides.{nat_tests}
use Rattle.std.proofs.Common.{◌≡◌, ◌<◌, ◌≤◌, ℕ, Bool, true, false, cond, ◌||◌, List, [], ◌∷◌, ◌++◌, find, length, is_some, Option, Some, None, refl, sym, ap, subst, ◌∙◌, arith}
use Rattle.std.specs.Prelude.{nat_lt}
use Rattle.std.specs.Option.{option_or}
use Rattle.std.specs.List.{AllByRecursion}
use Rattle.std.specs.FinMap.{empty, from_entries, get, get-from_entries, get-insert, insert}
use Rattle.std.specs.FinMap.Entries as entries
use Rattle.acpi_name.specs.Names.{Segment, NameParts}
use Rattle.acpi_name.specs.Paths.{path_cmp}
use Rattle.acpi_name.specs.steps.PathOrder.{path_cmp_total}
use Rattle.acpi_space.specs.Lookups.{is_same_path}
use Rattle.acpi_space.specs.Overlays.{both}
use Rattle.acpi_space.specs.Search.{answer, tries}
use Rattle.acpi_space.specs.Spaces.{PathMap, is_defined}
use Rattle.acpi_space.proofs.Comparisons.{same_path}
use Rattle.acpi_space.proofs.Laid.{both-insert, get-both, nothing-both, same_paths}
use Rattle.acpi_space.proofs.LongestAnswer.{Decreasing, tries_decrease}
use Rattle.acpi_counts.specs.Counts.{first_of, with_first}
use Rattle.acpi_counts.specs.steps.Longer.{longer_path}

abbrev pub Entry : Type 0
Entry = List Segment × ℕ

-- the first count of a path in a list
abbrev pub listed_at : List Entry → List Segment → Option ℕ
listed_at l q = entries.find path_cmp q l

-- the counts of a list, and of a tree those of other paths
abbrev pub counts_of : List Entry → PathMap ℕ → PathMap ℕ
counts_of listed others = both (from_entries listed) others

pub get-counts : (l : List Entry) (others : PathMap ℕ) (q : List Segment) → get (counts_of l others) q ≡ option_or (listed_at l q) (get others q)
get-counts l others q = get-both (from_entries l) others q ∙ ap (λ o. option_or o (get others q)) (get-from_entries path_cmp_total l q)

pub no_counts : (l : List Entry) (others : PathMap ℕ) → l ≡ [] → others ≡ empty → counts_of l others ≡ empty
no_counts l others e f = (λ i. counts_of (e i) (f i)) ∙ nothing-both empty

-- ---- one count more

listed-push : (l : List Entry) (p q : List Segment) (n : ℕ) → listed_at (l ++ (p, n) ∷ []) q ≡ option_or (listed_at l q) (cond (is_same_path q p) (Some n) None)
listed-push [] p q n = refl
listed-push (e ∷ l) p q n = by (is_same_path q e.0) (listed-push l p q n)
  where
    last : Option ℕ
    last = cond (is_same_path q p) (Some n) None

    by : (b : Bool) → listed_at (l ++ (p, n) ∷ []) q ≡ option_or (listed_at l q) last
        → cond b (Some e.1) (listed_at (l ++ (p, n) ∷ []) q) ≡ option_or (cond b (Some e.1) (listed_at l q)) last
    by true ih = refl
    by false ih = ih

none_in_list : (o u : Option ℕ) → option_or o u ≡ None → o ≡ None
none_in_list None u e = refl
none_in_list (Some x) u e = cc

none_behind : (o u : Option ℕ) → option_or o u ≡ None → u ≡ None
none_behind None u e = e
none_behind (Some x) u e = cc

pub counts-push : (l : List Entry) (others : PathMap ℕ) (p : List Segment) (n : ℕ) → get (counts_of l others) p ≡ None
    → counts_of (l ++ (p, n) ∷ []) others ≡ insert (counts_of l others) p n
counts-push l others p n free = same_paths _ _
    (λ q. get-counts (l ++ (p, n) ∷ []) others q ∙ ap (λ o. option_or o (get others q)) (listed-push l p q n)
    ∙ at q (is_same_path q p) refl ∙ ap (cond (is_same_path q p) (Some n)) (sym (get-counts l others q))
    ∙ sym (get-insert path_cmp_total (counts_of l others) p n q))
  where
    not_listed : listed_at l p ≡ None
    not_listed = none_in_list (listed_at l p) (get others p) (sym (get-counts l others p) ∙ free)

    other : (o u : Option ℕ) → option_or (option_or o None) u ≡ option_or o u
    other None u = refl
    other (Some x) u = refl

    at : (q : List Segment) (b : Bool) → is_same_path q p ≡ b
        → option_or (option_or (listed_at l q) (cond b (Some n) None)) (get others q) ≡ cond b (Some n) (option_or (listed_at l q) (get others q))
    at q true e = ap (λ o. option_or (option_or o (Some n)) (get others q)) (ap (listed_at l) (same_path q p e) ∙ not_listed)
    at q false e = other (listed_at l q) (get others q)

not_in_list : (l : List Entry) (others : PathMap ℕ) (p : List Segment) → get (counts_of l others) p ≡ None → get (from_entries {R = path_cmp} l) p ≡ None
not_in_list l others p free = get-from_entries path_cmp_total l p ∙ none_in_list (listed_at l p) (get others p) (sym (get-counts l others p) ∙ free)

pub put_in_list : (l new : List Entry) (others now : PathMap ℕ) (p : List Segment) (n : ℕ) → counts_of l others ≡ now → get now p ≡ None
    → new ≡ l ++ (p, n) ∷ [] → counts_of new others ≡ with_first now p n
put_in_list l new others now p n view free is = ap (λ l. counts_of l others) is ∙ counts-push l others p n (ap (λ m. get m p) view ∙ free)
    ∙ ap (λ m. insert m p n) view ∙ sym (ap (first_of now p n) free)

pub put_in_tree : (l : List Entry) (others new now : PathMap ℕ) (p : List Segment) (n : ℕ) → counts_of l others ≡ now → get now p ≡ None
    → new ≡ insert others p n → counts_of l new ≡ with_first now p n
put_in_tree l others new now p n view free is = ap (counts_of l) is ∙ both-insert (from_entries l) others p n (not_in_list l others p (ap (λ m. get m p) view ∙ free))
    ∙ ap (λ m. insert m p n) view ∙ sym (ap (first_of now p n) free)

-- ---- a count

pub count_in_list : (l rest all : List Entry) (others now : PathMap ℕ) (e : Entry) (q : List Segment) (b : Bool) → counts_of all others ≡ now
    → listed_at l q ≡ listed_at all q → l ≡ e ∷ rest → b ≡ is_same_path q e.0 → b ≡ true → Some e.1 ≡ get now q
count_in_list l rest all others now e q b view inv is same t =
    sym (ap (λ m. get m q) (sym view) ∙ get-counts all others q ∙ ap (λ o. option_or o (get others q)) (sym inv ∙ ap (λ l. listed_at l q) is ∙ ap (λ c. cond c (Some e.1) (listed_at rest q)) (sym same ∙ t)))

pub count_in_tree : (l all : List Entry) (others now : PathMap ℕ) (q : List Segment) (o : Option ℕ) → counts_of all others ≡ now
    → listed_at l q ≡ listed_at all q → l ≡ [] → o ≡ get others q → o ≡ get now q
count_in_tree l all others now q o view inv is e =
    e ∙ sym (ap (λ m. get m q) (sym view) ∙ get-counts all others q ∙ ap (λ o. option_or o (get others q)) (sym inv ∙ ap (λ l. listed_at l q) is))

-- ---- the longer of two answers

at_found : {A : Type 0} (P : List A → Type 0) (p : List A → Bool) (l : List (List A)) (x : List A) → AllByRecursion P l → find p l ≡ Some x → P x
at_found P p [] x a e = cc
at_found {A} P p (y ∷ l) x a e = by (p y) e (at_found P p l x a.1)
  where
    by : (b : Bool) → cond b (Some y) (find p l) ≡ Some x → (find p l ≡ Some x → P x) → P x
    by true f ih = let same : y ≡ x = cc in subst P same a.0
    by false f ih = ih f

not_less : (a b : ℕ) → b ≤ a → nat_lt a b ≡ false
not_less a b h = grind (arith, nat_tests)

less : (a b : ℕ) → a < b → nat_lt a b ≡ true
less a b h = grind (arith, nat_tests)

abbrev IsUnder : {A : Type 0} → List A → Option (List A) → Type 0
IsUnder y None = Unit {0}
IsUnder y (Some z) = length z < length y

under : {A : Type 0} (p : List A → Bool) (y : List A) (l : List (List A)) → AllByRecursion (λ z. length z < length y) l → IsUnder y (find p l)
under {A} p y l a = by (find p l) refl
  where
    by : (o : Option (List A)) → find p l ≡ o → IsUnder y o
    by None e = tt
    by (Some z) e = at_found (λ z. length z < length y) p l z a e

first_stays : {A : Type 0} (y : List A) (o : Option (List A)) → IsUnder y o → longer_path (Some y) o ≡ Some y
first_stays y None h = refl
first_stays y (Some z) h = ap (λ b. cond b (Some z) (Some y)) (not_less (length y) (length z) (omega (arith, h)))

second_stays : {A : Type 0} (y : List A) (o : Option (List A)) → IsUnder y o → longer_path o (Some y) ≡ Some y
second_stays y None h = refl
second_stays y (Some z) h = ap (λ b. cond b (Some y) (Some z)) (less (length z) (length y) h)

either_way : {A : Type 0} (b : Bool) (y : List A) → cond b (Some y) (Some y) ≡ Some y
either_way true y = refl
either_way false y = refl

find_either : {A : Type 0} (p r : List A → Bool) (l : List (List A)) → Decreasing l → find (λ q. p q || r q) l ≡ longer_path (find p l) (find r l)
find_either p r [] d = refl
find_either {A} p r (y ∷ l) d = by (p y) (r y) (find_either p r l d.1)
  where
    by : (b c : Bool) → find (λ q. p q || r q) l ≡ longer_path (find p l) (find r l)
        → cond (b || c) (Some y) (find (λ q. p q || r q) l) ≡ longer_path (cond b (Some y) (find p l)) (cond c (Some y) (find r l))
    by true true ih = sym (either_way (nat_lt (length y) (length y)) y)
    by true false ih = sym (first_stays y (find r l) (under r y l d.0))
    by false true ih = sym (second_stays y (find p l) (under p y l d.0))
    by false false ih = ih

answer_either : (p r : List Segment → Bool) (s : List Segment) (n : NameParts) → answer (λ q. p q || r q) s n ≡ longer_path (answer p s n) (answer r s n)
answer_either p r s n = find_either p r (tries s n) (tries_decrease s n)

-- the answer, where the paths of a list come to those of which there is one
pub answer_with : List Segment → NameParts → List Entry → Option (List Segment) → Option (List Segment)
answer_with s n [] found = found
answer_with s n (e ∷ l) found = answer_with s n l (longer_path (answer (λ q. is_same_path q e.0) s n) found)

is_listed : List Entry → List Segment → Bool
is_listed l q = is_some (listed_at l q)

answer_more : (s : List Segment) (n : NameParts) (l : List Entry) (r : List Segment → Bool) → answer_with s n l (answer r s n) ≡ answer (λ q. is_listed l q || r q) s n
unfolding answer_with is_listed
answer_more s n [] r = refl
answer_more s n (e ∷ l) r = ap (answer_with s n l) (sym (answer_either (λ q. is_same_path q e.0) r s n))
    ∙ answer_more s n l (λ q. is_same_path q e.0 || r q) ∙ (λ i. answer (λ q. by (is_same_path q e.0) (listed_at l q) (r q) i) s n)
  where
    by : (b : Bool) (o : Option ℕ) (c : Bool) → is_some o || (b || c) ≡ is_some (cond b (Some e.1) o) || c
    by true None c = refl
    by true (Some x) c = refl
    by false o c = refl

some-or : (o u : Option ℕ) → is_some o || is_some u ≡ is_some (option_or o u)
some-or None u = refl
some-or (Some x) u = refl

pub answer_all : (s : List Segment) (n : NameParts) (l : List Entry) (others : PathMap ℕ) → answer_with s n l (answer (is_defined others) s n) ≡ answer (is_defined (counts_of l others)) s n
unfolding is_listed
answer_all s n l others = answer_more s n l (is_defined others)
    ∙ (λ i. answer (λ q. (some-or (listed_at l q) (get others q) ∙ ap is_some (sym (get-counts l others q))) i) s n)

-- the next path of the list, and the end of it
pub answer_next : (s : List Segment) (n : NameParts) (l rest : List Entry) (e : Entry) (one found now : Option (List Segment)) → l ≡ e ∷ rest
    → one ≡ answer (λ q. is_same_path q e.0) s n → now ≡ longer_path one found → answer_with s n rest now ≡ answer_with s n l found
unfolding answer_with
answer_next s n l rest e one found now is is_one is_now =
    ap (answer_with s n rest) (is_now ∙ ap (λ o. longer_path o found) is_one) ∙ sym (ap (λ l. answer_with s n l found) is)

pub answer_end : (s : List Segment) (n : NameParts) (l : List Entry) (found : Option (List Segment)) → l ≡ [] → found ≡ answer_with s n l found
unfolding answer_with
answer_end s n l found is = sym (ap (λ l. answer_with s n l found) is)
