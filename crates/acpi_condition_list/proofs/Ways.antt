-- Ways of literals, and lists that grow at their end.
use Rattle.std.proofs.Common.{◌≡◌, ◌∙◌, ◌+◌, ◌<◌, ◌==◌, ℕ, zero, suc, Bool, true, false, cond, List, [], ◌∷◌, ◌++◌, length, map, take, drop, get_or, Option, Some, None, slice_get, unwrap_or, option_map, append_assoc, arith, refl, sym, ap, subst}
use Rattle.std.specs.Borrow.{Bor}
use Rattle.std.specs.List.{All, find}
use Rattle.std.specs.List.Sorted.{IsNonDecreasingBy}
use Rattle.std.specs.Option.{option_and_then}
use Rattle.std.proofs.lemmas.Bool.{eqb-true}
use Rattle.std.proofs.lemmas.List.{take_more, drop_more, map-append}
use Rattle.std.proofs.lemmas.List.Elements.{All-append}
use Rattle.std.proofs.lemmas.Option.{slice_get-get_or}
use Rattle.acpi_name.specs.Names.{NameParts}
use Rattle.acpi_conditions.specs.ByPath.{lent_pair}
use Rattle.acpi_conditions.specs.Entries.{Path, Entry}
use Rattle.acpi_entries.specs.Condition.{PlacedParts, literal_at, has, asked_by, asked_within}
use Rattle.acpi_ranges.proofs.PlacedLists.{found_mapped}
use Rattle.acpi_survey.specs.declared.machine_survey.Survey.{Survey}
use Rattle.acpi_condition_list.specs.ConditionLists.{IsCondition, IsWay, nothing, behind, condition_numbered, conditioned_view, numbered_pair}
use Rattle.acpi_condition_list.specs.declared.list.ConditionedEntry.{ConditionedEntry}
use Rattle.acpi_condition_list.specs.declared.list.ConditionStep.{ConditionStep}
use Rattle.acpi_condition_list.specs.declared.sources.LiteralSource.{LiteralSource}

-- ---- ways

-- an element stays where it is
pub stays : {X : Type 0} (xs ys : List X) (n : ℕ) (x : X) → slice_get xs n ≡ Some x → slice_get (xs ++ ys) n ≡ Some x
stays [] ys n x e = cc
stays (y ∷ xs) ys zero x e = e
stays (y ∷ xs) ys (suc n) x e = stays xs ys n x e

-- so does a way
pub way_stays : (more : List ConditionStep) {steps : List ConditionStep} {last : Option ℕ} {xs : List LiteralSource} → IsWay steps last xs → IsWay (steps ++ more) last xs
way_stays more nothing = nothing
way_stays more (behind {steps = steps} n x at way) = behind n x (stays steps more n x at) (way_stays more way)

pub way_more : (steps : List ConditionStep) (before : Option ℕ) (xs : List LiteralSource) (i n : ℕ) (d : LiteralSource) → i < length xs
    → slice_get steps n ≡ Some (record { before = before; source = get_or xs i d }) → IsWay steps before (take i xs) → IsWay steps (Some n) (take (i + 1) xs)
way_more steps before xs i n d within at way =
    subst (λ (ys : List LiteralSource). IsWay steps (Some n) ys) (sym (take_more xs i d within)) (behind n (record { before = before; source = get_or xs i d }) at way)

-- ---- lists

-- the element of a number, and what follows it
pub dropped : {X : Type 0} (xs : List X) (i : ℕ) → i < length xs → (x : X) × (slice_get xs i ≡ Some x) × (drop i xs ≡ x ∷ drop (i + 1) xs)
dropped [] i within = absurd (omega (arith, within))
dropped (x ∷ xs) i within = (get_or (x ∷ xs) i x, slice_get-get_or (x ∷ xs) i x within, drop_more (x ∷ xs) i x within)

slice_mapped : {X Y : Type 0} (f : X → Y) (xs : List X) (k : ℕ) → option_map f (slice_get xs k) ≡ slice_get (map f xs) k
slice_mapped f [] k = refl
slice_mapped f (x ∷ xs) zero = refl
slice_mapped f (x ∷ xs) (suc k) = slice_mapped f xs k

numbered_mapped : {X Y : Type 0} (f : X → Y) (xs : List X) (ys : List Y) (r : Option ℕ) → map f xs ≡ ys → option_map f (option_and_then (λ k. slice_get xs k) r) ≡ option_and_then (λ k. slice_get ys k) r
numbered_mapped f xs ys None same = refl
numbered_mapped f xs ys (Some k) same = slice_mapped f xs k ∙ ap (λ zs. slice_get zs k) same

-- the number of the first at a place, among the values of others
pub found_numbered : {X Y : Type 0} (f : X → Y) (n : Y → ℕ) (place : ℕ) (xs : List X) (ys : List Y) (r : Option ℕ) → map f xs ≡ ys → IsNonDecreasingBy n ys
    → (IsNonDecreasingBy (λ x. n (f x)) xs → option_and_then (λ k. slice_get xs k) r ≡ find (λ x. n (f x) == place) xs)
    → find (λ y. n y == place) ys ≡ option_and_then (λ k. slice_get ys k) r
found_numbered f n place xs ys r same sorted first =
    found_mapped f n place xs ys (option_and_then (λ k. slice_get xs k) r) same sorted first ∙ numbered_mapped f xs ys r same

one_some : {X : Type 0} (x y : X) → Some x ≡ Some y → x ≡ y
one_some x y e = ap (λ o. unwrap_or o x) e

-- what is found passes the test
found_passes : {X : Type 0} (test : X → Bool) (xs : List X) (y : X) → find test xs ≡ Some y → test y ≡ true
found_passes test [] y e = cc
found_passes {X} test (x ∷ xs) y e = by (test x) refl e (found_passes test xs y)
  where
    by : (b : Bool) → test x ≡ b → cond b (Some x) (find test xs) ≡ Some y → (find test xs ≡ Some y → test y ≡ true) → test y ≡ true
    by true is e more = let same : x ≡ y = one_some x y e in ap test (sym same) ∙ is
    by false is e more = more e

-- ---- what is asked

-- what a Scope at a place asks
pub target_said : (place : ℕ) (opened : List (ℕ × Path)) (k : ℕ) (e : Option Entry) → k < length opened → find (λ (o : ℕ × Path). o.0 == place) opened ≡ slice_get opened k
    → option_map (λ (o : ℕ × Path). literal_at o.0 (has o.1)) (slice_get opened k) ∷ [] ≡ map (λ l. Some l) (asked_within place (find (λ (o : ℕ × Path). o.0 == place) opened) e)
target_said place opened k e within found =
    let x = dropped opened k within in
    let is : find (λ (o : ℕ × Path). o.0 == place) opened ≡ Some x.0 = found ∙ x.1 in
    let there : x.0.0 ≡ place = eqb-true x.0.0 place (found_passes (λ (o : ℕ × Path). o.0 == place) opened x.0 is) in
    ap (λ o. option_map (λ (o : ℕ × Path). literal_at o.0 (has o.1)) o ∷ []) x.1
    ∙ ap (λ p. Some (literal_at p (has x.0.1)) ∷ []) there
    ∙ ap (λ o. map (λ l. Some l) (asked_within place o e)) (sym is)

one_put : (lits : LiteralSource → Option PlacedParts) (b : Bool) (x : LiteralSource) (l : PlacedParts) (old new : List LiteralSource) → lits x ≡ Some l
    → new ≡ old ++ cond b (x ∷ []) [] → map lits new ≡ map lits old ++ map (λ l. Some l) (cond b (l ∷ []) [])
one_put lits true x l old new is put = ap (map lits) put ∙ map-append lits old (x ∷ []) ∙ ap (λ o. map lits old ++ o ∷ []) is
one_put lits false x l old new is put = ap (map lits) put ∙ map-append lits old []

map_both : {X Y Z : Type 0} (f : Y → Z) (g : X → Y) (xs : List X) → map (λ x. f (g x)) xs ≡ map f (map g xs)
map_both f g [] = refl
map_both f g (x ∷ xs) = ap (λ ys. f (g x) ∷ ys) (map_both f g xs)

-- what a term asks: a scope, a free path, and names
pub asks_put : (lits : LiteralSource → Option PlacedParts) (b d : Bool) (x y : LiteralSource) (l m : PlacedParts) (g : NameParts → PlacedParts) (ns : List NameParts) (old one two new : List LiteralSource)
    → lits x ≡ Some l → lits y ≡ Some m → one ≡ old ++ cond b (x ∷ []) [] → two ≡ one ++ cond d (y ∷ []) [] → map lits new ≡ map lits two ++ map (λ n. Some (g n)) ns
    → map lits new ≡ map lits old ++ map (λ l. Some l) ((cond b (l ∷ []) [] ++ cond d (m ∷ []) []) ++ map g ns)
asks_put lits b d x y l m g ns old one two new lx ly first second last =
    let some : PlacedParts → Option PlacedParts = λ l. Some l in
    let bs = cond b (l ∷ []) [] in
    let ds = cond d (m ∷ []) [] in
    let mb = map some bs in
    let md = map some ds in
    let mn = map some (map g ns) in
    let all : map some ((bs ++ ds) ++ map g ns) ≡ (mb ++ md) ++ mn = map-append some (bs ++ ds) (map g ns) ∙ ap (λ t. t ++ mn) (map-append some bs ds) in
    last
    ∙ ap (λ t. map lits two ++ t) (map_both some g ns)
    ∙ ap (λ t. t ++ mn) (one_put lits d y m one two ly second)
    ∙ ap (λ t. (t ++ md) ++ mn) (one_put lits b x l old one lx first)
    ∙ ap (λ t. t ++ mn) (append_assoc (map lits old) mb md)
    ∙ append_assoc (map lits old) (mb ++ md) mn
    ∙ ap (λ t. map lits old ++ t) (sym all)

-- ---- entries

-- an element of what is left behind the first ones
pub slice_dropped : {X : Type 0} (k : ℕ) (xs : List X) (n : ℕ) → slice_get (drop k xs) n ≡ slice_get xs (n + k)
slice_dropped zero xs n = let e : n ≡ n + 0 = omega arith in ap (slice_get xs) e
slice_dropped (suc k) [] n = refl
slice_dropped (suc k) (x ∷ xs) n = let e : suc (n + k) ≡ n + suc k = omega arith in slice_dropped k xs n ∙ ap (slice_get (x ∷ xs)) e

-- one entry more, of the path and the number of an order
pub pairs_more : (old new : List ConditionedEntry) (e : ConditionedEntry) (xs : List (Bor Path × ℕ)) (i : ℕ) (w : Bor Path × ℕ) → i < length xs → w ≡ get_or xs i w
    → numbered_pair (conditioned_view e) ≡ lent_pair w → new ≡ old ++ e ∷ [] → map numbered_pair (map conditioned_view old) ≡ map lent_pair (take i xs)
    → map numbered_pair (map conditioned_view new) ≡ map lent_pair (take (i + 1) xs)
pairs_more old new e xs i w within is same put before =
    ap (λ es. map numbered_pair (map conditioned_view es)) put
    ∙ ap (map numbered_pair) (map-append conditioned_view old (e ∷ []))
    ∙ map-append numbered_pair (map conditioned_view old) (conditioned_view e ∷ [])
    ∙ ap (λ t. t ++ numbered_pair (conditioned_view e) ∷ []) before
    ∙ ap (λ x. map lent_pair (take i xs) ++ x ∷ []) (same ∙ ap lent_pair is)
    ∙ sym (map-append lent_pair (take i xs) (get_or xs i w ∷ []))
    ∙ ap (map lent_pair) (sym (take_more xs i w within))

condition_stays : (s : Survey) (steps more new : List ConditionStep) (last : Option ℕ) (ls : List PlacedParts) → new ≡ steps ++ more → IsCondition s steps last ls → IsCondition s new last ls
condition_stays s steps more new last ls grown c =
    record {
      from = c.from;
      way = subst (λ (t : List ConditionStep). IsWay t last c.from) (sym grown) (way_stays more c.way);
      literals_are = c.literals_are;
    }

all_one : {X : Type 0} (P : X → Type 0) (x : X) → P x → All P (x ∷ [])
all_one P x p zero d lt = p
all_one P x p (suc k) d lt = absurd (omega (arith, lt))

-- .. and with its condition
pub conditions_more : (s : Survey) (steps more grown : List ConditionStep) (old new : List ConditionedEntry) (e : ConditionedEntry) → grown ≡ steps ++ more → new ≡ old ++ e ∷ []
    → All (λ e. IsCondition s steps e.condition (condition_numbered s e.number)) old → IsCondition s grown e.condition (condition_numbered s e.number)
    → All (λ e. IsCondition s grown e.condition (condition_numbered s e.number)) new
conditions_more s steps more grown old new e is put before last =
    let P : ConditionedEntry → Type 0 = λ e. IsCondition s grown e.condition (condition_numbered s e.number) in
    subst (λ (es : List ConditionedEntry). All P es) (sym put)
    (All-append P old (e ∷ []) (λ k d lt. condition_stays s steps more grown _ _ is (before k d lt)) (all_one P e last))
