-- The search of a plain name with the locals of a body laid over the namespace.
use Rattle.std.proofs.Common.{◌≡◌, ℕ, suc, ◌<◌, ◌≤◌, Bool, true, false, cond, ltb, ◌||◌, List, [], ◌∷◌, ◌++◌, map, find, length, take, Option, Some, None, refl, sym, ap, ap₂, ◌∙◌, arith}
use Rattle.std.proofs.lemmas.Bool.{lt-ltb, le-ltb}
use Rattle.std.specs.Option.{option_map}
use Rattle.std.specs.FinMap.{get}
use Rattle.std.specs.List.{AllByRecursion}
use Rattle.acpi_name.specs.Names.{Segment, NameParts, plain_segment}
use Rattle.acpi_space.specs.Spaces.{PathMap, is_defined}
use Rattle.acpi_space.specs.Lookups.{Lookup, is_defined_in}
use Rattle.acpi_space.specs.Search.{beginnings, tries_of, answer, nearest_scope}
use Rattle.acpi_space.proofs.Beginnings.{find_map, found_within, found_there, not_found}
use Rattle.acpi_space.proofs.Laid.{is_some-map}
use Rattle.acpi_tree.specs.declared.object.Object.{Object}
use Rattle.acpi_tree.specs.Objects.{object_view}
use Rattle.acpi_values.specs.Arguments.{Locals}
use Rattle.acpi_body.specs.Arguments.{Namespace, namespace_of, defined_with, args_there, args_at, expected_at, expected_place, count_behind}
use Rattle.acpi_body.specs.steps.Setting.{deeper}

-- ---- each beginning is longer than those behind it

abbrev AreShorter : {A : Type 0} → ℕ → List (List A) → Type 0
AreShorter n bs = AllByRecursion (λ b. length b < n) bs

abbrev Falls : {A : Type 0} → List (List A) → Type 0
Falls [] = Unit {0}
Falls (b ∷ bs) = AreShorter (length b) bs × Falls bs

shorter_longer : {A : Type 0} (x : A) (n : ℕ) (bs : List (List A)) → AreShorter n bs → AreShorter (suc n) (map (λ b. x ∷ b) bs ++ [] ∷ [])
shorter_longer x n [] h = (omega arith, tt)
shorter_longer x n (b ∷ bs) h = (let one : length b < n = h.0 in omega (arith, one), shorter_longer x n bs h.1)

falls_longer : {A : Type 0} (x : A) (bs : List (List A)) → Falls bs → Falls (map (λ b. x ∷ b) bs ++ [] ∷ [])
falls_longer x [] h = (tt, tt)
falls_longer x (b ∷ bs) h = (shorter_longer x (length b) bs h.0, falls_longer x bs h.1)

falls : {A : Type 0} (xs : List A) → Falls (beginnings xs)
falls [] = (tt, tt)
falls (x ∷ xs) = falls_longer x (beginnings xs) (falls xs)

-- ---- the longer of two that are found

-- what is found among shorter ones is shorter
abbrev IsShorter : {A : Type 0} → ℕ → Option (List A) → Type 0
IsShorter n None = Unit {0}
IsShorter n (Some b) = length b < n

found_shorter : {A : Type 0} (p : List A → Bool) (n : ℕ) (bs : List (List A)) → AreShorter n bs → IsShorter n (find p bs)
found_shorter p n [] h = tt
found_shorter {A} p n (b ∷ bs) h = by_test (found_shorter p n bs h.1) (p b)
  where
    by_test : IsShorter n (find p bs) → (t : Bool) → IsShorter n (cond t (Some b) (find p bs))
    by_test more true = h.0
    by_test more false = more

abbrev depth_of : {A : Type 0} → Option (List A) → Option ℕ
depth_of o = option_map length o

first_deeper : {A : Type 0} (b : List A) (o : Option (List A)) → IsShorter (length b) o → Some (length b) ≡ deeper (Some (length b)) (depth_of o)
first_deeper b None h = refl
first_deeper b (Some c) h = let low : ltb (length b) (length c) ≡ false = le-ltb _ _ (omega (arith, h)) in ap Some (rw low refl)

second_deeper : {A : Type 0} (b : List A) (o : Option (List A)) → IsShorter (length b) o → Some (length b) ≡ deeper (depth_of o) (Some (length b))
second_deeper b None h = refl
second_deeper b (Some c) h = let low : ltb (length c) (length b) ≡ true = lt-ltb _ _ h in ap Some (rw low refl)

both_deeper : (n : ℕ) → Some n ≡ deeper (Some n) (Some n)
both_deeper n = let low : ltb n n ≡ false = le-ltb n n (omega arith) in ap Some (rw low refl)

found_deeper : {A : Type 0} (p q : List A → Bool) (bs : List (List A)) → Falls bs → depth_of (find (λ b. p b || q b) bs) ≡ deeper (depth_of (find p bs)) (depth_of (find q bs))
found_deeper p q [] h = refl
found_deeper {A} p q (b ∷ bs) h = by_tests (found_deeper p q bs h.1) (p b) (q b)
  where
    by_tests : depth_of (find (λ b. p b || q b) bs) ≡ deeper (depth_of (find p bs)) (depth_of (find q bs)) → (s t : Bool)
        → depth_of (cond (s || t) (Some b) (find (λ b. p b || q b) bs)) ≡ deeper (depth_of (cond s (Some b) (find p bs)))
        (depth_of (cond t (Some b) (find q bs)))
    by_tests more true true = both_deeper (length b)
    by_tests more true false = first_deeper b (find q bs) (found_shorter q (length b) bs h.0)
    by_tests more false true = second_deeper b (find p bs) (found_shorter p (length b) bs h.0)
    by_tests more false false = more

-- of what is below a scope
pub overlaid : (p q : List Segment → Bool) (s : List Segment) (g : Segment)
    → option_map length (find (λ b. p (b ++ g ∷ []) || q (b ++ g ∷ [])) (beginnings s))
    ≡ deeper (option_map length (find (λ b. p (b ++ g ∷ [])) (beginnings s))) (option_map length (find (λ b. q (b ++ g ∷ [])) (beginnings s)))
overlaid p q s g = found_deeper (λ b. p (b ++ g ∷ [])) (λ b. q (b ++ g ∷ [])) (beginnings s) (falls s)

-- ---- how many values follow a plain name

pub plain_found : (objects : Namespace) (externals : Lookup ℕ) (s : List Segment) (locals : Locals) (n : NameParts) (g : Segment) (q : List Segment) → plain_segment n ≡ Some g
    → find (λ q. defined_with objects locals (q ++ g ∷ [])) (beginnings s) ≡ Some q → args_there objects locals (q ++ g ∷ []) ≡ count_behind objects externals s locals n
plain_found objects externals s locals n g q plain e =
    let there : answer (defined_with objects locals) s n ≡ Some (q ++ g ∷ []) = ap (λ o. find (defined_with objects locals) (tries_of s n o)) plain
    ∙ find_map (defined_with objects locals) (λ q. q ++ g ∷ []) (beginnings s) ∙ ap (option_map (λ q. q ++ g ∷ [])) e in
    ap (args_at objects locals (expected_at externals (expected_place externals s n))) (sym there)

pub plain_missed : (objects : Namespace) (externals : Lookup ℕ) (s : List Segment) (locals : Locals) (n : NameParts) (g : Segment) → plain_segment n ≡ Some g
    → find (λ q. defined_with objects locals (q ++ g ∷ [])) (beginnings s) ≡ None → expected_at externals (expected_place externals s n) ≡ count_behind objects externals s locals n
plain_missed objects externals s locals n g plain e =
    let there : answer (defined_with objects locals) s n ≡ None = ap (λ o. find (defined_with objects locals) (tries_of s n o)) plain
    ∙ find_map (defined_with objects locals) (λ q. q ++ g ∷ []) (beginnings s) ∙ ap (option_map (λ q. q ++ g ∷ [])) e in
    ap (args_at objects locals (expected_at externals (expected_place externals s n))) (sym there)

-- ---- as the code finds them

-- the same paths are defined in a map and in the namespace that it holds
pub is_defined-namespace : (m : PathMap Object) → is_defined m ≡ is_defined_in (namespace_of m)
is_defined-namespace m = sym (λ i p. is_some-map object_view (get m p) i)

pub nearest_of : (objects : Namespace) (locals : Locals) (s : List Segment) (g : Segment) (a b r : Option ℕ)
    → r ≡ deeper a b → a ≡ option_map length (nearest_scope (is_defined locals) s g) → b ≡ option_map length (nearest_scope (is_defined_in objects) s g)
    → r ≡ option_map length (nearest_scope (defined_with objects locals) s g)
nearest_of objects locals s g a b r h e f = h ∙ ap₂ deeper e f ∙ sym (overlaid (is_defined locals) (is_defined_in objects) s g)

pub depth_within : (objects : Namespace) (locals : Locals) (s : List Segment) (g : Segment) (r : Option ℕ) (depth : ℕ)
    → r ≡ option_map length (nearest_scope (defined_with objects locals) s g) → r ≡ Some depth → depth ≤ length s
depth_within objects locals s g r depth e f = found_within (λ q. defined_with objects locals (q ++ g ∷ [])) s r depth e f

pub count_found : (objects : Namespace) (externals : Lookup ℕ) (s : List Segment) (locals : Locals) (n : NameParts) (g : Segment) (r : Option ℕ) (depth : ℕ) (path : List Segment) (count : ℕ)
    → plain_segment n ≡ Some g → r ≡ option_map length (nearest_scope (defined_with objects locals) s g) → r ≡ Some depth → path ≡ take depth s ++ g ∷ [] → count ≡ args_there objects locals path
    → count ≡ count_behind objects externals s locals n
count_found objects externals s locals n g r depth path count plain e f is h =
    h ∙ ap (args_there objects locals) is ∙ plain_found objects externals s locals n g (take depth s) plain (found_there (λ q. defined_with objects locals (q ++ g ∷ [])) s r depth e f)

pub count_missed : (objects : Namespace) (externals : Lookup ℕ) (s : List Segment) (locals : Locals) (n : NameParts) (g : Segment) (r : Option ℕ) (count : ℕ)
    → plain_segment n ≡ Some g → r ≡ option_map length (nearest_scope (defined_with objects locals) s g) → r ≡ None → count ≡ expected_at externals (expected_place externals s n)
    → count ≡ count_behind objects externals s locals n
count_missed objects externals s locals n g r count plain e none h =
    h ∙ plain_missed objects externals s locals n g plain (not_found (nearest_scope (defined_with objects locals) s g) length r e none)
