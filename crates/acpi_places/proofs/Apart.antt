-- No two methods of a load have one path.
use Rattle.std.proofs.Common.{◌≡◌, ℕ, suc, Bool, true, false, cond, List, [], ◌∷◌, ◌++◌, Option, Some, None, is_some, true≢false, refl, sym, ap, subst, ◌∙◌}
use Rattle.std.specs.List.{AllZip, AllByRecursion}
use Rattle.std.specs.Option.{option_or}
use Rattle.acpi_name.specs.Names.{Segment, NameParts}
use Rattle.acpi_space.specs.Lookups.{Lookup, is_same_path, nothing, singleton, union}
use Rattle.acpi_space.proofs.Comparisons.{path_itself}
use Rattle.acpi_space.proofs.Elements.{all_map}
use Rattle.acpi_tree.specs.Objects.{ObjectTree}
use Rattle.acpi_declare.specs.Listing.{Placement, object_by, object_of, objects_of, IsJustified}
use Rattle.acpi_declare.specs.Loads.{AreListings}
use Rattle.acpi_declare.specs.Namespace.{Namespace}
use Rattle.acpi_declare.specs.Notes.{Method, methods_by, methods}
use Rattle.acpi_declare.specs.Placing.{IsPlaced}
use Rattle.acpi_declare.specs.Predefined.{predefined}
use Rattle.acpi_declare.specs.Sites.{Effect, declares, opens, expects, Site, sites}
use Rattle.acpi_pass.proofs.Unions.{path_same}
use Rattle.acpi_places.specs.declared.place.CodePlace.{CodePlace}
use Rattle.acpi_places.specs.Places.{IsCodeAt, AreAllPlaces, by_path, all_by_path}
use Rattle.acpi_places.specs.Laws.{EachIsPlaced, IsPlaced as HasPlace, AreTablePlaced}

-- ---- defined paths

abbrev Has : Namespace → List Segment → Type 0
Has N q = is_some (N q) ≡ true

has_first : (N M : Namespace) (q : List Segment) → Has N q → Has (union N M) q
has_first N M q h = by (N q) h
  where
    by : (o : Option ObjectTree) → is_some o ≡ true → is_some (option_or o (M q)) ≡ true
    by None e = absurd cc
    by (Some x) e = refl

has_second : (N M : Namespace) (q : List Segment) → Has M q → Has (union N M) q
has_second N M q h = by (N q)
  where
    by : (o : Option ObjectTree) → is_some (option_or o (M q)) ≡ true
    by None = h
    by (Some x) = refl

has_itself : (p : List Segment) (o : ObjectTree) → Has (singleton p o) p
has_itself p o = ap (λ (b : Bool). is_some (cond b (Some o) None)) (path_itself p)

-- the path of the method is none of those that are defined
abbrev Apart : Namespace → Method → Type 0
Apart N m = (q : List Segment) → Has N q → is_same_path m.path q ≡ false

abbrev AreApart : Namespace → List Method → Type 0
AreApart N ms = AllByRecursion (Apart N) ms

free_apart : (N : Namespace) (p q : List Segment) → N p ≡ None → Has N q → is_same_path p q ≡ false
free_apart N p q free has = by (is_same_path p q) refl
  where
    by : (b : Bool) → is_same_path p q ≡ b → b ≡ false
    by false e = refl
    by true e =
        let none : is_some (N q) ≡ false = ap (λ (r : List Segment). is_some (N r)) (sym (path_same p q e)) ∙ ap (λ (o : Option ObjectTree). is_some o) free in
        absurd (true≢false (sym has ∙ none))

-- what is apart from more is apart from these
less_apart : (N M : Namespace) (ms : List Method) → AreApart (union N M) ms → AreApart N ms
less_apart N M ms h = all_map (Apart (union N M)) (Apart N) (λ m apart q has. apart q (has_first N M q has)) ms h

-- ---- the methods of a table

module _ (N : Namespace) (s : List Segment) (n : NameParts) (p : List Segment) where
  -- the method that a placement declares
  one_apart : (d : Effect) (ms : List Method) → IsPlaced d N s n p → AreApart N ms → AreApart N (methods_by d p ++ ms)
  one_apart (declares o links None) ms h k = k
  one_apart (declares o links (Some code)) ms h k = (λ q has. free_apart N p q h.free has, k)
  one_apart opens ms h k = k
  one_apart (expects count) ms h k = k

later_apart : (N : Namespace) (before : List (List Segment)) (xs : List Site) (es : List Placement) → IsJustified N before xs es → AreApart N (methods es)
later_apart N before [] [] h = tt
later_apart N before [] (e ∷ es) h = absurd h
later_apart N before (x ∷ xs) [] h = absurd h
later_apart N before (x ∷ xs) (e ∷ es) h =
    one_apart N e.scope e.step.name e.path e.step.effect (methods es) h.2
    (less_apart N (object_of e) (methods es) (later_apart (union N (object_of e)) (before ++ e.path ∷ []) xs es h.3))

-- each is defined by the table
one_defined : (M : Namespace) (d : Effect) (p : List Segment) (ms : List Method) → AllByRecursion (λ m. Has M m.path) ms
    → AllByRecursion (λ m. Has (union (object_by d p) M) m.path) (methods_by d p ++ ms)
one_defined M (declares o links None) p ms h = all_map (λ m. Has M m.path) _ (λ m has. has_second (singleton p o) M m.path has) ms h
one_defined M (declares o links (Some code)) p ms h =
    (has_first (singleton p o) M p (has_itself p o), all_map (λ m. Has M m.path) _ (λ m has. has_second (singleton p o) M m.path has) ms h)
one_defined M opens p ms h = all_map (λ m. Has M m.path) _ (λ m has. has_second nothing M m.path has) ms h
one_defined M (expects count) p ms h = all_map (λ m. Has M m.path) _ (λ m has. has_second nothing M m.path has) ms h

all_defined : (es : List Placement) → AllByRecursion (λ m. Has (objects_of es) m.path) (methods es)
all_defined [] = tt
all_defined (e ∷ es) = one_defined (objects_of es) e.step.effect e.path (methods es) (all_defined es)

-- ---- their places

elsewhere : (p q : List Segment) (c : CodePlace) (l : Lookup CodePlace) → is_same_path q p ≡ false → union (singleton p c) l q ≡ l q
elsewhere p q c l e = ap (λ (b : Bool). option_or (cond b (Some c) None) (l q)) e

-- a place that stands in the second of two lookups, where the first has none
placed_second : (first second : Lookup CodePlace) (ms : List Method) (cs : List CodePlace) → AllByRecursion (λ m. first m.path ≡ None) ms → AllZip (HasPlace second) ms cs
    → AllZip (HasPlace (union first second)) ms cs
placed_second first second [] [] h k = tt
placed_second first second [] (c ∷ cs) h k = absurd k
placed_second first second (m ∷ ms) [] h k = absurd k
placed_second first second (m ∷ ms) (c ∷ cs) h k =
    (ap (λ (o : Option CodePlace). option_or o (second m.path)) h.0 ∙ k.0, placed_second first second ms cs h.1 k.1)

placed_first : (first second : Lookup CodePlace) (ms : List Method) (cs : List CodePlace) → AllZip (HasPlace first) ms cs → AllZip (HasPlace (union first second)) ms cs
placed_first first second [] [] k = tt
placed_first first second [] (c ∷ cs) k = absurd k
placed_first first second (m ∷ ms) [] k = absurd k
placed_first first second (m ∷ ms) (c ∷ cs) k = (ap (λ (o : Option CodePlace). option_or o (second m.path)) k.0, placed_first first second ms cs k.1)

-- the methods behind one that declares a path
module _ (N : Namespace) (bytes : List ℕ) (p : List Segment) (ms : List Method) where
  first_placed : (d : Effect) (cs : List CodePlace) → AreApart (union N (object_by d p)) ms → ((ds : List CodePlace) → AllZip (IsCodeAt bytes) ms ds → AllZip (HasPlace (by_path ms ds)) ms ds)
      → AllZip (IsCodeAt bytes) (methods_by d p ++ ms) cs → AllZip (HasPlace (by_path (methods_by d p ++ ms) cs)) (methods_by d p ++ ms) cs
  first_placed (declares o links None) cs apart later h = later cs h
  first_placed (declares o links (Some code)) [] apart later h = absurd h
  first_placed (declares o links (Some code)) (c ∷ cs) apart later h = (
    ap (λ (b : Bool). option_or (cond b (Some c) None) (by_path ms cs p)) (path_itself p),
    placed_second (singleton p c) (by_path ms cs) ms cs
        (all_map (Apart (union N (singleton p o))) (λ m. singleton p c m.path ≡ None) (λ m away. ap (λ (b : Bool). cond b (Some c) None) (away p (has_second N (singleton p o) p (has_itself p o))))
        ms apart) (later cs h.1),
  )
  first_placed opens cs apart later h = later cs h
  first_placed (expects count) cs apart later h = later cs h

table_placed : (bytes : List ℕ) (N : Namespace) (before : List (List Segment)) (xs : List Site) (es : List Placement) (cs : List CodePlace) → IsJustified N before xs es
    → AllZip (IsCodeAt bytes) (methods es) cs → AllZip (HasPlace (by_path (methods es) cs)) (methods es) cs
table_placed bytes N before [] [] [] h k = tt
table_placed bytes N before [] [] (c ∷ cs) h k = absurd k
table_placed bytes N before [] (e ∷ es) cs h k = absurd h
table_placed bytes N before (x ∷ xs) [] cs h k = absurd h
table_placed bytes N before (x ∷ xs) (e ∷ es) cs h k =
    first_placed N bytes e.path (methods es) e.step.effect cs (later_apart (union N (object_of e)) (before ++ e.path ∷ []) xs es h.3)
    (λ ds there. table_placed bytes (union N (object_of e)) (before ++ e.path ∷ []) xs es ds h.3 there) k

-- ---- all tables

tables_apart : (depth k : ℕ) (N : Namespace) (bs : List (List ℕ)) (ts : List (List Placement)) → AreListings depth k N bs ts → AllByRecursion (λ t. AreApart N (methods t)) ts
tables_apart depth k N [] [] h = tt
tables_apart depth k N [] (t ∷ ts) h = absurd h
tables_apart depth k N (b ∷ bs) [] h = absurd h
tables_apart depth k N (b ∷ bs) (t ∷ ts) h = (
  later_apart N [] (sites h.0.0) t h.0.2,
  all_map (λ u. AreApart (union N (objects_of t)) (methods u)) (λ u. AreApart N (methods u)) (λ u apart. less_apart N (objects_of t) (methods u) apart) ts
      (tables_apart depth (suc k) (union N (objects_of t)) bs ts h.1),
)

-- at other paths a table has no places
none_there : (M : Namespace) (q : List Segment) (ms : List Method) (cs : List CodePlace) → ((r : List Segment) → Has M r → is_same_path q r ≡ false)
    → AllByRecursion (λ m. Has M m.path) ms → by_path ms cs q ≡ None
none_there M q [] cs away h = refl
none_there M q (m ∷ ms) [] away h = refl
none_there M q (m ∷ ms) (c ∷ cs) away h = elsewhere m.path q c (by_path ms cs) (away m.path h.0) ∙ none_there M q ms cs away h.1

module _ (N : Namespace) (t : List Placement) (cs : List CodePlace) (later : Lookup CodePlace) where
  behind : (ts : List (List Placement)) (css : List (List CodePlace)) → AllByRecursion (λ u. AreApart (union N (objects_of t)) (methods u)) ts → AllZip (AreTablePlaced later) ts css
      → AllZip (AreTablePlaced (union (by_path (methods t) cs) later)) ts css
  behind [] [] h k = tt
  behind [] (ds ∷ css) h k = absurd k
  behind (u ∷ ts) [] h k = absurd k
  behind (u ∷ ts) (ds ∷ css) h k = (
    placed_second (by_path (methods t) cs) later (methods u) ds
        (all_map (Apart (union N (objects_of t))) (λ m. by_path (methods t) cs m.path ≡ None) (λ m away. none_there (objects_of t) m.path (methods t) cs (λ r has. away r (has_second N (objects_of t) r has)) (all_defined t))
        (methods u) h.0) k.0,
    behind ts css h.1 k.1,
  )

all_placed : (depth k : ℕ) (N : Namespace) (bs : List (List ℕ)) (ts : List (List Placement)) (css : List (List CodePlace)) → AreListings depth k N bs ts → AreAllPlaces k bs ts css
    → AllZip (AreTablePlaced (all_by_path ts css)) ts css
all_placed depth k N [] [] [] h p = tt
all_placed depth k N [] [] (cs ∷ css) h p = absurd p
all_placed depth k N [] (t ∷ ts) css h p = absurd h
all_placed depth k N (b ∷ bs) [] css h p = absurd h
all_placed depth k N (b ∷ bs) (t ∷ ts) [] h p = absurd p
all_placed depth k N (b ∷ bs) (t ∷ ts) (cs ∷ css) h p = (
  placed_first (by_path (methods t) cs) (all_by_path ts css) (methods t) cs (table_placed b N [] (sites h.0.0) t cs h.0.2 p.0.code),
  behind N t cs (all_by_path ts css) ts css (tables_apart depth (suc k) (union N (objects_of t)) bs ts h.1)
      (all_placed depth (suc k) (union N (objects_of t)) bs ts css h.1 p.1),
)

pub each_is_placed : EachIsPlaced
each_is_placed depth tables places h =
    subst (λ (l : Lookup CodePlace). AllZip (AreTablePlaced l) h.placements h.codes) (sym h.by_paths) (all_placed depth 0 predefined tables h.placements h.codes h.listings h.are)
