-- Places that are added by their paths, method after method and table after table.
use Rattle.std.proofs.Common.{◌≡◌, ℕ, zero, suc, ◌+◌, ◌<◌, ◌≤◌, Bool, true, false, cond, List, [], ◌∷◌, ◌++◌, map, length, min, take, drop, get_or, take_all, Option, Some, None, IsSome, refl, sym, ap, subst, ◌∙◌, arith}
use Rattle.std.specs.FinMap.{empty, get-empty, get, insert, get-insert}
use Rattle.std.specs.Option.{option_or}
use Rattle.std.proofs.lemmas.List.{take_more, length-take-le, length-map}
use Rattle.acpi_name.specs.Names.{Segment}
use Rattle.acpi_name.specs.Paths.{path_cmp}
use Rattle.acpi_name.specs.steps.PathOrder.{path_cmp_total}
use Rattle.acpi_space.specs.Lookups.{Lookup, is_same_path, nothing, singleton, union}
use Rattle.acpi_space.specs.Spaces.{PathMap}
use Rattle.acpi_tree.specs.Tree.{ItemTrees}
use Rattle.acpi_declare.specs.Listing.{Placement, objects_of, IsListing}
use Rattle.acpi_declare.specs.Loads.{AreListings, AreNotes}
use Rattle.acpi_declare.specs.Namespace.{Namespace}
use Rattle.acpi_declare.specs.Notes.{Method, methods, Notes, all_notes, method_of, notes_of}
use Rattle.acpi_declare.specs.Predefined.{predefined}
use Rattle.acpi_declare.specs.Sites.{sites}
use Rattle.acpi_declare.specs.Tables.{IsTableOf}
use Rattle.acpi_pass.specs.declared.notes.Method as code
use Rattle.acpi_pass.specs.declared.notes.TableNotes.{TableNotes}
use Rattle.acpi_pass.proofs.Unions.{path_same, union-nothing, union_assoc}
use Rattle.acpi_declare.proofs.TableLists.{count_listings, count_notes}
use Rattle.acpi_places.specs.declared.place.CodePlace.{CodePlace}
use Rattle.acpi_places.specs.Places.{AreTablePlaces, AreAllPlaces, by_path, all_by_path, AreCodePlaces}
use Rattle.acpi_places.specs.steps.Adding.{AddsTable, AreFirstPlaces}
use Rattle.acpi_places.proofs.Stood.{table_places}

-- ---- one place

none_before : {V : Type 0} (b : Bool) (v : V) (o : Option V) → (b ≡ true → o ≡ None) → cond b (Some v) o ≡ option_or o (cond b (Some v) None)
none_before true v None h = refl
none_before true v (Some w) h = let never : Some w ≡ None = h refl in cc
none_before false v None h = refl
none_before false v (Some w) h = refl

one_before : {V : Type 0} (b : Bool) (v : V) (o : Option V) → (b ≡ true → IsSome o) → o ≡ option_or o (cond b (Some v) None)
one_before true v None h = let never : false ≡ true = h refl in cc
one_before true v (Some w) h = refl
one_before false v None h = refl
one_before false v (Some w) h = refl

-- a place at a path that has none
pub put_free : {V : Type 0} (m : PathMap V) (p : List Segment) (v : V) → get m p ≡ None → get (insert m p v) ≡ union (get m) (singleton p v)
put_free m p v free = λ i q. at q i
  where
    at : (q : List Segment) → get (insert m p v) q ≡ union (get m) (singleton p v) q
    at q = get-insert path_cmp_total m p v q ∙ none_before (is_same_path q p) v (get m q) (λ e. ap (get m) (path_same q p e) ∙ free)

-- one at a path that has one already
pub put_taken : {V : Type 0} (m : PathMap V) (p : List Segment) (v : V) → IsSome (get m p) → get m ≡ union (get m) (singleton p v)
put_taken m p v there = λ i q. at q i
  where
    at : (q : List Segment) → get m q ≡ union (get m) (singleton p v) q
    at q = one_before (is_same_path q p) v (get m q) (λ e. subst (λ r. IsSome (get m r)) (sym (path_same q p e)) there)

pub get_none : {V : Type 0} → get (empty {X = V} {R = path_cmp}) ≡ nothing
get_none = λ i q. get-empty path_cmp q i

-- ---- lists of tables

-- the table at a place, and its notes
record TableAt (depth number : ℕ) (b : List ℕ) (t : List Placement) (n : Notes) : Type 0 where
  objects : Namespace
  items : ItemTrees
  table : IsTableOf depth number b items
  listing : IsListing objects (sites items) t
  methods_are : n.methods ≡ methods t

abbrev no_notes : Notes
no_notes = record { counts = nothing; methods = []; missed = [] }

table_at : (depth number : ℕ) (N : Namespace) (bs : List (List ℕ)) (ts : List (List Placement)) → AreListings depth number N bs ts → (i : ℕ) → i < length bs
    → TableAt depth (number + i) (get_or bs i []) (get_or ts i []) (get_or (all_notes N ts) i no_notes)
table_at depth number N [] ts h i below = absurd (omega arith)
table_at depth number N (b ∷ bs) [] h i below = absurd h
table_at depth number N (b ∷ bs) (t ∷ ts) h zero below = record {
  objects = N;
  items = h.0.0;
  table = subst (λ k. IsTableOf depth k b h.0.0) (omega arith) h.0.1;
  listing = h.0.2;
  methods_are = refl;
}
table_at depth number N (b ∷ bs) (t ∷ ts) h (suc i) below =
    let next : suc number + i ≡ number + suc i = omega arith in
    subst (λ k. TableAt depth k (get_or bs i []) (get_or ts i []) (get_or (all_notes (union N (objects_of t)) ts) i no_notes)) next
    (table_at depth (suc number) (union N (objects_of t)) bs ts h.1 i (omega arith))

-- ---- one more table

push_all : (number : ℕ) (bs : List (List ℕ)) (ts : List (List Placement)) (css : List (List CodePlace)) (b : List ℕ) (t : List Placement) (cs : List CodePlace) → AreAllPlaces number bs ts css
    → AreTablePlaces (number + length bs) b (methods t) cs → AreAllPlaces number (bs ++ b ∷ []) (ts ++ t ∷ []) (css ++ cs ∷ [])
push_all number [] [] [] b t cs h one = (subst (λ k. AreTablePlaces k b (methods t) cs) (omega arith) one, tt)
push_all number [] [] (ds ∷ css) b t cs h one = absurd h
push_all number [] (u ∷ ts) [] b t cs h one = absurd h
push_all number [] (u ∷ ts) (ds ∷ css) b t cs h one = absurd h
push_all number (c ∷ bs) [] [] b t cs h one = absurd h
push_all number (c ∷ bs) [] (ds ∷ css) b t cs h one = absurd h
push_all number (c ∷ bs) (u ∷ ts) [] b t cs h one = absurd h
push_all number (c ∷ bs) (u ∷ ts) (ds ∷ css) b t cs h one =
    (h.0, push_all (suc number) bs ts css b t cs h.1 (subst (λ k. AreTablePlaces k b (methods t) cs) (omega arith) one))

push_paths : (number : ℕ) (bs : List (List ℕ)) (ts : List (List Placement)) (css : List (List CodePlace)) (t : List Placement) (cs : List CodePlace) → AreAllPlaces number bs ts css
    → all_by_path (ts ++ t ∷ []) (css ++ cs ∷ []) ≡ union (all_by_path ts css) (by_path (methods t) cs)
push_paths number [] [] [] t cs h = union-nothing (by_path (methods t) cs)
push_paths number [] [] (ds ∷ css) t cs h = absurd h
push_paths number [] (u ∷ ts) [] t cs h = absurd h
push_paths number [] (u ∷ ts) (ds ∷ css) t cs h = absurd h
push_paths number (c ∷ bs) [] [] t cs h = absurd h
push_paths number (c ∷ bs) [] (ds ∷ css) t cs h = absurd h
push_paths number (c ∷ bs) (u ∷ ts) [] t cs h = absurd h
push_paths number (c ∷ bs) (u ∷ ts) (ds ∷ css) t cs h =
    ap (union (by_path (methods u) ds)) (push_paths (suc number) bs ts css t cs h.1) ∙ sym (union_assoc (by_path (methods u) ds) (all_by_path ts css) (by_path (methods t) cs))

-- what comes of adding the places of the next table of a load
pub record NextTable (depth : ℕ) (bs : List (List ℕ)) (ts : List (List Placement)) (i : ℕ) (places : Lookup CodePlace) (b : List ℕ) (notes : Notes) : Type 0 where
  pub items : ItemTrees
  pub table : IsTableOf depth i b items
  pub then : (new : Lookup CodePlace) → AddsTable i b items notes places new → AreFirstPlaces bs ts (i + 1) new

noted_at : (ns : List TableNotes) (i : ℕ) (n : TableNotes) → i < length ns → n ≡ get_or ns i n → get_or (map notes_of ns) i no_notes ≡ notes_of n
noted_at [] i n below e = absurd (omega arith)
noted_at (m ∷ ns) zero n below e = ap notes_of (sym e)
noted_at (m ∷ ns) (suc i) n below e = noted_at ns i n (omega arith) e

module _ (depth : ℕ) (bs : List (List ℕ)) (ns : List TableNotes) (h : AreNotes depth bs (map notes_of ns)) where
  -- there are notes of each table
  pub notes_enough : length ns ≡ length bs
  notes_enough = sym (length-map ns notes_of) ∙ ap length h.notes_are ∙ count_notes predefined h.placements ∙ count_listings depth 0 predefined bs h.placements h.listings

  pub none_yet : AreFirstPlaces bs h.placements 0 nothing
  none_yet = record { codes = []; are = tt; by_paths = refl }

  module _ (i : ℕ) (places : Lookup CodePlace) (b : List ℕ) (n : TableNotes) (below : i < length bs) (there : b ≡ get_or bs i []) (noted : n ≡ get_or ns i n)
      (first : AreFirstPlaces bs h.placements i places) where
    abbrev t : List Placement
    t = get_or h.placements i []

    reach : i < length h.placements
    reach = omega (arith, below, count_listings depth 0 predefined bs h.placements h.listings)

    at : TableAt depth i b t (notes_of n)
    at =
        let zero_more : 0 + i ≡ i = omega arith in
        let one = table_at depth 0 predefined bs h.placements h.listings i below in
        let same : get_or (all_notes predefined h.placements) i no_notes ≡ notes_of n =
        ap (λ (l : List Notes). get_or l i no_notes) (sym h.notes_are) ∙ noted_at ns i n (omega (arith, below, notes_enough)) noted in
        subst (TableAt depth i b t) same (subst (λ (c : List ℕ). TableAt depth i c t (get_or (all_notes predefined h.placements) i no_notes)) (sym there)
        (subst (λ k. TableAt depth k (get_or bs i []) t (get_or (all_notes predefined h.placements) i no_notes)) zero_more one))

    module _ (new : Lookup CodePlace) (a : AddsTable i b at.items (notes_of n) places new) where
      placed : AreTablePlaces i b (methods t) a.places
      placed = table_places depth i at.objects b at.items t a.places at.table at.listing a.spelled

      now_first : AreFirstPlaces bs h.placements (i + 1) new
      now_first =
          let count : i ≡ 0 + length (take i bs) = omega (arith, length-take-le i bs (omega (arith, below))) in
          let one : AreTablePlaces (0 + length (take i bs)) (get_or bs i []) (methods t) a.places =
          subst (λ k. AreTablePlaces k (get_or bs i []) (methods t) a.places) count (subst (λ (c : List ℕ). AreTablePlaces i c (methods t) a.places) there placed) in
          let more = push_all 0 (take i bs) (take i h.placements) first.codes (get_or bs i []) t a.places first.are one in
          record {
            codes = first.codes ++ a.places ∷ [];
            are = subst (λ (us : List (List Placement)). AreAllPlaces 0 (take (i + 1) bs) us (first.codes ++ a.places ∷ [])) (sym (take_more h.placements i [] reach))
                (subst (λ (cs : List (List ℕ)). AreAllPlaces 0 cs (take i h.placements ++ t ∷ []) (first.codes ++ a.places ∷ [])) (sym (take_more bs i [] below)) more);
            by_paths = a.added ∙ ap (λ (l : Lookup CodePlace). union l (by_path (notes_of n).methods a.places)) first.by_paths
                ∙ ap (λ (l : List Method). union (all_by_path (take i h.placements) first.codes) (by_path l a.places)) at.methods_are
                ∙ sym (push_paths 0 (take i bs) (take i h.placements) first.codes t a.places first.are)
                ∙ ap (λ (us : List (List Placement)). all_by_path us (first.codes ++ a.places ∷ [])) (sym (take_more h.placements i [] reach));
          }

    pub next_table : NextTable depth bs h.placements i places b (notes_of n)
    next_table = record { items = at.items; table = at.table; then = now_first }

  -- the places of all
  pub all_places : (count : ℕ) (places : Lookup CodePlace) → length bs ≤ count → AreFirstPlaces bs h.placements count places → AreCodePlaces depth bs places
  all_places count places past first =
      let all = take_all count bs past in
      let all_listed = take_all count h.placements (omega (arith, past, count_listings depth 0 predefined bs h.placements h.listings)) in
      record {
        placements = h.placements;
        listings = h.listings;
        codes = first.codes;
        are = subst (λ (us : List (List Placement)). AreAllPlaces 0 bs us first.codes) all_listed (subst (λ (cs : List (List ℕ)). AreAllPlaces 0 cs (take count h.placements) first.codes) all first.are);
        by_paths = first.by_paths ∙ ap (λ (us : List (List Placement)). all_by_path us first.codes) all_listed;
      }

-- what stands behind the first of some tables
pub behind_first : (x b : List ℕ) (xs : List (List ℕ)) (i : ℕ) → i < length xs → b ≡ get_or xs i b → b ≡ get_or (x ∷ xs) (i + 1) []
behind_first x b xs i below e =
    let next : i + 1 ≡ suc i = omega arith in
    there xs i below e ∙ sym (ap (λ k. get_or (x ∷ xs) k []) next)
  where
    there : (xs : List (List ℕ)) (i : ℕ) → i < length xs → b ≡ get_or xs i b → b ≡ get_or xs i []
    there [] i below e = absurd (omega arith)
    there (y ∷ ys) zero below e = e
    there (y ∷ ys) (suc i) below e = there ys i (omega arith) e

-- ---- the methods of one table

-- no methods are left, or no places
pub by_path_end : (ms : List Method) (cs : List CodePlace) (n : ℕ) → min (length ms) (length cs) ≤ n → by_path (drop n ms) (drop n cs) ≡ nothing
by_path_end [] cs zero past = refl
by_path_end (m ∷ ms) [] zero past = refl
by_path_end (m ∷ ms) (c ∷ cs) zero past = absurd (omega (arith, past))
by_path_end [] cs (suc n) past = refl
by_path_end (m ∷ ms) [] (suc n) past = none (drop n ms)
  where
    none : (ns : List Method) → by_path ns [] ≡ nothing
    none [] = refl
    none (n ∷ ns) = refl
by_path_end (m ∷ ms) (c ∷ cs) (suc n) past = by_path_end ms cs n (omega (arith, past))

-- the next method, and its place
pub by_path_turn : (ms : List code.Method) (cs : List CodePlace) (n : ℕ) (m : code.Method) (c : CodePlace) → n < length ms → n < length cs → m ≡ get_or ms n m → c ≡ get_or cs n c
    → by_path (drop n (map method_of ms)) (drop n cs) ≡ union (singleton m.path c) (by_path (drop (n + 1) (map method_of ms)) (drop (n + 1) cs))
by_path_turn ms cs n m c a b e f = turn ms cs n a b e f ∙ ap (λ k. union (singleton m.path c) (by_path (drop k (map method_of ms)) (drop k cs))) (next n)
  where
    next : (n : ℕ) → suc n ≡ n + 1
    next n = omega arith

    turn : (ms : List code.Method) (cs : List CodePlace) (n : ℕ) → n < length ms → n < length cs → m ≡ get_or ms n m → c ≡ get_or cs n c
        → by_path (drop n (map method_of ms)) (drop n cs) ≡ union (singleton m.path c) (by_path (drop (suc n) (map method_of ms)) (drop (suc n) cs))
    turn [] cs n a b e f = absurd (omega (arith, a))
    turn (k ∷ ms) [] n a b e f = absurd (omega (arith, b))
    turn (k ∷ ms) (d ∷ cs) zero a b e f = ap (λ (j : code.Method). union (singleton j.path d) (by_path (map method_of ms) cs)) (sym e) ∙ ap (λ (q : CodePlace). union (singleton m.path q) (by_path (map method_of ms) cs)) (sym f)
    turn (k ∷ ms) (d ∷ cs) (suc n) a b e f = turn ms cs n (omega (arith, a)) (omega (arith, b)) e f

-- one more is put, and these are left
pub next_put : (ms : List code.Method) (cs : List CodePlace) (n : ℕ) (m : code.Method) (p : List Segment) (c : CodePlace) (first now new : Lookup CodePlace) → n < length ms → n < length cs → m ≡ get_or ms n m → c ≡ get_or cs n c
    → p ≡ m.path → new ≡ union now (singleton p c) → union now (by_path (drop n (map method_of ms)) (drop n cs)) ≡ first
    → union new (by_path (drop (n + 1) (map method_of ms)) (drop (n + 1) cs)) ≡ first
next_put ms cs n m p c first now new a b e f same put before =
    let later = by_path (drop (n + 1) (map method_of ms)) (drop (n + 1) cs) in
    ap (λ (l : Lookup CodePlace). union l later) (put ∙ ap (λ (q : List Segment). union now (singleton q c)) same)
    ∙ union_assoc now (singleton m.path c) later ∙ ap (union now) (sym (by_path_turn ms cs n m c a b e f)) ∙ before

-- all are put
pub all_put : (ms : List code.Method) (cs : List CodePlace) (n : ℕ) (first now : Lookup CodePlace) → n ≡ min (length ms) (length cs)
    → union now (by_path (drop n (map method_of ms)) (drop n cs)) ≡ first → now ≡ first
all_put ms cs n first now e before =
    let past : min (length (map method_of ms)) (length cs) ≤ n = omega (arith, e, length-map ms method_of) in
    sym (union-nothing now) ∙ ap (union now) (sym (by_path_end (map method_of ms) cs n past)) ∙ before
