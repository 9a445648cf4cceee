-- Codes and items of one table, one after another; and the rewritten table.
use Rattle.std.proofs.Common.{◌≡◌, ℕ, zero, suc, ◌+◌, ◌-◌, ◌<◌, ◌≤◌, List, [], ◌∷◌, ◌++◌, map, length, get_or, take, drop, set, refl, sym, ap, subst, ◌∙◌, append_assoc, append-nil, All, Option, Some, None, arith}
use Rattle.std.specs.Global.{Vec}
use Rattle.std.specs.List.{AllZip}
use Rattle.std.proofs.lemmas.List.{length-append, length-map, nil_from_length, length-drop, map-append, get_or-map, take_more, take_all, at_drop_more, drop-set-lt}
use Rattle.acpi_tree.specs.Tree.{ItemTree, ItemTrees, item}
use Rattle.acpi_tree.specs.View.{item_view, items_tree}
use Rattle.acpi_tree.specs.declared.tree.Item.{Item}
use Rattle.acpi_space.specs.Lookups.{union}
use Rattle.acpi_declare.specs.Listing.{Placement, objects_of}
use Rattle.acpi_declare.specs.Loads.{AreListings, IsLoad, AreNotes, objects_after}
use Rattle.acpi_declare.specs.Predefined.{predefined}
use Rattle.acpi_pass.specs.declared.notes.TableNotes.{TableNotes}
use Rattle.acpi_declare.specs.Namespace.{Namespace}
use Rattle.acpi_declare.specs.Notes.{external_counts, methods, Notes, all_notes, notes_of}
use Rattle.acpi_declare.specs.Notes as notes
use Rattle.acpi_declare.specs.Sites.{sites}
use Rattle.acpi_declare.specs.Tables.{code_of}
use Rattle.acpi_declare.proofs.Refusals.{same_listings}
use Rattle.acpi_declare.proofs.TableLists.{count_listings, count_notes}
use Rattle.acpi_write.specs.CanonicalItems.{items_bytes}
use Rattle.acpi_write.specs.Shortest.{HasWithin}
use Rattle.acpi_order.specs.Bodies.{Method, with_counts, methods_of}
use Rattle.acpi_rewrite.specs.Rewriting.{AreTablesOfBytes, item_codes, codes, item_without_code, without_code, IsNewCode, IsShortest, IsRewritten, AreEachRewritten, AreRewritten}
use Rattle.acpi_order.specs.steps.Noted.{noted}
use Rattle.acpi_rewrite.specs.steps.Recoding.{IsNoted, IsRewrittenTo}
use Rattle.acpi_rewrite.proofs.Recoded.{alike_item_count, alike_count}
use Rattle.acpi_rewrite.proofs.Rewritten.{shorter_items}
use Rattle.acpi_rewrite.proofs.Relisted.{table_codes, listed_codes}

-- ---- pairs

zip_push : {X Y : Type 0} (R : X → Y → Type 0) (xs : List X) (ys : List Y) (x : X) (y : Y) → AllZip R xs ys → R x y → AllZip R (xs ++ x ∷ []) (ys ++ y ∷ [])
zip_push R [] [] x y h one = (one, tt)
zip_push R [] (z ∷ ys) x y h one = absurd h
zip_push R (z ∷ xs) [] x y h one = absurd h
zip_push R (z ∷ xs) (w ∷ ys) x y h one = (h.0, zip_push R xs ys x y h.1 one)

pub zip_more : {X Y : Type 0} (R : X → Y → Type 0) (xs : List X) (ys now : List Y) (i : ℕ) (x : X) (y : Y) → i < length xs → x ≡ get_or xs i x → AllZip R (take i xs) ys → R x y
    → now ≡ ys ++ y ∷ [] → AllZip R (take (i + 1) xs) now
zip_more R xs ys now i x y below there before one e =
    let longer : take (i + 1) xs ≡ take i xs ++ x ∷ [] = take_more xs i x below ∙ ap (λ z. take i xs ++ z ∷ []) (sym there) in
    subst (λ zs. AllZip R zs now) (sym longer) (subst (AllZip R (take i xs ++ x ∷ [])) (sym e) (zip_push R (take i xs) ys x y before one))

zip_length : {X Y : Type 0} (R : X → Y → Type 0) (xs : List X) (ys : List Y) → AllZip R xs ys → length xs ≡ length ys
zip_length R [] [] h = refl
zip_length R [] (y ∷ ys) h = absurd h
zip_length R (x ∷ xs) [] h = absurd h
zip_length R (x ∷ xs) (y ∷ ys) h = ap (λ (k : ℕ). suc k) (zip_length R xs ys h.1)

pub zip_mapped : {X Y Z : Type 0} (R : Y → Z → Type 0) (f : X → Y) (xs : List X) (zs : List Z) → AllZip (λ x z. R (f x) z) xs zs → AllZip R (map f xs) zs
zip_mapped R f [] [] h = tt
zip_mapped R f [] (z ∷ zs) h = absurd h
zip_mapped R f (x ∷ xs) [] h = absurd h
zip_mapped R f (x ∷ xs) (z ∷ zs) h = (h.0, zip_mapped R f xs zs h.1)

-- ---- items one after another

-- the list with another item at a place, which is alike but for code
module _ (y : Item) where
  set_alike : (xs : List Item) (i : ℕ) (x : Item) → i < length xs → item_without_code (item_view y) ≡ item_without_code (item_view (get_or xs i x))
      → without_code (items_tree (set xs i y)) ≡ without_code (items_tree xs)
  set_alike [] i x below same = absurd (omega (arith, below))
  set_alike (z ∷ xs) zero x below same = ap (λ (k : ItemTree). item k (without_code (items_tree xs))) same
  set_alike (z ∷ xs) (suc i) x below same = ap (item (item_without_code (item_view z))) (set_alike xs i x (omega (arith, below)) same)

  set_codes : (xs : List Item) (i : ℕ) → i < length xs → codes (items_tree (take (suc i) (set xs i y))) ≡ codes (items_tree (take i xs)) ++ item_codes (item_view y)
  set_codes [] i below = absurd (omega (arith, below))
  set_codes (z ∷ xs) zero below = append-nil (item_codes (item_view y))
  set_codes (z ∷ xs) (suc i) below = ap (λ (cs : List (List ℕ)). item_codes (item_view z) ++ cs) (set_codes xs i (omega (arith, below)))
      ∙ sym (append_assoc (item_codes (item_view z)) (codes (items_tree (take i xs))) (item_codes (item_view y)))

-- the invariant of a list of items, at the next one
pub next_item : (xs all : List Item) (i : ℕ) (x y : Item) (fresh left given : List (List ℕ)) → i < length xs
    → item_without_code (item_view y) ≡ item_without_code (item_view (get_or xs i x)) → item_codes (item_view y) ++ left ≡ fresh
    → (without_code (items_tree xs) ≡ without_code (items_tree all)) × (codes (items_tree (take i xs)) ++ fresh ≡ given) × (length (codes (items_tree (drop i xs))) ≤ length fresh)
    → (without_code (items_tree (set xs i y)) ≡ without_code (items_tree all)) × (codes (items_tree (take (i + 1) (set xs i y))) ++ left ≡ given)
    × (length (codes (items_tree (drop (i + 1) (set xs i y)))) ≤ length left)
next_item xs all i x y fresh left given below same taken h =
    let next : i + 1 ≡ suc i = omega arith in
    let old = item_view (get_or xs i x) in
    let size : length (item_codes (item_view y)) + length left ≡ length fresh = sym (length-append (item_codes (item_view y)) left) ∙ ap length taken in
    let counted : length (codes (items_tree (drop i xs))) ≡ length (item_codes old) + length (codes (items_tree (drop (i + 1) xs))) =
    at_drop_more (λ is. length (codes (items_tree is))) xs i x below ∙ length-append (item_codes old) (codes (items_tree (drop (i + 1) xs))) in
    let behind : length (codes (items_tree (drop (i + 1) (set xs i y)))) ≡ length (codes (items_tree (drop (i + 1) xs))) =
    ap (λ (is : List Item). length (codes (items_tree is))) (drop-set-lt (i + 1) xs i y (omega arith)) in
    let as_many = alike_item_count old (item_view y) same in (
      set_alike y xs i x below same ∙ h.0,
      ap (λ (k : ℕ). codes (items_tree (take k (set xs i y))) ++ left) next ∙ ap (λ (cs : List (List ℕ)). cs ++ left) (set_codes y xs i below)
          ∙ append_assoc (codes (items_tree (take i xs))) (item_codes (item_view y)) left ∙ ap (λ (cs : List (List ℕ)). codes (items_tree (take i xs)) ++ cs) taken ∙ h.1,
      omega (arith, size, counted, behind, as_many, h.2),
    )

-- a list that is written over from its front, as far as it reaches
pub written_over : {X : Type 0} (n : ℕ) (new old : List X) → length new ≡ length old → length old ≤ n → take n (new ++ drop (length new) old) ≡ new
written_over n new old same past =
    ap (λ l. take n (new ++ l)) (nil_from_length (drop (length new) old) (omega (arith, length-drop (length new) old, same))) ∙ ap (take n) (append-nil new)
    ∙ take_all n new (omega (arith, same, past))

-- ---- a table

behind_all : {X : Type 0} (xs left ys : List X) → xs ++ left ≡ ys → length xs ≡ length ys → xs ≡ ys
behind_all xs left ys e same =
    let none : left ≡ [] = nil_from_length left (omega (arith, ap length e, length-append xs left, same)) in
    sym (append-nil xs) ∙ ap (λ l. xs ++ l) (sym none) ∙ e

module _ (depth : ℕ) (objects : Namespace) (bytes : List ℕ) (t : List Placement) (n : Notes) (h : IsNoted depth bytes t n) (cs : List (List ℕ))
    (new : AllZip (IsNewCode depth objects) (noted n) cs) where
  pub as_many_codes : length (codes h.items) ≡ length cs
  as_many_codes =
      sym (ap length (listed_codes h.before [] (sites h.items) t h.listing ∙ table_codes h.items)) ∙ length-map (methods t) (λ (m : notes.Method). m.code)
      ∙ sym (length-map (methods t) (with_counts (external_counts t))) ∙ ap length (sym h.methods_are) ∙ zip_length (IsNewCode depth objects) (noted n) cs new

  new_code_of : (js : ItemTrees) (left : List (List ℕ)) → without_code js ≡ without_code h.items → codes js ++ left ≡ cs → AllZip (IsNewCode depth objects) (methods_of t) (codes js)
  new_code_of js left same fresh =
      subst (AllZip (IsNewCode depth objects) (methods_of t)) (sym (behind_all (codes js) left cs fresh (alike_count h.items js same ∙ as_many_codes)))
      (subst (λ (ms : List Method). AllZip (IsNewCode depth objects) ms cs) h.methods_are new)

  -- so there is room for what is written
  pub has_room : (js : ItemTrees) (left : List (List ℕ)) → All (λ b. b < 256) bytes → without_code js ≡ without_code h.items → codes js ++ left ≡ cs
      → ((code : List ℕ) → items_bytes js ≡ Some code → 16777216 < 36 + length code) → ⊥
  has_room js left below same fresh long =
      by (items_bytes js) refl (shorter_items depth h.before objects bytes below h.items h.table.spelled t h.listing js same (new_code_of js left same fresh))
    where
      by : (o : Option (List ℕ)) → items_bytes js ≡ o → HasWithin o (code_of bytes) → ⊥
      by None e within = within
      by (Some code) e within = omega (arith, long code e, within, length-drop 36 bytes, h.table.numbered.table.has_header, h.table.numbered.table.within_limit)

  pub is_rewritten : (js : ItemTrees) (left : List (List ℕ)) (now : List ℕ) → without_code js ≡ without_code h.items → codes js ++ left ≡ cs
      → IsShortest bytes js now → IsRewritten depth objects t bytes now
  is_rewritten js left now same fresh written = record {
    items = h.items;
    spelled = h.table.spelled;
    rewritten = js;
    alike = same;
    bodies = new_code_of js left same fresh;
    written = written;
  }

-- ---- tables one after another

abbrev Bytes : Type 0
Bytes = Vec ℕ

abbrev items_in : Bytes → List ℕ
items_in b = b.items

-- the table at a place of a load, whose notes are at the same place
noted_at : (depth number : ℕ) (N : Namespace) (bs : List (List ℕ)) (ts : List (List Placement)) → AreListings depth number N bs ts → (i : ℕ) (n : Notes) → i < length bs
    → n ≡ get_or (all_notes N ts) i n → IsNoted depth (get_or bs i []) (get_or ts i []) n
noted_at depth number N [] ts h i n below e = absurd (omega arith)
noted_at depth number N (b ∷ bs) [] h i n below e = absurd h
noted_at depth number N (b ∷ bs) (t ∷ ts) h zero n below e =
    record { number = number; before = N; items = h.0.0; table = h.0.1; listing = h.0.2; methods_are = ap noted e }
noted_at depth number N (b ∷ bs) (t ∷ ts) h (suc i) n below e = noted_at depth (suc number) (union N (objects_of t)) bs ts h.1 i n (omega arith) e

module _ (depth : ℕ) (objects : Namespace) where
  push_each : (ts : List (List Placement)) (bs ns : List (List ℕ)) (t : List Placement) (b n : List ℕ) → AreEachRewritten depth objects ts bs ns → IsRewritten depth objects t b n
      → AreEachRewritten depth objects (ts ++ t ∷ []) (bs ++ b ∷ []) (ns ++ n ∷ [])
  push_each [] [] [] t b n h one = (one, tt)
  push_each [] [] (m ∷ ns) t b n h one = absurd h
  push_each [] (c ∷ bs) [] t b n h one = absurd h
  push_each [] (c ∷ bs) (m ∷ ns) t b n h one = absurd h
  push_each (u ∷ ts) [] [] t b n h one = absurd h
  push_each (u ∷ ts) [] (m ∷ ns) t b n h one = absurd h
  push_each (u ∷ ts) (c ∷ bs) [] t b n h one = absurd h
  push_each (u ∷ ts) (c ∷ bs) (m ∷ ns) t b n h one = (h.0, push_each ts bs ns t b n h.1 one)

-- what is there, by another name of what stands at a place
at_place : {X : Type 0} (xs : List X) (i : ℕ) (x y : X) → i < length xs → x ≡ get_or xs i x → x ≡ get_or xs i y
at_place [] i x y below e = absurd (omega arith)
at_place (z ∷ xs) zero x y below e = e
at_place (z ∷ xs) (suc i) x y below e = at_place xs i x y (omega arith) e

-- the next of a list, by what is left of it
pub next_left : {X : Type 0} (xs : List X) (i : ℕ) (x : X) (rest : List X) → drop i xs ≡ x ∷ rest → (i < length xs) × (x ≡ get_or xs i x) × (rest ≡ drop (i + 1) xs)
next_left [] zero x rest e = cc
next_left [] (suc i) x rest e = cc
next_left (y ∷ xs) zero x rest e = (omega arith, cc, cc)
next_left (y ∷ xs) (suc i) x rest e =
    let ih : (i < length xs) × (x ≡ get_or xs i x) × (rest ≡ drop (i + 1) xs) = next_left xs i x rest e in
    let one_more : suc (i + 1) ≡ suc i + 1 = omega arith in
    (omega (arith, ih.0), ih.1, ih.2 ∙ ap (λ k. drop k (y ∷ xs)) one_more)

pub none_left : {X : Type 0} (xs : List X) (i : ℕ) → drop i xs ≡ [] → length xs ≤ i
none_left xs i e = let none : length xs - i ≡ 0 = sym (length-drop i xs) ∙ ap length e in omega (arith, none)

-- no table of a load is rewritten yet
pub none_rewritten : (depth : ℕ) (bs : List (List ℕ)) (ns : List Notes) (objects : Namespace) (links : _) → IsLoad depth bs objects links → AreNotes depth bs ns
    → IsRewrittenTo depth bs ns objects 0 []
none_rewritten depth bs ns objects links d n = record {
  placements = n.placements;
  listings = n.listings;
  notes_are = n.notes_are;
  objects_are = d.objects_are ∙ ap (objects_after predefined) (same_listings depth 0 predefined bs d.placements n.placements d.listings n.listings);
  each = tt;
}

module _ (depth : ℕ) (bs : List (List ℕ)) (ns : List TableNotes) (objects : Namespace) (i : ℕ) (done : List Bytes)
    (r : IsRewrittenTo depth bs (map notes_of ns) objects i (map items_in done)) where
  as_many : length r.placements ≡ length bs
  as_many = count_listings depth 0 predefined bs r.placements r.listings

  -- as many notes as tables
  pub as_many_notes : length ns ≡ length bs
  as_many_notes = sym (length-map ns notes_of) ∙ ap length r.notes_are ∙ count_notes predefined r.placements ∙ as_many

  -- all of them are
  pub all_rewritten : length ns ≤ i → AreRewritten depth bs (map items_in done)
  all_rewritten past = record {
    placements = r.placements;
    listings = r.listings;
    each = subst (λ (us : List (List Placement)). AreEachRewritten depth (objects_after predefined r.placements) us bs (map items_in done)) (take_all i r.placements (omega (arith, as_many, as_many_notes, past)))
        (subst (λ (cs : List (List ℕ)). AreEachRewritten depth (objects_after predefined r.placements) (take i r.placements) cs (map items_in done)) (take_all i bs (omega (arith, as_many_notes, past)))
        (subst (λ (N : Namespace). AreEachRewritten depth N (take i r.placements) (take i bs) (map items_in done)) r.objects_are r.each));
  }

  -- the next one, with what is noted of it
  module _ (b : List ℕ) (n : TableNotes) (below : i < length ns) (there : b ≡ get_or bs i b) (at : n ≡ get_or ns i n) where
    within : i < length bs
    within = omega (arith, below, as_many_notes)

    pub next_noted : IsNoted depth b (get_or r.placements i []) (notes_of n)
    next_noted =
        subst (λ (c : List ℕ). IsNoted depth c (get_or r.placements i []) (notes_of n)) (sym (at_place bs i b [] within there))
        (noted_at depth 0 predefined bs r.placements r.listings i (notes_of n) within
        (ap notes_of at ∙ sym (get_or-map notes_of ns i n (notes_of n) below) ∙ ap (λ (l : List Notes). get_or l i (notes_of n)) r.notes_are))

    pub next_rewritten : (now : List Bytes) (new : Bytes) → now ≡ done ++ new ∷ [] → IsRewritten depth objects (get_or r.placements i []) b (items_in new)
        → IsRewrittenTo depth bs (map notes_of ns) objects (i + 1) (map items_in now)
    next_rewritten now new pushed one =
        let reach : i < length r.placements = omega (arith, as_many, within) in
        let all : map items_in now ≡ map items_in done ++ items_in new ∷ [] = ap (map items_in) pushed ∙ map-append items_in done (new ∷ []) in
        record {
          placements = r.placements;
          listings = r.listings;
          notes_are = r.notes_are;
          objects_are = r.objects_are;
          each = subst (AreEachRewritten depth objects (take (i + 1) r.placements) (take (i + 1) bs)) (sym all)
              (subst (λ (us : List (List Placement)). AreEachRewritten depth objects us (take (i + 1) bs) (map items_in done ++ items_in new ∷ [])) (sym (take_more r.placements i [] reach))
              (subst (λ (cs : List (List ℕ)). AreEachRewritten depth objects (take i r.placements ++ get_or r.placements i [] ∷ []) cs (map items_in done ++ items_in new ∷ [])) (sym (take_more bs i [] within))
              (push_each depth objects (take i r.placements) (take i bs) (map items_in done) (get_or r.placements i []) (get_or bs i []) (items_in new) r.each
              (subst (λ (c : List ℕ). IsRewritten depth objects (get_or r.placements i []) c (items_in new)) (at_place bs i b [] within there) one))));
        }

-- .. which is bytes, and is rewritten to bytes
bytes_pushed : (bs : List (List ℕ)) (b : List ℕ) → AreTablesOfBytes bs → All (λ n. n < 256) b → AreTablesOfBytes (bs ++ b ∷ [])
bytes_pushed [] b h one = (one, tt)
bytes_pushed (c ∷ bs) b h one = (h.0, bytes_pushed bs b h.1 one)

pub more_old : (bs : List (List ℕ)) (i : ℕ) (b : List ℕ) → i < length bs → b ≡ get_or bs i b → AreTablesOfBytes (take i bs) → All (λ n. n < 256) b
    → AreTablesOfBytes (take (i + 1) bs)
more_old bs i b below there before one =
    subst AreTablesOfBytes (sym (take_more bs i [] below)) (bytes_pushed (take i bs) (get_or bs i []) before (subst (All (λ n. n < 256)) (at_place bs i b [] below there) one))

pub more_new : (done now : List Bytes) (new : Bytes) → now ≡ done ++ new ∷ [] → AreTablesOfBytes (map items_in done) → All (λ n. n < 256) (items_in new)
    → AreTablesOfBytes (map items_in now)
more_new done now new pushed before one =
    subst AreTablesOfBytes (sym (ap (map items_in) pushed ∙ map-append items_in done (new ∷ []))) (bytes_pushed (map items_in done) (items_in new) before one)
