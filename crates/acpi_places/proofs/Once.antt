-- The bytes alone say where the code of methods stands.
use Rattle.std.proofs.Common.{◌≡◌, ℕ, suc, ◌+◌, ◌≤◌, List, [], ◌∷◌, ◌++◌, length, take, drop, refl, sym, ap, subst, ◌∙◌, append-nil, arith}
use Rattle.std.proofs.lemmas.List.{length-append, take_at, drop_at}
use Rattle.acpi_tree.specs.Tree.{ItemTree, name, scope, method, external, external_block, create, create_field, mutex, event, region, field, index_field, bank_field, ItemTrees, no_items, item}
use Rattle.acpi_code.specs.declared.opcode.Opcode.{Opcode}
use Rattle.acpi_code.specs.Opcodes.{opcode_bytes}
use Rattle.acpi_terms.specs.Forms.{fixed_arguments, ArgumentsOf, kind_opcode, kind_arguments}
use Rattle.acpi_terms.specs.Spelling.{SpellsFilled, SpellsItem, SpellsItems, item_height}
use Rattle.acpi_terms.specs.steps.Reading.{packed_at, item_at}
use Rattle.acpi_terms.proofs.Arguments.{arguments_height, packed_complete}
use Rattle.acpi_terms.proofs.ScopeKinds.{kind_form}
use Rattle.acpi_terms.proofs.Items.{item_complete}
use Rattle.acpi_terms.proofs.OneTree.{one_item_tree}
use Rattle.acpi_declare.specs.Listing.{Placement}
use Rattle.acpi_declare.specs.Notes.{methods}
use Rattle.acpi_declare.specs.Predefined.{predefined}
use Rattle.acpi_declare.specs.Tables.{code_of}
use Rattle.acpi_declare.proofs.Refusals.{same_listings}
use Rattle.acpi_places.specs.declared.place.CodePlace.{CodePlace}
use Rattle.acpi_places.specs.Places.{place_of_last, SpellsItemAt, SpellsItemsAt, AreTablePlaces, AreAllPlaces, all_by_path}
use Rattle.acpi_places.specs.Laws.{OneCodePlaces}
use Rattle.acpi_places.proofs.Fronts.{told, telling, told_bytes, items_in, whole_item, same_item}

-- ---- they spell the item

mutual
  item_spelled : (table start : ℕ) (i : ItemTree) (a : List ℕ) (ps : List CodePlace) → SpellsItemAt table start i a ps → SpellsItem i a
  item_spelled table start (method n flags code) a ps h = h.0
  item_spelled table start (scope kind n is) a ps f = (f.0, f.1, f.2, items_spelled table (place_of_last start a f.1) is f.1 ps f.3, f.4)
  item_spelled table start (name n d) a ps h = h.0
  item_spelled table start (external x) a ps h = h.0
  item_spelled table start (external_block xs) a ps h = h.0
  item_spelled table start (create w source index n) a ps h = h.0
  item_spelled table start (create_field source index bits n) a ps h = h.0
  item_spelled table start (mutex n flags) a ps h = h.0
  item_spelled table start (event n) a ps h = h.0
  item_spelled table start (region n space offset len) a ps h = h.0
  item_spelled table start (field r flags es) a ps h = h.0
  item_spelled table start (index_field i d flags es) a ps h = h.0
  item_spelled table start (bank_field r bank value flags es) a ps h = h.0

  pub items_spelled : (table start : ℕ) (is : ItemTrees) (bytes : List ℕ) (ps : List CodePlace) → SpellsItemsAt table start is bytes ps → SpellsItems is bytes
  items_spelled table start no_items bytes ps h = h.0
  items_spelled table start (item i is) bytes ps h = (h.0, h.1, item_spelled table start i h.0 h.2 h.4, items_spelled table (start + length h.0) is h.1 h.3 h.5, h.6)

-- ---- what fills a package

module _ (o : Opcode) (made : ArgumentsOf o → ItemTrees → ItemTree) (v : ArgumentsOf o) (a : List ℕ) (flat : arguments_height (fixed_arguments o) ≤ 0) (items : (is : ItemTrees) → items_in (made v is) ≡ is) where
  read_last : (Fills : List ℕ → Type 0) (f : SpellsFilled o v Fills a) → packed_at (fixed_arguments o) made 0 telling 0 (drop (length (opcode_bytes o)) a) ≡ whole_item (made v (told 0 f.1)) []
  read_last Fills f =
      let packed = f.4.len ++ (f.0 ++ f.1) in
      let behind : drop (length (opcode_bytes o)) a ≡ packed ++ [] =
      ap (drop (length (opcode_bytes o))) f.4.whole ∙ drop_at (opcode_bytes o) packed (length (opcode_bytes o)) refl ∙ sym (append-nil packed) in
      ap (packed_at (fixed_arguments o) made 0 telling 0) behind ∙ packed_complete (fixed_arguments o) made 0 telling 0 v (told 0 f.1) f.4.len f.0 f.1 [] flat f.2 refl f.4.spells_len

  same_last : (Fills Fills' : List ℕ → Type 0) (f : SpellsFilled o v Fills a) (g : SpellsFilled o v Fills' a) → f.1 ≡ g.1
  same_last Fills Fills' f g =
      ap told_bytes
      (sym (items (told 0 f.1)) ∙ ap items_in (same_item (made v (told 0 f.1)) (made v (told 0 g.1)) [] [] (sym (read_last Fills f) ∙ read_last Fills' g)).0 ∙ items (told 0 g.1))

-- ---- one list of places

-- two readings of the first item
record SameFront (a b a' b' : List ℕ) : Type 0 where
  front : a' ≡ a
  behind : b' ≡ b

same_front : (table start start' : ℕ) (i : ItemTree) (a b a' b' : List ℕ) (ps qs : List CodePlace) → SpellsItemAt table start i a ps → SpellsItemAt table start' i a' qs → a ++ b ≡ a' ++ b' → SameFront a b a' b'
same_front table start start' i a b a' b' ps qs h k e =
    let level = item_height i in
    let read = item_complete i level 0 a b (item_spelled table start i a ps h) (omega arith) in
    let read' = item_complete i level 0 a' b' (item_spelled table start' i a' qs k) (omega arith) in
    let behind : b' ≡ b = (same_item i i b' b (sym read' ∙ ap (item_at level 0) (sym e) ∙ read)).1 in
    let long : length a' ≡ length a = omega (arith, ap length e, length-append a b, length-append a' b', ap length behind) in
    record { front = sym (take_at a' b' (length a) long) ∙ ap (take (length a)) (sym e) ∙ take_at a b (length a) refl; behind = behind }

moved : (table start : ℕ) (is : ItemTrees) (a : List ℕ) (qs : List CodePlace) (b b' : List ℕ) → b ≡ b' → SpellsItemsAt table (place_of_last start a b') is b' qs
    → SpellsItemsAt table (place_of_last start a b) is b qs
moved table start is a qs b b' same k = subst (λ (c : List ℕ). SpellsItemsAt table (place_of_last start a c) is c qs) (sym same) k

mutual
  one_item : (table start : ℕ) (i : ItemTree) (a : List ℕ) (ps qs : List CodePlace) → SpellsItemAt table start i a ps → SpellsItemAt table start i a qs → ps ≡ qs
  one_item table start (method n flags code) a ps qs h k = h.1 ∙ sym k.1
  one_item table start (scope kind n is) a ps qs f g =
      let k = kind_form kind in
      one_items table (place_of_last start a f.1) is f.1 ps qs f.3
      (moved table start is a qs f.1 g.1 (same_last (kind_opcode kind) k.made (kind_arguments kind n) a k.flat (λ js. ap items_in (k.is n js)) _ _ f g) g.3)
  one_item table start (name n d) a ps qs h k = h.1 ∙ sym k.1
  one_item table start (external x) a ps qs h k = h.1 ∙ sym k.1
  one_item table start (external_block xs) a ps qs h k = h.1 ∙ sym k.1
  one_item table start (create w source index n) a ps qs h k = h.1 ∙ sym k.1
  one_item table start (create_field source index bits n) a ps qs h k = h.1 ∙ sym k.1
  one_item table start (mutex n flags) a ps qs h k = h.1 ∙ sym k.1
  one_item table start (event n) a ps qs h k = h.1 ∙ sym k.1
  one_item table start (region n space offset len) a ps qs h k = h.1 ∙ sym k.1
  one_item table start (field r flags es) a ps qs h k = h.1 ∙ sym k.1
  one_item table start (index_field i d flags es) a ps qs h k = h.1 ∙ sym k.1
  one_item table start (bank_field r bank value flags es) a ps qs h k = h.1 ∙ sym k.1

  one_items : (table start : ℕ) (is : ItemTrees) (bytes : List ℕ) (ps qs : List CodePlace) → SpellsItemsAt table start is bytes ps → SpellsItemsAt table start is bytes qs → ps ≡ qs
  one_items table start no_items bytes ps qs h k = h.1 ∙ sym k.1
  one_items table start (item i is) bytes ps qs h k =
      let same = same_front table start start i h.0 h.1 k.0 k.1 h.2 k.2 h.4 k.4 (sym h.6 ∙ k.6) in
      let first = one_item table start i h.0 h.2 k.2 h.4 (subst (λ (a : List ℕ). SpellsItemAt table start i a k.2) same.front k.4) in
      let later = one_items table (start + length h.0) is h.1 h.3 k.3 h.5
      (subst (λ (a : List ℕ). SpellsItemsAt table (start + length a) is h.1 k.3) same.front (subst (λ (b : List ℕ). SpellsItemsAt table (start + length k.0) is b k.3) same.behind k.5)) in
      h.7 ∙ ap (λ (l : List CodePlace). l ++ h.3) first ∙ ap (λ (l : List CodePlace). k.2 ++ l) later ∙ sym k.7

-- ---- tables

pub one_table : (number : ℕ) (bytes : List ℕ) (t : List Placement) (cs ds : List CodePlace) → AreTablePlaces number bytes (methods t) cs → AreTablePlaces number bytes (methods t) ds → cs ≡ ds
one_table number bytes t cs ds h k =
    let same = one_item_tree (code_of bytes) k.items h.items (items_spelled number 36 k.items (code_of bytes) ds k.spelled) (items_spelled number 36 h.items (code_of bytes) cs h.spelled) in
    one_items number 36 h.items (code_of bytes) cs ds h.spelled (subst (λ (is : ItemTrees). SpellsItemsAt number 36 is (code_of bytes) ds) same k.spelled)

all_once : (number : ℕ) (bs : List (List ℕ)) (ts : List (List Placement)) (css dss : List (List CodePlace)) → AreAllPlaces number bs ts css → AreAllPlaces number bs ts dss → css ≡ dss
all_once number [] [] [] [] h k = refl
all_once number [] [] [] (ds ∷ dss) h k = absurd k
all_once number [] [] (cs ∷ css) dss h k = absurd h
all_once number [] (t ∷ ts) [] dss h k = absurd h
all_once number [] (t ∷ ts) (cs ∷ css) dss h k = absurd h
all_once number (b ∷ bs) [] [] dss h k = absurd h
all_once number (b ∷ bs) [] (cs ∷ css) dss h k = absurd h
all_once number (b ∷ bs) (t ∷ ts) [] dss h k = absurd h
all_once number (b ∷ bs) (t ∷ ts) (cs ∷ css) [] h k = absurd k
all_once number (b ∷ bs) (t ∷ ts) (cs ∷ css) (ds ∷ dss) h k =
    ap (λ (l : List CodePlace). l ∷ css) (one_table number b t cs ds h.0 k.0) ∙ ap (λ (l : List (List CodePlace)). ds ∷ l) (all_once (suc number) bs ts css dss h.1 k.1)

pub one_code_places : OneCodePlaces
one_code_places depth tables places places' h k =
    let same = same_listings depth 0 predefined tables k.placements h.placements k.listings h.listings in
    let are = subst (λ (ts : List (List Placement)). AreAllPlaces 0 tables ts k.codes) same k.are in
    h.by_paths ∙ ap (all_by_path h.placements) (all_once 0 tables h.placements h.codes k.codes h.are are) ∙ ap (λ (ts : List (List Placement)). all_by_path ts k.codes) (sym same) ∙ sym k.by_paths
