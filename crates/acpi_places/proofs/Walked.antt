-- Items that are gone through one after another, and the places of the code of their methods.
use Rattle.std.proofs.Common.{◌≡◌, ℕ, suc, ◌+◌, ◌-◌, ◌≤◌, ◌<◌, false, Option, None, Some, List, [], ◌++◌, length, Result, Ok, Err, refl, sym, ap, subst, ◌∙◌, append_assoc, append-nil, arith}
use Rattle.std.proofs.lemmas.List.{length-append}
use Rattle.acpi_code.specs.declared.opcode.Opcode.TheVariants as opcodes
use Rattle.acpi_code.specs.steps.Remaining.{Remaining}
use Rattle.acpi_code.specs.steps.Reading.{◌>>=◌}
use Rattle.acpi_tree.specs.Fits.{holds_items}
use Rattle.acpi_tree.specs.Tree.{ItemTree, name, scope, method, external, external_block, create, create_field, mutex, event, region, field, index_field, bank_field, ItemTrees, no_items, item}
use Rattle.acpi_tree.specs.View.{item_view}
use Rattle.acpi_tree.specs.declared.tree.Item.{Item}
use Rattle.acpi_terms.specs.declared.fault.ItemReason.{ItemReason}
use Rattle.acpi_terms.specs.declared.fault.ItemFault.TheVariants.{At}
use Rattle.acpi_terms.specs.declared.scope_block.ScopeBlock.{ScopeBlock}
use Rattle.acpi_terms.specs.declared.item.NextItem.TheVariants as next
use Rattle.acpi_terms.specs.Spelling.{SpellsItem, SpellsItems, item_height, items_height}
use Rattle.acpi_terms.specs.steps.ScopeBlocks.{scope_with, GivesNext}
use Rattle.acpi_terms.specs.steps.Reading.{Fault, item_at, items_with}
use Rattle.acpi_terms.proofs.Items.{item_complete, item_long}
use Rattle.acpi_places.specs.declared.place.CodePlace.{CodePlace}
use Rattle.acpi_places.specs.Places.{place_of_last, SpellsItemAt, SpellsItemsAt}
use Rattle.acpi_places.specs.steps.Walking.{place_of_left, IsSpelled, ArePlacesOf, AddsPlaces, code_length, leaf_places, Continues, Opens, GoesOn}
use Rattle.acpi_places.proofs.Fronts.{same_item, Inside, inside, last_fits}

-- ---- the first of the items that are left

record First (level : ℕ) (left : Remaining) (is : ItemTrees) : Type 0 where
  i : ItemTree
  others : ItemTrees
  front : List ℕ
  behind : List ℕ
  split : is ≡ item i others
  spells : SpellsItem i front
  later : SpellsItems others behind
  whole : left.bytes ≡ front ++ behind
  high : item_height i ≤ level
  later_high : items_height others ≤ level
  read : item_at level left.end left.bytes ≡ Ok (i, behind)

first : (level : ℕ) (left : Remaining) (is : ItemTrees) → 0 < length left.bytes → IsSpelled level left is → First level left is
first level left no_items some h = let none : length left.bytes ≡ 0 = ap length h.spelled in absurd (omega arith)
first level left (item i is) some h =
    let s = h.spelled in
    record {
      i = i;
      others = is;
      front = s.0;
      behind = s.1;
      split = refl;
      spells = s.2;
      later = s.3;
      whole = s.4;
      high = omega (arith, h.height);
      later_high = omega (arith, h.height);
      read = ap (item_at level left.end) s.4 ∙ item_complete i level left.end s.0 s.1 s.2 (omega (arith, h.height));
    }

-- ---- an item that holds none

-- the code of a method is no longer than the item
pub code_within : (i : ItemTree) (a : List ℕ) → SpellsItem i a → code_length i ≤ length a
code_within (method n flags code) a h = subst (λ (c : List ℕ). length c ≤ length a) h.3 (last_fits opcodes.Method (n, (flags, tt)) (λ b. b ≡ code) a h)
code_within (name n d) a h = omega arith
code_within (scope kind n is) a h = omega arith
code_within (external x) a h = omega arith
code_within (external_block xs) a h = omega arith
code_within (create w source index n) a h = omega arith
code_within (create_field source index bits n) a h = omega arith
code_within (mutex n flags) a h = omega arith
code_within (event n) a h = omega arith
code_within (region n space offset len) a h = omega arith
code_within (field r flags es) a h = omega arith
code_within (index_field i d flags es) a h = omega arith
code_within (bank_field r bank value flags es) a h = omega arith

leaf_at : (table start : ℕ) (i : ItemTree) (a : List ℕ) → holds_items i ≡ false → SpellsItem i a → SpellsItemAt table start i a (leaf_places table (start + length a) i)
leaf_at table start (method n flags code) a none h = (h, refl)
leaf_at table start (name n d) a none h = (h, refl)
leaf_at table start (scope kind n is) a none h = absurd cc
leaf_at table start (external x) a none h = (h, refl)
leaf_at table start (external_block xs) a none h = (h, refl)
leaf_at table start (create w source index n) a none h = (h, refl)
leaf_at table start (create_field source index bits n) a none h = (h, refl)
leaf_at table start (mutex n flags) a none h = (h, refl)
leaf_at table start (event n) a none h = (h, refl)
leaf_at table start (region n space offset len) a none h = (h, refl)
leaf_at table start (field r flags es) a none h = (h, refl)
leaf_at table start (index_field i d flags es) a none h = (h, refl)
leaf_at table start (bank_field r bank value flags es) a none h = (h, refl)

-- ---- what the reader of the next item gives

module _ (table level : ℕ) (old new : Remaining) (is : ItemTrees) (some : 0 < length old.bytes) (h : IsSpelled level old is) where
  abbrev f : First level old is
  f = first level old is some h

  sizes : length old.bytes ≡ length f.front + length f.behind
  sizes = ap length f.whole ∙ length-append f.front f.behind

  -- the place behind the first item
  behind_first : new.bytes ≡ f.behind → new.end ≡ old.end → place_of_left old + length f.front ≡ place_of_left new
  behind_first bytes ends = omega (arith, sizes, ap length bytes, ends, h.room)

  left_behind : new.bytes ≡ f.behind → new.end ≡ old.end → IsSpelled level new f.others
  left_behind bytes ends = record {
    spelled = subst (λ (b : List ℕ). SpellsItems f.others b) (sym bytes) f.later;
    height = f.later_high;
    room = omega (arith, sizes, ap length bytes, ends, h.room);
  }

  -- places of the first item, and of the others
  both_places : new.bytes ≡ f.behind → new.end ≡ old.end → (here later : List CodePlace) → SpellsItemAt table (place_of_left old) f.i f.front here → ArePlacesOf table new f.others later
      → ArePlacesOf table old is (here ++ later)
  both_places bytes ends here later p q =
      subst (λ (js : ItemTrees). ArePlacesOf table old js (here ++ later)) (sym f.split) (
        f.front,
        new.bytes,
        here,
        later,
        p,
        subst (λ (k : ℕ). SpellsItemsAt table k f.others new.bytes later) (sym (behind_first bytes ends)) q,
        f.whole ∙ ap (λ (b : List ℕ). f.front ++ b) (sym bytes),
        refl,
      )

  -- an item that holds none
  module _ (x : Item) (g : GivesNext level old new (Ok (next.Leaf x))) where
    read_leaf : (f.i ≡ item_view x) × (f.behind ≡ new.bytes)
    read_leaf = same_item f.i (item_view x) f.behind new.bytes (sym f.read ∙ g.0)

    leaf : SpellsItem (item_view x) f.front
    leaf = subst (λ (i : ItemTree). SpellsItem i f.front) read_leaf.0 f.spells

    abbrev here : List CodePlace
    here = leaf_places table (place_of_left new) (item_view x)

    leaf_here : SpellsItemAt table (place_of_left old) f.i f.front here
    leaf_here =
        subst (λ (i : ItemTree). SpellsItemAt table (place_of_left old) i f.front here) (sym read_leaf.0)
        (subst (λ (k : ℕ). SpellsItemAt table (place_of_left old) (item_view x) f.front (leaf_places table k (item_view x))) (behind_first (sym read_leaf.1) g.3.same_end)
        (leaf_at table (place_of_left old) (item_view x) f.front g.1 leaf))

    pub code_fits : code_length (item_view x) ≤ place_of_left new
    code_fits =
        let within : code_length (item_view x) ≤ length f.front = code_within (item_view x) f.front leaf in
        omega (arith, within, behind_first (sym read_leaf.1) g.3.same_end)

    pub next_leaf : (places places' : List CodePlace) → places' ≡ places ++ here → Continues table level old is new places places'
    next_leaf places places' put = record {
      others = f.others;
      left = left_behind (sym read_leaf.1) g.3.same_end;
      found = here;
      put = put;
      with_others = λ later p. both_places (sym read_leaf.1) g.3.same_end here later leaf_here p;
    }

  -- one that holds items
  pub next_opens : (x : ScopeBlock) → GivesNext level old new (Ok (next.ScopeBlock x)) → Opens table level old is x.inner new
  next_opens x g = by (items_with (item_at (level - 1)) x.inner.end x.inner.bytes) g.0.0
    where
      by : (r : Result ItemTrees Fault) → item_at level old.end old.bytes ≡ (r >>= λ js. Ok (scope_with x.front js, new.bytes)) → Opens table level old is x.inner new
      by (Err e) whole = let read = f.read in absurd cc
      by (Ok js) whole =
          let same = same_item f.i (scope_with x.front js) f.behind new.bytes (sym f.read ∙ whole) in
          let bytes : new.bytes ≡ f.behind = sym same.1 in
          let ends : new.end ≡ old.end = g.2.same_end in
          let s : SpellsItem (scope_with x.front js) f.front = subst (λ (i : ItemTree). SpellsItem i f.front) same.0 f.spells in
          let o : Inside (scope_with x.front js) js f.front f.behind old x = inside js f.front f.behind old x new f.whole g.0.1 x.front.kind x.front.name s in
          let high : suc (items_height js) ≤ level = subst (λ (i : ItemTree). item_height i ≤ level) same.0 f.high in
          let place : place_of_left x.inner ≡ place_of_last (place_of_left old) f.front x.inner.bytes = omega (arith, sizes, h.room, o.ends, o.fits) in
          record {
            inside = js;
            others = f.others;
            within = record {
              spelled = o.spelled;
              height = omega (arith, high);
              room = omega (arith, sizes, h.room, o.ends, o.fits);
            };
            left = left_behind bytes ends;
            with_both = λ found later p q. both_places bytes ends found later
                (subst (λ (i : ItemTree). SpellsItemAt table (place_of_left old) i f.front found) (sym same.0)
                (o.with_places table (place_of_left old) found (subst (λ (k : ℕ). SpellsItemsAt table k js x.inner.bytes found) place p))) q;
          }

  -- no fault
  pub next_fault : (reason : ItemReason) (place : ℕ) → GivesNext level old new (Err (At reason place)) → ⊥
  next_fault reason place g = let read = f.read in cc

-- ---- one item after another

module _ (table level : ℕ) (first : Remaining) (is : ItemTrees) (now : Remaining) (a b : List CodePlace) (k : Continues table level first is now a b) where
  pub then_leaf : (after : Remaining) (c : List CodePlace) → Continues table level now k.others after b c → Continues table level first is after a c
  then_leaf after c n = record {
    others = n.others;
    left = n.left;
    found = k.found ++ n.found;
    put = n.put ∙ ap (λ (l : List CodePlace). l ++ n.found) k.put ∙ append_assoc a k.found n.found;
    with_others = λ later p. subst (ArePlacesOf table first is) (sym (append_assoc k.found n.found later)) (k.with_others (n.found ++ later) (n.with_others later p));
  }

  pub then_holder : (inner after : Remaining) (c : List CodePlace) (o : Opens table level now k.others inner after) → AddsPlaces table inner o.inside b c → Continues table level first is after a c
  then_holder inner after c o n = record {
    others = o.others;
    left = o.left;
    found = k.found ++ n.places;
    put = n.put ∙ ap (λ (l : List CodePlace). l ++ n.places) k.put ∙ append_assoc a k.found n.places;
    with_others = λ later p. subst (ArePlacesOf table first is) (sym (append_assoc k.found n.places later)) (k.with_others (n.places ++ later) (o.with_both n.places later n.are p));
  }

  none_left : (js : ItemTrees) → length now.bytes ≡ 0 → SpellsItems js now.bytes → ArePlacesOf table now js []
  none_left no_items none s = (s, refl)
  none_left (item i js) none s =
      let long = item_long i s.0 s.2 in
      absurd (omega (arith, long, none, ap length s.4, length-append s.0 s.1))

  pub all_done : length now.bytes ≡ 0 → AddsPlaces table first is a b
  all_done none = record {
    places = k.found;
    are = subst (ArePlacesOf table first is) (append-nil k.found) (k.with_others [] (none_left k.others none k.left.spelled));
    put = k.put;
  }

-- ---- as the loop does

module _ (table level : ℕ) (first : Remaining) (is : ItemTrees) (now after : Remaining) (a b c : List CodePlace) (k : Continues table level first is now a b) (found : Option Remaining)
    (goes : GoesOn table level now k.others after b c found) where
  pub gone_on : found ≡ None → Continues table level first is after a c
  gone_on none = then_leaf table level first is now a b k after c (subst (GoesOn table level now k.others after b c) none goes)

  pub opened : (inner : Remaining) → found ≡ Some inner → Opens table level now k.others inner after × (c ≡ b)
  opened inner some = subst (GoesOn table level now k.others after b c) some goes

  pub gone_in : (inner : Remaining) (some : found ≡ Some inner) (d : List CodePlace) → AddsPlaces table inner (opened inner some).0.inside c d → Continues table level first is after a d
  gone_in inner some d n =
      let o = opened inner some in
      then_holder table level first is now a b k inner after d o.0 (subst (λ (l : List CodePlace). AddsPlaces table inner o.0.inside l d) o.1 n)
