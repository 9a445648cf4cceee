-- The items of some code, one after another, and the places of the code of their methods.
use Rattle.std.specs.Prelude.{◌≡◌, ◌≤◌, ◌-◌, ℕ, List, [], ◌∷◌, ◌++◌, length, Option, Some, None}
use Rattle.acpi_tree.specs.Tree.{ItemTree, method, ItemTrees}
use Rattle.acpi_code.specs.steps.Remaining.{Remaining}
use Rattle.acpi_terms.specs.Spelling.{SpellsItems, items_height}
use Rattle.acpi_places.specs.declared.place.CodePlace.{CodePlace}
use Rattle.acpi_places.specs.Places.{SpellsItemsAt}

-- where what is left stands
abbrev pub place_of_left : Remaining → ℕ
place_of_left left = left.end - length left.bytes

-- the bytes that are left spell the items, within that many levels
pub record IsSpelled (level : ℕ) (left : Remaining) (is : ItemTrees) : Type 0 where
  pub spelled : SpellsItems is left.bytes
  pub height : items_height is ≤ level
  pub room : length left.bytes ≤ left.end

-- .. and these are the places of the code of their methods
abbrev pub ArePlacesOf : ℕ → Remaining → ItemTrees → List CodePlace → Type 0
ArePlacesOf table left is places = SpellsItemsAt table (place_of_left left) is left.bytes places

-- they were put behind others
pub record AddsPlaces (table : ℕ) (left : Remaining) (is : ItemTrees)
    (old new : List CodePlace) : Type 0 where
  pub places : List CodePlace
  pub are : ArePlacesOf table left is places
  pub put : new ≡ old ++ places

-- ---- an item that holds none, by the place of its end

abbrev pub code_length : ItemTree → ℕ
code_length (method n flags code) = length code
code_length _ = 0

abbrev pub leaf_places : ℕ → ℕ → ItemTree → List CodePlace
leaf_places table end (method n flags code) =
    record { table = table; place = end - length code; length = length code } ∷ []
leaf_places table end _ = []

-- ---- one item after another

-- the places of some of the items were put behind others, and these items are left
pub record Continues (table level : ℕ) (first : Remaining) (is : ItemTrees) (now : Remaining)
    (old new : List CodePlace) : Type 0 where
  pub others : ItemTrees
  pub left : IsSpelled level now others
  pub found : List CodePlace
  pub put : new ≡ old ++ found
  pub with_others : (later : List CodePlace) → ArePlacesOf table now others later
      → ArePlacesOf table first is (found ++ later)

-- what stands inside the first of the items is left, and then the others
pub record Opens (table level : ℕ) (first : Remaining) (is : ItemTrees) (inner now : Remaining) : Type 0 where
  pub inside : ItemTrees
  pub others : ItemTrees
  pub within : IsSpelled (level - 1) inner inside
  pub left : IsSpelled level now others
  pub with_both : (found later : List CodePlace) → ArePlacesOf table inner inside found
      → ArePlacesOf table now others later → ArePlacesOf table first is (found ++ later)

-- the first item was gone through, but for the items in it
abbrev pub GoesOn : ℕ → ℕ → Remaining → ItemTrees → Remaining → List CodePlace → List CodePlace → Option Remaining
    → Type 0
GoesOn table level first is now old new None = Continues table level first is now old new
GoesOn table level first is now old new (Some inner) =
    Opens table level first is inner now × (new ≡ old)
