-- Where the code of each method stands in its table (ACPI 6.5, 20.2.5.2 DefMethod).
use Rattle.std.specs.Prelude.{◌≡◌, ◌+◌, ◌-◌, ℕ, suc, List, [], ◌∷◌, ◌++◌, length, slice_range, ⊤}
use Rattle.std.specs.List.{AllZip}
use Rattle.acpi_space.specs.Lookups.{Lookup, nothing, singleton, union}
use Rattle.acpi_tree.specs.Tree.{ItemTree, scope, method, ItemTrees, no_items, item}
use Rattle.acpi_terms.specs.Forms.{kind_opcode, kind_arguments}
use Rattle.acpi_terms.specs.Spelling.{SpellsFilled, SpellsItem}
use Rattle.acpi_declare.specs.Predefined.{predefined}
use Rattle.acpi_declare.specs.Listing.{Placement}
use Rattle.acpi_declare.specs.Loads.{AreListings}
use Rattle.acpi_declare.specs.Notes.{Method, methods}
use Rattle.acpi_declare.specs.Tables.{code_of}
use Rattle.acpi_places.specs.declared.place.CodePlace.{CodePlace}

-- ---- one table

-- where the last of some bytes stand, all of which stand behind `start` others
abbrev pub place_of_last : ℕ → List ℕ → List ℕ → ℕ
place_of_last start bytes last = start + length bytes - length last

-- the place of these bytes, the last of those
abbrev pub place_in : ℕ → ℕ → List ℕ → List ℕ → CodePlace
place_in table start bytes code =
    record { table = table; place = place_of_last start bytes code; length = length code }

-- The bytes spell the item, behind `start` others of that table, and these are the places of the code of its methods,
-- in byte order. The code of a method is the last of its bytes, and so are the items of an item that holds some.
abbrev mutual
  pub SpellsItemAt : ℕ → ℕ → ItemTree → List ℕ → List CodePlace → Type 0
  SpellsItemAt table start (method n flags code) bytes places =
      SpellsItem (method n flags code) bytes × (places ≡ place_in table start bytes code ∷ [])
  SpellsItemAt table start (scope kind n is) bytes places =
      SpellsFilled (kind_opcode kind) (kind_arguments kind n)
      (λ b. SpellsItemsAt table (place_of_last start bytes b) is b places) bytes
  SpellsItemAt table start i bytes places = SpellsItem i bytes × (places ≡ [])

  pub SpellsItemsAt : ℕ → ℕ → ItemTrees → List ℕ → List CodePlace → Type 0
  SpellsItemsAt table start no_items bytes places = (bytes ≡ []) × (places ≡ [])
  SpellsItemsAt table start (item i is) bytes places =
      (a : List ℕ) × (b : List ℕ) × (first : List CodePlace) × (later : List CodePlace)
      × SpellsItemAt table start i a first × SpellsItemsAt table (start + length a) is b later
      × (bytes ≡ a ++ b) × (places ≡ first ++ later)

-- the method's code stands there in the table
abbrev pub IsCodeAt : List ℕ → Method → CodePlace → Type 0
IsCodeAt bytes m c = m.code ≡ slice_range bytes c.place (c.place + c.length)

-- The places of the code of a table's methods, in byte order. The code stands behind the header of 36 bytes.
pub record AreTablePlaces (number : ℕ) (bytes : List ℕ) (ms : List Method)
    (places : List CodePlace) : Type 0 where
  pub items : ItemTrees
  pub spelled : SpellsItemsAt number 36 items (code_of bytes) places
  pub code : AllZip (IsCodeAt bytes) ms places

-- ---- all tables

-- .. of each table, by its number
abbrev pub AreAllPlaces : ℕ → List (List ℕ) → List (List Placement) → List (List CodePlace) → Type 0
AreAllPlaces number [] [] [] = ⊤
AreAllPlaces number (b ∷ bs) (t ∷ ts) (cs ∷ css) =
    AreTablePlaces number b (methods t) cs × AreAllPlaces (suc number) bs ts css
AreAllPlaces number _ _ _ = ⊥

-- the places by the paths of the methods
abbrev pub by_path : List Method → List CodePlace → Lookup CodePlace
by_path [] cs = nothing
by_path (m ∷ ms) [] = nothing
by_path (m ∷ ms) (c ∷ cs) = union (singleton m.path c) (by_path ms cs)

abbrev pub all_by_path : List (List Placement) → List (List CodePlace) → Lookup CodePlace
all_by_path [] css = nothing
all_by_path (t ∷ ts) [] = nothing
all_by_path (t ∷ ts) (cs ∷ css) = union (by_path (methods t) cs) (all_by_path ts css)

-- where the code of each method stands that the tables declare, by its path
pub record AreCodePlaces (depth : ℕ) (tables : List (List ℕ))
    (places : Lookup CodePlace) : Type 0 where
  pub placements : List (List Placement)
  pub listings : AreListings depth 0 predefined tables placements
  pub codes : List (List CodePlace)
  pub are : AreAllPlaces 0 tables placements codes
  pub by_paths : places ≡ all_by_path placements codes
