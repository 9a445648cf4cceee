-- The places of a table's code, but for the number of the table.
use Rattle.std.proofs.Common.{◌≡◌, ℕ, ◌+◌, List, [], ◌∷◌, length, map, ap, ◌∙◌}
use Rattle.std.specs.List.{AllZip}
use Rattle.std.proofs.lemmas.List.{map-append}
use Rattle.acpi_tree.specs.Tree.{ItemTree, name, scope, method, external, external_block, create, create_field, mutex, event, region, field, index_field, bank_field, ItemTrees, no_items, item}
use Rattle.acpi_declare.specs.Listing.{Placement}
use Rattle.acpi_declare.specs.Notes.{Method, methods}
use Rattle.acpi_declare.specs.Tables.{code_of}
use Rattle.acpi_places.specs.declared.place.CodePlace.{CodePlace}
use Rattle.acpi_places.specs.Places.{place_of_last, SpellsItemAt, SpellsItemsAt, IsCodeAt, AreTablePlaces}
use Rattle.acpi_places.proofs.Once.{one_table}

-- the same place in the table of another number
abbrev pub in_table : ℕ → CodePlace → CodePlace
in_table number c = record { table = number; place = c.place; length = c.length }

mutual
  item_in : (table other start : ℕ) (i : ItemTree) (a : List ℕ) (ps : List CodePlace) → SpellsItemAt table start i a ps → SpellsItemAt other start i a (map (in_table other) ps)
  item_in table other start (method n flags code) a ps h = (h.0, ap (map (in_table other)) h.1)
  item_in table other start (scope kind n is) a ps f = (f.0, f.1, f.2, items_in table other (place_of_last start a f.1) is f.1 ps f.3, f.4)
  item_in table other start (name n d) a ps h = (h.0, ap (map (in_table other)) h.1)
  item_in table other start (external x) a ps h = (h.0, ap (map (in_table other)) h.1)
  item_in table other start (external_block xs) a ps h = (h.0, ap (map (in_table other)) h.1)
  item_in table other start (create w source index n) a ps h = (h.0, ap (map (in_table other)) h.1)
  item_in table other start (create_field source index bits n) a ps h = (h.0, ap (map (in_table other)) h.1)
  item_in table other start (mutex n flags) a ps h = (h.0, ap (map (in_table other)) h.1)
  item_in table other start (event n) a ps h = (h.0, ap (map (in_table other)) h.1)
  item_in table other start (region n space offset len) a ps h = (h.0, ap (map (in_table other)) h.1)
  item_in table other start (field r flags es) a ps h = (h.0, ap (map (in_table other)) h.1)
  item_in table other start (index_field i d flags es) a ps h = (h.0, ap (map (in_table other)) h.1)
  item_in table other start (bank_field r bank value flags es) a ps h = (h.0, ap (map (in_table other)) h.1)

  items_in : (table other start : ℕ) (is : ItemTrees) (bytes : List ℕ) (ps : List CodePlace) → SpellsItemsAt table start is bytes ps → SpellsItemsAt other start is bytes (map (in_table other) ps)
  items_in table other start no_items bytes ps h = (h.0, ap (map (in_table other)) h.1)
  items_in table other start (item i is) bytes ps h = (
    h.0,
    h.1,
    map (in_table other) h.2,
    map (in_table other) h.3,
    item_in table other start i h.0 h.2 h.4,
    items_in table other (start + length h.0) is h.1 h.3 h.5,
    h.6,
    ap (map (in_table other)) h.7 ∙ map-append (in_table other) h.2 h.3,
  )

code_in : (other : ℕ) (bytes : List ℕ) (ms : List Method) (cs : List CodePlace) → AllZip (IsCodeAt bytes) ms cs → AllZip (IsCodeAt bytes) ms (map (in_table other) cs)
code_in other bytes [] [] h = tt
code_in other bytes [] (c ∷ cs) h = absurd h
code_in other bytes (m ∷ ms) [] h = absurd h
code_in other bytes (m ∷ ms) (c ∷ cs) h = (h.0, code_in other bytes ms cs h.1)

-- the same table under two numbers has the same places, but for the number
pub same_but_numbers : (number other : ℕ) (bytes : List ℕ) (t : List Placement) (cs ds : List CodePlace) → AreTablePlaces number bytes (methods t) cs → AreTablePlaces other bytes (methods t) ds
    → ds ≡ map (in_table other) cs
same_but_numbers number other bytes t cs ds h k =
    one_table other bytes t ds (map (in_table other) cs) k
    (record { items = h.items; spelled = items_in number other 36 h.items (code_of bytes) cs h.spelled; code = code_in other bytes (methods t) cs h.code })
