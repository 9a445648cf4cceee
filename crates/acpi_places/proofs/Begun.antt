-- The code of a table, before its items are gone through and afterwards.
use Rattle.std.proofs.Common.{◌≡◌, ◌≤◌, [], ℕ, List, length, sym, ap, subst, arith}
use Rattle.std.proofs.lemmas.List.{length-drop}
use Rattle.acpi_code.specs.steps.Remaining.{Remaining}
use Rattle.acpi_tree.specs.Tree.{ItemTrees}
use Rattle.acpi_terms.specs.Spelling.{SpellsItems, items_height}
use Rattle.acpi_declare.specs.Tables.{code_of, IsTableOf}
use Rattle.acpi_places.specs.declared.place.CodePlace.{CodePlace}
use Rattle.acpi_places.specs.Places.{SpellsItemsAt}
use Rattle.acpi_places.specs.steps.Walking.{place_of_left, IsSpelled, AddsPlaces}

module _ (depth number : ℕ) (bytes : List ℕ) (is : ItemTrees) (table : IsTableOf depth number bytes is) (level : ℕ) (left : Remaining)
    (limit : level ≡ depth) (begins : left.bytes ≡ code_of bytes) (ends : left.end ≡ length bytes) where
  pub table_spelled : IsSpelled level left is
  table_spelled = record {
    spelled = subst (λ (b : List ℕ). SpellsItems is b) (sym begins) table.spelled;
    height = subst (λ k. items_height is ≤ k) (sym limit) table.height;
    room = omega (arith, ap length begins, length-drop 36 bytes, ends);
  }

  -- the code stands behind the header
  begins_there : place_of_left left ≡ 36
  begins_there = omega (arith, ap length begins, length-drop 36 bytes, ends, table.numbered.table.has_header)

  pub table_found : (found : List CodePlace) → AddsPlaces number left is [] found → SpellsItemsAt number 36 is (code_of bytes) found
  table_found found a =
      subst (SpellsItemsAt number 36 is (code_of bytes)) (sym a.put)
      (subst (λ (b : List ℕ). SpellsItemsAt number 36 is b a.places) begins (subst (λ (k : ℕ). SpellsItemsAt number k is left.bytes a.places) begins_there a.are))
