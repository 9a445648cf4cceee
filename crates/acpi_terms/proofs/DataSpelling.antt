-- Data is spelled as its term is, and has as many levels.
use Rattle.std.proofs.Common.{◌≡◌, ℕ, suc, List, [], ◌∷◌, ◌++◌, refl, sym, ap, subst, append-nil, ◌∙◌, arith}
use Rattle.acpi_code.specs.Spelling.{Packs}
use Rattle.acpi_tree.specs.declared.place.Place.TheVariants.{Element}
use Rattle.acpi_tree.specs.Tree.{DataTree, int, str, buffer, pkg, var_pkg, ElemTree, of_data, of_name, ElemTrees, no_elems, elem}
use Rattle.acpi_tree.specs.DataTerms.{data_term, elem_term, elem_terms}
use Rattle.acpi_values.specs.Grammars.{Grammar}
use Rattle.acpi_values.specs.Spelling.{Stands, Spells, AreElements, height, heights}
use Rattle.acpi_terms.specs.steps.Data.{SpellsData, SpellsElem, SpellsElems, data_height, elem_height, elems_height}

-- ---- bytes

elem_stands : (e : ElemTree) → Stands Element (elem_term e)
elem_stands (of_name n) = refl
elem_stands (of_data (int i)) = refl
elem_stands (of_data (str text)) = refl
elem_stands (of_data (buffer size content)) = refl
elem_stands (of_data (pkg count es)) = refl
elem_stands (of_data (var_pkg count es)) = refl

-- one argument and no more
only : (a x y : List ℕ) → y ≡ [] → a ≡ x ++ y → a ≡ x
only a x y none split = rw (split, none) (append-nil x)

mutual
  pub data_spelled : (g : Grammar) (d : DataTree) (b : List ℕ) → SpellsData d b → Spells g (data_term d) b
  data_spelled g (int i) b h = h
  data_spelled g (str text) b h = h
  data_spelled g (buffer size content) b (a, c, (x, y, hi, none, split), same, packs) =
      (x, refl, hi, subst (λ l. Packs (0x11 ∷ []) (x ++ l) b) same (subst (λ l. Packs (0x11 ∷ []) (l ++ c) b) (only a x y none split) packs))
  data_spelled g (pkg count es) b (a, c, (x, y, hc, none, split), he, packs) =
      (c, elems_spelled g es c he, subst (λ l. Packs (0x12 ∷ []) (l ++ c) b) (only a x y none split ∙ hc) packs)
  data_spelled g (var_pkg count es) b (a, c, (x, y, hi, none, split), he, packs) =
      (x, c, refl, hi, elems_spelled g es c he, subst (λ l. Packs (0x13 ∷ []) (l ++ c) b) (only a x y none split) packs)

  pub elem_spelled : (g : Grammar) (e : ElemTree) (b : List ℕ) → SpellsElem e b → Spells g (elem_term e) b
  elem_spelled g (of_data d) b h = data_spelled g d b h
  elem_spelled g (of_name n) b h = h

  elems_spelled : (g : Grammar) (es : ElemTrees) (b : List ℕ) → SpellsElems es b → AreElements g (elem_terms es) b
  elems_spelled g no_elems b h = h
  elems_spelled g (elem e es) b (x, y, he, hes, whole) = (x, y, elem_stands e, elem_spelled g e x he, elems_spelled g es y hes, whole)

mutual
  pub spelled_data : (g : Grammar) (d : DataTree) (b : List ℕ) → Spells g (data_term d) b → SpellsData d b
  spelled_data g (int i) b h = h
  spelled_data g (str text) b h = h
  spelled_data g (buffer size content) b (s, stands, hs, packs) = (s, content, (s, [], hs, refl, sym (append-nil s)), refl, packs)
  spelled_data g (pkg count es) b (c, he, packs) = (count ∷ [], c, (count ∷ [], [], refl, refl, refl), spelled_elems g es c he, packs)
  spelled_data g (var_pkg count es) b (s, c, stands, hs, he, packs) = (s, c, (s, [], hs, refl, sym (append-nil s)), spelled_elems g es c he, packs)

  pub spelled_elem : (g : Grammar) (e : ElemTree) (b : List ℕ) → Spells g (elem_term e) b → SpellsElem e b
  spelled_elem g (of_data d) b h = spelled_data g d b h
  spelled_elem g (of_name n) b h = h

  spelled_elems : (g : Grammar) (es : ElemTrees) (b : List ℕ) → AreElements g (elem_terms es) b → SpellsElems es b
  spelled_elems g no_elems b h = h
  spelled_elems g (elem e es) b (x, y, stands, he, hes, whole) = (x, y, spelled_elem g e x he, spelled_elems g es y hes, whole)

-- ---- levels

mutual
  pub data_levels : (d : DataTree) → height (data_term d) ≡ data_height d
  data_levels (int i) = refl
  data_levels (str text) = refl
  data_levels (buffer size content) = omega arith
  data_levels (pkg count es) = ap suc (elems_levels es)
  data_levels (var_pkg count es) = omega (arith, elems_levels es)

  pub elem_levels : (e : ElemTree) → height (elem_term e) ≡ elem_height e
  elem_levels (of_data d) = data_levels d
  elem_levels (of_name n) = refl

  elems_levels : (es : ElemTrees) → heights (elem_terms es) ≡ elems_height es
  elems_levels no_elems = refl
  elems_levels (elem e es) = rw (elem_levels e, elems_levels es) refl
