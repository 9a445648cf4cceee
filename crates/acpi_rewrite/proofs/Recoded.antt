-- Items with other code in their methods: what they have in common, and what they are by their code.
use Rattle.std.proofs.Common.{◌≡◌, ℕ, suc, ◌+◌, max, Bool, ◌&&◌, length, refl, sym, ap, subst, ◌∙◌}
use Rattle.std.proofs.lemmas.List.{length-append}
use Rattle.acpi_tree.specs.Tree.{ItemTree, scope, ItemTrees, no_items, item}
use Rattle.acpi_tree.specs.Fits.{item_fits, items_fit}
use Rattle.acpi_terms.specs.Spelling.{item_height, items_height}
use Rattle.acpi_write.specs.Laws.{IsItemTyped, AreItemsTyped}
use Rattle.acpi_rewrite.specs.Rewriting.{item_codes, codes, item_without_code, without_code}

-- ---- what does not depend on code

mutual
  height_bare : (i : ItemTree) → item_height (item_without_code i) ≡ item_height i
  height_bare (scope kind n is) = ap (λ (k : ℕ). suc k) (heights_bare is)
  height_bare i = refl

  pub heights_bare : (is : ItemTrees) → items_height (without_code is) ≡ items_height is
  heights_bare no_items = refl
  heights_bare (item i is) = ap (λ (k : ℕ). max k (items_height (without_code is))) (height_bare i) ∙ ap (max (item_height i)) (heights_bare is)

mutual
  fits_bare : (i : ItemTree) → item_fits (item_without_code i) ≡ item_fits i
  fits_bare (scope kind n is) = all_fit_bare is
  fits_bare i = refl

  pub all_fit_bare : (is : ItemTrees) → items_fit (without_code is) ≡ items_fit is
  all_fit_bare no_items = refl
  all_fit_bare (item i is) = ap (λ (b : Bool). b && items_fit (without_code is)) (fits_bare i) ∙ ap (λ (b : Bool). item_fits i && b) (all_fit_bare is)

mutual
  typed_bare : (i : ItemTree) → IsItemTyped i → IsItemTyped (item_without_code i)
  typed_bare (scope kind n is) h = (h.0, all_typed_bare is h.1)
  typed_bare i h = h

  pub all_typed_bare : (is : ItemTrees) → AreItemsTyped is → AreItemsTyped (without_code is)
  all_typed_bare no_items h = tt
  all_typed_bare (item i is) h = (typed_bare i h.0, all_typed_bare is h.1)

mutual
  bare_typed : (i : ItemTree) → IsItemTyped (item_without_code i) → IsItemTyped i
  bare_typed (scope kind n is) h = (h.0, all_bare_typed is h.1)
  bare_typed i h = h

  pub all_bare_typed : (is : ItemTrees) → AreItemsTyped (without_code is) → AreItemsTyped is
  all_bare_typed no_items h = tt
  all_bare_typed (item i is) h = (bare_typed i h.0, all_bare_typed is h.1)

-- as many methods
mutual
  pub count_bare : (i : ItemTree) → length (item_codes (item_without_code i)) ≡ length (item_codes i)
  count_bare (scope kind n is) = counts_bare is
  count_bare i = refl

  counts_bare : (is : ItemTrees) → length (codes (without_code is)) ≡ length (codes is)
  counts_bare no_items = refl
  counts_bare (item i is) =
      length-append (item_codes (item_without_code i)) (codes (without_code is)) ∙ ap (λ (k : ℕ). k + length (codes (without_code is))) (count_bare i)
      ∙ ap (λ (k : ℕ). length (item_codes i) + k) (counts_bare is) ∙ sym (length-append (item_codes i) (codes is))

pub alike_item_count : (i j : ItemTree) → item_without_code j ≡ item_without_code i → length (item_codes j) ≡ length (item_codes i)
alike_item_count i j e = sym (count_bare j) ∙ ap (λ (k : ItemTree). length (item_codes k)) e ∙ count_bare i

-- items that are alike but for code
module _ (is js : ItemTrees) (alike : without_code js ≡ without_code is) where
  pub alike_height : items_height js ≡ items_height is
  alike_height = sym (heights_bare js) ∙ ap items_height alike ∙ heights_bare is

  pub alike_fit : items_fit js ≡ items_fit is
  alike_fit = sym (all_fit_bare js) ∙ ap items_fit alike ∙ all_fit_bare is

  pub alike_count : length (codes js) ≡ length (codes is)
  alike_count = sym (counts_bare js) ∙ ap (λ (ks : ItemTrees). length (codes ks)) alike ∙ counts_bare is

  pub alike_typed : AreItemsTyped is → AreItemsTyped js
  alike_typed h = all_bare_typed js (subst AreItemsTyped (sym alike) (all_typed_bare is h))
