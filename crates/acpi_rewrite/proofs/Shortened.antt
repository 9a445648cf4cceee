-- Items by their code: the items without code and the code of their methods make the items, and shorter code makes
-- shortened items.
use Rattle.std.proofs.Common.{◌≡◌, ℕ, zero, suc, ◌≤◌, List, [], ◌∷◌, ◌++◌, length, drop, refl, sym, ap, subst, ◌∙◌, append_assoc, append-nil, arith}
use Rattle.std.specs.List.{AllZip}
use Rattle.std.proofs.lemmas.List.{drop_at}
use Rattle.acpi_tree.specs.Tree.{ItemTree, scope, method, ItemTrees, no_items, item}
use Rattle.acpi_write.specs.Shortest.{IsShortened, AreShortened}
use Rattle.acpi_rewrite.specs.Rewriting.{item_codes, codes, item_without_code, without_code}
use Rattle.acpi_rewrite.proofs.Recoded.{count_bare}

-- ---- items with the next codes in their methods

abbrev first_or : List ℕ → List (List ℕ) → List ℕ
first_or code [] = code
first_or code (c ∷ cs) = c

abbrev mutual
  item_with : List (List ℕ) → ItemTree → ItemTree
  item_with cs (method n flags code) = method n flags (first_or code cs)
  item_with cs (scope kind n is) = scope kind n (items_with cs is)
  item_with cs i = i

  items_with : List (List ℕ) → ItemTrees → ItemTrees
  items_with cs no_items = no_items
  items_with cs (item i is) = item (item_with cs i) (items_with (drop (length (item_codes i)) cs) is)

mutual
  item_remade : (i : ItemTree) (rest : List (List ℕ)) → item_with (item_codes i ++ rest) (item_without_code i) ≡ i
  item_remade (method n flags code) rest = refl
  item_remade (scope kind n is) rest = ap (scope kind n) (remade is rest)
  item_remade i rest = refl

  remade : (is : ItemTrees) (rest : List (List ℕ)) → items_with (codes is ++ rest) (without_code is) ≡ is
  remade no_items rest = refl
  remade (item i is) rest =
      let all : (item_codes i ++ codes is) ++ rest ≡ item_codes i ++ (codes is ++ rest) = append_assoc (item_codes i) (codes is) rest in
      ap (λ (cs : List (List ℕ)). item (item_with cs (item_without_code i)) (items_with (drop (length (item_codes (item_without_code i))) cs) (without_code is))) all
      ∙ ap (λ (j : ItemTree). item j (items_with (drop (length (item_codes (item_without_code i))) (item_codes i ++ (codes is ++ rest))) (without_code is))) (item_remade i (codes is ++ rest))
      ∙ ap (λ (cs : List (List ℕ)). item i (items_with cs (without_code is))) (drop_at (item_codes i) (codes is ++ rest) (length (item_codes (item_without_code i))) (sym (count_bare i)))
      ∙ ap (item i) (remade is rest)

remade_alone : (is : ItemTrees) → items_with (codes is) (without_code is) ≡ is
remade_alone is = ap (λ (cs : List (List ℕ)). items_with cs (without_code is)) (sym (append-nil (codes is))) ∙ remade is []

-- items that are alike but for code, with the same code
pub same_items : (is js : ItemTrees) → without_code js ≡ without_code is → codes js ≡ codes is → js ≡ is
same_items is js alike same = sym (remade_alone js) ∙ ap (λ (cs : List (List ℕ)). items_with cs (without_code js)) same ∙ ap (items_with (codes is)) alike ∙ remade_alone is

-- ---- shorter code

abbrev pub AreNoLonger : List (List ℕ) → List (List ℕ) → Type 0
AreNoLonger olds news = AllZip (λ old new. length new ≤ length old) olds news

dropped : (n : ℕ) (cs ds : List (List ℕ)) → AreNoLonger cs ds → AreNoLonger (drop n cs) (drop n ds)
dropped zero cs ds h = h
dropped (suc n) [] [] h = tt
dropped (suc n) [] (d ∷ ds) h = absurd h
dropped (suc n) (c ∷ cs) [] h = absurd h
dropped (suc n) (c ∷ cs) (d ∷ ds) h = dropped n cs ds h.1

first_shorter : (code : List ℕ) (cs ds : List (List ℕ)) → AreNoLonger cs ds → length (first_or code ds) ≤ length (first_or code cs)
first_shorter code [] [] h = omega arith
first_shorter code [] (d ∷ ds) h = absurd h
first_shorter code (c ∷ cs) [] h = absurd h
first_shorter code (c ∷ cs) (d ∷ ds) h = h.0

mutual
  item_shortened : (i : ItemTree) (cs ds : List (List ℕ)) → AreNoLonger cs ds → IsShortened (item_with cs i) (item_with ds i)
  item_shortened (method n flags code) cs ds h = (first_or code ds, first_shorter code cs ds h, refl)
  item_shortened (scope kind n is) cs ds h = (items_with ds is, shortened is cs ds h, refl)
  item_shortened i cs ds h = refl

  shortened : (is : ItemTrees) (cs ds : List (List ℕ)) → AreNoLonger cs ds → AreShortened (items_with cs is) (items_with ds is)
  shortened no_items cs ds h = refl
  shortened (item i is) cs ds h =
      let n = length (item_codes i) in
      (item_with ds i, items_with (drop n ds) is, item_shortened i cs ds h, shortened is (drop n cs) (drop n ds) (dropped n cs ds h), refl)

pub alike_shortened : (is js : ItemTrees) → without_code js ≡ without_code is → AreNoLonger (codes is) (codes js) → AreShortened is js
alike_shortened is js alike h =
    let now : items_with (codes js) (without_code is) ≡ js = ap (items_with (codes js)) (sym alike) ∙ remade_alone js in
    subst (AreShortened is) now (subst (λ (ks : ItemTrees). AreShortened ks (items_with (codes js) (without_code is))) (remade_alone is) (shortened (without_code is) (codes is) (codes js) h))
