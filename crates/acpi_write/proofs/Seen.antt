-- Values of lists that a loop goes over from the end, each of which is of its types.
use Rattle.std.proofs.Common.{◌≡◌, ℕ, ◌≤◌, ◌<◌, ◌+◌, suc, List, [], ◌∷◌, length, drop, get_or, map, sym, subst, arith}
use Rattle.std.proofs.lemmas.List.{drop_more}
use Rattle.std.proofs.Math.ListN.{drop_of_length-le}
use Rattle.std.specs.List.{AllByRecursion}
use Rattle.acpi_tree.specs.declared.tree.Elem.{Elem}
use Rattle.acpi_tree.specs.declared.tree.Item.{Item}
use Rattle.acpi_tree.specs.declared.term.Operand.{Operand}
use Rattle.acpi_tree.specs.declared.term.Term.{Term}
use Rattle.acpi_tree.specs.Tree.{elems_of}
use Rattle.acpi_tree.specs.Terms.{terms_of}
use Rattle.acpi_tree.specs.DataTerms.{elem_term, elem_terms}
use Rattle.acpi_tree.specs.View.{elem_view, elems_view, item_view, items_tree}
use Rattle.acpi_tree.specs.TermView.{term_view, terms_tree, operand_view, operands_view}
use Rattle.acpi_write.specs.Laws.{IsItemTyped, AreItemsTyped, IsTermTyped, AreTermsTyped}

module _ {A : Type 0} (P : A → Type 0) where
  -- it holds of the elements from the i-th on
  abbrev pub Behind : List A → ℕ → Type 0
  Behind xs i = AllByRecursion P (drop i xs)

  pub behind_none : (xs : List A) (i : ℕ) → length xs ≤ i → Behind xs i
  behind_none xs i le = subst (AllByRecursion P) (sym (drop_of_length-le xs {i = i} le)) tt

  pub behind_one : (xs : List A) (i j : ℕ) (x : A) → i ≡ suc j → j < length xs → x ≡ get_or xs j x → P x → Behind xs i → Behind xs j
  behind_one xs i j x is lt at holds behind =
      let rest : AllByRecursion P (drop (j + 1) xs) = subst (Behind xs) (omega (arith, is)) behind in
      subst (AllByRecursion P) (sym (drop_more xs j x lt)) (subst P at holds, rest)

  pub behind_all : (xs : List A) (i : ℕ) → i ≡ 0 → Behind xs i → AllByRecursion P xs
  behind_all xs i is behind = subst (Behind xs) is behind

-- ---- lists

pub seen_map : {A B : Type 0} (P : B → Type 0) (f : A → B) (xs : List A) → AllByRecursion (λ x. P (f x)) xs → AllByRecursion P (map f xs)
seen_map P f [] h = tt
seen_map P f (x ∷ xs) h = (h.0, seen_map P f xs h.1)

pub seen_elems : (xs : List Elem) → AllByRecursion (λ x. IsTermTyped (elem_term (elem_view x))) xs → AreTermsTyped (elem_terms (elems_of (elems_view xs)))
seen_elems [] h = tt
seen_elems (x ∷ xs) h = (h.0, seen_elems xs h.1)

pub seen_items : (xs : List Item) → AllByRecursion (λ x. IsItemTyped (item_view x)) xs → AreItemsTyped (items_tree xs)
seen_items [] h = tt
seen_items (x ∷ xs) h = (h.0, seen_items xs h.1)

pub seen_terms : (xs : List Term) → AllByRecursion (λ x. IsTermTyped (term_view x)) xs → AreTermsTyped (terms_tree xs)
seen_terms [] h = tt
seen_terms (x ∷ xs) h = (h.0, seen_terms xs h.1)

pub seen_operands : (xs : List Operand) → AllByRecursion (λ x. IsTermTyped (operand_view x)) xs → AreTermsTyped (terms_of (operands_view xs))
seen_operands [] h = tt
seen_operands (x ∷ xs) h = (h.0, seen_operands xs h.1)
