-- Two lists that a loop compares, element by element.
use Rattle.std.proofs.Common.{◌≡◌, ℕ, ◌≤◌, ◌<◌, ◌+◌, Bool, true, false, ◌&&◌, List, [], ◌∷◌, length, drop, get_or, refl, sym, ap, ◌∙◌, arith}
use Rattle.std.proofs.lemmas.List.{drop_more}
use Rattle.std.proofs.Math.ListN.{drop_of_length-le}
use Rattle.std.specs.Cmp.Lexicographic.{pointwise}
use Rattle.acpi_tree.specs.declared.tree.Elem.{Elem}
use Rattle.acpi_tree.specs.declared.tree.Item.{Item}
use Rattle.acpi_tree.specs.Tree.{elems_of, items_of}
use Rattle.acpi_tree.specs.View.{elem_view, elems_view, item_view, items_view}
use Rattle.std.specs.List.{list_all}
use Rattle.acpi_tree.specs.Fits.{elem_fits, elems_fit, item_fits, items_fit}
use Rattle.acpi_tree.specs.steps.Equality.{elem_eq, elems_eq}

pub unlike_lengths : {X : Type 0} (E : X → X → Bool) (xs ys : List X) → (length xs ≡ length ys → ⊥) → pointwise E xs ys ≡ false
unlike_lengths E [] [] other = absurd (other refl)
unlike_lengths E [] (y ∷ ys) other = refl
unlike_lengths E (x ∷ xs) [] other = refl
unlike_lengths E (x ∷ xs) (y ∷ ys) other =
    by_test (unlike_lengths E xs ys (λ same. other (omega (arith, same)))) (E x y)
  where
    by_test : pointwise E xs ys ≡ false → (t : Bool) → (t && pointwise E xs ys) ≡ false
    by_test more true = more
    by_test more false = refl

pub unlike_at : {X : Type 0} (E : X → X → Bool) (xs ys : List X) (i : ℕ) (x y : X) → i < length xs → length xs ≡ length ys → x ≡ get_or xs i x → y ≡ get_or ys i y
    → E x y ≡ false → pointwise E xs ys ≡ pointwise E (drop i xs) (drop i ys) → pointwise E xs ys ≡ false
unlike_at E xs ys i x y lt same at_x at_y differ left =
    let lt_y : i < length ys = omega (arith, lt, same) in
    left ∙ rw (drop_more xs i x lt, drop_more ys i y lt_y, sym at_x, sym at_y, differ) refl

pub alike_all : {X : Type 0} (E : X → X → Bool) (xs ys : List X) (i : ℕ) → length xs ≤ i → length xs ≡ length ys
    → pointwise E xs ys ≡ pointwise E (drop i xs) (drop i ys) → pointwise E xs ys ≡ true
alike_all E xs ys i le same left =
    let le_y : length ys ≤ i = omega (arith, le, same) in
    left ∙ rw (drop_of_length-le xs {i = i} le, drop_of_length-le ys {i = i} le_y) refl

pub elems_alike : (xs ys : List Elem) → elems_eq (elems_of (elems_view xs)) (elems_of (elems_view ys)) ≡ pointwise (λ x y. elem_eq (elem_view x) (elem_view y)) xs ys
elems_alike [] [] = refl
elems_alike [] (y ∷ ys) = refl
elems_alike (x ∷ xs) [] = refl
elems_alike (x ∷ xs) (y ∷ ys) = ap (λ t. elem_eq (elem_view x) (elem_view y) && t) (elems_alike xs ys)

-- ---- one list, each of whose elements is tested

pub unfit_at : {X : Type 0} (P : X → Bool) (xs : List X) (i : ℕ) (x : X) → i < length xs → x ≡ get_or xs i x → P x ≡ false
    → list_all P xs ≡ list_all P (drop i xs) → list_all P xs ≡ false
unfit_at P xs i x lt at_x unfit left = left ∙ rw (drop_more xs i x lt, sym at_x, unfit) refl

pub fit_on : {X : Type 0} (P : X → Bool) (xs : List X) (i : ℕ) (x : X) → i < length xs → x ≡ get_or xs i x → P x ≡ true
    → list_all P xs ≡ list_all P (drop i xs) → list_all P xs ≡ list_all P (drop (i + 1) xs)
fit_on P xs i x lt at_x fit left = left ∙ rw (drop_more xs i x lt, sym at_x, fit) refl

pub all_fit : {X : Type 0} (P : X → Bool) (xs : List X) (i : ℕ) → length xs ≤ i → list_all P xs ≡ list_all P (drop i xs) → list_all P xs ≡ true
all_fit P xs i le left = left ∙ rw (drop_of_length-le xs {i = i} le) refl

pub elems_fit_alike : (xs : List Elem) → elems_fit (elems_of (elems_view xs)) ≡ list_all (λ x. elem_fits (elem_view x)) xs
elems_fit_alike [] = refl
elems_fit_alike (x ∷ xs) = ap (λ t. elem_fits (elem_view x) && t) (elems_fit_alike xs)

pub items_fit_alike : (xs : List Item) → items_fit (items_of (items_view xs)) ≡ list_all (λ x. item_fits (item_view x)) xs
items_fit_alike [] = refl
items_fit_alike (x ∷ xs) = ap (λ t. item_fits (item_view x) && t) (items_fit_alike xs)

-- ---- two lists of different types, element by element

abbrev pub paired : {X Y : Type 0} → (X → Y → Bool) → List X → List Y → Bool
paired P [] [] = true
paired P (x ∷ xs) (y ∷ ys) = P x y && paired P xs ys
paired P _ _ = false

pub unpaired_lengths : {X Y : Type 0} (P : X → Y → Bool) (xs : List X) (ys : List Y) → (length xs ≡ length ys → ⊥) → paired P xs ys ≡ false
unpaired_lengths P [] [] other = absurd (other refl)
unpaired_lengths P [] (y ∷ ys) other = refl
unpaired_lengths P (x ∷ xs) [] other = refl
unpaired_lengths P (x ∷ xs) (y ∷ ys) other =
    by_test (unpaired_lengths P xs ys (λ same. other (omega (arith, same)))) (P x y)
  where
    by_test : paired P xs ys ≡ false → (t : Bool) → (t && paired P xs ys) ≡ false
    by_test more true = more
    by_test more false = refl

pub unpaired_at : {X Y : Type 0} (P : X → Y → Bool) (xs : List X) (ys : List Y) (i : ℕ) (d : X) (y : Y) → i < length xs → length xs ≡ length ys → y ≡ get_or ys i y
    → P (get_or xs i d) y ≡ false → paired P xs ys ≡ paired P (drop i xs) (drop i ys) → paired P xs ys ≡ false
unpaired_at P xs ys i d y lt same at_y differ left =
    let lt_y : i < length ys = omega (arith, lt, same) in
    left ∙ rw (drop_more xs i d lt, drop_more ys i y lt_y, sym at_y, differ) refl

pub paired_all : {X Y : Type 0} (P : X → Y → Bool) (xs : List X) (ys : List Y) (i : ℕ) → length xs ≤ i → length xs ≡ length ys
    → paired P xs ys ≡ paired P (drop i xs) (drop i ys) → paired P xs ys ≡ true
paired_all P xs ys i le same left =
    let le_y : length ys ≤ i = omega (arith, le, same) in
    left ∙ rw (drop_of_length-le xs {i = i} le, drop_of_length-le ys {i = i} le_y) refl
