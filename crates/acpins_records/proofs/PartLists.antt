-- Parts of elements, one behind the other.
use Rattle.std.proofs.Common.{◌≡◌, ℕ, ◌+◌, ◌<◌, ◌≤◌, List, [], ◌∷◌, ◌++◌, length, drop, get_or, set, arith, refl, sym, ap, ◌∙◌, append_assoc, length-append}
use Rattle.std.proofs.lemmas.List.{append-nil, at_drop_more, at_drop_all, get_or_at, set_at, length_push}
use Rattle.acpi_tree.specs.declared.tree.Elem.{Elem}
use Rattle.acpi_tree.specs.declared.tree.Int.{Int}
use Rattle.acpi_tree.specs.Tree.{DataTree, int, str, buffer, pkg, var_pkg, ElemTree, of_data, of_name, ElemTrees, no_elems, elem, elems_of}
use Rattle.acpi_tree.specs.View.{elem_view, elems_view}
use Rattle.acpins_records.specs.declared.parts.PartRecord.{PartRecord}
use Rattle.acpins_records.specs.declared.parts.Parts.{Parts}
use Rattle.acpins_records.specs.Parts.{part, parts_in, elem_parts_in, elems_parts_in, data_parts, elem_parts, elem_bytes, elems_parts, elems_bytes}
use Rattle.acpins_records.specs.steps.AddingParts.{AddsElem, AddsPackage}

-- ---- how many parts there are

mutual
  pub length-data_parts : (place byte : ℕ) (d : DataTree) → length (data_parts place byte d) ≡ parts_in d
  length-data_parts place byte (int i) = refl
  length-data_parts place byte (str bytes) = refl
  length-data_parts place byte (buffer size bytes) = refl
  length-data_parts place byte (pkg count es) = let more = length-elems_parts (place + 1) byte es in omega (arith, more)
  length-data_parts place byte (var_pkg count es) = let more = length-elems_parts (place + 1) byte es in omega (arith, more)

  pub length-elem_parts : (place byte : ℕ) (e : ElemTree) → length (elem_parts place byte e) ≡ elem_parts_in e
  length-elem_parts place byte (of_data d) = length-data_parts place byte d
  length-elem_parts place byte (of_name name) = refl

  pub length-elems_parts : (place byte : ℕ) (es : ElemTrees) → length (elems_parts place byte es) ≡ elems_parts_in es
  length-elems_parts place byte no_elems = refl
  length-elems_parts place byte (elem e es) =
      let first = length-elem_parts place byte e in
      let rest = elems_parts (place + elem_parts_in e) (byte + length (elem_bytes e)) es in
      let more = length-elems_parts (place + elem_parts_in e) (byte + length (elem_bytes e)) es in
      omega (arith, length-append (elem_parts place byte e) rest, first, more)

-- ---- what parts and bytes become, once some elements are put behind them

abbrev pub parts_with : Parts → ElemTrees → List PartRecord
parts_with p es = p.parts.items ++ elems_parts (length p.parts.items) (length p.bytes.items) es

abbrev pub bytes_with : Parts → ElemTrees → List ℕ
bytes_with p es = p.bytes.items ++ elems_bytes es

-- one element put, and others behind it
parts_with-elem : (e : ElemTree) (es : ElemTrees) (now next : Parts) → AddsElem e now next → parts_with next es ≡ parts_with now (elem e es)
parts_with-elem e es now next adds =
    let place = length now.parts.items in
    let byte = length now.bytes.items in
    let parts = now.parts.items ++ elem_parts place byte e in
    let places : length next.parts.items ≡ place + elem_parts_in e =
    ap length adds.parts_are ∙ length-append now.parts.items (elem_parts place byte e) ∙ ap (λ n. place + n) (length-elem_parts place byte e) in
    let bytes : length next.bytes.items ≡ byte + length (elem_bytes e) = ap length adds.bytes_are ∙ length-append now.bytes.items (elem_bytes e) in
    ap (λ l. l ++ elems_parts (length next.parts.items) (length next.bytes.items) es) adds.parts_are
    ∙ ap (λ n. parts ++ elems_parts n (length next.bytes.items) es) places
    ∙ ap (λ n. parts ++ elems_parts (place + elem_parts_in e) n es) bytes
    ∙ append_assoc now.parts.items (elem_parts place byte e) (elems_parts (place + elem_parts_in e) (byte + length (elem_bytes e)) es)

bytes_with-elem : (e : ElemTree) (es : ElemTrees) (now next : Parts) → AddsElem e now next → bytes_with next es ≡ bytes_with now (elem e es)
bytes_with-elem e es now next adds = ap (λ l. l ++ elems_bytes es) adds.bytes_are ∙ append_assoc now.bytes.items (elem_bytes e) (elems_bytes es)

-- the elements of a list from the i-th on
abbrev pub elems_from : ℕ → List Elem → ElemTrees
elems_from i elems = elems_of (elems_view (drop i elems))

-- the first elements are added: the others, put behind them, make what all make
pub record AddsFirst (elems : List Elem) (i : ℕ) (old now : Parts) : Type 0 where
  pub parts_are : parts_with now (elems_from i elems) ≡ parts_with old (elems_of (elems_view elems))
  pub bytes_are : bytes_with now (elems_from i elems) ≡ bytes_with old (elems_of (elems_view elems))

pub first_more : (elems : List Elem) (i : ℕ) (e : Elem) (old now next : Parts) → i < length elems → e ≡ get_or elems i e → AddsFirst elems i old now → AddsElem (elem_view e) now next
    → AddsFirst elems (i + 1) old next
first_more elems i e old now next within is so adds =
    let next_is : elems_from i elems ≡ elem (elem_view e) (elems_from (i + 1) elems) =
    at_drop_more (λ es. elems_of (elems_view es)) elems i e within ∙ ap (λ x. elem (elem_view x) (elems_from (i + 1) elems)) (sym is) in
    record {
      parts_are = parts_with-elem (elem_view e) (elems_from (i + 1) elems) now next adds ∙ ap (parts_with now) (sym next_is) ∙ so.parts_are;
      bytes_are = bytes_with-elem (elem_view e) (elems_from (i + 1) elems) now next adds ∙ ap (bytes_with now) (sym next_is) ∙ so.bytes_are;
    }

pub first_all : (elems : List Elem) (i : ℕ) (old now : Parts) → length elems ≤ i → AddsFirst elems i old now
    → (now.parts.items ≡ parts_with old (elems_of (elems_view elems))) × (now.bytes.items ≡ bytes_with old (elems_of (elems_view elems)))
first_all elems i old now past so =
    let none : elems_from i elems ≡ no_elems = at_drop_all (λ es. elems_of (elems_view es)) elems i past in
    (sym (append-nil now.parts.items) ∙ ap (parts_with now) (sym none) ∙ so.parts_are, sym (append-nil now.bytes.items) ∙ ap (bytes_with now) (sym none) ∙ so.bytes_are)

-- ---- a package before its elements

-- what stands at a place is written again, with the place behind all
set-behind : (old rest done : List PartRecord) (head r : PartRecord) (place last : ℕ) → done ≡ old ++ head ∷ rest → place ≡ length old → last ≡ length done → r ≡ get_or done place r
    → set done place (record r { behind = last }) ≡ old ++ record head { behind = length old + 1 + length rest } ∷ rest
set-behind old rest done head r place last put at all read =
    let r_is : r ≡ head = read ∙ ap (λ l. get_or l place r) put ∙ get_or_at old head rest r place (sym at) in
    let last_is : last ≡ length old + 1 + length rest = omega (arith, all, ap length put, length-append old (head ∷ rest)) in
    ap (λ h. set done place (record h { behind = last })) r_is
    ∙ ap (λ n. set done place (record head { behind = n })) last_is
    ∙ ap (λ l. set l place (record head { behind = length old + 1 + length rest })) put
    ∙ set_at old head rest (record head { behind = length old + 1 + length rest }) place (sym at)

module _ (kind : ℕ) (count : Int) (elems : List Elem) (i : ℕ) (old begun done : Parts) (past : length elems ≤ i)
    (begins : begun.parts.items ≡ old.parts.items ++ part kind count 0 0 (length old.parts.items + 1) ∷ []) (same : begun.bytes.items ≡ old.bytes.items)
    (so : AddsFirst elems i begun done) where
  abbrev es : ElemTrees
  es = elems_of (elems_view elems)

  abbrev head : PartRecord
  head = part kind count 0 0 (length old.parts.items + 1)

  abbrev rest : List PartRecord
  rest = elems_parts (length old.parts.items + 1) (length old.bytes.items) es

  parts_before : done.parts.items ≡ old.parts.items ++ head ∷ rest
  parts_before =
      (first_all elems i begun done past so).0
      ∙ ap (λ l. l ++ elems_parts (length begun.parts.items) (length begun.bytes.items) es) begins
      ∙ ap (λ n. (old.parts.items ++ head ∷ []) ++ elems_parts n (length begun.bytes.items) es) (ap length begins ∙ length_push old.parts.items head)
      ∙ ap (λ l. (old.parts.items ++ head ∷ []) ++ elems_parts (length old.parts.items + 1) (length l) es) same
      ∙ append_assoc old.parts.items (head ∷ []) rest

  -- the package's part is one of them
  pub place_within : (place : ℕ) → place ≡ old.parts.len → place < done.parts.len
  place_within place at = omega (arith, at, old.parts.ok.0, done.parts.ok.0, ap length parts_before, length-append old.parts.items (head ∷ rest))

  -- .. and is written again
  pub package_adds : (place last : ℕ) (r : PartRecord) (new : Parts) → place ≡ old.parts.len → last ≡ done.parts.len → r ≡ get_or done.parts.items place r
      → new.parts.items ≡ set done.parts.items place (record r { behind = last }) → new.bytes.items ≡ done.bytes.items → AddsPackage kind count es old new
  package_adds place last r new at all read written kept = record {
    parts_are = written
        ∙ set-behind old.parts.items rest done.parts.items head r place last parts_before (at ∙ old.parts.ok.0) (all ∙ done.parts.ok.0) read
        ∙ ap (λ n. old.parts.items ++ part kind count 0 0 (length old.parts.items + 1 + n) ∷ rest) (length-elems_parts (length old.parts.items + 1) (length old.bytes.items) es);
    bytes_are = kept ∙ (first_all elems i begun done past so).1 ∙ ap (λ l. l ++ elems_bytes es) same;
  }
