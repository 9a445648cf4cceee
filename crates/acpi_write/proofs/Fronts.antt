-- What stands in front of what.
use Rattle.std.proofs.Common.{◌≡◌, ℕ, suc, ◌<◌, List, [], ◌∷◌, ◌++◌, take, length, get_or, map, Option, Some, None, Result, Err, refl, sym, ap, subst, ◌∙◌, append_assoc}
use Rattle.std.proofs.lemmas.List.{append-nil}
use Rattle.std.proofs.Math.Seq.{take-suc}
use Rattle.std.specs.Fmt.{option_append}
use Rattle.acpi_write.specs.declared.fault.WriteFault.{WriteFault}
use Rattle.acpi_write.specs.declared.fault.WriteFault.TheVariants.{TooLong, Memory}
use Rattle.acpi_write.specs.declared.writer.Argument.{Argument}
use Rattle.acpi_tree.specs.declared.tree.Elem.{Elem}
use Rattle.acpi_tree.specs.declared.tree.Item.{Item}
use Rattle.acpi_tree.specs.declared.term.Operand.{Operand}
use Rattle.acpi_tree.specs.declared.term.Term.{Term}
use Rattle.acpi_tree.specs.Tree.{elems_of}
use Rattle.acpi_tree.specs.Terms.{terms_of}
use Rattle.acpi_tree.specs.TermView.{term_view, terms_tree, operand_view, operands_view}
use Rattle.acpi_tree.specs.DataTerms.{elem_term, elem_terms}
use Rattle.acpi_tree.specs.View.{elem_view, elems_view, item_view, items_tree}
use Rattle.acpi_write.specs.Canonical.{each_bytes}
use Rattle.acpi_write.specs.CanonicalItems.{item_bytes, items_bytes}
use Rattle.acpi_write.specs.CanonicalTerms.{term_bytes, terms_bytes}
use Rattle.acpi_write.specs.steps.Writing.{Puts, Ahead, argument_piece, pieces}

abbrev Bytes : Type 0
Bytes = Option (List ℕ)

pub both_assoc : (a b c : Bytes) → option_append (option_append a b) c ≡ option_append a (option_append b c)
both_assoc None b c = refl
both_assoc (Some a) None c = refl
both_assoc (Some a) (Some b) None = refl
both_assoc (Some a) (Some b) (Some c) = ap Some (simp append_assoc)

pub none_behind : (a : Bytes) → option_append a None ≡ None
none_behind None = refl
none_behind (Some a) = refl

pub nothing_behind : (a : Bytes) → option_append a (Some []) ≡ a
nothing_behind None = refl
nothing_behind (Some a) = ap Some (append-nil a)

none_before : (a : Bytes) (b : List ℕ) → option_append a (Some b) ≡ None → a ≡ None
none_before None b e = refl
none_before (Some a) b e = absurd cc

-- ---- a list that is written from its end

module _ {A : Type 0} (f : A → Bytes) where
  each_end : (xs : List A) (x : A) → each_bytes f (xs ++ x ∷ []) ≡ option_append (each_bytes f xs) (f x)
  each_end [] x = last (f x)
    where
      last : (b : Bytes) → option_append b (Some []) ≡ option_append (Some []) b
      last None = refl
      last (Some b) = ap Some (append-nil b)
  each_end (y ∷ xs) x = ap (option_append (f y)) (each_end xs x) ∙ sym (both_assoc (f y) (each_bytes f xs) (f x))

  each_taken : (xs : List A) (i j : ℕ) (x : A) → i ≡ suc j → j < length xs → x ≡ get_or xs j x → each_bytes f (take i xs) ≡ option_append (each_bytes f (take j xs)) (f x)
  each_taken xs i j x is few at =
      let e : take i xs ≡ take j xs ++ x ∷ [] = ap (λ k. take k xs) is ∙ take-suc xs j x few ∙ ap (λ y. take j xs ++ y ∷ []) (sym at) in
      ap (each_bytes f) e ∙ each_end (take j xs) x

  pub one_ahead : (xs : List A) (i j : ℕ) (x : A) (old mid new : List ℕ) → i ≡ suc j → j < length xs → x ≡ get_or xs j x
      → Ahead f xs i old mid → option_append (f x) (Some mid) ≡ Some new → Ahead f xs j old new
  one_ahead xs i j x old mid new is few at ahead put =
      ap (option_append (each_bytes f (take j xs))) (sym put) ∙ sym (both_assoc (each_bytes f (take j xs)) (f x) (Some mid))
      ∙ ap (λ b. option_append b (Some mid)) (sym (each_taken xs i j x is few at)) ∙ ahead

  pub none_ahead : (xs : List A) (i j : ℕ) (x : A) (old mid : List ℕ) → i ≡ suc j → j < length xs → x ≡ get_or xs j x
      → Ahead f xs i old mid → f x ≡ None → each_bytes f xs ≡ None
  none_ahead xs i j x old mid is few at ahead none =
      let e : each_bytes f (take i xs) ≡ None = each_taken xs i j x is few at ∙ ap (option_append (each_bytes f (take j xs))) none ∙ none_behind (each_bytes f (take j xs)) in
      none_before (each_bytes f xs) old (sym ahead ∙ ap (λ b. option_append b (Some mid)) e)

  pub all_ahead : (xs : List A) (i : ℕ) (old new : List ℕ) → i ≡ 0 → Ahead f xs i old new → option_append (each_bytes f xs) (Some old) ≡ Some new
  all_ahead xs i old new is ahead = sym (subst (λ k. Ahead f xs k old new) is ahead)

-- ---- fixed arguments

pieces_end : (xs : List Argument) (x : Argument) → pieces (xs ++ x ∷ []) ≡ pieces xs ++ argument_piece x
pieces_end [] x = append-nil (argument_piece x)
pieces_end (y ∷ xs) x = ap (λ r. argument_piece y ++ r) (pieces_end xs x) ∙ simp append_assoc

pub piece_ahead : (xs : List Argument) (i j : ℕ) (x : Argument) (old mid new : List ℕ) → i ≡ suc j → j < length xs → x ≡ get_or xs j x
    → pieces (take i xs) ++ mid ≡ pieces xs ++ old → new ≡ argument_piece x ++ mid → pieces (take j xs) ++ new ≡ pieces xs ++ old
piece_ahead xs i j x old mid new is few at ahead put =
    let e : take i xs ≡ take j xs ++ x ∷ [] = ap (λ k. take k xs) is ∙ take-suc xs j x few ∙ ap (λ y. take j xs ++ y ∷ []) (sym at) in
    let f : pieces (take i xs) ≡ pieces (take j xs) ++ argument_piece x = ap pieces e ∙ pieces_end (take j xs) x in
    ap (λ r. pieces (take j xs) ++ r) put ∙ sym (append_assoc (pieces (take j xs)) (argument_piece x) mid) ∙ ap (λ r. r ++ mid) (sym f) ∙ ahead

-- ---- faults

puts_none : (A : Type 0) (fault : WriteFault) (a b : Bytes) (old mid new : List ℕ) → Puts {A = A} (Err fault) b mid new → (b ≡ None → a ≡ None) → Puts {A = A} (Err fault) a old new
puts_none A TooLong a b old mid new long more = more long
puts_none A Memory a b old mid new long more = tt

pub puts_fault : {A : Type 0} (r : Result A WriteFault) (fault : WriteFault) (a b : Bytes) (old mid new : List ℕ) → (y : WriteFault) × (r ≡ Err y) × (y ≡ fault)
    → Puts {A = A} (Err fault) b mid new → (b ≡ None → a ≡ None) → Puts r a old new
puts_fault {A} r fault a b old mid new is long more = subst (λ r. Puts r a old new) (sym (is.1 ∙ ap Err is.2)) (puts_none A fault a b old mid new long more)

-- ---- lists of values

pub each_map : {A B : Type 0} (f : B → Bytes) (g : A → B) (xs : List A) → each_bytes f (map g xs) ≡ each_bytes (λ x. f (g x)) xs
each_map f g [] = refl
each_map f g (x ∷ xs) = ap (option_append (f (g x))) (each_map f g xs)

pub elems_each : (xs : List Elem) → terms_bytes (elem_terms (elems_of (elems_view xs))) ≡ each_bytes (λ x. term_bytes (elem_term (elem_view x))) xs
elems_each [] = refl
elems_each (x ∷ xs) = ap (option_append (term_bytes (elem_term (elem_view x)))) (elems_each xs)

pub items_each : (xs : List Item) → items_bytes (items_tree xs) ≡ each_bytes (λ x. item_bytes (item_view x)) xs
items_each [] = refl
items_each (x ∷ xs) = ap (option_append (item_bytes (item_view x))) (items_each xs)

pub terms_each : (xs : List Term) → terms_bytes (terms_tree xs) ≡ each_bytes (λ x. term_bytes (term_view x)) xs
terms_each [] = refl
terms_each (x ∷ xs) = ap (option_append (term_bytes (term_view x))) (terms_each xs)

pub operands_each : (xs : List Operand) → terms_bytes (terms_of (operands_view xs)) ≡ each_bytes (λ x. term_bytes (operand_view x)) xs
operands_each [] = refl
operands_each (x ∷ xs) = ap (option_append (term_bytes (operand_view x))) (operands_each xs)

-- what is put in front of nothing
pub put_alone : (a : Bytes) (old new : List ℕ) → old ≡ [] → option_append a (Some old) ≡ Some new → a ≡ Some new
put_alone None old new empty put = absurd cc
put_alone (Some a) old new empty put = ap Some (sym (append-nil a) ∙ ap (λ r. a ++ r) (sym empty)) ∙ put
