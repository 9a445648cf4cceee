-- The items of an item that holds some are the last of its bytes, which the reader of what stands before them leaves.
use Rattle.std.proofs.Common.{◌≡◌, ℕ, suc, ◌-◌, ◌≤◌, true, List, [], ◌++◌, length, Result, Ok, refl, sym, ap, subst, ◌∙◌, append_assoc, arith}
use Rattle.std.proofs.lemmas.List.{length-append}
use Rattle.acpi_name.specs.Names.{NameParts}
use Rattle.acpi_tree.specs.declared.tree.ScopeKind.{ScopeKind}
use Rattle.acpi_tree.specs.Tree.{ItemTree, scope, method, ItemTrees, no_items, item}
use Rattle.acpi_code.specs.declared.fault.CodeFault.{CodeFault}
use Rattle.acpi_code.specs.declared.opcode.Opcode.{Opcode}
use Rattle.acpi_code.specs.Opcodes.{opcode_bytes}
use Rattle.acpi_code.specs.steps.Opcodes.{is_spelled}
use Rattle.acpi_code.specs.steps.Remaining.{Remaining}
use Rattle.acpi_code.specs.steps.Reading.{opcode_at}
use Rattle.acpi_code.proofs.Opcodes.{opens}
use Rattle.acpi_terms.specs.declared.scope_block.ScopeBlock.{ScopeBlock}
use Rattle.acpi_terms.specs.Forms.{fixed_arguments, ArgumentsOf, kind_opcode, kind_arguments}
use Rattle.acpi_terms.specs.Spelling.{SpellsFilled, SpellsItem, SpellsItems}
use Rattle.acpi_terms.specs.steps.ScopeBlocks.{opens_items, scope_with, scope_block_item, HasFront}
use Rattle.acpi_terms.specs.steps.Reading.{Fault, packed_at, item_by}
use Rattle.acpi_terms.proofs.Arguments.{arguments_height, packed_complete}
use Rattle.acpi_terms.proofs.ScopeBlocks.{as_scope}
use Rattle.acpi_terms.proofs.ScopeKinds.{kind_form}
use Rattle.acpi_places.specs.declared.place.CodePlace.{CodePlace}
use Rattle.acpi_places.specs.Places.{place_of_last, SpellsItemAt, SpellsItemsAt}

-- ---- a reading of items that tells where they begin

pub nameless : NameParts
nameless = record { rooted = true; parents = 0; segments = [] }

abbrev pub told : ℕ → List ℕ → ItemTrees
told end bytes = item (method nameless end bytes) no_items

abbrev pub telling : ℕ → List ℕ → Result ItemTrees Fault
telling end bytes = Ok (told end bytes)

abbrev pub end_in : ItemTree → ℕ
end_in (method n end bytes) = end
end_in _ = 0

abbrev pub bytes_in : ItemTree → List ℕ
bytes_in (method n end bytes) = bytes
bytes_in _ = []

abbrev told_end : ItemTrees → ℕ
told_end no_items = 0
told_end (item i is) = end_in i

abbrev pub told_bytes : ItemTrees → List ℕ
told_bytes no_items = []
told_bytes (item i is) = bytes_in i

-- the items in an item
abbrev pub items_in : ItemTree → ItemTrees
items_in (scope kind n is) = is
items_in _ = no_items

abbrev given : {X F : Type 0} → X → Result X F
given x = Ok x

same_given : {X F : Type 0} (x y : X) → given {F = F} x ≡ given y → x ≡ y
same_given x y e = cc

abbrev opening : Opcode → List ℕ → Result (Opcode × List ℕ) CodeFault
opening o behind = Ok (o, behind)

same_opening : (o q : Opcode) (a b : List ℕ) → opening o a ≡ opening q b → (o ≡ q) × (a ≡ b)
same_opening o q a b e =
    let same = same_given {F = CodeFault} (o, a) (q, b) e in
    (ap (λ (x : Opcode × List ℕ). x.0) same, ap (λ (x : Opcode × List ℕ). x.1) same)

abbrev pub whole_item : ItemTree → List ℕ → Result (ItemTree × List ℕ) Fault
whole_item i rest = Ok (i, rest)

pub same_item : (i j : ItemTree) (a b : List ℕ) → whole_item i a ≡ whole_item j b → (i ≡ j) × (a ≡ b)
same_item i j a b e =
    let same = same_given {F = Fault} (i, a) (j, b) e in
    (ap (λ (x : ItemTree × List ℕ). x.0) same, ap (λ (x : ItemTree × List ℕ). x.1) same)

-- ---- what is left where the items begin

module _ (o : Opcode) (made : ArgumentsOf o → ItemTrees → ItemTree) (v : ArgumentsOf o) (Fills : List ℕ → Type 0) (a rest : List ℕ) (old new : Remaining) (h : ScopeBlock)
    (some : is_spelled o ≡ true) (holds : opens_items o ≡ true) (flat : arguments_height (fixed_arguments o) ≤ 0)
    (form : (inner : ℕ → List ℕ → Result ItemTrees Fault) (end : ℕ) (whole more : List ℕ) → item_by inner 0 end whole o more ≡ packed_at (fixed_arguments o) made 0 inner end more)
    (items : (is : ItemTrees) → items_in (made v is) ≡ is)
    (f : SpellsFilled o v Fills a) (whole : old.bytes ≡ a ++ rest) (front : HasFront old new h) where
  abbrev more : List ℕ
  more = (f.4.len ++ (f.0 ++ f.1)) ++ rest

  bytes_are : old.bytes ≡ opcode_bytes o ++ more
  bytes_are = whole ∙ ap (λ (bs : List ℕ). bs ++ rest) f.4.whole ∙ append_assoc (opcode_bytes o) (f.4.len ++ (f.0 ++ f.1)) rest

  begun : (front.0 ≡ o) × (front.1 ≡ more)
  begun = same_opening front.0 o front.1 more (sym front.2 ∙ ap (opcode_at old.end) bytes_are ∙ opens old.end o more some)

  -- what is left inside, and its end
  abbrev here : ItemTrees
  here = told (old.end - length rest) f.1

  read_here : scope_block_item telling o old.end more ≡ whole_item (made v here) rest
  read_here =
      sym (as_scope telling 0 old.end more o more holds) ∙ form telling old.end more more
      ∙ packed_complete (fixed_arguments o) made 0 telling old.end v here f.4.len f.0 f.1 rest flat f.2 refl f.4.spells_len

  read_there : scope_block_item telling o old.end more ≡ whole_item (scope_with h.front (told h.inner.end h.inner.bytes)) new.bytes
  read_there = ap (λ (q : Opcode). scope_block_item telling q old.end more) (sym begun.0) ∙ ap (scope_block_item telling front.0 old.end) (sym begun.1) ∙ front.4 telling

  same : here ≡ told h.inner.end h.inner.bytes
  same =
      sym (items here) ∙ ap items_in (same_item _ _ _ _ (sym read_here ∙ read_there)).0

  pub inside_is : f.1 ≡ h.inner.bytes
  inside_is = ap told_bytes same

  pub inside_ends : old.end - length rest ≡ h.inner.end
  inside_ends = ap told_end same

-- the last part of a package is no longer than the item
pub last_fits : (o : Opcode) (v : ArgumentsOf o) (Fills : List ℕ → Type 0) (a : List ℕ) (f : SpellsFilled o v Fills a) → length f.1 ≤ length a
last_fits o v Fills a f =
    omega (arith, ap length f.4.whole, length-append (opcode_bytes o) (f.4.len ++ (f.0 ++ f.1)), length-append f.4.len (f.0 ++ f.1), length-append f.0 f.1)

-- ---- each form

-- the items that the reader left inside are the last of the item's bytes
pub record Inside (i : ItemTree) (is : ItemTrees) (a rest : List ℕ) (old : Remaining) (h : ScopeBlock) : Type 0 where
  pub spelled : SpellsItems is h.inner.bytes
  pub fits : length h.inner.bytes ≤ length a
  pub ends : old.end - length rest ≡ h.inner.end
  pub with_places : (table start : ℕ) (places : List CodePlace) → SpellsItemsAt table (place_of_last start a h.inner.bytes) is h.inner.bytes places → SpellsItemAt table start i a places

module _ (is : ItemTrees) (a rest : List ℕ) (old : Remaining) (h : ScopeBlock) where
  -- of an item that is filled by items
  filled : (o : Opcode) (v : ArgumentsOf o) (i : ItemTree) (f : SpellsFilled o v (λ b. SpellsItems is b) a) → f.1 ≡ h.inner.bytes → old.end - length rest ≡ h.inner.end
      → ((table start : ℕ) (places : List CodePlace) → SpellsFilled o v (λ b. SpellsItemsAt table (place_of_last start a b) is b places) a → SpellsItemAt table start i a places)
      → Inside i is a rest old h
  filled o v i f same ends so = record {
    spelled = subst (λ (b : List ℕ). SpellsItems is b) same f.3;
    fits = subst (λ (b : List ℕ). length b ≤ length a) same (last_fits o v (λ b. SpellsItems is b) a f);
    ends = ends;
    with_places = λ table start places p. so table start places
        (f.0, f.1, f.2, subst (λ (b : List ℕ). SpellsItemsAt table (place_of_last start a b) is b places) (sym same) p, f.4);
  }

  module _ (new : Remaining) (whole : old.bytes ≡ a ++ rest) (front : HasFront old new h) where
    pub inside : (kind : ScopeKind) (n : NameParts) → SpellsItem (scope kind n is) a → Inside (scope kind n is) is a rest old h
    inside kind n f =
        let k = kind_form kind in
        let o = kind_opcode kind in
        let v = kind_arguments kind n in
        let items : (js : ItemTrees) → items_in (k.made v js) ≡ js = λ js. ap items_in (k.is n js) in
        filled o v (scope kind n is) f (inside_is o k.made v (λ b. SpellsItems is b) a rest old new h k.spelled k.opens k.flat (λ inner. k.read inner 0) items f whole front)
        (inside_ends o k.made v (λ b. SpellsItems is b) a rest old new h k.spelled k.opens k.flat (λ inner. k.read inner 0) items f whole front) (λ table start places p. p)
