-- The reason for which bytes fail has its place in them, or at their end.
use Rattle.std.proofs.Common.{◌≡◌, ℕ, zero, suc, ◌-◌, ◌+◌, ◌≤◌, List, [], ◌∷◌, ◌++◌, length, Option, Some, None, refl, sym, ap, subst, ◌∙◌, arith, inl, inr}
use Rattle.std.proofs.lemmas.List.{length-append}
use Rattle.acpi_tree.specs.declared.place.Place.{Place}
use Rattle.acpi_tree.specs.declared.place.Place.TheVariants.{Value, SuperName, Element, Statement, Source}
use Rattle.acpi_tree.specs.declared.place.OperandKind.{OperandKind}
use Rattle.acpi_tree.specs.declared.place.OperandKind.TheVariants.{At, Target, Byte, Word, DWord}
use Rattle.acpi_tree.specs.declared.place.NamedForm.{NamedForm}
use Rattle.acpi_tree.specs.declared.place.NamedForm.TheVariants as named
use Rattle.acpi_tree.specs.Operators.{names_of_units, operands_of, operands_of_units}
use Rattle.acpi_tree.specs.Tree.{FieldTree}
use Rattle.acpi_code.specs.declared.fault.CodeFault.{CodeFault}
use Rattle.acpi_code.specs.declared.fault.CodeReason.{CodeReason}
use Rattle.acpi_code.specs.declared.fault.ConstantFault.{ConstantFault}
use Rattle.acpi_code.specs.declared.fault.ConstantFault.TheVariants.{Part, NotConstant}
use Rattle.acpi_code.specs.declared.opcode.Opcode.{Opcode}
use Rattle.acpi_code.specs.declared.opcode.Opcode.TheVariants as opcodes
use Rattle.acpi_code.specs.Faults.{Failure, fault_at, no_level, FailsAs, FailsBehind, FailsInTurn, FailsEach, FailsNumber, FailsPkgLength, FailsPackage, FailsName, FailsSegment, FailsText, FailsOpcode, FailsByOpcode, FailsUnless, FailsConstant, FailsInt, FailsUnit, FailsConnect, FailsField, number_size}
use Rattle.acpi_code.specs.Opcodes.{opcode_bytes, operator_bytes}
use Rattle.acpi_code.specs.Spelling.{SpellsByte, SpellsSegment}
use Rattle.acpi_code.specs.Forms.{named_opcode}
use Rattle.acpi_name.specs.Names.{NameParts}
use Rattle.acpi_name.specs.Spelling.{SpellsName}
use Rattle.acpi_values.specs.declared.fault.BodyFault.{BodyFault}
use Rattle.acpi_values.specs.declared.fault.BodyReason.{BodyReason}
use Rattle.acpi_values.specs.Faults as bodies
use Rattle.acpi_values.specs.Faults.{fault_of, body_fault, IsTermAt, IsOperand, FailsOperand, FailsElements, FailsCall, FailsForm, FailsTerm, FailsOperands}
use Rattle.acpi_values.specs.Grammars.{Grammar}
use Rattle.acpi_values.specs.Refusals.{refusal_at}
use Rattle.acpi_values.specs.Spelling.{values}
use Rattle.acpi_outline.specs.declared.fault.LostFault.{LostFault}
use Rattle.acpi_outline.specs.declared.form.PackedForm.{PackedForm}
use Rattle.acpi_outline.specs.declared.form.PackedForm.TheVariants as forms
use Rattle.acpi_outline.specs.Nodes.{form_of, form_bytes, NodeTree, plain, holds, holds_fields, closed, package_lost, data_lost, name_lost, NodeTrees, no_more, lost, node, FieldNodes, no_more_fields, fields_lost, field_node}
use Rattle.acpi_outline.specs.Rules.{Rules, grammar_at, after}
use Rattle.acpi_outline.specs.Spelling.{operands_first, operands_after, container_operands, AreFirst, AreNames, IsSource}
use Rattle.acpi_outline.specs.Faults.{term_fault, part_fault, element_fault, FailsPart, FailsNamed, FailsTermAt, FailsInOrder, FailsSource, FailsFirst, FailsDeclared, FailsCount, FailsExternal, FailsPlain, FailsTest, FailsNames, FailsFixed, FailsElement, FailsLength, FailsBegun, FailsNode}
use Rattle.acpi_outline.specs.Outline.{AreFields, IsNode, AreNodes, IsOutline}
use Rattle.acpi_outline.specs.Tiling.{first_place, Tiles}
use Rattle.acpi_outline.specs.Reasons.{FieldReasonsLie, ReasonLies, ReasonsLie}
use Rattle.acpi_outline.proofs.One.{pack_longer}

-- so it is of all faults of a kind, each with its place
abbrev Lies : {F : Type 0} → (F → ℕ) → Failure F → Type 0
Lies {F} at Fails = (end : ℕ) (bytes : List ℕ) (f : F) → Fails end bytes f → (end - length bytes ≤ at f) × (at f ≤ end)

-- ---- whatever fails

lies_here : (end : ℕ) (bytes : List ℕ) (place : ℕ) → place ≡ end - length bytes → (end - length bytes ≤ place) × (place ≤ end)
lies_here end bytes place is = (omega (arith, is), omega (arith, is))

lies_last : (end : ℕ) (bytes : List ℕ) (place : ℕ) → place ≡ end - 0 → (end - length bytes ≤ place) × (place ≤ end)
lies_last end bytes place is = (omega (arith, is), omega (arith, is))

-- what lies behind a front
lies_later : (end : ℕ) (bytes a b : List ℕ) (place : ℕ) → bytes ≡ a ++ b → (end - length b ≤ place) × (place ≤ end) → (end - length bytes ≤ place) × (place ≤ end)
lies_later end bytes a b place whole h = (omega (arith, h.0, ap length whole, length-append a b), h.1)

lies_as : {F G : Type 0} (at : F → ℕ) (to : G → ℕ) (into : F → G) (Fails : Failure F) → ((f : F) → to (into f) ≡ at f) → Lies at Fails → Lies to (FailsAs into Fails)
lies_as at to into Fails same lies end bytes g (f, h, is) =
    let k = lies end bytes f h in
    let there : to g ≡ at f = ap to is ∙ same f in
    (omega (arith, k.0, there), omega (arith, k.1, there))

lies_behind : {F : Type 0} (at : F → ℕ) (front : List ℕ) (Fails : Failure F) → Lies at Fails → Lies at (FailsBehind front Fails)
lies_behind at front Fails lies end bytes f (rest, is, h) = lies_later end bytes front rest (at f) is (lies end rest f h)

lies_turn : {A F : Type 0} (at : F → ℕ) (First : Failure F) (Spells : A → List ℕ → Type 0) (Then : A → Failure F) → Lies at First → ((x : A) → Lies at (Then x)) → Lies at (FailsInTurn First Spells Then)
lies_turn at First Spells Then first more end bytes f (inl h) = first end bytes f h
lies_turn at First Spells Then first more end bytes f (inr (x, a, b, spells, whole, h)) = lies_later end bytes a b (at f) whole (more x end b f h)

lies_each : {A F : Type 0} (at : F → ℕ) (Spells : A → List ℕ → Type 0) (One : Failure F) → Lies at One → Lies at (FailsEach Spells One)
lies_each at Spells One one end bytes f (xs, a, b, spells, whole, some, h) = lies_later end bytes a b (at f) whole (one end b f h)

lies_none : {F : Type 0} (at : F → ℕ) → Lies at (λ end bytes f. ⊥)
lies_none at end bytes f h = absurd h

-- ---- parts of code

abbrev place_of : CodeFault → ℕ
place_of f = f.place

abbrev constant_place : ConstantFault → ℕ
constant_place (Part f) = f.place
constant_place (NotConstant opcode place) = place

lies_number : (n : ℕ) → Lies place_of (FailsNumber n)
lies_number n end bytes f (less, is) = lies_last end bytes f.place (ap place_of is)

lies_length : Lies place_of FailsPkgLength
lies_length end bytes f (inl (ends, is)) = lies_last end bytes f.place (ap place_of is)
lies_length end bytes f (inr (bits, is)) = lies_here end bytes f.place (ap place_of is)

lies_package : {F : Type 0} (at : F → ℕ) (into : CodeFault → F) (Inside : Failure F) → ((f : CodeFault) → at (into f) ≡ f.place) → Lies at Inside → Lies at (FailsPackage into Inside)
lies_package at into Inside same inside end bytes f (inl h) = lies_as place_of at into FailsPkgLength same lies_length end bytes f h
lies_package at into Inside same inside end bytes f (inr (inl (over, is))) = lies_here end bytes (at f) (ap at is ∙ same _)
lies_package at into Inside same inside end bytes f (inr (inr (len, content, rest, spells, whole, h))) =
    let k = inside (end - length rest) content f h in
    (omega (arith, k.0, ap length whole, length-append len (content ++ rest), length-append content rest), omega (arith, k.1))

lies_name : Lies place_of FailsName
lies_name end bytes f (inl (cut, is)) = lies_last end bytes f.place (ap place_of is)
lies_name end bytes f (inr (bad, is)) = lies_here end bytes f.place (ap place_of is)

lies_segment : Lies place_of FailsSegment
lies_segment end bytes f (inl (front, less, is)) = lies_last end bytes f.place (ap place_of is)
lies_segment end bytes f (inr (bad, is)) = lies_here end bytes f.place (ap place_of is)

lies_text : Lies place_of FailsText
lies_text end bytes f (text, rest, are, whole, inl (none, is)) = lies_last end bytes f.place (ap place_of is)
lies_text end bytes f (text, rest, are, whole, inr (bad, is)) = lies_later end bytes text rest f.place whole (lies_here end rest f.place (ap place_of is))

lies_opcode : Lies place_of FailsOpcode
lies_opcode end bytes f (ends, is) = lies_last end bytes f.place (ap place_of is)

lies_by_opcode : {F : Type 0} (at : F → ℕ) (into : CodeFault → F) (Term : Opcode → Failure F) → ((f : CodeFault) → at (into f) ≡ f.place) → ((o : Opcode) → Lies at (Term o)) → Lies at (FailsByOpcode into Term)
lies_by_opcode at into Term same more end bytes f (inl h) = lies_as place_of at into FailsOpcode same lies_opcode end bytes f h
lies_by_opcode at into Term same more end bytes f (inr (o, begins, h)) = more o end bytes f h

lies_unless : {R F : Type 0} (at : F → ℕ) (fault : R → ℕ → F) (w : Option R) (Fails : Failure F) → ((why : R) (place : ℕ) → at (fault why place) ≡ place) → Lies at Fails → Lies at (FailsUnless fault w Fails)
lies_unless at fault (Some why) Fails same lies end bytes f h = lies_here end bytes (at f) (ap at h ∙ same why _)
lies_unless at fault None Fails same lies end bytes f h = lies end bytes f h

lies_level : {F : Type 0} (at : F → ℕ) (into : CodeFault → F) → ((f : CodeFault) → at (into f) ≡ f.place) → Lies at (λ end bytes f. f ≡ into (no_level end bytes))
lies_level at into same end [] f h = lies_here end [] (at f) (ap at h ∙ same _)
lies_level at into same end (b ∷ rest) f h = lies_here end (b ∷ rest) (at f) (ap at h ∙ same _)

lies_part : (Fails : Failure CodeFault) → Lies place_of Fails → Lies constant_place (FailsAs Part Fails)
lies_part Fails lies = lies_as place_of constant_place (λ f. Part f) Fails (λ f. refl) lies

lies_constant : (o : Opcode) → Lies constant_place (FailsConstant o)
lies_constant (opcodes.Constant form) =
    lies_behind constant_place (opcode_bytes (opcodes.Constant form)) (FailsAs Part (FailsNumber (number_size form))) (lies_part (FailsNumber (number_size form)) (lies_number (number_size form)))
lies_constant _ = λ end bytes f h. lies_here end bytes (constant_place f) (ap constant_place h)

lies_int : Lies constant_place FailsInt
lies_int = lies_by_opcode constant_place (λ f. Part f) FailsConstant (λ f. refl) lies_constant

lies_unit : Lies constant_place FailsUnit
lies_unit = lies_turn constant_place (FailsAs Part FailsSegment) SpellsSegment (λ g. FailsAs Part FailsPkgLength) (lies_part FailsSegment lies_segment) (λ g. lies_part FailsPkgLength lies_length)

lies_connect : Lies constant_place FailsConnect
lies_connect end bytes f (inl h) =
    lies_behind constant_place (0x11 ∷ []) (FailsPackage Part FailsInt) (lies_package constant_place (λ f. Part f) FailsInt (λ f. refl) lies_int) end bytes f h
lies_connect end bytes f (inr h) = lies_part FailsName lies_name end bytes f h.1

lies_field : Lies constant_place FailsField
lies_field end bytes f (inl h) = lies_behind constant_place (0x00 ∷ []) (FailsAs Part FailsPkgLength) (lies_part FailsPkgLength lies_length) end bytes f h
lies_field end bytes f (inr (inl h)) = lies_behind constant_place (0x01 ∷ []) (FailsAs Part (FailsNumber 2)) (lies_part (FailsNumber 2) (lies_number 2)) end bytes f h
lies_field end bytes f (inr (inr (inl h))) = lies_behind constant_place (0x02 ∷ []) FailsConnect lies_connect end bytes f h
lies_field end bytes f (inr (inr (inr (inl h)))) = lies_behind constant_place (0x03 ∷ []) (FailsAs Part (FailsNumber 3)) (lies_part (FailsNumber 3) (lies_number 3)) end bytes f h
lies_field end bytes f (inr (inr (inr (inr h)))) = lies_unit end bytes f h.1

-- ---- terms

abbrev body_place : BodyFault → ℕ
body_place f = f.place

lies_body : (Fails : Failure CodeFault) → Lies place_of Fails → Lies body_place (FailsAs fault_of Fails)
lies_body Fails lies = lies_as place_of body_place fault_of Fails (λ f. refl) lies

module _ (g : Grammar) (level : ℕ) (i : (p : Place) → Lies body_place (FailsTerm g level p)) where
  abbrev Inner : Place → Failure BodyFault
  Inner = FailsTerm g level

  lies_operand : (k : OperandKind) → Lies body_place (FailsOperand Inner k)
  lies_operand (At p) = i p
  lies_operand Target = λ end bytes f h. i SuperName end bytes f h.1
  lies_operand Byte = lies_body (FailsNumber 1) (lies_number 1)
  lies_operand Word = lies_body (FailsNumber 2) (lies_number 2)
  lies_operand DWord = lies_body (FailsNumber 4) (lies_number 4)

  lies_order : (ks : List OperandKind) → Lies body_place (bodies.FailsInOrder g level Inner ks)
  lies_order [] = lies_none body_place
  lies_order (k ∷ ks) = lies_turn body_place (FailsOperand Inner k) (IsOperand g level k) (λ t. bodies.FailsInOrder g level Inner ks) (lies_operand k) (λ t. lies_order ks)

  lies_elements : Lies body_place (FailsElements g level Inner)
  lies_elements = lies_each body_place (IsTermAt g level Element) (Inner Element) (i Element)

  lies_call : (n : NameParts) → Lies body_place (FailsCall g level Inner n)
  lies_call n end bytes f (a, b, spells, whole, inl (unsure, is)) = lies_here end bytes f.place (ap body_place is)
  lies_call n end bytes f (a, b, spells, whole, inr (count, sure, h)) = lies_later end bytes a b f.place whole (lies_order (values count) end b f h)

  lies_inside : (op : List ℕ) (Inside : Failure BodyFault) → Lies body_place Inside → Lies body_place (FailsBehind op (FailsPackage fault_of Inside))
  lies_inside op Inside lies = lies_behind body_place op (FailsPackage fault_of Inside) (lies_package body_place fault_of Inside (λ f. refl) lies)

  lies_form : (p : Place) (o : Opcode) → Lies body_place (FailsForm g level Inner p o)
  lies_form p (opcodes.Constant form) =
      lies_behind body_place (opcode_bytes (opcodes.Constant form)) (FailsAs fault_of (FailsNumber (number_size form))) (lies_body (FailsNumber (number_size form)) (lies_number (number_size form)))
  lies_form p opcodes.Str = lies_behind body_place (0x0D ∷ []) (FailsAs fault_of FailsText) (lies_body FailsText lies_text)
  lies_form p opcodes.Buffer = lies_inside (0x11 ∷ []) (Inner Value) (i Value)
  lies_form p opcodes.Package =
      lies_inside (0x12 ∷ []) (FailsInTurn (FailsAs fault_of (FailsNumber 1)) SpellsByte (λ n. FailsElements g level Inner))
      (lies_turn body_place (FailsAs fault_of (FailsNumber 1)) SpellsByte (λ n. FailsElements g level Inner) (lies_body (FailsNumber 1) (lies_number 1)) (λ n. lies_elements))
  lies_form p opcodes.VarPackage =
      lies_inside (0x13 ∷ []) (FailsInTurn (Inner Value) (IsTermAt g level Value) (λ t. FailsElements g level Inner))
      (lies_turn body_place (Inner Value) (IsTermAt g level Value) (λ t. FailsElements g level Inner) (i Value) (λ t. lies_elements))
  lies_form p opcodes.Name = by_name
    where
      by_name : Lies body_place (FailsForm g level Inner p opcodes.Name)
      by_name end bytes f (inl h) = lies_body FailsName lies_name end bytes f h
      by_name end bytes f (inr (n, stands, h)) = lies_call n end bytes f h
  lies_form p (opcodes.Operator op) = lies_behind body_place (operator_bytes op) (bodies.FailsInOrder g level Inner (operands_of op)) (lies_order (operands_of op))
  lies_form p _ = lies_none body_place

lies_term : (g : Grammar) (level : ℕ) (p : Place) → Lies body_place (FailsTerm g level p)
lies_term g zero p = lies_level body_place fault_of (λ f. refl)
lies_term g (suc level) p =
    lies_by_opcode body_place fault_of (λ o. FailsUnless body_fault (refusal_at g.loads p o) (FailsForm g level (FailsTerm g level) p o)) (λ f. refl)
    (λ o. lies_unless body_place body_fault (refusal_at g.loads p o) (FailsForm g level (FailsTerm g level) p o) (λ why place. refl) (lies_form g level (λ p. lies_term g level p) p o))

-- ---- nodes

abbrev lost_place : LostFault → ℕ
lost_place f = f.place

lies_lost : (Fails : Failure CodeFault) → Lies place_of Fails → Lies lost_place (FailsPart Fails)
lies_lost Fails lies = lies_as place_of lost_place part_fault Fails (λ f. refl) lies

lies_named : (Behind : Failure LostFault) → Lies lost_place Behind → Lies lost_place (FailsNamed Behind)
lies_named Behind lies = lies_turn lost_place (FailsPart FailsName) SpellsName (λ n. Behind) (lies_lost FailsName lies_name) (λ n. lies)

element_same : (f : ConstantFault) → lost_place (element_fault f) ≡ constant_place f
element_same (Part f) = refl
element_same (NotConstant opcode place) = refl

lies_element : Lies lost_place FailsElement
lies_element = lies_as constant_place lost_place element_fault FailsField element_same lies_field

lies_count : Lies lost_place FailsCount
lies_count end bytes f (inl h) = lies_lost (FailsNumber 1) (lies_number 1) end bytes f h
lies_count end bytes f (inr (count, rest, is, many, fault)) = lies_here end bytes f.place (ap lost_place fault)

lies_external : Lies lost_place FailsExternal
lies_external =
    lies_named (FailsInTurn (FailsPart (FailsNumber 1)) SpellsByte (λ kind. FailsCount))
    (lies_turn lost_place (FailsPart (FailsNumber 1)) SpellsByte (λ kind. FailsCount) (lies_lost (FailsNumber 1) (lies_number 1)) (λ kind. lies_count))

module _ {S : Type 0} (r : Rules S) (level : ℕ) (known : S) where
  lies_at : (p : Place) → Lies lost_place (FailsTermAt r level known p)
  lies_at p = lies_as body_place lost_place term_fault (FailsTerm (grammar_at r known) level p) (λ f. refl) (lies_term (grammar_at r known) level p)

  lies_terms : (ks : List OperandKind) → Lies lost_place (FailsInOrder r level known ks)
  lies_terms ks =
      let g = grammar_at r known in
      lies_as body_place lost_place term_fault (FailsOperands g level ks) (λ f. refl) (lies_order g level (λ p. lies_term g level p) ks)

  lies_source : Lies lost_place (FailsSource r level known)
  lies_source end bytes f (inl h) = lies_lost FailsName lies_name end bytes f h.1
  lies_source end bytes f (inr h) = lies_at Source end bytes f h.1

  lies_first : (ks : List OperandKind) → Lies lost_place (FailsFirst r level known ks)
  lies_first [] = lies_none lost_place
  lies_first (k ∷ ks) = lies_turn lost_place (FailsSource r level known) (IsSource r level known) (λ v. FailsInOrder r level known ks) lies_source (λ v. lies_terms ks)

  lies_declared : (form : NamedForm) → Lies lost_place (FailsDeclared r level known form)
  lies_declared form =
      let ks = operands_first form in
      let Behind = FailsNamed (FailsInOrder r level known (operands_after form)) in
      lies_behind lost_place (opcode_bytes (named_opcode form)) (FailsInTurn (FailsFirst r level known ks) (AreFirst r level known ks) (λ vs. Behind))
      (lies_turn lost_place (FailsFirst r level known ks) (AreFirst r level known ks) (λ vs. Behind) (lies_first ks) (λ vs. lies_named (FailsInOrder r level known (operands_after form)) (lies_terms (operands_after form))))

  lies_test : Lies lost_place (FailsTest r level known)
  lies_test end bytes f h = lies_at Value end bytes f h.1

  lies_names : (n : ℕ) → Lies lost_place (FailsNames n)
  lies_names zero = lies_none lost_place
  lies_names (suc n) = lies_named (FailsNames n) (lies_names n)

  lies_fixed : (form : PackedForm) → Lies lost_place (FailsFixed r level known form)
  lies_fixed forms.Scope = lies_lost FailsName lies_name
  lies_fixed (forms.Container form) = lies_named (FailsInOrder r level known (container_operands form)) (lies_terms (container_operands form))
  lies_fixed forms.Method = lies_named (FailsPart (FailsNumber 1)) (lies_lost (FailsNumber 1) (lies_number 1))
  lies_fixed forms.If = lies_test
  lies_fixed forms.Else = lies_none lost_place
  lies_fixed forms.While = lies_test
  lies_fixed (forms.Units form) =
      lies_turn lost_place (FailsNames (names_of_units form)) (AreNames (names_of_units form)) (λ ns. FailsInOrder r level known (operands_of_units form)) (lies_names (names_of_units form)) (λ ns. lies_terms (operands_of_units form))

lies_packed : Lies lost_place FailsLength
lies_packed = lies_package lost_place part_fault (λ end content f. ⊥) (λ f. refl) (lies_none lost_place)

module _ {S : Type 0} (r : Rules S) (level : ℕ) (known : S) where
  lies_plain : (o : Opcode) → Lies lost_place (FailsPlain r level known o)
  lies_plain opcodes.DeclareName = lies_declared r level known named.Name
  lies_plain (opcodes.Create w) = lies_declared r level known (named.Create w)
  lies_plain opcodes.CreateField = lies_declared r level known named.CreateField
  lies_plain opcodes.Region = lies_declared r level known named.Region
  lies_plain opcodes.Mutex = lies_declared r level known named.Mutex
  lies_plain opcodes.Event = lies_declared r level known named.Event
  lies_plain opcodes.External = lies_behind lost_place (0x15 ∷ []) FailsExternal lies_external
  lies_plain opcodes.Alias = lies_behind lost_place (0x06 ∷ []) (FailsNamed (FailsPart FailsName)) (lies_named (FailsPart FailsName) (lies_lost FailsName lies_name))
  lies_plain opcodes.DataRegion =
      let ks : List OperandKind = At Value ∷ At Value ∷ At Value ∷ [] in
      lies_behind lost_place (0x5B ∷ 0x88 ∷ []) (FailsNamed (FailsInOrder r level known ks)) (lies_named (FailsInOrder r level known ks) (lies_terms r level known ks))
  lies_plain opcodes.Nothing = λ end bytes f h. lies_here end bytes f.place (ap lost_place h)
  lies_plain _ = λ end bytes f h. lies_at r (suc level) known h.0 end bytes f h.2

  lies_begun : (o : Opcode) → Lies lost_place (FailsBegun r level known o)
  lies_begun o end bytes f (inl (form, is, h)) = lies_behind lost_place (form_bytes form) FailsLength lies_packed end bytes f h
  lies_begun o end bytes f (inr h) = lies_plain o end bytes f h.1

lies_node : {S : Type 0} (r : Rules S) (left : ℕ) (known : S) → Lies lost_place (FailsNode r left known)
lies_node r zero known = lies_level lost_place part_fault (λ f. refl)
lies_node r (suc level) known = lies_by_opcode lost_place part_fault (FailsBegun r level known) (λ f. refl) (lies_begun r level known)

-- ---- in outlines

fields_lie : (es : FieldNodes) (end offset : ℕ) (bytes : List ℕ) → AreFields end offset es bytes → FieldReasonsLie end es
fields_lie no_more_fields end offset bytes h = tt
fields_lie (fields_lost place why) end offset bytes (at, some, bad) = let k = lies_element end bytes why bad in (omega (arith, k.0, at), k.1)
fields_lie (field_node place o e es) end offset bytes h = fields_lie es end _ h.1 h.5

-- the first of what stands for bytes stands where they begin
first_is : {S : Type 0} (r : Rules S) (ns : NodeTrees) (left end : ℕ) (known : S) (bytes : List ℕ) → AreNodes r left end known ns bytes → first_place end ns ≡ end - length bytes
first_is r no_more left end known bytes h = let none : length bytes ≡ 0 = ap length h in omega arith
first_is r (lost place why) left end known bytes h = h.0
first_is r (node place n ns) left end known bytes h = h.4

mutual
  node_lies : {S : Type 0} (r : Rules S) (n : NodeTree) (level place end : ℕ) (known : S) (a : List ℕ) → place + length a ≡ end → IsNode r level place end known n a → ReasonLies place end n
  node_lies r (plain p) level place end known a fits h = tt
  node_lies r (holds f ns) level place end known a fits (x, y, is_fixed, goes, are, packs) =
      let size = pack_longer (form_of f) (x ++ y) a packs in
      nodes_lie r ns level end (r.enter known place f) y (omega (arith, length-append x y)) are
  node_lies r (holds_fields f es) level place end known a fits (x, y, is_fixed, goes, are, packs, has) = fields_lie es end 0 y are
  node_lies r (closed f content) level place end known a fits h = tt
  node_lies r (package_lost form why) level place end known a fits (b, bad, packs) =
      let size = pack_longer form b a packs in
      let k = lies_fixed r level known form end b why bad in
      (omega (arith, k.0), k.1)
  node_lies r (data_lost form why) level place end known a fits (b, packs, bad) =
      let k = lies_at r (suc level) known Statement end a why bad in
      (omega (arith, k.0), k.1)
  node_lies r (name_lost n form why) level place end known a fits (some, is, bad) =
      let k = lies_at r level known Value end is.packed why bad in
      (omega (arith, k.0, ap length is.whole, length-append is.spelled is.packed), k.1)

  nodes_lie : {S : Type 0} (r : Rules S) (ns : NodeTrees) (left end : ℕ) (known : S) (bytes : List ℕ) → length bytes ≤ end → AreNodes r left end known ns bytes → ReasonsLie end ns
  nodes_lie r no_more left end known bytes fits h = tt
  nodes_lie r (lost place why) left end known bytes fits (at, some, bad) = let k = lies_node r left known end bytes why bad in (omega (arith, k.0, at), k.1)
  nodes_lie r (node place n ns) left end known bytes fits (a, b, inside, levels, at, is_node, are, whole) =
      let sizes : length bytes ≡ length a + length b = ap length whole ∙ length-append a b in
      let there = node_lies r n inside place (end - length b) known a (omega arith) is_node in (
        subst (λ e. ReasonLies place e n) (sym (first_is r ns left end (after r place known n) b are)) there,
        nodes_lie r ns left end (after r place known n) b (omega arith) are,
      )

pub reasons_lie : {S : Type 0} (r : Rules S) (known : S) (depth : ℕ) (code : List ℕ) (ns : NodeTrees) → IsOutline r known depth ns code → ReasonsLie (length code) ns
reasons_lie r known depth code ns h = nodes_lie r ns depth (length code) known code (omega arith) h
