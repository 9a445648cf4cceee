-- A term is read exactly where it is spelled, and reading stops exactly where it fails.
use Rattle.std.proofs.Common.{◌≡◌, ◌≢◌, ◌⊎◌, ℕ, zero, suc, ◌-◌, ◌≤◌, ◌<◌, Bool, true, false, cond, eqb, ◌&&◌, List, [], ◌∷◌, ◌++◌, length, Option, Some, None, Result, Ok, Err, refl, sym, ap, subst, ◌∙◌, append_assoc, arith, inl, inr}
use Rattle.std.specs.Prelude.{is_none}
use Rattle.std.proofs.lemmas.Bool.{eqb-true, ltb-true}
use Rattle.acpi_name.specs.Names.{NameParts}
use Rattle.acpi_name.specs.Spelling.{SpellsName}
use Rattle.acpi_name.proofs.NameAgain.{and_true}
use Rattle.acpi_tree.specs.declared.op.Op.{Op}
use Rattle.acpi_tree.specs.declared.op.Op.TheVariants as ops
use Rattle.acpi_tree.specs.declared.place.Place.{Place}
use Rattle.acpi_tree.specs.declared.place.Place.TheVariants.{Value, SuperName, SimpleName, Element, Data, Statement}
use Rattle.acpi_tree.specs.declared.place.Place.TheVariants as places
use Rattle.acpi_tree.specs.declared.place.OperandKind.{OperandKind}
use Rattle.acpi_tree.specs.declared.place.OperandKind.TheVariants.{At, Target, Byte, Word, DWord}
use Rattle.acpi_tree.specs.Terms.{TermTree, int, buffer, pkg, var_pkg, local, arg, debug, no_target, raw, call, no_terms, terms_of}
use Rattle.acpi_tree.specs.Operators.{operands_of}
use Rattle.acpi_tree.specs.Places.{is_target, is_super_name}
use Rattle.acpi_code.specs.declared.fault.CodeFault.{CodeFault}
use Rattle.acpi_code.specs.declared.opcode.ConstantForm.{ConstantForm}
use Rattle.acpi_code.specs.declared.opcode.Opcode.{Opcode}
use Rattle.acpi_code.specs.declared.opcode.Opcode.TheVariants as opcodes
use Rattle.acpi_code.specs.Opcodes.{operator_bytes, opcode_bytes}
use Rattle.acpi_code.specs.Faults.{Failure, FailsAs, FailsBehind, FailsInTurn, FailsNumber, FailsName, FailsText, FailsUnless, FailsPackage}
use Rattle.acpi_code.specs.Spelling.{SpellsByte, SpellsNumber, SpellsInt, SpellsTermName, SpellsText, SpellsEach, Packs}
use Rattle.acpi_code.specs.steps.Reading.{Reading, Package, byte_at, number_at, name_in, each_at, opcode_at, constant_at, string_at}
use Rattle.acpi_code.proofs.Readings.{Judge, judge_bind, judge_into, judge_if, Front}
use Rattle.acpi_code.proofs.Constants.{form_of}
use Rattle.acpi_code.proofs.Lists.{fails_on, reads_on}
use Rattle.acpi_code.proofs.Opcodes.{Opened}
use Rattle.acpi_code.proofs.Packages.{PackageFront}
use Rattle.acpi_code.proofs.Exact.{Exact, exact_as, as_judged, as_stops, turn_judged, turn_stops, each_judged, each_stops, package_judged, package_stops, by_opcode_judged, by_opcode_stops, fails_behind}
use Rattle.acpi_values.specs.declared.fault.BodyFault.{BodyFault}
use Rattle.acpi_values.specs.declared.fault.BodyReason.{BodyReason}
use Rattle.acpi_values.specs.declared.fault.BodyReason.TheVariants.{Unsure}
use Rattle.acpi_values.specs.Grammars.{Grammar, is_allowed}
use Rattle.acpi_values.specs.Refusals.{refusal_at}
use Rattle.acpi_values.specs.Spelling.{Stands, StandsFor, values, Spells, AreElements, height, heights}
use Rattle.acpi_values.specs.Faults.{fault_of, body_fault, IsTermAt, IsOperand, AreOperandsIn, FailsOperand, FailsInOrder, FailsElements, FailsForm, FailsTerm}
use Rattle.acpi_values.specs.steps.Reading.{Reader, part, as_raw, target_at, operand_at, operands_at, constant_form, string_form, buffer_form, package_form, var_package_form, calls, call_by, named_by, name_form, operator_form, form_by, unless, placed_by, term_at}
use Rattle.acpi_values.proofs.Allowed.{lead_of, Suits, stands, allowed_at, operator_allowed}
use Rattle.acpi_values.proofs.TermComplete.{listed, spelled_long, term_complete, operands_complete, operand_complete}
use Rattle.acpi_code.proofs.ExactParts.{exact_byte, exact_number, exact_name, exact_text, term_name_judged, whole_judged, whole_stops}

-- ---- places and opcodes

abbrev pub is_inner : Place → Bool
is_inner Statement = false
is_inner _ = true

-- what begins no term but where a statement stands
abbrev pub is_block : Opcode → Bool
is_block (opcodes.Constant form) = false
is_block opcodes.Str = false
is_block opcodes.Buffer = false
is_block opcodes.Package = false
is_block opcodes.VarPackage = false
is_block opcodes.Name = false
is_block (opcodes.Local n) = false
is_block (opcodes.Arg n) = false
is_block opcodes.Debug = false
is_block (opcodes.Operator op) = false
is_block _ = true

-- none of it may stand inside a term
inner_clear : (loads : Bool) (p : Place) (o : Opcode) → is_inner p ≡ true → (is_block o && is_none (refusal_at loads p o)) ≡ false
inner_clear loads Value opcodes.Str h = refl
inner_clear loads Value _ h = refl
inner_clear loads SuperName opcodes.Str h = refl
inner_clear loads SuperName _ h = refl
inner_clear loads SimpleName opcodes.Str h = refl
inner_clear loads SimpleName _ h = refl
inner_clear loads Element opcodes.Str h = refl
inner_clear loads Element _ h = refl
inner_clear loads Data opcodes.Str h = refl
inner_clear loads Data _ h = refl
inner_clear loads Statement o h = absurd cc
inner_clear loads places.Source opcodes.Str h = refl
inner_clear loads places.Source _ h = refl

abbrev pub is_inner_kind : OperandKind → Bool
is_inner_kind (At p) = is_inner p
is_inner_kind _ = true

abbrev pub are_inner : List OperandKind → Bool
are_inner [] = true
are_inner (k ∷ ks) = is_inner_kind k && are_inner ks

operator_inner : (op : Op) → are_inner (operands_of op) ≡ true
operator_inner ops.Store = refl
operator_inner _ = refl

values_inner : (n : ℕ) → are_inner (values n) ≡ true
values_inner zero = refl
values_inner (suc n) = values_inner n

-- ---- what was read

-- a spelling of what may stand at a place has a byte or more
pub term_long : (g : Grammar) (level : ℕ) (p : Place) (t : TermTree) (a : List ℕ) → IsTermAt g level p t a → 0 < length a
term_long g level p t a h = spelled_long g p t a (allowed_at g p t a h.0 h.1).suits h.1

-- a term whose opcode was read, `level` levels being left inside it
pub record Formed (g : Grammar) (level : ℕ) (p : Place) (o : Opcode) (t : TermTree) (bytes : List ℕ) : Type 0 where
  pub leads : refusal_at g.loads p (lead_of t) ≡ refusal_at g.loads p o
  pub suits : Suits p t
  pub spells : Spells g t bytes
  pub within : height t ≤ suc level

-- what follows opcode and bytes
pub judged_behind : {A : Type 0} (op : List ℕ) (Fails : Failure BodyFault) (Good : A → Type 0) (end : ℕ) (bytes rest : List ℕ) (r : Result A BodyFault)
    → bytes ≡ op ++ rest → Judge Good (Fails end rest) r → Judge Good (FailsBehind op Fails end bytes) r
judged_behind op Fails Good end bytes rest (Ok x) is h = h
judged_behind op Fails Good end bytes rest (Err f) is h = (rest, is, h)

-- what fills a package behind an opcode
packed : (end : ℕ) (Spelled : TermTree → List ℕ → Type 0) (op bytes rest : List ℕ) (p : Package) (t : TermTree) → bytes ≡ op ++ rest
    → PackageFront end rest p → ((front : List ℕ) → Packs op p.content front → Spelled t front) → Front Spelled bytes (t, p.rest)
packed end Spelled op bytes rest p t is k spells =
    let front = op ++ (k.len ++ p.content) in
    record {
      front = front;
      spells = spells front (record { len = k.len; spells_len = k.spells_len; whole = refl });
      whole = is ∙ ap (λ (l : List ℕ). op ++ l) (k.whole ∙ sym (append_assoc k.len p.content p.rest)) ∙ sym (append_assoc op (k.len ++ p.content) p.rest);
    }

abbrev known : ℕ → Option ℕ
known count = Some count

known_is : (a b : ℕ) → known a ≡ known b → a ≡ b
known_is a b e = cc

none_known : (a : ℕ) → None ≡ known a → ⊥
none_known a e = cc

calls_stand : (p : Place) (n : NameParts) → calls p ≡ true → Stands p (call n no_terms)
calls_stand Value n h = refl
calls_stand Statement n h = refl
calls_stand _ n h = absurd cc

stand_calls : (p : Place) (n : NameParts) → Stands p (call n no_terms) → calls p ≡ true
stand_calls Value n h = refl
stand_calls Statement n h = refl
stand_calls _ n h = absurd cc

super_target : (t : TermTree) → is_super_name t ≡ true → is_target t ≡ true
super_target no_target h = refl
super_target (int j) h = h
super_target _ h = h

listed_terms : (ts : List TermTree) → listed (terms_of ts) ≡ ts
listed_terms [] = refl
listed_terms (t ∷ ts) = ap (λ us. t ∷ us) (listed_terms ts)

pub name_read : Exact SpellsName (FailsAs fault_of FailsName) (λ end bytes. part (name_in end bytes))
name_read = exact_as SpellsName FailsName name_in fault_of exact_name

-- the bytes of an opcode and what is behind them
pub opening : (o : Opcode) (bytes front rest : List ℕ) → bytes ≡ front ++ rest → front ≡ opcode_bytes o → bytes ≡ opcode_bytes o ++ rest
opening o bytes front rest is e = is ∙ ap (λ (l : List ℕ). l ++ rest) e

and_none : (b : Bool) (w : Option BodyReason) → w ≡ None → (b && is_none w) ≡ false → b ≡ false
and_none true None e h = absurd cc
and_none true (Some why) e h = absurd cc
and_none false w e h = refl

-- a reader of terms with so many levels, where it stands in another term
abbrev pub Reads : Grammar → ℕ → Type 0
Reads g level = (p : Place) → is_inner p ≡ true → Exact (IsTermAt g level p) (FailsTerm g level p) (term_at g level p)

module _ (g : Grammar) (level : ℕ) (i : Reads g level) where
  abbrev Term : Place → Failure BodyFault
  Term = FailsTerm g level

  abbrev inner : Reader
  inner = term_at g level

  -- ---- operands

  raw_judged : (k end : ℕ) (kind : OperandKind) (Spelled : ℕ → List ℕ → Type 0) (read : ℕ → List ℕ → Reading CodeFault ℕ) (bytes : List ℕ)
      → ((n : ℕ) → StandsFor kind (raw k n)) → ((n : ℕ) (a : List ℕ) → Spelled n a → SpellsNumber k n a) → Exact Spelled (FailsNumber k) read
      → Judge (Front (IsOperand g level kind) bytes) (FailsAs fault_of (FailsNumber k) end bytes) (as_raw k (read end bytes))
  raw_judged k end kind Spelled read bytes stands spells e =
      judge_bind (Front Spelled bytes) (Front (IsOperand g level kind) bytes) (FailsAs fault_of (FailsNumber k) end bytes) (part (read end bytes)) _
      (as_judged (Front Spelled bytes) (FailsNumber k) fault_of end bytes (read end bytes) (e.judged end bytes))
      (λ x t. record { front = t.front; spells = (stands x.0, spells x.0 t.front t.spells, omega arith); whole = t.whole })

  raw_stops : (k end : ℕ) (Spelled : ℕ → List ℕ → Type 0) (read : ℕ → List ℕ → Reading CodeFault ℕ) (bytes : List ℕ) (f : BodyFault) → Exact Spelled (FailsNumber k) read
      → FailsAs fault_of (FailsNumber k) end bytes f → as_raw k (read end bytes) ≡ Err f
  raw_stops k end Spelled read bytes f e h = fails_on f (part (read end bytes)) _ (as_stops (FailsNumber k) fault_of end bytes (read end bytes) f (e.stops end bytes) h)

  as_target : (end : ℕ) (bytes : List ℕ) (r : Reading BodyFault TermTree) → ((rest : List ℕ) → bytes ≢ 0x00 ∷ rest)
      → Judge (Front (IsTermAt g level SuperName) bytes) (Term SuperName end bytes) r
      → Judge (Front (IsOperand g level Target) bytes) (FailsOperand Term Target end bytes) r
  as_target end bytes r other h =
      judge_into (Front (IsTermAt g level SuperName) bytes) (Front (IsOperand g level Target) bytes) (Term SuperName end bytes) (FailsOperand Term Target end bytes) r
      (λ x t. record { front = t.front; spells = (super_target x.0 t.spells.0, t.spells.1, t.spells.2); whole = t.whole }) (λ f b. (other, b)) h

  none_there : (rest : List ℕ) → [] ≢ 0 ∷ rest
  none_there rest e = cc

  not_there : (b : ℕ) (rest more : List ℕ) → eqb b 0 ≡ false → b ∷ rest ≢ 0 ∷ more
  not_there b rest more other e = let is : b ≡ 0 = cc in let zero : eqb b 0 ≡ true = rw is refl in cc

  target_judged : (end : ℕ) (bytes : List ℕ) → Judge (Front (IsOperand g level Target) bytes) (FailsOperand Term Target end bytes) (target_at inner end bytes)
  target_judged end [] = as_target end [] (inner SuperName end []) none_there ((i SuperName refl).judged end [])
  target_judged end (b ∷ rest) =
      judge_if (Front (IsOperand g level Target) (b ∷ rest)) (FailsOperand Term Target end (b ∷ rest)) (eqb b 0) (Ok (no_target, rest)) (inner SuperName end (b ∷ rest))
      (λ zero. record { front = b ∷ []; spells = (refl, ap (λ k. k ∷ []) (eqb-true b 0 zero), omega arith); whole = refl })
      (λ other. as_target end (b ∷ rest) (inner SuperName end (b ∷ rest)) (λ more. not_there b rest more other) ((i SuperName refl).judged end (b ∷ rest)))

  target_stops : (end : ℕ) (bytes : List ℕ) (f : BodyFault) → FailsOperand Term Target end bytes f → target_at inner end bytes ≡ Err f
  target_stops end [] f h = (i SuperName refl).stops end [] f h.1
  target_stops end (b ∷ rest) f h = by_test (eqb b 0) refl
    where
      by_test : (t : Bool) → eqb b 0 ≡ t → cond t (Ok (no_target, rest)) (inner SuperName end (b ∷ rest)) ≡ Err f
      by_test true e = absurd (h.0 rest (ap (λ k. k ∷ rest) (eqb-true b 0 e)))
      by_test false e = (i SuperName refl).stops end (b ∷ rest) f h.1

  byte_is : (n : ℕ) (a : List ℕ) → SpellsByte n a → SpellsNumber 1 n a
  byte_is n a h = rw h (refl, omega arith)

  operand_judged : (k : OperandKind) (end : ℕ) (bytes : List ℕ) → is_inner_kind k ≡ true
      → Judge (Front (IsOperand g level k) bytes) (FailsOperand Term k end bytes) (operand_at inner k end bytes)
  unfolding operand_at
  operand_judged (At p) end bytes ok = (i p ok).judged end bytes
  operand_judged Target end bytes ok = target_judged end bytes
  operand_judged Byte end bytes ok = raw_judged 1 end Byte SpellsByte byte_at bytes (λ n. refl) byte_is exact_byte
  operand_judged Word end bytes ok = raw_judged 2 end Word (SpellsNumber 2) (number_at 2) bytes (λ n. refl) (λ n a k. k) (exact_number 2)
  operand_judged DWord end bytes ok = raw_judged 4 end DWord (SpellsNumber 4) (number_at 4) bytes (λ n. refl) (λ n a k. k) (exact_number 4)

  operand_stops : (k : OperandKind) (end : ℕ) (bytes : List ℕ) (f : BodyFault) → is_inner_kind k ≡ true → FailsOperand Term k end bytes f → operand_at inner k end bytes ≡ Err f
  unfolding operand_at
  operand_stops (At p) end bytes f ok h = (i p ok).stops end bytes f h
  operand_stops Target end bytes f ok h = target_stops end bytes f h
  operand_stops Byte end bytes f ok h = raw_stops 1 end SpellsByte byte_at bytes f exact_byte h
  operand_stops Word end bytes f ok h = raw_stops 2 end (SpellsNumber 2) (number_at 2) bytes f (exact_number 2) h
  operand_stops DWord end bytes f ok h = raw_stops 4 end (SpellsNumber 4) (number_at 4) bytes f (exact_number 4) h

  exact_operand : (k : OperandKind) → is_inner_kind k ≡ true → Exact (IsOperand g level k) (FailsOperand Term k) (operand_at inner k)
  exact_operand k ok = record {
    found = λ end t a rest h. operand_complete g level end k t a rest (λ p st. term_complete g t level p end a rest st h.1 h.2) h.0 h.1;
    judged = λ end bytes. operand_judged k end bytes ok;
    stops = λ end bytes f h. operand_stops k end bytes f ok h;
  }

  operands_judged : (ks : List OperandKind) (end : ℕ) (bytes : List ℕ) → are_inner ks ≡ true
      → Judge (Front (AreOperandsIn g level ks) bytes) (FailsInOrder g level Term ks end bytes) (operands_at inner ks end bytes)
  unfolding operands_at
  operands_judged [] end bytes ok = record { front = []; spells = (refl, omega arith); whole = refl }
  operands_judged (k ∷ ks) end bytes ok =
      let oks = and_true (is_inner_kind k) (are_inner ks) ok in
      let Good = Front (AreOperandsIn g level (k ∷ ks)) bytes in
      turn_judged (IsOperand g level k) (FailsOperand Term k) (λ t. FailsInOrder g level Term ks) (operand_at inner k) Good end bytes _ (exact_operand k oks.0) (λ v t.
      judge_bind (Front (AreOperandsIn g level ks) v.1) Good (FailsInOrder g level Term ks end v.1) (operands_at inner ks end v.1) _ (operands_judged ks end v.1 oks.1) (λ vs u. record {
        front = t.front ++ u.front;
        spells = ((t.front, u.front, t.spells.0, t.spells.1, u.spells.0, refl), omega (arith, t.spells.2, u.spells.1));
        whole = t.whole ∙ ap (λ (l : List ℕ). t.front ++ l) u.whole ∙ sym (append_assoc t.front u.front vs.1);
      }))

  operands_stop : (ks : List OperandKind) (end : ℕ) (bytes : List ℕ) (f : BodyFault) → are_inner ks ≡ true → FailsInOrder g level Term ks end bytes f → operands_at inner ks end bytes ≡ Err f
  unfolding operands_at
  operands_stop [] end bytes f ok h = absurd h
  operands_stop (k ∷ ks) end bytes f ok h =
      let oks = and_true (is_inner_kind k) (are_inner ks) ok in
      turn_stops (IsOperand g level k) (FailsOperand Term k) (λ t. FailsInOrder g level Term ks) (operand_at inner k) end bytes _ f (exact_operand k oks.0)
      (λ t b more. fails_on f (operands_at inner ks end b) _ (operands_stop ks end b f oks.1 more)) h

  pub exact_operands : (ks : List OperandKind) → are_inner ks ≡ true → Exact (AreOperandsIn g level ks) (FailsInOrder g level Term ks) (operands_at inner ks)
  exact_operands ks ok = record {
    found = λ end ts a rest h. operands_complete g ks (terms_of ts) level end a rest h.0 h.1 ∙ ap (λ us. Ok (us, rest)) (listed_terms ts);
    judged = λ end bytes. operands_judged ks end bytes ok;
    stops = λ end bytes f h. operands_stop ks end bytes f ok h;
  }

  -- ---- elements

  abbrev AreWithin : List ℕ → List TermTree → Type 0
  AreWithin bytes es = AreElements g (terms_of es) bytes × (heights (terms_of es) ≤ level)

  elements_are : (es : List TermTree) (bytes : List ℕ) → SpellsEach (IsTermAt g level Element) es bytes → AreWithin bytes es
  elements_are [] bytes h = (h, omega arith)
  elements_are (e ∷ es) bytes h =
      let rest = elements_are es h.1 h.3 in
      ((h.0, h.1, h.2.0, h.2.1, rest.0, h.4), omega (arith, h.2.2, rest.1))

  elements_judged : (end : ℕ) (bytes : List ℕ) → Judge (AreWithin bytes) (FailsElements g level Term end bytes) (each_at (inner Element end) bytes)
  elements_judged end bytes =
      judge_into (λ es. SpellsEach (IsTermAt g level Element) es bytes) (AreWithin bytes) (FailsElements g level Term end bytes) (FailsElements g level Term end bytes)
      (each_at (inner Element end) bytes) (λ es k. elements_are es bytes k) (λ f b. b)
      (each_judged (IsTermAt g level Element) (Term Element) (inner Element) (i Element refl) (term_long g level Element) end (length bytes) bytes (omega arith))

  elements_stop : (end : ℕ) (bytes : List ℕ) (f : BodyFault) → FailsElements g level Term end bytes f → each_at (inner Element end) bytes ≡ Err f
  elements_stop end bytes f h = each_stops (IsTermAt g level Element) (Term Element) (inner Element) (i Element refl) (term_long g level Element) end bytes f h

  -- ---- forms

  abbrev Form : Place → Opcode → ℕ → List ℕ → Reading BodyFault TermTree → Type 0
  Form p o end bytes r = Judge (Front (Formed g level p o) bytes) (FailsForm g level Term p o end bytes) r

  buffer_judged : (p : Place) (end : ℕ) (bytes rest : List ℕ) → bytes ≡ 0x11 ∷ rest → Form p opcodes.Buffer end bytes (buffer_form inner end rest)
  unfolding buffer_form
  buffer_judged p end bytes rest is =
      let Good = Front (Formed g level p opcodes.Buffer) bytes in
      judged_behind (0x11 ∷ []) (FailsPackage fault_of (Term Value)) Good end bytes rest (buffer_form inner end rest) is
      (package_judged fault_of (Term Value) Good end rest _ (λ k w.
      judge_bind (Front (IsTermAt g level Value) k.content) Good (Term Value k.end k.content) (inner Value k.end k.content) _ ((i Value refl).judged k.end k.content) (λ size v.
      packed end (Formed g level p opcodes.Buffer) (0x11 ∷ []) bytes rest k (buffer size.0 size.1) is w
      (λ front packs. record {
        leads = refl;
        suits = tt;
        spells = (v.front, v.spells.0, v.spells.1, subst (λ content. Packs (0x11 ∷ []) content front) v.whole packs);
        within = omega (arith, v.spells.2);
      }))))

  buffer_stops : (end : ℕ) (rest : List ℕ) (f : BodyFault) → FailsPackage fault_of (Term Value) end rest f → buffer_form inner end rest ≡ Err f
  unfolding buffer_form
  buffer_stops end rest f h =
      package_stops fault_of (Term Value) end rest _ f (λ k more. fails_on f (inner Value k.end k.content) _ ((i Value refl).stops k.end k.content f more)) h

  -- what a package holds behind its count
  abbrev Counted : Failure BodyFault
  Counted = FailsInTurn (FailsAs fault_of (FailsNumber 1)) SpellsByte (λ n. FailsElements g level Term)

  byte_read : Exact SpellsByte (FailsAs fault_of (FailsNumber 1)) (λ end bytes. part (byte_at end bytes))
  byte_read = exact_as SpellsByte (FailsNumber 1) byte_at fault_of exact_byte

  package_form_judged : (p : Place) (end : ℕ) (bytes rest : List ℕ) → bytes ≡ 0x12 ∷ rest → Form p opcodes.Package end bytes (package_form inner end rest)
  unfolding package_form
  package_form_judged p end bytes rest is =
      let Good = Front (Formed g level p opcodes.Package) bytes in
      judged_behind (0x12 ∷ []) (FailsPackage fault_of Counted) Good end bytes rest (package_form inner end rest) is
      (package_judged fault_of Counted Good end rest _ (λ k w.
      turn_judged SpellsByte (FailsAs fault_of (FailsNumber 1)) (λ n. FailsElements g level Term) (λ end bytes. part (byte_at end bytes)) Good k.end k.content _ byte_read (λ count c.
      judge_bind (AreWithin count.1) Good (FailsElements g level Term k.end count.1) (each_at (inner Element k.end) count.1) _ (elements_judged k.end count.1) (λ es e.
      let content : k.content ≡ count.0 ∷ count.1 = c.whole ∙ ap (λ (a : List ℕ). a ++ count.1) c.spells in
      packed end (Formed g level p opcodes.Package) (0x12 ∷ []) bytes rest k (pkg count.0 (terms_of es)) is w
      (λ front packs. record { leads = refl; suits = tt; spells = (count.1, e.0, subst (λ content. Packs (0x12 ∷ []) content front) content packs); within = omega (arith, e.1) })))))

  package_form_stops : (end : ℕ) (rest : List ℕ) (f : BodyFault) → FailsPackage fault_of Counted end rest f → package_form inner end rest ≡ Err f
  unfolding package_form
  package_form_stops end rest f h =
      package_stops fault_of Counted end rest _ f (λ k more.
      turn_stops SpellsByte (FailsAs fault_of (FailsNumber 1)) (λ n. FailsElements g level Term) (λ end bytes. part (byte_at end bytes)) k.end k.content _ f byte_read
      (λ n b m. fails_on f (each_at (inner Element k.end) b) _ (elements_stop k.end b f m)) more) h

  abbrev CountedByTerm : Failure BodyFault
  CountedByTerm = FailsInTurn (Term Value) (IsTermAt g level Value) (λ t. FailsElements g level Term)

  var_package_form_judged : (p : Place) (end : ℕ) (bytes rest : List ℕ) → bytes ≡ 0x13 ∷ rest → Form p opcodes.VarPackage end bytes (var_package_form inner end rest)
  unfolding var_package_form
  var_package_form_judged p end bytes rest is =
      let Good = Front (Formed g level p opcodes.VarPackage) bytes in
      judged_behind (0x13 ∷ []) (FailsPackage fault_of CountedByTerm) Good end bytes rest (var_package_form inner end rest) is
      (package_judged fault_of CountedByTerm Good end rest _ (λ k w.
      turn_judged (IsTermAt g level Value) (Term Value) (λ t. FailsElements g level Term) (inner Value) Good k.end k.content _ (i Value refl) (λ count c.
      judge_bind (AreWithin count.1) Good (FailsElements g level Term k.end count.1) (each_at (inner Element k.end) count.1) _ (elements_judged k.end count.1) (λ es e.
      packed end (Formed g level p opcodes.VarPackage) (0x13 ∷ []) bytes rest k (var_pkg count.0 (terms_of es)) is w
      (λ front packs. record {
        leads = refl;
        suits = tt;
        spells = (c.front, count.1, c.spells.0, c.spells.1, e.0, subst (λ content. Packs (0x13 ∷ []) content front) c.whole packs);
        within = omega (arith, e.1, c.spells.2);
      })))))

  var_package_form_stops : (end : ℕ) (rest : List ℕ) (f : BodyFault) → FailsPackage fault_of CountedByTerm end rest f → var_package_form inner end rest ≡ Err f
  unfolding var_package_form
  var_package_form_stops end rest f h =
      package_stops fault_of CountedByTerm end rest _ f (λ k more.
      turn_stops (IsTermAt g level Value) (Term Value) (λ t. FailsElements g level Term) (inner Value) k.end k.content _ f (i Value refl)
      (λ t b m. fails_on f (each_at (inner Element k.end) b) _ (elements_stop k.end b f m)) more) h

  string_form_judged : (p : Place) (end : ℕ) (bytes rest : List ℕ) → bytes ≡ 0x0D ∷ rest → Form p opcodes.Str end bytes (string_form end rest)
  unfolding string_form
  string_form_judged p end bytes rest is =
      let Good = Front (Formed g level p opcodes.Str) bytes in
      judged_behind (0x0D ∷ []) (FailsAs fault_of FailsText) Good end bytes rest (string_form end rest) is
      (judge_bind (Front SpellsText rest) Good (FailsAs fault_of FailsText end rest) (part (string_at end rest)) _
      (as_judged (Front SpellsText rest) FailsText fault_of end rest (string_at end rest) (exact_text.judged end rest)) (λ x t. record {
        front = 0x0D ∷ t.front;
        spells = record { leads = refl; suits = tt; spells = (t.front, t.spells, refl); within = omega arith };
        whole = is ∙ ap (λ (r : List ℕ). 0x0D ∷ r) t.whole;
      }))

  string_form_stops : (end : ℕ) (rest : List ℕ) (f : BodyFault) → FailsAs fault_of FailsText end rest f → string_form end rest ≡ Err f
  unfolding string_form
  string_form_stops end rest f h = fails_on f (part (string_at end rest)) _ (as_stops FailsText fault_of end rest (string_at end rest) f (exact_text.stops end rest) h)

  operator_form_judged : (p : Place) (op : Op) (end : ℕ) (bytes rest : List ℕ) → is_allowed g.loads op ≡ true → bytes ≡ operator_bytes op ++ rest
      → Form p (opcodes.Operator op) end bytes (operator_form inner op end rest)
  unfolding operator_form
  operator_form_judged p op end bytes rest allowed is =
      let Good = Front (Formed g level p (opcodes.Operator op)) bytes in
      judged_behind (operator_bytes op) (FailsInOrder g level Term (operands_of op)) Good end bytes rest (operator_form inner op end rest) is
      (judge_bind (Front (AreOperandsIn g level (operands_of op)) rest) Good (FailsInOrder g level Term (operands_of op) end rest) (operands_at inner (operands_of op) end rest) _
      (operands_judged (operands_of op) end rest (operator_inner op)) (λ vs o. record {
        front = operator_bytes op ++ o.front;
        spells = record { leads = refl; suits = tt; spells = (o.front, allowed, o.spells.0, refl); within = omega (arith, o.spells.1) };
        whole = is ∙ ap (λ (l : List ℕ). operator_bytes op ++ l) o.whole ∙ sym (append_assoc (operator_bytes op) o.front vs.1);
      }))

  operator_form_stops : (op : Op) (end : ℕ) (rest : List ℕ) (f : BodyFault) → FailsInOrder g level Term (operands_of op) end rest f → operator_form inner op end rest ≡ Err f
  unfolding operator_form
  operator_form_stops op end rest f h = fails_on f (operands_at inner (operands_of op) end rest) _ (operands_stop (operands_of op) end rest f (operator_inner op) h)

  same_refusal : (p : Place) (f h : ConstantForm) → refusal_at g.loads p (opcodes.Constant f) ≡ refusal_at g.loads p (opcodes.Constant h)
  same_refusal Value f h = refl
  same_refusal SuperName f h = refl
  same_refusal SimpleName f h = refl
  same_refusal Element f h = refl
  same_refusal Data f h = refl
  same_refusal Statement f h = refl
  same_refusal places.Source f h = refl

  constant_form_judged : (p : Place) (form : ConstantForm) (end : ℕ) (bytes rest : List ℕ) → Opened bytes (opcodes.Constant form, rest)
      → Form p (opcodes.Constant form) end bytes (constant_form form end rest)
  unfolding constant_form
  constant_form_judged p form end bytes rest o =
      let Good = Front (Formed g level p (opcodes.Constant form)) bytes in
      let Bad = FailsForm g level Term p (opcodes.Constant form) end bytes in
      judge_bind (Front SpellsInt bytes) Good Bad (part (constant_at form end rest)) _ (whole_judged fault_of form end bytes rest o) (λ x t. record {
        front = t.front;
        spells = record { leads = same_refusal p (form_of x.0) form; suits = tt; spells = t.spells; within = omega arith };
        whole = t.whole;
      })

  constant_form_stops : (p : Place) (form : ConstantForm) (end : ℕ) (bytes rest : List ℕ) (f : BodyFault) → opcode_at end bytes ≡ Ok (opcodes.Constant form, rest)
      → FailsForm g level Term p (opcodes.Constant form) end bytes f → constant_form form end rest ≡ Err f
  unfolding constant_form
  constant_form_stops p form end bytes rest f read h = fails_on f (part (constant_at form end rest)) _ (whole_stops fault_of form end bytes rest f read h)

  -- a name, with what follows it
  abbrev NameGood : Place → List ℕ → TermTree × List ℕ → Type 0
  NameGood p bytes = Front (Formed g level p opcodes.Name) bytes

  abbrev NameBad : Place → ℕ → List ℕ → BodyFault → Type 0
  NameBad p end bytes = FailsForm g level Term p opcodes.Name end bytes

  name_form_judged : (p : Place) (end : ℕ) (bytes rest : List ℕ) → Opened bytes (opcodes.Name, rest) → Form p opcodes.Name end bytes (name_form g.args inner p end bytes)
  unfolding name_form
  name_form_judged p end bytes rest o =
      judge_bind (Front SpellsTermName bytes) (NameGood p bytes) (NameBad p end bytes) (part (name_in end bytes)) _
      (judge_into (Front SpellsTermName bytes) (Front SpellsTermName bytes) (FailsAs fault_of FailsName end bytes) (NameBad p end bytes) (part (name_in end bytes)) (λ x t. t) (λ f h. inl h)
      (as_judged (Front SpellsTermName bytes) FailsName fault_of end bytes (name_in end bytes) (term_name_judged end bytes rest o)))
      (λ n t. by_place (calls p) refl n t)
    where
      by_count : calls p ≡ true → (n : NameParts × List ℕ) → Front SpellsTermName bytes n → (c : Option ℕ) → g.args n.0 ≡ c → Judge (NameGood p bytes) (NameBad p end bytes) (call_by inner end bytes n c)
      by_count is n t None unsure = inr (n.0, calls_stand p n.0 is, (t.front, n.1, t.spells.0, t.whole, inl (unsure, refl)))
      by_count is n t (Some count) sure =
          judge_bind (Front (AreOperandsIn g level (values count)) n.1) (NameGood p bytes) (NameBad p end bytes) (operands_at inner (values count) end n.1) _
          (judge_into (Front (AreOperandsIn g level (values count)) n.1) (Front (AreOperandsIn g level (values count)) n.1) (FailsInOrder g level Term (values count) end n.1) (NameBad p end bytes)
          (operands_at inner (values count) end n.1) (λ x u. u) (λ f h. inr (n.0, calls_stand p n.0 is, (t.front, n.1, t.spells.0, t.whole, inr (count, sure, h))))
          (operands_judged (values count) end n.1 (values_inner count)))
          (λ vs u. record {
            front = t.front ++ u.front;
            spells = record { leads = refl; suits = is; spells = (count, t.front, u.front, sure, t.spells, u.spells.0, refl); within = omega (arith, u.spells.1) };
            whole = t.whole ∙ ap (λ (l : List ℕ). t.front ++ l) u.whole ∙ sym (append_assoc t.front u.front vs.1);
          })

      by_place : (c : Bool) → calls p ≡ c → (n : NameParts × List ℕ) → Front SpellsTermName bytes n → Judge (NameGood p bytes) (NameBad p end bytes) (named_by g.args inner end bytes c n)
      by_place true is n t = by_count is n t (g.args n.0) refl
      by_place false is n t = record { front = t.front; spells = record { leads = refl; suits = is; spells = t.spells; within = omega arith }; whole = t.whole }

  call_stops : (n : NameParts) (end : ℕ) (bytes b : List ℕ) (f : BodyFault) (c : Option ℕ) → g.args n ≡ c
      → ((g.args n ≡ None) × (f ≡ body_fault Unsure (end - length bytes))) ⊎ ((count : ℕ) × (g.args n ≡ Some count) × FailsInOrder g level Term (values count) end b f)
      → call_by inner end bytes (n, b) c ≡ Err f
  call_stops n end bytes b f None is (inl h) = ap Err (sym h.1)
  call_stops n end bytes b f None is (inr h) = absurd (none_known h.0 (sym is ∙ h.1))
  call_stops n end bytes b f (Some count) is (inl h) = absurd (none_known count (sym h.0 ∙ is))
  call_stops n end bytes b f (Some count) is (inr h) =
      let same = known_is h.0 count (sym h.1 ∙ is) in
      fails_on f (operands_at inner (values count) end b) _ (operands_stop (values count) end b f (values_inner count) (subst (λ k. FailsInOrder g level Term (values k) end b f) same h.2))

  name_form_stops : (p : Place) (end : ℕ) (bytes : List ℕ) (f : BodyFault) → FailsForm g level Term p opcodes.Name end bytes f → name_form g.args inner p end bytes ≡ Err f
  unfolding name_form
  name_form_stops p end bytes f (inl h) = fails_on f (part (name_in end bytes)) _ (name_read.stops end bytes f h)
  name_form_stops p end bytes f (inr (n, st, (a, b, spells, whole, h))) =
      let read : part (name_in end bytes) ≡ Ok (n, b) = ap (λ (l : List ℕ). part (name_in end l)) whole ∙ name_read.found end n a b spells in
      reads_on (part (name_in end bytes)) (n, b) _ read
      ∙ ap (λ c. named_by g.args inner end bytes c (n, b)) (stand_calls p n st)
      ∙ call_stops n end bytes b f (g.args n) refl h

  -- ---- what begins there

  one_byte : (end : ℕ) (p : Place) (bytes rest : List ℕ) (x : Opcode) (t : TermTree) → (o : Opened bytes (x, rest)) → refusal_at g.loads p (lead_of t) ≡ refusal_at g.loads p x → Suits p t
      → Spells g t o.front → height t ≤ suc level → Form p x end bytes (Ok (t, rest))
  one_byte end p bytes rest x t o leads suits spells le = record { front = o.front; spells = record { leads = leads; suits = suits; spells = spells; within = le }; whole = o.whole }

  form_judged : (p : Place) (end : ℕ) (bytes rest : List ℕ) (x : Opcode) → is_block x ≡ false → refusal_at g.loads p x ≡ None → Opened bytes (x, rest)
      → Form p x end bytes (form_by g inner p end bytes x rest)
  unfolding form_by
  form_judged p end bytes rest (opcodes.Constant form) c a o = constant_form_judged p form end bytes rest o
  form_judged p end bytes rest opcodes.Str c a o = string_form_judged p end bytes rest (opening opcodes.Str bytes o.front rest o.whole o.told.1)
  form_judged p end bytes rest opcodes.Buffer c a o = buffer_judged p end bytes rest (opening opcodes.Buffer bytes o.front rest o.whole o.told.1)
  form_judged p end bytes rest opcodes.Package c a o = package_form_judged p end bytes rest (opening opcodes.Package bytes o.front rest o.whole o.told.1)
  form_judged p end bytes rest opcodes.VarPackage c a o = var_package_form_judged p end bytes rest (opening opcodes.VarPackage bytes o.front rest o.whole o.told.1)
  form_judged p end bytes rest (opcodes.Local n) c a o = let few : n < 8 = ltb-true n 8 o.told.0 in one_byte end p bytes rest (opcodes.Local n) (local n) o refl tt (o.told.1, omega arith) (omega arith)
  form_judged p end bytes rest (opcodes.Arg n) c a o = let few : n < 7 = ltb-true n 7 o.told.0 in one_byte end p bytes rest (opcodes.Arg n) (arg n) o refl tt (o.told.1, omega arith) (omega arith)
  form_judged p end bytes rest opcodes.Debug c a o = one_byte end p bytes rest opcodes.Debug debug o refl tt o.told.1 (omega arith)
  form_judged p end bytes rest opcodes.Name c a o = name_form_judged p end bytes rest o
  form_judged p end bytes rest (opcodes.Operator op) c a o =
      operator_form_judged p op end bytes rest (operator_allowed g.loads p op a) (opening (opcodes.Operator op) bytes o.front rest o.whole o.told.1)
  form_judged p end bytes rest _ c a o = absurd cc

  form_stops : (p : Place) (end : ℕ) (bytes rest : List ℕ) (f : BodyFault) (x : Opcode) → opcode_at end bytes ≡ Ok (x, rest) → FailsForm g level Term p x end bytes f
      → form_by g inner p end bytes x rest ≡ Err f
  unfolding form_by
  form_stops p end bytes rest f (opcodes.Constant form) read h = constant_form_stops p form end bytes rest f read h
  form_stops p end bytes rest f opcodes.Str read h = string_form_stops end rest f (fails_behind (FailsAs fault_of FailsText) opcodes.Str end bytes rest f refl read h)
  form_stops p end bytes rest f opcodes.Buffer read h = buffer_stops end rest f (fails_behind (FailsPackage fault_of (Term Value)) opcodes.Buffer end bytes rest f refl read h)
  form_stops p end bytes rest f opcodes.Package read h = package_form_stops end rest f (fails_behind (FailsPackage fault_of Counted) opcodes.Package end bytes rest f refl read h)
  form_stops p end bytes rest f opcodes.VarPackage read h = var_package_form_stops end rest f (fails_behind (FailsPackage fault_of CountedByTerm) opcodes.VarPackage end bytes rest f refl read h)
  form_stops p end bytes rest f opcodes.Name read h = name_form_stops p end bytes f h
  form_stops p end bytes rest f (opcodes.Operator op) read h =
      operator_form_stops op end rest f (fails_behind (FailsInOrder g level Term (operands_of op)) (opcodes.Operator op) end bytes rest f refl read h)
  form_stops p end bytes rest f _ read h = absurd h

  -- at its place, with the level of its own
  abbrev FailsPlaced : Place → Opcode → Failure BodyFault
  FailsPlaced p x = FailsUnless body_fault (refusal_at g.loads p x) (FailsForm g level Term p x)

  pub placed_judged : (p : Place) (end : ℕ) (bytes rest : List ℕ) (x : Opcode) → (is_block x && is_none (refusal_at g.loads p x)) ≡ false → Opened bytes (x, rest)
      → Judge (Front (IsTermAt g (suc level) p) bytes) (FailsPlaced p x end bytes) (placed_by g inner p end bytes x rest)
  unfolding placed_by
  placed_judged p end bytes rest x clear o = by_refusal (refusal_at g.loads p x) refl
    where
      by_refusal : (w : Option BodyReason) → refusal_at g.loads p x ≡ w
          → Judge (Front (IsTermAt g (suc level) p) bytes) (FailsUnless body_fault w (FailsForm g level Term p x) end bytes) (unless w end bytes (form_by g inner p end bytes x rest))
      by_refusal (Some why) is = refl
      by_refusal None is =
          judge_into (Front (Formed g level p x) bytes) (Front (IsTermAt g (suc level) p) bytes) (FailsForm g level Term p x end bytes) (FailsForm g level Term p x end bytes) (form_by g inner p end bytes x rest)
          (λ y t. record {
            front = t.front;
            spells = (stands g.loads p y.0 (record { allowed = t.spells.leads ∙ is; suits = t.spells.suits }), t.spells.spells, t.spells.within);
            whole = t.whole;
          })
          (λ f b. b) (form_judged p end bytes rest x (and_none (is_block x) (refusal_at g.loads p x) is clear) is o)

  pub placed_stops : (p : Place) (end : ℕ) (bytes rest : List ℕ) (f : BodyFault) (x : Opcode) → opcode_at end bytes ≡ Ok (x, rest) → FailsPlaced p x end bytes f
      → placed_by g inner p end bytes x rest ≡ Err f
  unfolding placed_by
  placed_stops p end bytes rest f x read h = by_refusal (refusal_at g.loads p x) h
    where
      by_refusal : (w : Option BodyReason) → FailsUnless body_fault w (FailsForm g level Term p x) end bytes f → unless w end bytes (form_by g inner p end bytes x rest) ≡ Err f
      by_refusal (Some why) k = ap Err (sym k)
      by_refusal None k = form_stops p end bytes rest f x read k

-- ---- a term

none_judged : (g : Grammar) (p : Place) (end : ℕ) (bytes : List ℕ) → Judge (Front (IsTermAt g 0 p) bytes) (FailsTerm g 0 p end bytes) (term_at g 0 p end bytes)
unfolding term_at
none_judged g p end bytes = refl

none_stops : (g : Grammar) (p : Place) (end : ℕ) (bytes : List ℕ) (f : BodyFault) → FailsTerm g 0 p end bytes f → term_at g 0 p end bytes ≡ Err f
unfolding term_at
none_stops g p end bytes f h = ap Err (sym h)

more_judged : (g : Grammar) (level : ℕ) → Reads g level → (p : Place) (end : ℕ) (bytes : List ℕ) → is_inner p ≡ true
    → Judge (Front (IsTermAt g (suc level) p) bytes) (FailsTerm g (suc level) p end bytes) (term_at g (suc level) p end bytes)
unfolding term_at
more_judged g level i p end bytes ok =
    by_opcode_judged fault_of (FailsPlaced g level i p) (Front (IsTermAt g (suc level) p) bytes) end bytes _
    (λ x o. placed_judged g level i p end bytes x.1 x.0 (inner_clear g.loads p x.0 ok) o)

more_stops : (g : Grammar) (level : ℕ) → Reads g level → (p : Place) (end : ℕ) (bytes : List ℕ) (f : BodyFault) → FailsTerm g (suc level) p end bytes f → term_at g (suc level) p end bytes ≡ Err f
unfolding term_at
more_stops g level i p end bytes f h =
    by_opcode_stops fault_of (FailsPlaced g level i p) end bytes _ f (λ o rest read more. placed_stops g level i p end bytes rest f o read more) h

pub exact_term : (g : Grammar) (level : ℕ) → Reads g level
exact_term g zero p ok = record {
  found = λ end t a rest h. term_complete g t 0 p end a rest h.0 h.1 h.2;
  judged = λ end bytes. none_judged g p end bytes;
  stops = λ end bytes f h. none_stops g p end bytes f h;
}
exact_term g (suc level) p ok = record {
  found = λ end t a rest h. term_complete g t (suc level) p end a rest h.0 h.1 h.2;
  judged = λ end bytes. more_judged g level (exact_term g level) p end bytes ok;
  stops = λ end bytes f h. more_stops g level (exact_term g level) p end bytes f h;
}
