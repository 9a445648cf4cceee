-- The bytes that spell a term, by a grammar (ACPI 6.5, 20.2.5).
use Rattle.std.specs.Prelude.{◌≡◌, ◌+◌, ◌≤◌, ℕ, zero, suc, max, true, List, [], ◌∷◌, ◌++◌, Some}
use Rattle.acpi_tree.specs.declared.place.Place.{Place}
use Rattle.acpi_tree.specs.declared.place.Place.TheVariants.{Value, Element}
use Rattle.acpi_tree.specs.declared.place.OperandKind.{OperandKind}
use Rattle.acpi_tree.specs.declared.place.OperandKind.TheVariants.{At}
use Rattle.acpi_tree.specs.Terms.{TermTree, TermTrees, int, str, buffer, pkg, var_pkg, local, arg, debug, no_target, raw, ref, call, apply, ElseTree, if_do, no_else, else_do, while_do, declare, declare_units, no_terms, more}
use Rattle.acpi_tree.specs.Operators.{operands_of}
use Rattle.acpi_tree.specs.Places.{may_stand, may_be}
use Rattle.acpi_code.specs.Opcodes.{operator_bytes}
use Rattle.acpi_code.specs.Spelling.{SpellsNumber, SpellsInt, SpellsTermName, SpellsText, Packs}
use Rattle.acpi_values.specs.Grammars.{Grammar, is_allowed}

-- the term may stand at the place
abbrev pub Stands : Place → TermTree → Type 0
Stands place t = may_stand place t ≡ true

-- the term may be that operand
abbrev pub StandsFor : OperandKind → TermTree → Type 0
StandsFor kind t = may_be kind t ≡ true

-- so many values
abbrev pub values : ℕ → List OperandKind
values zero = []
values (suc n) = At Value ∷ values n

-- Terms that are no blocks and no declarations: DataObject, Locals, Args, DebugObj, a name where it is never
-- a call, a call and as many arguments as surely follow its name, an operator that may stand and its operands.
abbrev mutual
  pub Spells : Grammar → TermTree → List ℕ → Type 0
  Spells g (int i) bytes = SpellsInt i bytes
  -- String := StringPrefix AsciiCharList NullChar, where StringPrefix := 0x0D (20.2.3)
  Spells g (str text) bytes = (b : List ℕ) × SpellsText text b × (bytes ≡ 0x0D ∷ b)
  -- DefBuffer := BufferOp PkgLength BufferSize ByteList, where BufferOp := 0x11 (20.2.5.4)
  Spells g (buffer size content) bytes =
      (s : List ℕ) × Stands Value size × Spells g size s × Packs (0x11 ∷ []) (s ++ content) bytes
  -- DefPackage := PackageOp PkgLength NumElements PackageElementList, where PackageOp := 0x12 (20.2.5.4)
  Spells g (pkg count es) bytes =
      (b : List ℕ) × AreElements g es b × Packs (0x12 ∷ []) (count ∷ b) bytes
  -- DefVarPackage := VarPackageOp PkgLength VarNumElements PackageElementList, where VarPackageOp := 0x13 (20.2.5.4)
  Spells g (var_pkg count es) bytes = (s : List ℕ) × (b : List ℕ) × Stands Value count
      × Spells g count s × AreElements g es b × Packs (0x13 ∷ []) (s ++ b) bytes
  -- LocalObj := Local0Op | .. | Local7Op, 0x60 to 0x67 (20.2.6.2)
  Spells g (local n) bytes = (bytes ≡ (n + 0x60) ∷ []) × (n ≤ 7)
  -- ArgObj := Arg0Op | .. | Arg6Op, 0x68 to 0x6E (20.2.6.1)
  Spells g (arg n) bytes = (bytes ≡ (n + 0x68) ∷ []) × (n ≤ 6)
  -- DebugObj := DebugOp, where DebugOp := ExtOpPrefix 0x31 (20.2.6.3)
  Spells g debug bytes = bytes ≡ 0x5B ∷ 0x31 ∷ []
  -- NullName := 0x00 (20.2.2)
  Spells g no_target bytes = bytes ≡ 0x00 ∷ []
  Spells g (raw k n) bytes = SpellsNumber k n bytes
  Spells g (ref n) bytes = SpellsTermName n bytes
  -- MethodInvocation := NameString TermArgList (20.2.5)
  Spells g (call n vs) bytes = (count : ℕ) × (w : List ℕ) × (x : List ℕ)
      × (g.args n ≡ Some count) × SpellsTermName n w × AreOperands g (values count) vs x
      × (bytes ≡ w ++ x)
  -- the rules of operators stand above the lines of `row_of`
  Spells g (apply op vs) bytes = (x : List ℕ) × (is_allowed g.loads op ≡ true)
      × AreOperands g (operands_of op) vs x × (bytes ≡ operator_bytes op ++ x)
  Spells g _ bytes = ⊥

  -- they are operands of these kinds, in order
  pub AreOperands : Grammar → List OperandKind → TermTrees → List ℕ → Type 0
  AreOperands g [] no_terms bytes = bytes ≡ []
  AreOperands g (k ∷ ks) (more t ts) bytes = (a : List ℕ) × (b : List ℕ) × StandsFor k t
      × Spells g t a × AreOperands g ks ts b × (bytes ≡ a ++ b)
  AreOperands g _ _ bytes = ⊥

  -- the elements of a package
  -- PackageElementList := Nothing | <PackageElement PackageElementList> (20.2.5.4)
  pub AreElements : Grammar → TermTrees → List ℕ → Type 0
  AreElements g no_terms bytes = bytes ≡ []
  AreElements g (more t ts) bytes = (a : List ℕ) × (b : List ℕ) × Stands Element t × Spells g t a
      × AreElements g ts b × (bytes ≡ a ++ b)

-- ---- heights
-- A term has a level more than the highest term in it. Raw operands, the byte 00 for no target, names and field
-- elements have no level. The statements of an Else have the level of those of its If.

abbrev mutual
  pub height : TermTree → ℕ
  height (buffer size content) = suc (height size)
  height (pkg count es) = suc (heights es)
  height (var_pkg count es) = suc (max (height count) (heights es))
  height (call n vs) = suc (heights vs)
  height (apply op vs) = suc (heights vs)
  height (if_do v ts e) = suc (max (height v) (max (heights ts) (else_height e)))
  height (while_do v ts) = suc (max (height v) (heights ts))
  height (declare form before n behind) = suc (max (heights before) (heights behind))
  height (declare_units form ns vs es) = suc (heights vs)
  height (raw k n) = 0
  height no_target = 0
  height _ = 1

  pub else_height : ElseTree → ℕ
  else_height no_else = 0
  else_height (else_do ts) = heights ts

  pub heights : TermTrees → ℕ
  heights no_terms = 0
  heights (more t ts) = max (height t) (heights ts)
