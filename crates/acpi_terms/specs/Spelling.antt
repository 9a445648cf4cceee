-- The bytes that spell a tree (ACPI 6.5, 20.2). A tree may have several spellings, since a package length
-- and a name may be longer than needed.
use Rattle.std.specs.Prelude.{◌≡◌, ◌≤◌, ℕ, suc, max, List, [], ◌∷◌, ◌++◌, None}
use Rattle.acpi_name.specs.Spelling.{SpellsName}
use Rattle.acpi_code.specs.declared.opcode.Opcode.TheVariants as opcodes
use Rattle.acpi_code.specs.Fields.{SpellsFields}
use Rattle.acpi_code.specs.Spelling.{SpellsEach, Packs}
use Rattle.acpi_tree.specs.DataTerms.{data_term, elem_term}
use Rattle.acpi_values.specs.Grammars.{Grammar, without_loads}
use Rattle.acpi_values.specs.Spelling.{Spells, height}
use Rattle.acpi_tree.specs.Tree.{ElemTree, ExternalParts, ItemTree, name, scope, method, external, external_block, create, create_field, mutex, event, region, field, index_field, bank_field, ItemTrees, no_items, item}
use Rattle.acpi_code.specs.Forms.{FixedArgument, int_arg, Value, Values, kind_opcode, kind_arguments}
pub use Rattle.acpi_code.specs.FixedArguments.{SpellsArgument, SpellsArguments, SpellsPlain, SpellsPacked, SpellsForm, SpellsFilled, SpellsExternal}

-- ---- data (20.2.3 and 20.2.5.4)

-- DataObject := ComputationalData | DefPackage | DefVarPackage, with a ConstObj, a number or RevisionOp, a String or a
-- DefBuffer as ComputationalData (20.2.3). It is spelled as it is in a method body, where no name calls.
abbrev pub data_grammar : Grammar
data_grammar = without_loads (λ n. None)

-- ---- items (20.2.5.1 and 20.2.5.2)

-- Module-level terms, by the rules that stand above each line of `fixed_arguments`. A block is `If (Zero)` round
-- Externals alone; method code is any bytes; a Processor is as ACPI 6.3 and earlier have it.
abbrev mutual
  pub SpellsItem : ItemTree → List ℕ → Type 0
  -- DefName := NameOp NameString DataRefObject, where NameOp := 0x08 (20.2.5.1)
  SpellsItem (name n d) bytes =
      (a : List ℕ) × (b : List ℕ) × SpellsName n a × Spells data_grammar (data_term d) b
      × (bytes ≡ 0x08 ∷ (a ++ b))
  SpellsItem (scope kind n is) bytes =
      SpellsFilled (kind_opcode kind) (kind_arguments kind n) (λ b. SpellsItems is b) bytes
  SpellsItem (method n flags code) bytes =
      SpellsFilled opcodes.Method (n, (flags, tt)) (λ b. b ≡ code) bytes
  SpellsItem (external x) bytes = SpellsExternal x bytes
  -- DefIfElse := IfOp PkgLength Predicate TermList DefElse, where IfOp := 0xA0, with no DefElse (20.2.5.3)
  SpellsItem (external_block xs) bytes =
      (b : List ℕ) × SpellsEach SpellsExternal xs b × Packs (0xA0 ∷ []) (0x00 ∷ b) bytes
  SpellsItem (create w source index n) bytes =
      SpellsForm (opcodes.Create w) (source, (index, (n, tt))) bytes
  SpellsItem (create_field source index bits n) bytes =
      SpellsForm opcodes.CreateField (source, (index, (bits, (n, tt)))) bytes
  SpellsItem (mutex n flags) bytes = SpellsForm opcodes.Mutex (n, (flags, tt)) bytes
  SpellsItem (event n) bytes = SpellsForm opcodes.Event (n, tt) bytes
  SpellsItem (region n space offset len) bytes =
      SpellsForm opcodes.Region (n, (space, (offset, (len, tt)))) bytes
  SpellsItem (field r flags es) bytes =
      SpellsFilled opcodes.Field (r, (flags, tt)) (λ b. SpellsFields es b) bytes
  SpellsItem (index_field i d flags es) bytes =
      SpellsFilled opcodes.IndexField (i, (d, (flags, tt))) (λ b. SpellsFields es b) bytes
  SpellsItem (bank_field r bank value flags es) bytes = SpellsFilled opcodes.BankField
      (r, (bank, (value, (flags, tt)))) (λ b. SpellsFields es b) bytes

  -- TermList := Nothing | <TermObj TermList> (20.2.5)
  pub SpellsItems : ItemTrees → List ℕ → Type 0
  SpellsItems no_items bytes = bytes ≡ []
  SpellsItems (item i is) bytes =
      (a : List ℕ) × (b : List ℕ) × SpellsItem i a × SpellsItems is b × (bytes ≡ a ++ b)

-- ---- heights
-- A term has a level more than the highest term in it. Declared names, the names of scopes, of regions and
-- of Create sources, flags and raw bytes, the 00 of a block, and field elements with all that stands in
-- them have no level.

abbrev pub block_height : List ExternalParts → ℕ
block_height [] = 1
block_height (x ∷ xs) = 2

abbrev mutual
  pub item_height : ItemTree → ℕ
  item_height (name n d) = suc (height (data_term d))
  item_height (scope kind n is) = suc (items_height is)
  item_height (method n flags code) = 1
  item_height (external x) = 1
  item_height (external_block xs) = block_height xs
  item_height (create w source index n) = 2
  item_height (create_field source index bits n) = 2
  item_height (mutex n flags) = 1
  item_height (event n) = 1
  item_height (region n space offset len) = 2
  item_height (field r flags es) = 1
  item_height (index_field i d flags es) = 1
  item_height (bank_field r bank value flags es) = 2

  pub items_height : ItemTrees → ℕ
  items_height no_items = 0
  items_height (item i is) = max (item_height i) (items_height is)

-- ---- what is spelled, no higher than the levels that are left

-- a fixed argument has a level where it is a term
abbrev pub argument_height : FixedArgument → ℕ
argument_height int_arg = 1
argument_height _ = 0

abbrev pub arguments_height : List FixedArgument → ℕ
arguments_height [] = 0
arguments_height (k ∷ ks) = max (argument_height k) (arguments_height ks)

abbrev pub ArgumentWithin : ℕ → (k : FixedArgument) → Value k → List ℕ → Type 0
ArgumentWithin level k v bytes = SpellsArgument k v bytes × (argument_height k ≤ level)

abbrev pub ArgumentsWithin : ℕ → (ks : List FixedArgument) → Values ks → List ℕ → Type 0
ArgumentsWithin level ks v bytes = SpellsArguments ks v bytes × (arguments_height ks ≤ level)

abbrev pub ElemWithin : ℕ → ElemTree → List ℕ → Type 0
ElemWithin level e bytes =
    Spells data_grammar (elem_term e) bytes × (height (elem_term e) ≤ level)

abbrev pub ItemWithin : ℕ → ItemTree → List ℕ → Type 0
ItemWithin level i bytes = SpellsItem i bytes × (item_height i ≤ level)
