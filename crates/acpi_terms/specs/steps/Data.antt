-- Data apart from terms, as it is read at module level (ACPI 6.5, 20.2.3 and 20.2.5.4).
use Rattle.std.specs.Prelude.{◌≡◌, ℕ, suc, max, List, ◌∷◌, [], ◌++◌}
use Rattle.acpi_code.specs.declared.opcode.Opcode.TheVariants as opcodes
use Rattle.acpi_code.specs.FixedArguments.{SpellsFilled}
use Rattle.acpi_code.specs.Spelling.{SpellsInt, SpellsTermName, SpellsText}
use Rattle.acpi_tree.specs.Tree.{DataTree, int, str, buffer, pkg, var_pkg, ElemTree, of_data, of_name, ElemTrees, no_elems, elem}

-- the bytes that spell it
abbrev mutual
  pub SpellsData : DataTree → List ℕ → Type 0
  SpellsData (int i) bytes = SpellsInt i bytes
  -- String := StringPrefix AsciiCharList NullChar, where StringPrefix := 0x0D (20.2.3)
  SpellsData (str text) bytes = (b : List ℕ) × SpellsText text b × (bytes ≡ 0x0D ∷ b)
  -- ByteList := Nothing | <ByteData ByteList> (20.2.3)
  SpellsData (buffer size content) bytes =
      SpellsFilled opcodes.Buffer (size, tt) (λ b. b ≡ content) bytes
  SpellsData (pkg count es) bytes =
      SpellsFilled opcodes.Package (count, tt) (λ b. SpellsElems es b) bytes
  SpellsData (var_pkg count es) bytes =
      SpellsFilled opcodes.VarPackage (count, tt) (λ b. SpellsElems es b) bytes

  -- PackageElement := DataRefObject | NameString (20.2.5.4)
  pub SpellsElem : ElemTree → List ℕ → Type 0
  SpellsElem (of_data d) bytes = SpellsData d bytes
  SpellsElem (of_name n) bytes = SpellsTermName n bytes

  -- PackageElementList := Nothing | <PackageElement PackageElementList> (20.2.5.4)
  pub SpellsElems : ElemTrees → List ℕ → Type 0
  SpellsElems no_elems bytes = bytes ≡ []
  SpellsElems (elem e es) bytes =
      (a : List ℕ) × (b : List ℕ) × SpellsElem e a × SpellsElems es b × (bytes ≡ a ++ b)

-- its levels
abbrev mutual
  pub data_height : DataTree → ℕ
  data_height (int i) = 1
  data_height (str text) = 1
  data_height (buffer size content) = 2
  data_height (pkg count es) = suc (elems_height es)
  data_height (var_pkg count es) = suc (max 1 (elems_height es))

  pub elem_height : ElemTree → ℕ
  elem_height (of_data d) = data_height d
  elem_height (of_name n) = 1

  pub elems_height : ElemTrees → ℕ
  elems_height no_elems = 0
  elems_height (elem e es) = max (elem_height e) (elems_height es)
