-- The calls and loads in terms, and where they stand (ACPI 6.5, 20.2.5).
use Rattle.std.specs.Prelude.{◌-◌, ◌+◌, ℕ, cond, List, [], ◌∷◌, ◌++◌, length, drop, unwrap_or}
use Rattle.std.specs.Option.{option_map}
use Rattle.acpi_name.specs.Names.{NameParts}
use Rattle.acpi_tree.specs.declared.tree.Int.{Int}
use Rattle.acpi_tree.specs.declared.tree.Int.TheVariants.{Revision, Byte, Word, DWord, QWord}
use Rattle.acpi_tree.specs.declared.op.Op.{Op}
use Rattle.acpi_tree.specs.declared.place.NamedForm.{NamedForm}
use Rattle.acpi_tree.specs.declared.place.NamedForm.TheVariants as named
use Rattle.acpi_tree.specs.Operators.{is_load, row_of}
use Rattle.acpi_tree.specs.Terms.{TermTree, TermTrees, int, str, buffer, pkg, var_pkg, debug, raw, ref, call, apply, declare, no_terms, more}
use Rattle.acpi_outline.specs.Nodes.{PlainTree, term, external, alias, table_region, FixedTree, if_so, while_so, units}
use Rattle.acpi_ranges.specs.LostRanges.{name_front, package_front}

-- a call of a name; or LoadTable, Load or Unload
pub data MarkTree : Type 0 where
  called : NameParts → MarkTree
  load : MarkTree

-- with the place of its first byte: that of the name that is called, or of the opcode
abbrev pub PlacedMark : Type 0
PlacedMark = ℕ × MarkTree

-- ---- the bytes behind what stands at their front

abbrev pub behind_name : List ℕ → List ℕ
behind_name bytes = drop (unwrap_or (option_map (λ x. x.1) (name_front bytes)) 0) bytes

abbrev pub behind_names : List NameParts → List ℕ → List ℕ
behind_names [] bytes = bytes
behind_names (n ∷ ns) bytes = behind_names ns (behind_name bytes)

-- what a package holds, and what follows it, behind an opcode of one byte and the package length (20.2.4)
abbrev pub in_package : List ℕ → List ℕ
in_package bytes = drop (package_front bytes) bytes

-- how many bytes spell a constant (20.2.3)
abbrev pub int_size : Int → ℕ
int_size Revision = 2
int_size (Byte n) = 2
int_size (Word n) = 3
int_size (DWord n) = 5
int_size (QWord n) = 9
int_size _ = 1

abbrev pub operator_size : Op → ℕ
operator_size op = length (row_of op).opcode

-- how many bytes the opcode of a declaration has (20.2.5.1, 20.2.5.2)
abbrev pub opcode_size : NamedForm → ℕ
opcode_size named.Name = 1
opcode_size (named.Create w) = 1
opcode_size _ = 2

-- a term; a Local, an Arg and the byte 00 for no target have one byte
abbrev mutual
  pub behind : TermTree → List ℕ → List ℕ
  behind (int i) bytes = drop (int_size i) bytes
  behind (str text) bytes = drop (length text + 2) bytes
  behind (buffer size content) bytes = drop (length content) (behind size (in_package bytes))
  behind (pkg count es) bytes = behind_all es (drop 1 (in_package bytes))
  behind (var_pkg count es) bytes = behind_all es (behind count (in_package bytes))
  behind debug bytes = drop 2 bytes
  behind (raw k n) bytes = drop k bytes
  behind (ref n) bytes = behind_name bytes
  behind (call n vs) bytes = behind_all vs (behind_name bytes)
  behind (apply op vs) bytes = behind_all vs (drop (operator_size op) bytes)
  behind (declare form before n others) bytes =
      behind_all others (behind_name (behind_all before (drop (opcode_size form) bytes)))
  behind _ bytes = drop 1 bytes

  pub behind_all : TermTrees → List ℕ → List ℕ
  behind_all no_terms bytes = bytes
  behind_all (more t ts) bytes = behind_all ts (behind t bytes)

-- ---- marks, in the order of their bytes

-- The term stands at the front of bytes that end at the place `end`.
abbrev mutual
  pub marks_in : (end : ℕ) → TermTree → List ℕ → List PlacedMark
  marks_in end (buffer size content) bytes = marks_in end size (in_package bytes)
  marks_in end (pkg count es) bytes = marks_in_all end es (drop 1 (in_package bytes))
  marks_in end (var_pkg count es) bytes = marks_in end count (in_package bytes)
      ++ marks_in_all end es (behind count (in_package bytes))
  marks_in end (call n vs) bytes =
      (end - length bytes, called n) ∷ marks_in_all end vs (behind_name bytes)
  marks_in end (apply op vs) bytes = cond (is_load op) ((end - length bytes, load) ∷ []) []
      ++ marks_in_all end vs (drop (operator_size op) bytes)
  marks_in end (declare form before n others) bytes =
      marks_in_all end before (drop (opcode_size form) bytes)
      ++ marks_in_all end others
      (behind_name (behind_all before (drop (opcode_size form) bytes)))
  marks_in end _ bytes = []

  pub marks_in_all : (end : ℕ) → TermTrees → List ℕ → List PlacedMark
  marks_in_all end no_terms bytes = []
  marks_in_all end (more t ts) bytes = marks_in end t bytes ++ marks_in_all end ts (behind t bytes)

-- an Alias may be called as its source is
abbrev pub marks_in_plain : (end : ℕ) → PlainTree → List ℕ → List PlacedMark
marks_in_plain end (term t) bytes = marks_in end t bytes
marks_in_plain end (external x) bytes = []
marks_in_plain end (alias source n) bytes = (end - length bytes, called source) ∷ []
marks_in_plain end (table_region n vs) bytes = marks_in_all end vs (behind_name (drop 2 bytes))

-- in the fixed arguments of the package at the front
abbrev pub marks_in_fixed : (end : ℕ) → FixedTree → List ℕ → List PlacedMark
marks_in_fixed end (if_so v) bytes = marks_in end v (in_package bytes)
marks_in_fixed end (while_so v) bytes = marks_in end v (in_package bytes)
marks_in_fixed end (units form ns vs) bytes =
    marks_in_all end vs (behind_names ns (in_package (drop 1 bytes)))
marks_in_fixed end _ bytes = []
