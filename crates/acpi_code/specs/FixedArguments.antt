-- The bytes that spell fixed arguments (ACPI 6.5, 20.2.5).
use Rattle.std.specs.Prelude.{◌≡◌, ◌≤◌, ℕ, List, [], ◌∷◌, ◌++◌}
use Rattle.acpi_name.specs.Spelling.{SpellsName}
use Rattle.acpi_tree.specs.Tree.{ExternalParts}
use Rattle.acpi_code.specs.declared.opcode.Opcode.{Opcode}
use Rattle.acpi_code.specs.declared.opcode.Opcode.TheVariants as opcodes
use Rattle.acpi_code.specs.Opcodes.{opcode_bytes}
use Rattle.acpi_code.specs.Spelling.{SpellsByte, SpellsNumber, SpellsInt, SpellsTermName, Packs}
use Rattle.acpi_code.specs.Forms.{FixedArgument, name_arg, source_arg, byte_arg, word_arg, dword_arg, count_arg, int_arg, Value, Values, fixed_arguments, ArgumentsOf}

-- NameString, a name in the place of a TermArg, ByteData, WordData, DWordData, ArgumentCount := ByteData (0 to 7), and
-- a TermArg that is a constant (20.2.2, 20.2.3, 20.2.5.2)
abbrev pub SpellsArgument : (k : FixedArgument) → Value k → List ℕ → Type 0
SpellsArgument name_arg n bytes = SpellsName n bytes
SpellsArgument source_arg n bytes = SpellsTermName n bytes
SpellsArgument byte_arg n bytes = SpellsByte n bytes
SpellsArgument word_arg n bytes = SpellsNumber 2 n bytes
SpellsArgument dword_arg n bytes = SpellsNumber 4 n bytes
SpellsArgument count_arg n bytes = (n ≤ 7) × (bytes ≡ n ∷ [])
SpellsArgument int_arg i bytes = SpellsInt i bytes

-- one after another
abbrev pub SpellsArguments : (ks : List FixedArgument) → Values ks → List ℕ → Type 0
SpellsArguments [] v bytes = bytes ≡ []
SpellsArguments (k ∷ ks) v bytes = (a : List ℕ) × (b : List ℕ) × SpellsArgument k v.0 a
    × SpellsArguments ks v.1 b × (bytes ≡ a ++ b)

-- an opcode and fixed arguments
abbrev pub SpellsPlain : List ℕ → (ks : List FixedArgument) → Values ks → List ℕ → Type 0
SpellsPlain opcode ks v bytes = (a : List ℕ) × SpellsArguments ks v a × (bytes ≡ opcode ++ a)

-- an opcode and a package of fixed arguments and of what fills it
abbrev pub SpellsPacked : List ℕ → (ks : List FixedArgument) → Values ks → (List ℕ → Type 0)
    → List ℕ → Type 0
SpellsPacked opcode ks v Fills bytes =
    (a : List ℕ) × (b : List ℕ) × SpellsArguments ks v a × Fills b × Packs opcode (a ++ b) bytes

-- the form of an opcode, which has fixed arguments alone
abbrev pub SpellsForm : (o : Opcode) → ArgumentsOf o → List ℕ → Type 0
SpellsForm o v bytes = SpellsPlain (opcode_bytes o) (fixed_arguments o) v bytes

-- the form of an opcode, whose package has fixed arguments and what fills it
abbrev pub SpellsFilled : (o : Opcode) → ArgumentsOf o → (List ℕ → Type 0) → List ℕ → Type 0
SpellsFilled o v Fills bytes = SpellsPacked (opcode_bytes o) (fixed_arguments o) v Fills bytes

-- DefExternal
abbrev pub SpellsExternal : ExternalParts → List ℕ → Type 0
SpellsExternal x bytes = SpellsForm opcodes.External (x.name, (x.kind, (x.args, tt))) bytes
