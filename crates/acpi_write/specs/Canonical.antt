-- The one spelling of the parts of a form that is written (ACPI 6.5, 20.2): the shortest of each. The rules of the grammar
-- stand above the lines of `fixed_arguments`, `SpellsField` and `SpellsInt`.
use Rattle.std.specs.Prelude.{ℕ, List, [], ◌∷◌, ◌++◌, length, nat_le, if◌then◌else◌, Option, Some, None}
use Rattle.std.specs.Fmt.{option_append}
use Rattle.byteorder.specs.Endian.{little_bytes}
use Rattle.acpi_name.specs.Spelling.{name_bytes}
use Rattle.acpi_table.specs.PkgLength.{shortest_pkg_length, package_number}
use Rattle.acpi_code.specs.declared.opcode.Opcode.{Opcode}
use Rattle.acpi_code.specs.Opcodes.{opcode_bytes}
use Rattle.acpi_tree.specs.declared.tree.Int.{Int}
use Rattle.acpi_tree.specs.declared.tree.Int.TheVariants.{Zero, One, Ones, Revision, Byte, Word, DWord, QWord}
use Rattle.acpi_tree.specs.Tree.{FieldTree, unit, reserved, access, connect_name, connect_buffer, extended}
use Rattle.acpi_terms.specs.Forms.{FixedArgument, name_arg, source_arg, byte_arg, word_arg, dword_arg, count_arg, int_arg, Value, Values, fixed_arguments, ArgumentsOf}

-- ---- fixed arguments

-- a constant in the form in which it was written (20.2.3)
abbrev pub int_bytes : Int → List ℕ
int_bytes Zero = 0x00 ∷ []
int_bytes One = 0x01 ∷ []
int_bytes Ones = 0xFF ∷ []
int_bytes Revision = 0x5B ∷ 0x30 ∷ []
int_bytes (Byte n) = 0x0A ∷ n ∷ []
int_bytes (Word n) = 0x0B ∷ little_bytes 2 n
int_bytes (DWord n) = 0x0C ∷ little_bytes 4 n
int_bytes (QWord n) = 0x0E ∷ little_bytes 8 n

-- names as short as they can be
abbrev pub argument_bytes : (k : FixedArgument) → Value k → List ℕ
argument_bytes name_arg n = name_bytes n
argument_bytes source_arg n = name_bytes n
argument_bytes byte_arg n = n ∷ []
argument_bytes word_arg n = little_bytes 2 n
argument_bytes dword_arg n = little_bytes 4 n
argument_bytes count_arg n = n ∷ []
argument_bytes int_arg i = int_bytes i

-- one after another
abbrev pub arguments_bytes : (ks : List FixedArgument) → Values ks → List ℕ
arguments_bytes [] v = []
arguments_bytes (k ∷ ks) v = argument_bytes k v.0 ++ arguments_bytes ks v.1

-- ---- forms

-- an opcode and its fixed arguments
abbrev pub form_bytes : (o : Opcode) → ArgumentsOf o → List ℕ
form_bytes o v = opcode_bytes o ++ arguments_bytes (fixed_arguments o) v

-- An opcode, the least package length and the content; no package holds more than 268,435,451 bytes (20.2.4).
abbrev pub packed_bytes : List ℕ → List ℕ → Option (List ℕ)
packed_bytes opcode content =
    if nat_le (length content) 268435451 then
    Some (opcode ++ (shortest_pkg_length (package_number (length content)) ++ content)) else None

-- a package of fixed arguments and of what fills it
abbrev pub filled_with : List ℕ → List ℕ → Option (List ℕ) → Option (List ℕ)
filled_with opcode front None = None
filled_with opcode front (Some b) = packed_bytes opcode (front ++ b)

abbrev pub filled_bytes : (o : Opcode) → ArgumentsOf o → Option (List ℕ) → Option (List ℕ)
filled_bytes o v b = filled_with (opcode_bytes o) (arguments_bytes (fixed_arguments o) v) b

-- trees of a list one after another; None where one has no spelling
abbrev pub each_bytes : {A : Type 0} → (A → Option (List ℕ)) → List A → Option (List ℕ)
each_bytes f [] = Some []
each_bytes f (x ∷ xs) = option_append (f x) (each_bytes f xs)

-- ---- field elements (20.2.5.2 FieldElement)

-- a number of bits, which counts no bytes of its own, and has at most 28 bits (20.2.4)
abbrev pub bits_bytes : ℕ → Option (List ℕ)
bits_bytes n = if nat_le n 268435455 then Some (shortest_pkg_length n) else None

abbrev pub field_bytes : FieldTree → Option (List ℕ)
field_bytes (unit s bits) = option_append (Some s) (bits_bytes bits)
field_bytes (reserved bits) = option_append (Some (0x00 ∷ [])) (bits_bytes bits)
field_bytes (access kind attribute) = Some (0x01 ∷ kind ∷ attribute ∷ [])
field_bytes (connect_name n) = Some (0x02 ∷ name_bytes n)
field_bytes (connect_buffer size content) =
    filled_with (0x02 ∷ 0x11 ∷ []) (int_bytes size) (Some content)
field_bytes (extended kind attribute len) = Some (0x03 ∷ kind ∷ attribute ∷ len ∷ [])

abbrev pub fields_bytes : List FieldTree → Option (List ℕ)
fields_bytes es = each_bytes field_bytes es
