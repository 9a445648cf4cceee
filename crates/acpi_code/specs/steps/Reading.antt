-- Reading the parts of code from left to right, up to the first fault (ACPI 6.5, 20.2).
-- A list of bytes is read whose end stands at the place `end` of the code, so what is left of it begins
-- at the place `end - length bytes`.
use Rattle.std.specs.Prelude.{◌-◌, ℕ, zero, suc, Bool, ◌||◌, ◌&&◌, List, [], ◌∷◌, length, take, drop, Result, Ok, Err, nat_lt, ◌==◌, if◌then◌else◌}
use Rattle.std.specs.List.{take_while}
use Rattle.byteorder.specs.Endian.{little_number}
use Rattle.acpi_name.specs.Names.{NameParts, Segment}
use Rattle.acpi_name.specs.Reading.{name_at, segment_at}
use Rattle.acpi_name.specs.declared.reading.NameFault.{NameFault}
use Rattle.acpi_name.specs.declared.reading.NameFault.TheVariants as names
use Rattle.acpi_table.specs.steps.PkgLengthRead.{pkg_length_at}
use Rattle.acpi_table.specs.declared.lengths.PkgFault.{PkgFault}
use Rattle.acpi_table.specs.declared.lengths.PkgFault.TheVariants as lengths
use Rattle.acpi_tree.specs.declared.tree.Int.{Int}
use Rattle.acpi_tree.specs.declared.tree.Int.TheVariants.{Zero, One, Ones, Revision, Byte, Word, DWord, QWord}
use Rattle.acpi_code.specs.declared.fault.CodeReason.TheVariants.{Cut, ReservedBits, BadName, Overrun, BadString}
use Rattle.acpi_code.specs.declared.fault.CodeFault.{CodeFault}
use Rattle.acpi_code.specs.declared.opcode.ConstantForm.{ConstantForm}
use Rattle.acpi_code.specs.declared.opcode.ConstantForm.TheVariants as forms
use Rattle.acpi_code.specs.declared.opcode.Opcode.{Opcode}
use Rattle.acpi_code.specs.steps.Opcodes.{plain_opcode_of, extended_opcode_of}
pub use Rattle.acpi_code.specs.Faults.{fault_at, no_level}

-- ---- readings, whatever their faults are

-- what stands at the front and the bytes behind it, or a fault
abbrev pub Reading : Type 0 → Type 0 → Type 0
Reading F A = Result (A × List ℕ) F

-- go on with what was read, or stop at the first fault
infixl 10 ◌>>=◌
abbrev pub ◌>>=◌ : {F A B : Type 0} → Result A F → (A → Result B F) → Result B F
(Ok x) >>= f = f x
(Err e) >>= f = Err e

-- the same reading, its fault told as one of another kind
abbrev pub with_fault : {F G A : Type 0} → (F → G) → Result A F → Result A G
with_fault told (Ok x) = Ok x
with_fault told (Err f) = Err (told f)

-- One after another to the end of the bytes. The number bounds the turns, and the length is enough.
unfoldable pub each_with : {F A : Type 0} → (List ℕ → Reading F A) → ℕ → List ℕ → Result (List A) F
each_with one zero bytes = Ok []
each_with one (suc n) [] = Ok []
each_with one (suc n) (b ∷ rest) = do
  x ← one (b ∷ rest)
  xs ← each_with one n x.1
  Ok (x.0 ∷ xs)

abbrev pub each_at : {F A : Type 0} → (List ℕ → Reading F A) → List ℕ → Result (List A) F
each_at one bytes = each_with one (length bytes) bytes

-- ---- numbers, package lengths, names

-- ByteData (20.2.3)
unfoldable pub byte_at : ℕ → List ℕ → Reading CodeFault ℕ
byte_at end [] = Err (fault_at end [] Cut)
byte_at end (b ∷ rest) = Ok (b, rest)

-- WordData, DWordData, QWordData: n bytes, the lowest first (20.2.3)
unfoldable pub number_at : ℕ → ℕ → List ℕ → Reading CodeFault ℕ
number_at n end bytes =
    if nat_lt (length bytes) n then Err (fault_at end [] Cut) else
    Ok (little_number n bytes, drop n bytes)

abbrev pub or_length_fault : {A : Type 0} → ℕ → List ℕ → Result A PkgFault → Result A CodeFault
or_length_fault end bytes (Ok x) = Ok x
or_length_fault end bytes (Err lengths.Cut) = Err (fault_at end [] Cut)
or_length_fault end bytes (Err lengths.ReservedBits) = Err (fault_at end bytes ReservedBits)

-- PkgLength, also as a number of bits (20.2.4)
unfoldable pub length_in : ℕ → List ℕ → Reading CodeFault ℕ
length_in end bytes = or_length_fault end bytes (pkg_length_at bytes)

-- a package: what is in it, the place of its end, and what is behind it
pub record Package : Type 0 where
  pub content : List ℕ
  pub end : ℕ
  pub rest : List ℕ

-- the package whose content and rest follow a package length
abbrev pub package_of : ℕ → List ℕ → List ℕ → Package
package_of end content rest = record { content = content; end = end - length rest; rest = rest }

-- a package length that counts its own bytes and the content, and the content (20.2.4)
unfoldable pub package_at : ℕ → List ℕ → Result Package CodeFault
package_at end bytes = do
  n ← length_in end bytes
  let used = length bytes - length n.1
  if nat_lt n.0 used || nat_lt (length bytes) n.0 then Err (fault_at end bytes Overrun) else
      Ok (package_of end (take (n.0 - used) n.1) (drop (n.0 - used) n.1))

abbrev pub or_name_fault : {A : Type 0} → ℕ → List ℕ → Result A NameFault → Result A CodeFault
or_name_fault end bytes (Ok x) = Ok x
or_name_fault end bytes (Err names.Cut) = Err (fault_at end [] Cut)
or_name_fault end bytes (Err names.BadChar) = Err (fault_at end bytes BadName)
or_name_fault end bytes (Err names.ZeroCount) = Err (fault_at end bytes BadName)
or_name_fault end bytes (Err names.TooManyUps) = Err (fault_at end bytes BadName)

-- NameString (20.2.2)
unfoldable pub name_in : ℕ → List ℕ → Reading CodeFault NameParts
name_in end bytes = or_name_fault end bytes (name_at bytes)

-- NameSeg (20.2.2)
unfoldable pub segment_in : ℕ → List ℕ → Reading CodeFault Segment
segment_in end bytes = or_name_fault end bytes (segment_at bytes)

-- ---- opcodes

abbrev pub extended_opcode_at : ℕ → List ℕ → Reading CodeFault Opcode
extended_opcode_at end bytes = do
  b ← byte_at end bytes
  Ok (extended_opcode_of b.0, b.1)

-- what begins there, and what follows its opcode; 5B is the first of two bytes (20.3)
unfoldable pub opcode_at : ℕ → List ℕ → Reading CodeFault Opcode
opcode_at end bytes = do
  b ← byte_at end bytes
  if b.0 == 0x5B then extended_opcode_at end b.1 else Ok (plain_opcode_of b.0, b.1)

-- ---- constants and strings

-- the constant whose opcode was read (20.2.3)
abbrev pub constant_at : ConstantForm → ℕ → List ℕ → Reading CodeFault Int
constant_at forms.Zero end bytes = Ok (Zero, bytes)
constant_at forms.One end bytes = Ok (One, bytes)
constant_at forms.Ones end bytes = Ok (Ones, bytes)
constant_at forms.Revision end bytes = Ok (Revision, bytes)
constant_at forms.Byte end bytes = byte_at end bytes >>= λ x. Ok (Byte x.0, x.1)
constant_at forms.Word end bytes = number_at 2 end bytes >>= λ x. Ok (Word x.0, x.1)
constant_at forms.DWord end bytes = number_at 4 end bytes >>= λ x. Ok (DWord x.0, x.1)
constant_at forms.QWord end bytes = number_at 8 end bytes >>= λ x. Ok (QWord x.0, x.1)

-- AsciiChar: 01 to 7F (20.2.3)
abbrev pub is_text : ℕ → Bool
is_text b = nat_lt 0 b && nat_lt b 0x80

abbrev pub string_end : ℕ → List ℕ → List ℕ → Reading CodeFault (List ℕ)
string_end end text bytes = do
  b ← byte_at end bytes
  if b.0 == 0 then Ok (text, b.1) else Err (fault_at end bytes BadString)

-- AsciiCharList and NullChar (20.2.3)
unfoldable pub string_at : ℕ → List ℕ → Reading CodeFault (List ℕ)
string_at end bytes =
    let n = length (take_while is_text bytes) in string_end end (take n bytes) (drop n bytes)
