-- What the writer puts in front of what it has.
use Rattle.std.specs.Prelude.{◌≡◌, ◌<◌, length, ℕ, List, [], ◌∷◌, ◌++◌, take, nat_le, if◌then◌else◌, Option, Some, None, Result, Ok, Err}
use Rattle.std.specs.Fmt.{option_append}
use Rattle.std.specs.List.{AllByRecursion}
use Rattle.acpi_table.specs.declared.tables.Header.{Header}
use Rattle.acpi_table.specs.PkgLength.{shortest_pkg_length, package_number}
use Rattle.acpi_write.specs.declared.fault.WriteFault.{WriteFault}
use Rattle.acpi_write.specs.declared.fault.WriteFault.TheVariants.{TooLong, Memory}
use Rattle.byteorder.specs.Endian.{little_bytes}
use Rattle.acpi_name.specs.Names.{IsName}
use Rattle.acpi_name.specs.Spelling.{name_bytes}
use Rattle.acpi_write.specs.declared.writer.Argument.{Argument}
use Rattle.acpi_write.specs.declared.writer.Argument.TheVariants as arguments
use Rattle.acpi_write.specs.Canonical.{int_bytes, each_bytes}
use Rattle.acpi_write.specs.Laws.{IsIntTyped}

abbrev pub argument_piece : Argument → List ℕ
argument_piece (arguments.Name n) = name_bytes n.now
argument_piece (arguments.Byte n) = n ∷ []
argument_piece (arguments.Word n) = little_bytes 2 n
argument_piece (arguments.DWord n) = little_bytes 4 n
argument_piece (arguments.Int i) = int_bytes i

abbrev pub pieces : List Argument → List ℕ
pieces [] = []
pieces (a ∷ rest) = argument_piece a ++ pieces rest

-- what the types of fixed arguments say of them
abbrev pub IsArgumentTyped : Argument → Type 0
IsArgumentTyped (arguments.Name n) = IsName n.now
IsArgumentTyped (arguments.Byte n) = Unit {0}
IsArgumentTyped (arguments.Word n) = n < 65536
IsArgumentTyped (arguments.DWord n) = n < 4294967296
IsArgumentTyped (arguments.Int i) = IsIntTyped i

abbrev pub AreArgumentsTyped : List Argument → Type 0
AreArgumentsTyped xs = AllByRecursion IsArgumentTyped xs

-- the package length of so many bytes behind it
abbrev pub length_bytes : ℕ → Option (List ℕ)
length_bytes payload =
    if nat_le payload 268435451 then Some (shortest_pkg_length (package_number payload)) else None

-- what a call that puts some bytes in front of the old ones makes of them
abbrev pub Puts : {A : Type 0} → Result A WriteFault → Option (List ℕ) → List ℕ → List ℕ → Type 0
Puts (Ok _) bytes old new = option_append bytes (Some old) ≡ Some new
Puts (Err TooLong) bytes old new = bytes ≡ None
Puts (Err Memory) bytes old new = Unit {0}

-- a list of which all from the i-th element on is written
abbrev pub Ahead : {A : Type 0} → (A → Option (List ℕ)) → List A → ℕ → List ℕ → List ℕ → Type 0
Ahead f xs i old new =
    option_append (each_bytes f (take i xs)) (Some new) ≡ option_append (each_bytes f xs) (Some old)

-- a header with this length and checksum
abbrev pub header_bytes : Header → ℕ → ℕ → List ℕ
header_bytes h len checksum =
    h.signature
    ++ (little_bytes 4 len
    ++ (h.revision ∷ checksum
    ∷ (h.oem_id
    ++ (h.oem_table_id
    ++ (little_bytes 4 h.oem_revision ++ (h.creator_id ++ little_bytes 4 h.creator_revision))))))

-- what the types of a header's fields say
pub record HasWidths (h : Header) : Type 0 where
  pub signature : length h.signature ≡ 4
  pub oem_id : length h.oem_id ≡ 6
  pub oem_table_id : length h.oem_table_id ≡ 8
  pub oem_revision : h.oem_revision < 4294967296
  pub creator_id : length h.creator_id ≡ 4
  pub creator_revision : h.creator_revision < 4294967296
