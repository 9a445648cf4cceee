-- The text of objects (ACPI 6.5, 5.3 and 20.2.5.2).
use Rattle.std.specs.Prelude.{ℕ, List, ◌++◌, Option, Some, None, codes, decimal}
use Rattle.acpi_tree.specs.Terms.{TermTree}
use Rattle.acpi_text.specs.Constants.{hex_digits}
use Rattle.acpi_text.specs.Objects.{object_text}
use Rattle.acpi_text.specs.Terms.{width_text}
use Rattle.acpi_text.specs.Terms.{term_text}
use Rattle.acpi_objects.specs.Objects.{ObjectParts, constant, named, region, table_region, alias, bank_unit, create, create_bits}

-- the data of a name
abbrev pub named_text : Option TermTree → List ℕ
named_text None = codes "Name ?"
named_text (Some v) = codes "Name " ++ term_text v

-- an object without its links; offsets and widths of field elements are in bits
abbrev pub parts_text : ObjectParts → List ℕ
parts_text (constant o) = object_text o
parts_text (named v) = named_text v
parts_text (region space offset length) = codes "OperationRegion space=" ++ hex_digits 2 space
    ++ codes " offset=" ++ term_text offset ++ codes " length=" ++ term_text length
parts_text (table_region signature oem_id oem_table_id) =
    codes "DataTableRegion signature=" ++ term_text signature ++ codes " oem=" ++ term_text oem_id
    ++ codes " table=" ++ term_text oem_table_id
parts_text alias = codes "Alias"
parts_text (bank_unit value flags offset bits) =
    codes "BankField offset=" ++ decimal offset ++ codes " bits=" ++ decimal bits ++ codes " flags="
    ++ hex_digits 2 flags ++ codes " value=" ++ term_text value
parts_text (create width source index) =
    codes "Create" ++ width_text width ++ codes "Field index=" ++ term_text index
parts_text (create_bits source index bits) =
    codes "CreateField index=" ++ term_text index ++ codes " bits=" ++ term_text bits

-- the source of a Create field, where it is no name
abbrev pub source_of : ObjectParts → Option TermTree
source_of (create width source index) = source
source_of (create_bits source index bits) = source
source_of _ = None
