-- What C sees of objects (ACPI 6.5, 5.3).
use Rattle.std.specs.Prelude.{ℕ, suc, ◌+◌, List, [], ◌∷◌, ◌++◌, length, Option, unwrap_or}
use Rattle.std.specs.List.{flat_map}
use Rattle.acpi_name.specs.Names.{Segment}
use Rattle.acpi_name.specs.Text.{path_text}
use Rattle.acpi_space.specs.Lookups.{Lookup}
use Rattle.acpi_tree.specs.Tree.{DataTree, int, str, buffer, pkg, var_pkg}
use Rattle.acpi_tree.specs.Objects.{ObjectTree, root_object, scope_object, predefined_object, device_object, processor_object, power_object, thermal_object, name_object, method_object, region_object, mutex_object, event_object, field_object, create_object, create_field_object}
use Rattle.acpi_tree.specs.declared.tree.Int.{Int}
use Rattle.acpi_tree.specs.declared.tree.Int.TheVariants.{Zero}
use Rattle.acpi_tree.specs.declared.tree.Width.{Width}
use Rattle.acpi_tree.specs.declared.tree.Width.TheVariants as widths
use Rattle.acpi_tree.specs.declared.object.FieldForm.{FieldForm}
use Rattle.acpi_tree.specs.declared.object.FieldForm.TheVariants as forms
use Rattle.acpi_text.specs.Lines.{line_text}
use Rattle.acpi_declare.specs.Links.{Links}
use Rattle.acpi_places.specs.declared.place.CodePlace.{CodePlace}
use Rattle.acpins_records.specs.Constants.{form_of, value_of}
use Rattle.acpins_records.specs.Parts.{data_parts, data_bytes, parts_in}
use Rattle.acpins_records.specs.Tree.{none}
use Rattle.acpins_records.specs.declared.parts.PartRecord.{PartRecord}
use Rattle.acpins_records.specs.declared.records.ObjectRecord.{ObjectRecord}

abbrev pub bits_of : Width → ℕ
bits_of widths.Bit = 1
bits_of widths.Byte = 8
bits_of widths.Word = 16
bits_of widths.DWord = 32
bits_of widths.QWord = 64

-- the value that selects the bank; Zero where there is no bank
abbrev pub bank_of : FieldForm → Int
bank_of (forms.Bank i) = i
bank_of _ = Zero

abbrev pub field_kind_of : FieldForm → ℕ
field_kind_of forms.Field = 12
field_kind_of forms.Index = 13
field_kind_of (forms.Bank i) = 14

abbrev pub kind_of : ObjectTree → ℕ
kind_of root_object = 0
kind_of scope_object = 1
kind_of predefined_object = 2
kind_of device_object = 3
kind_of (processor_object id block len) = 4
kind_of (power_object level order) = 5
kind_of thermal_object = 6
kind_of (name_object d) = 7
kind_of (method_object flags) = 8
kind_of (region_object space offset len) = 9
kind_of (mutex_object flags) = 10
kind_of event_object = 11
kind_of (field_object form flags offset bits) = field_kind_of form
kind_of (create_object width index) = 15
kind_of (create_field_object index bits) = 16

abbrev pub six : ℕ → ℕ → ℕ → ℕ → ℕ → ℕ → List ℕ
six a b c d e f = a ∷ b ∷ c ∷ d ∷ e ∷ f ∷ []

-- of data: which it is, and its constant or how many bytes or elements it holds
abbrev pub data_numbers : DataTree → List ℕ
data_numbers (int i) = six 0 (form_of i) (value_of i) 0 0 0
data_numbers (str bytes) = six 1 (length bytes) 0 0 0 0
data_numbers (buffer size bytes) = six 2 (form_of size) (value_of size) (length bytes) 0 0
data_numbers (pkg count es) = six 3 count 0 0 0 0
data_numbers (var_pkg count es) = six 4 (form_of count) (value_of count) 0 0 0

abbrev pub numbers_of : ObjectTree → List ℕ
numbers_of (processor_object id block len) = six id block len 0 0 0
numbers_of (power_object level order) = six level order 0 0 0 0
numbers_of (name_object d) = data_numbers d
numbers_of (method_object flags) = six flags 0 0 0 0 0
numbers_of (region_object space offset len) =
    six space (form_of offset) (value_of offset) (form_of len) (value_of len) 0
numbers_of (mutex_object flags) = six flags 0 0 0 0 0
numbers_of (field_object form flags offset bits) =
    six flags offset bits (form_of (bank_of form)) (value_of (bank_of form)) 0
numbers_of (create_object width index) = six (bits_of width) (form_of index) (value_of index) 0 0 0
numbers_of (create_field_object index bits) =
    six (form_of index) (value_of index) (form_of bits) (value_of bits) 0 0
numbers_of _ = six 0 0 0 0 0 0

-- ---- code

-- that of an object that has none
abbrev pub no_code : CodePlace
no_code = record { table = none; place = 0; length = 0 }

-- ---- data

-- the data of a Name; no other object has some
abbrev pub data_of : ObjectTree → List DataTree
data_of (name_object d) = d ∷ []
data_of _ = []

-- the parts of data, one behind the other
abbrev pub parts_from : (part byte : ℕ) → List DataTree → List PartRecord
parts_from part byte [] = []
parts_from part byte (d ∷ ds) =
    data_parts part byte d ++ parts_from (part + parts_in d) (byte + length (data_bytes d)) ds

-- .. and the bytes that they hold
abbrev pub bytes_of_data : List DataTree → List ℕ
bytes_of_data ds = flat_map data_bytes ds

-- the place of an object's data, if that place is next
abbrev pub part_of : ObjectTree → ℕ → ℕ
part_of (name_object d) part = part
part_of _ part = none

abbrev pub part_count : ObjectTree → ℕ
part_count (name_object d) = parts_in d
part_count _ = 0

-- ---- records

-- an object whose line begins at a place of the text, whose first target and whose data have places among those of all
abbrev pub record_of : (line target part parent below : ℕ) → List Segment → ObjectTree → Links
    → Option CodePlace → ObjectRecord
record_of line target part parent below path object own code = record {
  kind = kind_of object;
  line = line;
  line_length = length (line_text path object own);
  path_length = length (path_text path);
  target = target;
  targets = length own;
  numbers = numbers_of object;
  parent = parent;
  below = below;
  part = part_of object part;
  code_table = (unwrap_or code no_code).table;
  code_place = (unwrap_or code no_code).place;
  code_length = (unwrap_or code no_code).length;
}

-- the links of a path; none where it has none
abbrev pub own_links : Lookup Links → List Segment → Links
own_links links path = unwrap_or (links path) []

-- one record for each object, the first of which has place k: their lines, targets and parts one behind the other
abbrev pub records_from : (k line target part : ℕ) → (parents belows : ℕ → ℕ)
    → List (List Segment × ObjectTree) → Lookup Links → Lookup CodePlace → List ObjectRecord
records_from k line target part parents belows [] links codes = []
records_from k line target part parents belows (e ∷ es) links codes =
    record_of line target part (parents k) (belows k) e.0 e.1 (own_links links e.0) (codes e.0)
    ∷ records_from (suc k) (line + length (line_text e.0 e.1 (own_links links e.0)))
    (target + length (own_links links e.0)) (part + part_count e.1) parents belows es links codes
