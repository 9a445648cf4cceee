-- Tables as values of JSON (ACPI 6.5, 5.2.6).
use Rattle.std.specs.Prelude.{◌+◌, ℕ, nat_eq, nat_lt, true, false, if◌then◌else◌, List, [], ◌∷◌, length, Result, Ok, Err, codes}
use Rattle.std.specs.List.{flat_map}
use Rattle.acpi_table.specs.Tables.{header_of, table_at}
use Rattle.acpi_table.specs.declared.tables.Header.{Header}
use Rattle.acpi_table.specs.declared.tables.TableFault.{TableFault}
use Rattle.acpi_table.specs.declared.tables.TableFault.TheVariants.{BadSum}
use Rattle.acpi_text.specs.Constants.{char_text}
use Rattle.acpi_survey.specs.declared.machine_survey.SurveyedTable.{SurveyedTable}
use Rattle.acpins_survey_json.specs.Json.{Value, null, boolean, string, object, Members, no_members, member, Values, no_values, value}
use Rattle.acpins_survey_json.specs.JsonValues.{number_value}

-- ---- the header

abbrev pub unless_last_zero : ℕ → List ℕ → List ℕ
unless_last_zero b [] = if nat_eq b 0 then [] else b ∷ []
unless_last_zero b (c ∷ cs) = b ∷ c ∷ cs

-- bytes without those that are 0 at their end
abbrev pub without_zeros : List ℕ → List ℕ
without_zeros [] = []
without_zeros (b ∷ bs) = unless_last_zero b (without_zeros bs)

-- a text of the header, in printed form
abbrev pub label_value : List ℕ → Value
label_value bytes = string (flat_map char_text (without_zeros bytes))

-- the fields of a header, before other members
abbrev pub header_members : Header → Members → Members
header_members h ms =
    member (codes "signature") (label_value h.signature)
    (member (codes "length") (number_value h.length)
    (member (codes "revision") (number_value h.revision)
    (member (codes "oem_id") (label_value h.oem_id)
    (member (codes "oem_table_id") (label_value h.oem_table_id)
    (member (codes "oem_revision") (number_value h.oem_revision)
    (member (codes "creator_id") (label_value h.creator_id)
    (member (codes "creator_revision") (number_value h.creator_revision) ms)))))))

-- there is no header
abbrev pub null_members : Members → Members
null_members ms =
    member (codes "signature") null
    (member (codes "length") null
    (member (codes "revision") null
    (member (codes "oem_id") null (member (codes "oem_table_id") null
    (member (codes "oem_revision") null
    (member (codes "creator_id") null (member (codes "creator_revision") null ms)))))))

abbrev pub front_members : List ℕ → Members → Members
front_members bytes ms =
    if nat_lt (length bytes) 36 then null_members ms else header_members (header_of bytes) ms

-- ---- tables

-- whether the bytes of a table sum to 0, where all of it is there
abbrev pub sum_value : {X : Type 0} → Result X TableFault → Value
sum_value (Ok x) = boolean true
sum_value (Err BadSum) = boolean false
sum_value (Err _) = null

abbrev pub table_value : (number : ℕ) → List ℕ → Value
table_value number bytes =
    object (member (codes "table") (number_value number) (front_members bytes
    (member (codes "bytes") (number_value (length bytes))
    (member (codes "checksum_good") (sum_value (table_at bytes)) no_members))))

-- tables from a number on
abbrev pub table_values : (number : ℕ) → List SurveyedTable → Values
table_values number [] = no_values
table_values number (t ∷ ts) = value (table_value number t.bytes) (table_values (number + 1) ts)
