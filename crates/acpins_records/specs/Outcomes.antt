-- How a call ended, as numbers (docs/LIBRARY.md).
use Rattle.std.specs.Prelude.{ℕ, List, [], length}
use Rattle.acpi_name.specs.Text.{path_text}
use Rattle.acpi_table.specs.declared.tables.TableFault.{TableFault}
use Rattle.acpi_table.specs.declared.tables.TableFault.TheVariants as faults
use Rattle.acpi_terms.specs.declared.fault.ItemReason.{ItemReason}
use Rattle.acpi_terms.specs.declared.fault.ItemReason.TheVariants as items
use Rattle.acpi_pass.specs.declared.refusal.Refusal.{Refusal}
use Rattle.acpi_pass.specs.declared.refusal.Refusal.TheVariants as refusals
use Rattle.acpi_declare.specs.declared.fault.LoadReason.{LoadReason}
use Rattle.acpi_declare.specs.declared.fault.LoadReason.TheVariants.{Table, NotDsdt, NotSsdt, Trailing, Item, Refused}
use Rattle.acpins_output.specs.FaultTexts.{place_in_table}
use Rattle.acpins_records.specs.declared.outcome.Outcome.{Outcome}
use Rattle.acpins_records.specs.Contents.{Contents}

-- a letter and a number: 0x5401 for T1
abbrev pub table_fault_code : TableFault → ℕ
table_fault_code faults.Short = 0x5401
table_fault_code faults.BadLength = 0x5402
table_fault_code faults.TooLong = 0x5403
table_fault_code faults.Cut = 0x5404
table_fault_code faults.BadSum = 0x5405

abbrev pub item_reason_code : ItemReason → ℕ
item_reason_code items.Cut = 0x4B01
item_reason_code items.BadOpcode = 0x4B02
item_reason_code items.ReservedBits = 0x4B03
item_reason_code items.BadName = 0x4B04
item_reason_code items.Overrun = 0x4B05
item_reason_code items.Computed = 0x4B06
item_reason_code items.Alias = 0x4B07
item_reason_code items.ModuleIf = 0x4B08
item_reason_code items.ModuleCode = 0x4B09
item_reason_code items.Load = 0x4B0A
item_reason_code items.NotData = 0x4B0B
item_reason_code items.TooDeep = 0x4B0C
item_reason_code items.BadString = 0x4B0D
item_reason_code items.DataRegion = 0x4B0E

abbrev pub refusal_code : Refusal → ℕ
refusal_code refusals.EmptyName = 0x4501
refusal_code refusals.AboveRoot = 0x4502
refusal_code refusals.Missing = 0x4503
refusal_code refusals.NoParent = 0x4504
refusal_code refusals.NotAScope = 0x4505
refusal_code refusals.Taken = 0x4506

abbrev pub reason_code : LoadReason → ℕ
reason_code (Table fault) = table_fault_code fault
reason_code NotDsdt = 0x4C01
reason_code NotSsdt = 0x4C02
reason_code Trailing = 0x4C03
reason_code (Item reason place) = item_reason_code reason
reason_code (Refused refusal path) = refusal_code refusal

-- from the table's first byte
abbrev pub place_of : LoadReason → ℕ
place_of (Item reason place) = place_in_table place
place_of _ = 0

-- the text of the path that a reason names; nothing where it names none
abbrev pub reason_path : LoadReason → List ℕ
reason_path (Refused refusal path) = path_text path
reason_path _ = []

-- nothing is said
abbrev pub no_outcome : Outcome
no_outcome =
    record {
      objects = 0;
      targets = 0;
      text = 0;
      parts = 0;
      bytes = 0;
      table = 0;
      reason = 0;
      place = 0;
    }

-- how much of each there is
abbrev pub counted : Contents → Outcome
counted c = record no_outcome {
  objects = length c.objects;
  targets = length c.targets;
  text = length c.text;
  parts = length c.parts;
  bytes = length c.bytes;
}

-- so many bytes of text
abbrev pub text_outcome : ℕ → Outcome
text_outcome n = record no_outcome { text = n }

-- so many bytes
abbrev pub bytes_outcome : ℕ → Outcome
bytes_outcome n = record no_outcome { bytes = n }

-- which table is refused, why and where, and how many bytes the path has that the refusal names
abbrev pub refused_as : (table : ℕ) → LoadReason → (text : ℕ) → Outcome
refused_as table reason text = record no_outcome {
  text = text;
  table = table;
  reason = reason_code reason;
  place = place_of reason;
}
