-- Why tables can't be loaded, in words (docs/COMMAND.md).
use Rattle.std.specs.Prelude.{ℕ, ◌+◌, ◌-◌, ◌^◌, min, List, ◌++◌, codes, decimal}
use Rattle.acpi_name.specs.Text.{path_text}
use Rattle.acpi_table.specs.Texts.{table_fault_text}
use Rattle.acpi_terms.specs.declared.fault.ItemReason.{ItemReason}
use Rattle.acpi_terms.specs.declared.fault.ItemReason.TheVariants as items
use Rattle.acpi_pass.specs.declared.refusal.Refusal.{Refusal}
use Rattle.acpi_pass.specs.declared.refusal.Refusal.TheVariants as refusals
use Rattle.acpi_declare.specs.declared.fault.LoadReason.{LoadReason}
use Rattle.acpi_declare.specs.declared.fault.LoadReason.TheVariants as reasons

-- a place in a code, as one in its table, which has 36 bytes before it (5.2.6)
abbrev pub place_in_table : ℕ → ℕ
place_in_table place = min (place + 36) (2 ^ 64 - 1)

-- why a code can't be read
abbrev pub item_reason_text : ItemReason → List ℕ
item_reason_text items.Cut = codes "K1 Cut"
item_reason_text items.BadOpcode = codes "K2 BadOpcode"
item_reason_text items.ReservedBits = codes "K3 ReservedBits"
item_reason_text items.BadName = codes "K4 BadName"
item_reason_text items.Overrun = codes "K5 Overrun"
item_reason_text items.Computed = codes "K6 Computed"
item_reason_text items.Alias = codes "K7 Alias"
item_reason_text items.ModuleIf = codes "K8 ModuleIf"
item_reason_text items.ModuleCode = codes "K9 ModuleCode"
item_reason_text items.Load = codes "K10 Load"
item_reason_text items.NotData = codes "K11 NotData"
item_reason_text items.TooDeep = codes "K12 TooDeep"
item_reason_text items.BadString = codes "K13 BadString"
item_reason_text items.DataRegion = codes "K14 DataRegion"

-- why a declaration or a Scope term is refused
abbrev pub refusal_text : Refusal → List ℕ
refusal_text refusals.EmptyName = codes "E1 EmptyName"
refusal_text refusals.AboveRoot = codes "E2 AboveRoot"
refusal_text refusals.Missing = codes "E3 Missing"
refusal_text refusals.NoParent = codes "E4 NoParent"
refusal_text refusals.NotAScope = codes "E5 NotAScope"
refusal_text refusals.Taken = codes "E6 Taken"

-- why a table can't be loaded
abbrev pub load_reason_text : LoadReason → List ℕ
load_reason_text (reasons.Table fault) = table_fault_text fault
load_reason_text reasons.NotDsdt = codes "L1 NotDsdt"
load_reason_text reasons.NotSsdt = codes "L2 NotSsdt"
load_reason_text reasons.Trailing = codes "L3 Trailing"
load_reason_text (reasons.Item reason place) = item_reason_text reason
load_reason_text (reasons.Refused refusal path) =
    refusal_text refusal ++ codes " " ++ path_text path

-- .. with the place of a reason in its code, in the table
abbrev pub fault_text : LoadReason → List ℕ
fault_text (reasons.Item reason place) =
    item_reason_text reason ++ codes " at " ++ decimal (place_in_table place)
fault_text reason = load_reason_text reason
