-- Why a body can't be read, in words.
use Rattle.std.specs.Prelude.{ℕ, List, codes}
use Rattle.acpi_values.specs.declared.fault.BodyReason.{BodyReason}
use Rattle.acpi_values.specs.declared.fault.BodyReason.TheVariants.{Cut, BadOpcode, ReservedBits, BadName, Overrun, NotStatement, NotValue, NotTarget, LeftOut, BadString, TooDeep, NotData, BadPlace, Unsure}

-- of a body that can't be read (ACPI 6.5, 20.2.5)
abbrev pub body_reason_text : BodyReason → List ℕ
body_reason_text Cut = codes "B1 Cut"
body_reason_text BadOpcode = codes "B2 BadOpcode"
body_reason_text ReservedBits = codes "B3 ReservedBits"
body_reason_text BadName = codes "B4 BadName"
body_reason_text Overrun = codes "B5 Overrun"
body_reason_text NotStatement = codes "B6 NotStatement"
body_reason_text NotValue = codes "B7 NotValue"
body_reason_text NotTarget = codes "B8 NotTarget"
body_reason_text LeftOut = codes "B9 LeftOut"
body_reason_text BadString = codes "B10 BadString"
body_reason_text TooDeep = codes "B11 TooDeep"
body_reason_text NotData = codes "B12 NotData"
body_reason_text BadPlace = codes "B13 BadPlace"
body_reason_text Unsure = codes "S5 UnsureCount"
