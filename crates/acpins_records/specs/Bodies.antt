-- What is written of the body of one method (docs/LIBRARY.md).
use Rattle.std.specs.Prelude.{◌≡◌, ◌<◌, ℕ, List, [], length, Option, Some, None}
use Rattle.acpi_name.specs.Names.{Segment}
use Rattle.acpi_name.specs.Text.{SpellsPathText}
use Rattle.acpi_body.specs.Bodies.{BodyTree, read, unread}
use Rattle.acpi_values.specs.declared.fault.BodyFault.{BodyFault}
use Rattle.acpi_values.specs.declared.fault.BodyReason.{BodyReason}
use Rattle.acpi_values.specs.declared.fault.BodyReason.TheVariants.{Cut, BadOpcode, ReservedBits, BadName, Overrun, NotStatement, NotValue, NotTarget, LeftOut, BadString, TooDeep, NotData, BadPlace, Unsure}
use Rattle.acpi_machine.specs.Explaining.{IsExplained}
use Rattle.acpi_order.specs.Machines.{Machine, IsMachine}
use Rattle.acpi_text.specs.Terms.{statements_text}
use Rattle.acpins_records.specs.declared.body.BodyRecord.{BodyRecord}
use Rattle.acpins_records.specs.declared.outcome.Outcome.{Outcome}
use Rattle.acpins_records.specs.Outcomes.{text_outcome}
use Rattle.acpins_records.specs.Written.{IsFront}

-- a letter and a number: 0x4201 for B1
abbrev pub body_reason_code : BodyReason → ℕ
body_reason_code Cut = 0x4201
body_reason_code BadOpcode = 0x4202
body_reason_code ReservedBits = 0x4203
body_reason_code BadName = 0x4204
body_reason_code Overrun = 0x4205
body_reason_code NotStatement = 0x4206
body_reason_code NotValue = 0x4207
body_reason_code NotTarget = 0x4208
body_reason_code LeftOut = 0x4209
body_reason_code BadString = 0x420A
body_reason_code TooDeep = 0x420B
body_reason_code NotData = 0x420C
body_reason_code BadPlace = 0x420D
body_reason_code Unsure = 0x5305

-- a body that is read
abbrev pub read_record : BodyRecord
read_record = record { is_read = 1; reason = 0; place = 0 }

-- .. and one that isn't, with the reason and its offset
abbrev pub unread_record : Option BodyFault → BodyRecord
unread_record (Some f) = record { is_read = 0; reason = body_reason_code f.reason; place = f.place }
unread_record None = record { is_read = 0; reason = 0; place = 0 }

-- the text is the statements of the body, or its bytes where it can't be read, and the record says which
abbrev pub GivesBody : ℕ → List (List ℕ) → List Segment → BodyTree → BodyRecord → List ℕ → Type 0
GivesBody depth tables path (read ts) r text = (r ≡ read_record) × (text ≡ statements_text [] ts)
GivesBody depth tables path (unread bytes) r text = (w : Option BodyFault)
    × IsExplained depth tables path w × (r ≡ unread_record w) × (text ≡ bytes)

-- .. of the body at the path, of the machine to which the tables load
pub record IsBodyAt (depth : ℕ) (tables : List (List ℕ)) (path : List Segment) (r : BodyRecord)
    (text : List ℕ) : Type 0 where
  pub machine : Machine
  pub loads : IsMachine depth tables machine
  pub body : BodyTree
  pub there : machine.bodies path ≡ Some body
  pub gives : GivesBody depth tables path body r text

-- the body at the path that the bytes spell stands at the front of the text
pub record IsBodyWritten (depth : ℕ) (tables : List (List ℕ)) (spelled old new : List ℕ)
    (r : BodyRecord) (outcome : Outcome) : Type 0 where
  pub path : List Segment
  pub spells : SpellsPathText path spelled
  pub text : List ℕ
  pub is_body : IsBodyAt depth tables path r text
  pub front : IsFront text old new
  pub outcome_is : outcome ≡ text_outcome (length text)

-- .. has no room there
pub record NeedsText (depth : ℕ) (tables : List (List ℕ)) (spelled old : List ℕ) (r : BodyRecord)
    (outcome : Outcome) : Type 0 where
  pub path : List Segment
  pub spells : SpellsPathText path spelled
  pub text : List ℕ
  pub is_body : IsBodyAt depth tables path r text
  pub short : length old < length text
  pub outcome_is : outcome ≡ text_outcome (length text)

-- the tables load, and none of them declares a method at the path that the bytes spell
pub record HasNoMethod (depth : ℕ) (tables : List (List ℕ)) (spelled : List ℕ) : Type 0 where
  pub path : List Segment
  pub spells : SpellsPathText path spelled
  pub machine : Machine
  pub loads : IsMachine depth tables machine
  pub none : machine.bodies path ≡ None
