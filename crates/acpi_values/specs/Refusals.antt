-- Why what begins at a place may not stand there (ACPI 6.5, 20.2.5).
use Rattle.std.specs.Prelude.{Bool, true, false, ◌||◌, Option, Some, None, if◌then◌else◌}
use Rattle.std.specs.Option.{unwrap_or}
use Rattle.acpi_tree.specs.declared.op.Op.{Op}
use Rattle.acpi_tree.specs.declared.place.Place.{Place}
use Rattle.acpi_tree.specs.declared.place.Place.TheVariants.{Value, SuperName, SimpleName, Element, Data, Statement, Source}
use Rattle.acpi_tree.specs.Operators.{is_expression, is_reference}
use Rattle.acpi_code.specs.declared.opcode.Opcode.{Opcode}
use Rattle.acpi_code.specs.declared.opcode.Opcode.TheVariants as opcodes
use Rattle.acpi_code.specs.Opcodes.{is_name_opcode, is_simple_name_opcode, is_data_opcode}
use Rattle.acpi_values.specs.Grammars.{is_allowed}
use Rattle.acpi_values.specs.declared.fault.BodyReason.{BodyReason}
use Rattle.acpi_values.specs.declared.fault.BodyReason.TheVariants.{BadOpcode, NotStatement, NotValue, NotTarget, LeftOut, NotData}

-- why an operator that has a value, or is a statement, may not stand
abbrev pub load_refusal : Bool → Op → Option BodyReason
load_refusal loads op = if is_allowed loads op then None else Some LeftOut

-- why no term of a body begins so, wherever it stands: it is no opcode, or only module level has it
abbrev pub general_refusal : Opcode → Option BodyReason
general_refusal opcodes.Nothing = Some BadOpcode
general_refusal opcodes.Scope = Some LeftOut
general_refusal opcodes.Method = Some LeftOut
general_refusal opcodes.External = Some LeftOut
general_refusal opcodes.Device = Some LeftOut
general_refusal opcodes.Processor = Some LeftOut
general_refusal opcodes.Power = Some LeftOut
general_refusal opcodes.Thermal = Some LeftOut
general_refusal opcodes.Alias = Some LeftOut
general_refusal opcodes.DataRegion = Some LeftOut
general_refusal _ = None

-- a value is data, a name, a Local, an Arg, or an operator that has a value
abbrev pub value_refusal : Bool → Opcode → Option BodyReason
value_refusal loads (opcodes.Operator op) =
    if is_expression op then load_refusal loads op else Some NotValue
value_refusal loads o = if is_data_opcode o || is_simple_name_opcode o then None else
    Some (unwrap_or (general_refusal o) NotValue)

-- SuperName := SimpleName | DebugObj | ReferenceTypeOpcode (20.2.2)
abbrev pub is_super_name_opcode : Opcode → Bool
is_super_name_opcode opcodes.Debug = true
is_super_name_opcode (opcodes.Operator op) = is_reference op
is_super_name_opcode o = is_simple_name_opcode o

-- a statement is an operator, or another term of a body but these
abbrev pub statement_refusal : Bool → Opcode → Option BodyReason
statement_refusal loads (opcodes.Operator op) = load_refusal loads op
statement_refusal loads (opcodes.Constant form) = Some NotStatement
statement_refusal loads opcodes.Str = Some NotStatement
statement_refusal loads (opcodes.Local n) = Some NotStatement
statement_refusal loads (opcodes.Arg n) = Some NotStatement
statement_refusal loads opcodes.Debug = Some NotStatement
statement_refusal loads opcodes.Else = Some NotStatement
statement_refusal loads o = general_refusal o

-- `loads` says whether LoadTable, Load and Unload may stand
abbrev pub refusal_at : Bool → Place → Opcode → Option BodyReason
refusal_at loads Value o = value_refusal loads o
refusal_at loads SuperName o = if is_super_name_opcode o then None else Some NotTarget
refusal_at loads SimpleName o = if is_simple_name_opcode o then None else Some NotTarget
refusal_at loads Element o = if is_data_opcode o || is_name_opcode o then None else Some NotData
refusal_at loads Data o = if is_data_opcode o then None else Some NotData
refusal_at loads Statement o = statement_refusal loads o
refusal_at loads Source o = value_refusal loads o

-- why no statement of a body begins so, whatever stands before it; an Else may belong to an If
abbrev pub never_begins : Bool → Opcode → Option BodyReason
never_begins loads opcodes.Else = None
never_begins loads o = statement_refusal loads o
