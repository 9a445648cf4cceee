-- The role of a name by where it stands (ACPI 6.5, 20.2.5).
use Rattle.std.specs.Prelude.{Bool, true, false}
use Rattle.acpi_tree.specs.declared.op.Op.{Op}
use Rattle.acpi_tree.specs.declared.op.Op.TheVariants as op
use Rattle.acpi_tree.specs.declared.place.Place.TheVariants.{SuperName, SimpleName}
use Rattle.acpi_tree.specs.declared.place.OperandKind.{OperandKind}
use Rattle.acpi_tree.specs.declared.place.OperandKind.TheVariants.{At, Target}
use Rattle.acpi_tree.specs.Terms.{TermTrees, no_terms}
use Rattle.acpi_uses.specs.declared.role.Role.{Role}
use Rattle.acpi_uses.specs.declared.role.Role.TheVariants.{Statement, Value, Source, StatementCall, Call, Write, Notify, Wait, Test, Refer, Field, Read}

-- of a name that is the super name or simple name of an operator, which has at most one of these
abbrev pub name_role : Op → Role
name_role op.Store = Write
name_role op.CopyObject = Write
name_role op.Increment = Write
name_role op.Decrement = Write
name_role op.Notify = Notify
name_role op.Acquire = Wait
name_role op.Release = Wait
name_role op.Signal = Wait
name_role op.Wait = Wait
name_role op.Reset = Wait
name_role op.CondRefOf = Test
name_role op.RefOf = Refer
name_role _ = Read

-- of a name at an operand of the operator
abbrev pub role_at : Op → OperandKind → Role
role_at o (At SuperName) = name_role o
role_at o (At SimpleName) = name_role o
role_at o Target = Write
role_at o _ = Value

-- .. once it is known whether the name is that of a method: it is then called where it may be
abbrev pub resolve : Bool → Role → Role
resolve true Statement = Call
resolve true Value = Call
resolve true Source = Call
resolve false Statement = Read
resolve false Value = Read
resolve false Source = Field
resolve is_method StatementCall = Call
resolve is_method role = role

-- of a name that is never a call, where one would have the role
abbrev pub ref_role : Role → Role
ref_role Call = Read
ref_role StatementCall = Read
ref_role role = resolve false role

-- of a name that values follow
abbrev pub values_role : Role → Role
values_role Statement = StatementCall
values_role role = Call

-- of a name that may be a call, with the values that follow it
abbrev pub call_role : TermTrees → Role → Role
call_role no_terms Statement = Statement
call_role no_terms Source = Source
call_role no_terms role = Value
call_role values role = values_role role

-- the name is called for a value that is read: nothing reads that of a statement
abbrev pub reads_value : Bool → Role → Bool
reads_value is_method Call = true
reads_value is_method Value = is_method
reads_value is_method Source = is_method
reads_value is_method _ = false
