-- How names are used (ACPI 6.5, 20.2.5).
use Rattle.std.specs.Prelude.{Bool}
use Rattle.acpi_uses.specs.declared.role.Role.{Role}
use Rattle.acpi_uses.specs.declared.role.Role.TheVariants as roles
use Rattle.acpi_uses.specs.Roles.{resolve}
use Rattle.acpi_use_list.specs.declared.roles.UseRole.{UseRole}
use Rattle.acpi_use_list.specs.declared.roles.UseRole.TheVariants.{Call, Write, Notify, Wait, Test, Refer, Field, Scope, Read}

-- what the role of a name says that is no method
abbrev pub resolved_role : Role → UseRole
resolved_role roles.Call = Call
resolved_role roles.StatementCall = Call
resolved_role roles.Write = Write
resolved_role roles.Notify = Notify
resolved_role roles.Wait = Wait
resolved_role roles.Test = Test
resolved_role roles.Element = Refer
resolved_role roles.Refer = Refer
resolved_role roles.Field = Field
resolved_role roles.Source = Field
resolved_role roles.Scope = Scope
resolved_role roles.Statement = Read
resolved_role roles.Value = Read
resolved_role roles.Read = Read

abbrev pub use_role : (is_method : Bool) → Role → UseRole
use_role is_method role = resolved_role (resolve is_method role)
