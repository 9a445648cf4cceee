-- What decides how bytes are read as terms (ACPI 6.5, 20.2.5).
use Rattle.std.specs.Prelude.{ℕ, Bool, true, false, not, ◌||◌, Option}
use Rattle.acpi_name.specs.Names.{NameParts}
use Rattle.acpi_tree.specs.declared.op.Op.{Op}
use Rattle.acpi_tree.specs.Operators.{is_load}

-- how many values follow a name where it calls, or None where that isn't sure; and whether LoadTable, Load and Unload
-- may stand (20.2.5.4)
pub record Grammar : Type 0 where
  pub args : NameParts → Option ℕ
  pub loads : Bool

-- without LoadTable, Load and Unload, and with them
abbrev pub without_loads : (NameParts → Option ℕ) → Grammar
without_loads args = record { args = args; loads = false }

abbrev pub with_loads : (NameParts → Option ℕ) → Grammar
with_loads args = record { args = args; loads = true }

-- whether the operator may stand
abbrev pub is_allowed : Bool → Op → Bool
is_allowed loads op = loads || not (is_load op)
