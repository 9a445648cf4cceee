-- What the end of a table tells.
use Rattle.std.specs.Prelude.{◌≡◌, ℕ, List}
use Rattle.acpi_declare.specs.declared.fault.LoadFault.{LoadFault}
use Rattle.acpi_declare.specs.declared.fault.LoadFault.TheVariants as faults
use Rattle.acpi_pass.specs.Namespace.{Namespace}
use Rattle.acpi_declare.specs.Tables.{IsNumbered, code_of}
use Rattle.acpi_declare.specs.Refusals.{IsLoadReason}

-- the table of that number is refused over those objects
abbrev pub IsTableFault : ℕ → ℕ → Namespace → List ℕ → LoadFault → Type 0
IsTableFault depth number objects bytes (faults.At k reason) =
    (k ≡ number) × IsLoadReason depth number objects bytes reason
IsTableFault depth number objects bytes faults.Memory = Unit {0}

-- the code of a whole table with the signature of its number
pub record IsCodeOf (number : ℕ) (bytes code : List ℕ) : Type 0 where
  pub numbered : IsNumbered number bytes
  pub code_is : code ≡ code_of bytes
