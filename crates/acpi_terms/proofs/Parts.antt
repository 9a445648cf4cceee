-- Readings of parts, with their faults as faults of items.
use Rattle.std.proofs.Common.{◌≡◌, ℕ, ◌<◌, List, length, Result, Err, refl}
use Rattle.acpi_code.specs.declared.fault.CodeFault.{CodeFault}
use Rattle.acpi_code.specs.declared.fault.ConstantFault.{ConstantFault}
use Rattle.acpi_code.specs.declared.fault.ConstantFault.TheVariants.{Part, NotConstant}
use Rattle.acpi_code.specs.declared.fault.FieldFault.{FieldFault}
use Rattle.acpi_code.specs.declared.fault.FieldFault.TheVariants as fields
use Rattle.acpi_code.specs.steps.Remaining.{Remaining}
use Rattle.acpi_code.specs.steps.Reading.{◌>>=◌, Reading, with_fault, each_at}
use Rattle.acpi_code.specs.steps.Cursor.{Stops}
use Rattle.acpi_code.proofs.Lists.{Turns, stopped}
use Rattle.acpi_terms.specs.declared.fault.ItemFault.{ItemFault}
use Rattle.acpi_terms.specs.declared.fault.ItemFault.TheVariants as errors
use Rattle.acpi_terms.specs.Faults.{fault_of, constant_fault_of, field_fault_of}
use Rattle.acpi_terms.specs.steps.Cursor.{Fails, FailsFree}
use Rattle.acpi_terms.specs.steps.Reading.{Fault, part, constant_fault}

-- ---- as the code tells them

pub part_fails : {Y : Type 0} (f : CodeFault) (r : Result Y CodeFault) → r ≡ Err f → Fails (fault_of f) (part r)
part_fails f r h = rw h refl

pub part_fails_free : {Y : Type 0} (f : CodeFault) (r : Result Y CodeFault) → r ≡ Err f → FailsFree (fault_of f) (part r)
part_fails_free f r h = rw h refl

pub constant_fails_free : {Y : Type 0} (f : ConstantFault) (r : Result Y ConstantFault) → r ≡ Err f → FailsFree (constant_fault_of f) (with_fault constant_fault r)
constant_fails_free (Part f) r h = rw h refl
constant_fails_free (NotConstant opcode place) r h = rw h refl

pub field_fails : {Y : Type 0} (f : FieldFault) (r : Result Y ConstantFault) → Stops f r → Fails (field_fault_of f) (with_fault constant_fault r)
field_fails fields.Memory r h = tt
field_fails (fields.At (Part f)) r h = rw h refl
field_fails (fields.At (NotConstant opcode place)) r h = rw h refl

-- a fault goes on through what would follow
pub fails_on : {A B : Type 0} (e : ItemFault) (r : Result A Fault) (f : A → Result B Fault) → Fails e r → Fails e (r >>= f)
fails_on errors.Memory r f fails = tt
fails_on (errors.At why place) r f fails = rw fails refl

-- where one of a list fails, the list does
pub stopped_there : {A : Type 0} (one : ℕ → List ℕ → Reading Fault A) (first now : Remaining) (front : List A) (e : ItemFault) → 0 < length now.bytes
    → Fails e (one now.end now.bytes) → Turns one first now front → Fails e (each_at (one first.end) first.bytes)
stopped_there one first now front errors.Memory some fails so = tt
stopped_there one first now front (errors.At why place) some fails so = stopped one first now front (record { reason = why; place = place }) some fails so
