-- What a reader answers of what is left of a list, and what it leaves of it.
use Rattle.std.specs.Prelude.{◌≡◌, ℕ, List, Result, Ok, Err}
use Rattle.acpi_code.specs.declared.fault.FieldFault.{FieldFault}
use Rattle.acpi_code.specs.declared.fault.FieldFault.TheVariants as fields
use Rattle.acpi_code.specs.steps.Remaining.{Remaining, Advances, DoesNotRewind}
use Rattle.acpi_code.specs.steps.Reading.{Reading}
use Rattle.acpi_values.specs.declared.fault.BodyFault.{BodyFault}
use Rattle.acpi_values.specs.declared.fault.BodyError.{BodyError}
use Rattle.acpi_values.specs.declared.fault.BodyError.TheVariants as stops
use Rattle.acpi_values.specs.Faults.{constant_fault_of}

-- the fault of field elements, as one of bodies
abbrev pub field_fault_of : FieldFault → BodyError
field_fault_of (fields.At f) = stops.Fault (constant_fault_of f)
field_fault_of fields.Memory = stops.Memory

-- the reading stops so, unless memory ran out
abbrev pub Fails : {Y : Type 0} → BodyError → Result Y BodyFault → Type 0
Fails stops.Memory reading = Unit {0}
Fails (stops.Fault f) reading = reading ≡ Err f

-- what a function returned, seen by `view`, is what the reading gives, unless memory ran out
abbrev pub Gives : {X Y : Type 0} → (X → Y) → Result X BodyError → Result Y BodyFault → Type 0
Gives view (Ok x) reading = reading ≡ Ok (view x)
Gives view (Err e) reading = Fails e reading

-- What a reader answered, seen by `view`, is what the reading gives of the bytes that were left, and the bytes behind
-- it are left, which are fewer; unless memory ran out.
abbrev pub Reads : {X Y : Type 0} → (X → Y) → (ℕ → List ℕ → Reading BodyFault Y) → Remaining → Remaining
    → Result X BodyError → Type 0
Reads view read old new (Ok x) = (read old.end old.bytes ≡ Ok (view x, new.bytes)) × Advances old new
Reads view read old new (Err e) = Fails e (read old.end old.bytes)

-- the same, where there may be nothing to read
abbrev pub ReadsOn : {X Y : Type 0} → (X → Y) → (ℕ → List ℕ → Reading BodyFault Y) → Remaining → Remaining
    → Result X BodyError → Type 0
ReadsOn view read old new (Ok x) =
    (read old.end old.bytes ≡ Ok (view x, new.bytes)) × DoesNotRewind old new
ReadsOn view read old new (Err e) = Fails e (read old.end old.bytes)

-- all that was left was read
abbrev pub ReadsAll : {X Y : Type 0} → (X → Y) → (ℕ → List ℕ → Result Y BodyFault) → Remaining
    → Result X BodyError → Type 0
ReadsAll view read old result = Gives view result (read old.end old.bytes)
