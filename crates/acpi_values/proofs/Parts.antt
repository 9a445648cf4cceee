-- Readings of parts, with their faults as faults of bodies.
use Rattle.std.proofs.Common.{◌≡◌, ℕ, ◌<◌, List, length, Result, Ok, Err, refl, subst, ◌∙◌}
use Rattle.acpi_code.specs.declared.fault.CodeFault.{CodeFault}
use Rattle.acpi_code.specs.declared.fault.ConstantFault.{ConstantFault}
use Rattle.acpi_code.specs.declared.fault.FieldFault.{FieldFault}
use Rattle.acpi_code.specs.declared.fault.FieldFault.TheVariants as fields
use Rattle.acpi_code.specs.steps.Remaining.{Remaining}
use Rattle.acpi_code.specs.steps.Reading.{◌>>=◌, Reading, with_fault, each_at}
use Rattle.acpi_code.specs.steps.Cursor.{Stops}
use Rattle.acpi_code.proofs.Readings.{Judge}
use Rattle.acpi_code.proofs.Lists.{Turns, stopped}
use Rattle.acpi_values.specs.declared.fault.BodyFault.{BodyFault}
use Rattle.acpi_values.specs.declared.fault.BodyError.{BodyError}
use Rattle.acpi_values.specs.declared.fault.BodyError.TheVariants as stops
use Rattle.acpi_values.specs.Faults.{fault_of, constant_fault_of}
use Rattle.acpi_values.specs.steps.Cursor.{field_fault_of, Fails, Reads}
use Rattle.acpi_values.specs.steps.Reading.{part}

-- ---- as the code tells them

pub part_fails : {Y : Type 0} (f : CodeFault) (r : Result Y CodeFault) → r ≡ Err f → Fails (stops.Fault (fault_of f)) (part r)
part_fails f r h = rw h refl

pub field_fails : {Y : Type 0} (f : FieldFault) (r : Result Y ConstantFault) → Stops f r → Fails (field_fault_of f) (with_fault constant_fault_of r)
field_fails fields.Memory r h = tt
field_fails (fields.At f) r h = rw h refl

-- a fault goes on through what would follow
pub fails_on : {A B : Type 0} (e : BodyError) (r : Result A BodyFault) (f : A → Result B BodyFault) → Fails e r → Fails e (r >>= f)
fails_on stops.Memory r f fails = tt
fails_on (stops.Fault d) r f fails = rw fails refl

-- where one of a list fails, the list does
pub stopped_there : {A : Type 0} (one : ℕ → List ℕ → Reading BodyFault A) (first now : Remaining) (front : List A) (e : BodyError) → 0 < length now.bytes
    → Fails e (one now.end now.bytes) → Turns one first now front → Fails e (each_at (one first.end) first.bytes)
stopped_there one first now front stops.Memory some fails so = tt
stopped_there one first now front (stops.Fault f) some fails so = stopped one first now front f some fails so

-- the same of a reading that is equal there
pub reads_as : {X Y : Type 0} (view : X → Y) (r k : ℕ → List ℕ → Reading BodyFault Y) (old new : Remaining) (result : Result X BodyError)
    → k old.end old.bytes ≡ r old.end old.bytes → Reads view r old new result → Reads view k old new result
reads_as view r k old new (Ok x) e h = (e ∙ h.0, h.1)
reads_as view r k old new (Err stops.Memory) e h = tt
reads_as view r k old new (Err (stops.Fault f)) e h = e ∙ h

-- ---- as they are judged

pub good_of : {A F : Type 0} (Good : A → Type 0) (Bad : F → Type 0) (r : Result A F) (x : A) → Judge Good Bad r → r ≡ Ok x → Good x
good_of Good Bad r x h e = subst (Judge Good Bad) e h
