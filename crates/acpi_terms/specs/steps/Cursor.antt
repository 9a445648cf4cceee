-- What a reader answers of what is left of a list, and what it leaves of it.
use Rattle.std.specs.Prelude.{◌≡◌, ℕ, List, Result, Ok, Err}
use Rattle.acpi_code.specs.steps.Remaining.{Remaining, Advances, DoesNotRewind}
use Rattle.acpi_code.specs.steps.Reading.{Reading}
use Rattle.acpi_terms.specs.declared.fault.ItemFault.{ItemFault}
use Rattle.acpi_terms.specs.declared.fault.ItemFault.TheVariants as errors
use Rattle.acpi_terms.specs.steps.Reading.{Fault}

-- the reading stops so, unless memory ran out
abbrev pub Fails : {Y : Type 0} → ItemFault → Result Y Fault → Type 0
Fails errors.Memory reading = Unit {0}
Fails (errors.At reason place) reading = reading ≡ Err (record { reason = reason; place = place })

-- a fault is told, which is no want of memory
abbrev pub FailsFree : {Y : Type 0} → ItemFault → Result Y Fault → Type 0
FailsFree errors.Memory reading = ⊥
FailsFree (errors.At reason place) reading =
    reading ≡ Err (record { reason = reason; place = place })

-- what a function returned, seen by `view`, is what the reading gives, unless memory ran out
abbrev pub Gives : {X Y : Type 0} → (X → Y) → Result X ItemFault → Result Y Fault → Type 0
Gives view (Ok x) reading = reading ≡ Ok (view x)
Gives view (Err e) reading = Fails e reading

-- What a reader answered, seen by `view`, is what the reading gives of the bytes that were left, and the
-- bytes behind it are left, which are fewer; unless memory ran out.
abbrev pub Reads : {X Y : Type 0} → (X → Y) → (ℕ → List ℕ → Reading Fault Y) → Remaining → Remaining
    → Result X ItemFault → Type 0
Reads view read old new (Ok x) = (read old.end old.bytes ≡ Ok (view x, new.bytes)) × Advances old new
Reads view read old new (Err e) = Fails e (read old.end old.bytes)

-- the same behind an opcode, where there may be nothing to read
abbrev pub ReadsOn : {X Y : Type 0} → (X → Y) → (ℕ → List ℕ → Reading Fault Y) → Remaining → Remaining
    → Result X ItemFault → Type 0
ReadsOn view read old new (Ok x) =
    (read old.end old.bytes ≡ Ok (view x, new.bytes)) × DoesNotRewind old new
ReadsOn view read old new (Err e) = Fails e (read old.end old.bytes)

-- as `Reads`, of a reader that takes no memory
abbrev pub Finds : {X Y : Type 0} → (X → Y) → (ℕ → List ℕ → Reading Fault Y) → Remaining → Remaining
    → Result X ItemFault → Type 0
Finds view read old new (Ok x) = (read old.end old.bytes ≡ Ok (view x, new.bytes)) × Advances old new
Finds view read old new (Err e) = FailsFree e (read old.end old.bytes)

-- all that was left was read
abbrev pub ReadsAll : {X Y : Type 0} → (X → Y) → (ℕ → List ℕ → Result Y Fault) → Remaining
    → Result X ItemFault → Type 0
ReadsAll view read old result = Gives view result (read old.end old.bytes)
