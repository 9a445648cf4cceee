-- What a reader answers of what is left of a list, and what it leaves of it.
use Rattle.std.specs.Prelude.{◌≡◌, ℕ, List, Result, Ok, Err}
use Rattle.acpi_code.specs.declared.fault.CodeFault.{CodeFault}
use Rattle.acpi_code.specs.declared.fault.ConstantFault.{ConstantFault}
use Rattle.acpi_code.specs.declared.fault.FieldFault.{FieldFault}
use Rattle.acpi_code.specs.declared.fault.FieldFault.TheVariants.{At, Memory}
use Rattle.acpi_code.specs.steps.Remaining.{Remaining, Advances, DoesNotRewind}
use Rattle.acpi_code.specs.steps.Reading.{Reading, package_at}

-- What a reader answered, seen by `view`, is what the reading gives of the bytes that were left, and the
-- bytes behind it are left, which are fewer. Where it failed, so does the reading. It takes no memory.
abbrev pub Finds : {F X Y : Type 0} → (X → Y) → (ℕ → List ℕ → Reading F Y) → Remaining → Remaining
    → Result X F → Type 0
Finds view read old new (Ok x) = (read old.end old.bytes ≡ Ok (view x, new.bytes)) × Advances old new
Finds view read old new (Err f) = read old.end old.bytes ≡ Err f

-- the same behind an opcode, where there may be nothing to read
abbrev pub FindsOn : {X Y : Type 0} → (X → Y) → (ℕ → List ℕ → Reading CodeFault Y) → Remaining → Remaining
    → Result X CodeFault → Type 0
FindsOn view read old new (Ok x) =
    (read old.end old.bytes ≡ Ok (view x, new.bytes)) × DoesNotRewind old new
FindsOn view read old new (Err f) = read old.end old.bytes ≡ Err f

-- a package was opened: its content is answered, and what is behind it is left
abbrev pub Opens : Remaining → Remaining → Result Remaining CodeFault → Type 0
Opens old new (Ok inner) =
    (package_at old.end old.bytes
    ≡ Ok (record { content = inner.bytes; end = inner.end; rest = new.bytes })) × Advances old new
Opens old new (Err f) = package_at old.end old.bytes ≡ Err f

-- ---- readers that take memory

-- the reading stops so, unless memory ran out
abbrev pub Stops : {Y : Type 0} → FieldFault → Result Y ConstantFault → Type 0
Stops Memory reading = Unit {0}
Stops (At f) reading = reading ≡ Err f

-- as `Finds`, unless memory ran out
abbrev pub Reads : {X Y : Type 0} → (X → Y) → (ℕ → List ℕ → Reading ConstantFault Y) → Remaining → Remaining
    → Result X FieldFault → Type 0
Reads view read old new (Ok x) = (read old.end old.bytes ≡ Ok (view x, new.bytes)) × Advances old new
Reads view read old new (Err e) = Stops e (read old.end old.bytes)

-- all that was left was read
abbrev pub ReadsAll : {X Y : Type 0} → (X → Y) → (ℕ → List ℕ → Result Y ConstantFault) → Remaining
    → Result X FieldFault → Type 0
ReadsAll view read old (Ok x) = read old.end old.bytes ≡ Ok (view x)
ReadsAll view read old (Err e) = Stops e (read old.end old.bytes)
