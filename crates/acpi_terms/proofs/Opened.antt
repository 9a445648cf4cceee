-- What begins there decides the form, where a level is left.
use Rattle.std.proofs.Common.{◌≡◌, ℕ, zero, suc, ◌-◌, ◌<◌, List, Result, Ok, Err, refl, ◌∙◌, arith}
use Rattle.acpi_code.specs.declared.opcode.Opcode.{Opcode}
use Rattle.acpi_terms.specs.declared.fault.ItemFault.{ItemFault}
use Rattle.acpi_code.specs.steps.Remaining.{Remaining, Advances}
use Rattle.acpi_code.specs.steps.Reading.{Reading, opcode_at}
use Rattle.acpi_terms.specs.steps.Cursor.{Fails, Reads, ReadsOn}
use Rattle.acpi_terms.specs.steps.Reading.{Fault, elem_by, elems_with, elem_at, item_by, items_with, item_at}

pub elem_opened : (level end : ℕ) (bytes : List ℕ) (front : Opcode) (rest : List ℕ) → 0 < level → opcode_at end bytes ≡ Ok (front, rest)
    → elem_at level end bytes ≡ elem_by (elems_with (elem_at (level - 1))) (level - 1) end bytes front rest
unfolding elem_at
elem_opened zero end bytes front rest some opens = absurd (omega arith)
elem_opened (suc level) end bytes front rest some opens = let e : suc level - 1 ≡ level = omega arith in rw (opens, e) refl

pub item_opened : (level end : ℕ) (bytes : List ℕ) (front : Opcode) (rest : List ℕ) → 0 < level → opcode_at end bytes ≡ Ok (front, rest)
    → item_at level end bytes ≡ item_by (items_with (item_at (level - 1))) (level - 1) end bytes front rest
unfolding item_at
item_opened zero end bytes front rest some opens = absurd (omega arith)
item_opened (suc level) end bytes front rest some opens = let e : suc level - 1 ≡ level = omega arith in rw (opens, e) refl

-- another reading that gives the same
pub reads_as : {X Y : Type 0} (view : X → Y) (read other : ℕ → List ℕ → Reading Fault Y) (old new : Remaining) (r : Result X ItemFault) → other old.end old.bytes ≡ read old.end old.bytes
    → Reads view read old new r → Reads view other old new r
reads_as view read other old new (Ok x) e h = (e ∙ h.0, h.1)
reads_as view read other old new (Err f) e h = rw e h

pub reads_on_too : {X Y : Type 0} (view : X → Y) (read : ℕ → List ℕ → Reading Fault Y) (old new : Remaining) (r : Result X ItemFault) → Reads view read old new r → ReadsOn view read old new r
reads_on_too view read old new (Ok x) h = (h.0, record { same_end = h.1.same_end; at_most = omega (arith, h.1.less) })
reads_on_too view read old new (Err f) h = h

-- behind the opcode
pub reads_behind : {X Y : Type 0} (view : X → Y) (read by : ℕ → List ℕ → Reading Fault Y) (old mid new : Remaining) (r : Result X ItemFault) → read old.end old.bytes ≡ by mid.end mid.bytes
    → Advances old mid → ReadsOn view by mid new r → Reads view read old new r
reads_behind view read by old mid new (Ok x) e on h =
    (e ∙ h.0, record { same_end = h.1.same_end ∙ on.same_end; less = omega (arith, on.less, h.1.at_most) })
reads_behind view read by old mid new (Err f) e on h = rw e h

pub shorter_on : {old mid new : Remaining} → Advances old mid → Advances mid new → Advances old new
shorter_on on h = record { same_end = h.same_end ∙ on.same_end; less = omega (arith, on.less, h.less) }

pub fails_behind : {Y : Type 0} (e : ItemFault) (read by : Result Y Fault) → read ≡ by → Fails e by → Fails e read
fails_behind e read by same fails = rw same fails
