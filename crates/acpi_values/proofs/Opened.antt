-- What is read of a term, when its opcode was read.
use Rattle.std.proofs.Common.{◌≡◌, ℕ, zero, suc, ◌-◌, ◌<◌, List, Ok, Err, refl, arith}
use Rattle.acpi_tree.specs.declared.place.Place.{Place}
use Rattle.acpi_code.specs.declared.fault.CodeFault.{CodeFault}
use Rattle.acpi_code.specs.declared.opcode.Opcode.{Opcode}
use Rattle.acpi_code.specs.steps.Reading.{opcode_at}
use Rattle.acpi_values.specs.declared.fault.BodyError.TheVariants as stops
use Rattle.acpi_values.specs.Faults.{fault_of}
use Rattle.acpi_values.specs.Grammars.{Grammar}
use Rattle.acpi_values.specs.steps.Cursor.{Fails}
use Rattle.acpi_values.specs.steps.Reading.{placed_by, term_at}

pub term_opened : (grammar : Grammar) (level : ℕ) (place : Place) (end : ℕ) (bytes : List ℕ) (o : Opcode) (rest : List ℕ) → 0 < level → opcode_at end bytes ≡ Ok (o, rest)
    → term_at grammar level place end bytes ≡ placed_by grammar (term_at grammar (level - 1)) place end bytes o rest
unfolding term_at
term_opened grammar zero place end bytes o rest some e = absurd (omega arith)
term_opened grammar (suc level) place end bytes o rest some e = let less : suc level - 1 ≡ level = omega arith in rw (e, less) refl

pub term_unopened : (grammar : Grammar) (level : ℕ) (place : Place) (end : ℕ) (bytes : List ℕ) (f : CodeFault) → 0 < level
    → opcode_at end bytes ≡ Err f → Fails (stops.Fault (fault_of f)) (term_at grammar level place end bytes)
unfolding term_at
term_unopened grammar zero place end bytes f some e = absurd (omega arith)
term_unopened grammar (suc level) place end bytes f some e = rw e refl
