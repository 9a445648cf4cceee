-- What is read of a statement, when its opcode was read.
use Rattle.std.proofs.Common.{◌≡◌, ℕ, zero, suc, ◌-◌, ◌<◌, List, Ok, Err, refl, arith}
use Rattle.acpi_name.specs.Names.{Segment}
use Rattle.acpi_code.specs.declared.fault.CodeFault.{CodeFault}
use Rattle.acpi_code.specs.declared.opcode.Opcode.{Opcode}
use Rattle.acpi_code.specs.steps.Reading.{opcode_at}
use Rattle.acpi_values.specs.declared.fault.BodyError.TheVariants as stops
use Rattle.acpi_values.specs.Arguments.{Locals, BodyGrammar}
use Rattle.acpi_values.specs.Faults.{fault_of}
use Rattle.acpi_values.specs.steps.Cursor.{Fails}
use Rattle.acpi_values.specs.steps.Reading.{term_at}
use Rattle.acpi_body.specs.steps.Reading.{statement_by, statement_at, statements_at}

pub statement_opened : (args : BodyGrammar) (s : List Segment) (level : ℕ) (locals : Locals) (end : ℕ) (bytes : List ℕ) (o : Opcode) (rest : List ℕ) → 0 < level → opcode_at end bytes ≡ Ok (o, rest)
    → statement_at args s level locals end bytes ≡ statement_by (args locals) (term_at (args locals) (level - 1)) (statements_at args s (level - 1)) s locals end bytes o rest
unfolding statement_at
statement_opened args s zero locals end bytes o rest some e = absurd (omega arith)
statement_opened args s (suc level) locals end bytes o rest some e = let less : suc level - 1 ≡ level = omega arith in rw (e, less) refl

pub statement_unopened : (args : BodyGrammar) (s : List Segment) (level : ℕ) (locals : Locals) (end : ℕ) (bytes : List ℕ) (f : CodeFault) → 0 < level
    → opcode_at end bytes ≡ Err f → Fails (stops.Fault (fault_of f)) (statement_at args s level locals end bytes)
unfolding statement_at
statement_unopened args s zero locals end bytes f some e = absurd (omega arith)
statement_unopened args s (suc level) locals end bytes f some e = rw e refl
