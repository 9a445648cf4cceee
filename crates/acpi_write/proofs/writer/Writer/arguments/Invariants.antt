use Rattle.std.proofs.Common.{◌≡◌, ◌++◌, take}
use Rattle.acpi_write.specs.steps.Writing.{pieces, IsArgumentTyped}
use Rattle.acpi_write.proofs.Seen.{Behind}
use Rattle.acpi_write.proofs.writer.Writer.arguments.Given as goal

abbrev pub invariant-loop-i : goal.invariant-loop-i
invariant-loop-i l = (pieces (take l.i l.arguments) ++ l.self ≡ pieces l.arguments ++ l.initial.self) × Behind IsArgumentTyped l.arguments l.i
