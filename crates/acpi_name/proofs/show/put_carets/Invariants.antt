use Rattle.std.proofs.Common.{replicate}
use Rattle.std.specs.Fmt.{HasWritten, IsPlainFormatter}
use Rattle.acpi_name.proofs.show.put_carets.Given as goal

abbrev pub invariant-loop : goal.invariant-loop
invariant-loop g l = IsPlainFormatter l.initial.f → HasWritten g.W.Write.write_str_gives l.initial.f (replicate l.counter 94) l.f
