use Rattle.acpi_name.proofs.SegmentLoop.{SoFar}
use Rattle.acpi_name.proofs.reading.segments.Given as goal

abbrev pub invariant-loop : goal.invariant-loop
invariant-loop l = SoFar l.count l.counter l.bytes l.rest
