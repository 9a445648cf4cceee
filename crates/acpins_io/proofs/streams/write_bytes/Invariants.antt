use Rattle.std.proofs.Common.{◌≤◌, length, take}
use Rattle.std.specs.Io.KnownBytes.{Appends}
use Rattle.acpins_io.proofs.streams.write_bytes.Given as goal

abbrev pub invariant-loop : goal.invariant-loop
invariant-loop g l = (l.written ≤ length l.bytes) × Appends (g.W.StreamWriter.contents l.initial.stream) (g.W.StreamWriter.contents l.stream) (take l.written l.bytes)
