use Rattle.std.proofs.Common.{◌≡◌, drop}
use Rattle.acpins_io.specs.Dump.{behind_offset}
use Rattle.acpins_io.proofs.dump.behind_offset.Given as goal

abbrev pub invariant-loop-i : goal.invariant-loop-i
invariant-loop-i l = behind_offset (drop l.i l.line) ≡ behind_offset l.line
