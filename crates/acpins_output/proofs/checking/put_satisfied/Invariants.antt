use Rattle.std.proofs.Common.{◌≡◌, ◌++◌, take}
use Rattle.std.specs.List.{flat_map}
use Rattle.acpins_output.specs.Checked.{satisfied_line}
use Rattle.acpins_output.proofs.checking.put_satisfied.Given as goal

abbrev pub invariant-loop-triple : goal.invariant-loop-triple
invariant-loop-triple l = l.text ≡ l.fn.text ++ flat_map satisfied_line (take l.triple-index l.satisfied)
