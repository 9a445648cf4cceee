use Rattle.std.proofs.Common.{◌≡◌, take}
use Rattle.acpins_records.specs.Checks.{satisfied_from, satisfied_text}
use Rattle.acpins_records.proofs.check.satisfied_records.Given as goal

abbrev pub invariant-loop-triple : goal.invariant-loop-triple
invariant-loop-triple l = record {
  records : l.records.items ≡ satisfied_from 0 (take l.triple-index l.satisfied);
  text : l.text.items ≡ satisfied_text (take l.triple-index l.satisfied);
}
