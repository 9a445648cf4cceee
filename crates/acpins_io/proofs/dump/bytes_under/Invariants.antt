use Rattle.std.proofs.Common.{◌≡◌, ◌++◌, map, drop}
use Rattle.acpins_io.specs.Dump.{bytes_under}
use Rattle.acpins_io.proofs.dump.bytes_under.Given as goal

abbrev pub invariant-loop-line : goal.invariant-loop-line
invariant-loop-line l = l.bytes.items ++ bytes_under (map (λ line. line.now) (drop l.line-index l.lines)) ≡ bytes_under (map (λ line. line.now) l.lines)
