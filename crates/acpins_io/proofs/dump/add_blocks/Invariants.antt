use Rattle.std.proofs.Common.{◌≡◌, ◌++◌, map, drop}
use Rattle.acpins_io.specs.Dump.{blocks_of}
use Rattle.acpins_io.proofs.dump.add_blocks.Given as goal

abbrev pub invariant-loop-i : goal.invariant-loop-i
invariant-loop-i l =
    map (λ t. t.items) l.tables.items ++ blocks_of l.signature (map (λ line. line.now) (drop l.i l.lines))
    ≡ map (λ t. t.items) l.fn.tables.items ++ blocks_of l.signature (map (λ line. line.now) l.lines)
