use Rattle.std.proofs.Common.{◌≡◌, ◌++◌, take}
use Rattle.std.specs.List.{flat_map}
use Rattle.text_buffer.proofs.text.put_each.Given as goal

abbrev pub invariant-loop-byte : goal.invariant-loop-byte
invariant-loop-byte g l = l.text ≡ l.initial.text ++ flat_map g.S.Spelled.spelled (take l.byte-index l.bytes)
