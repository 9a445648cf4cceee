use Rattle.std.proofs.Common.{List, ℕ, ◌++◌, take}
use Rattle.acpins_io.specs.steps.HexDecoding.{IsDecoded}
use Rattle.acpins_io.proofs.hexadecimal.HexDecoder.take_part.Given as goal

abbrev pub invariant-loop-c : goal.invariant-loop-c
invariant-loop-c l = (text : List ℕ) → IsDecoded text l.fn.self → IsDecoded (text ++ take l.c-index l.part) l.self
