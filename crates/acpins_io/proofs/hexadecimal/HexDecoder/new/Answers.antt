use Rattle.std.proofs.Common.{refl}
use Rattle.acpins_io.proofs.Decoding.{nothing_decoded}
use Rattle.acpins_io.proofs.hexadecimal.HexDecoder.new.Goals as goal

pub returns : goal.returns
returns c = nothing_decoded _ c.new.ensures.items refl
