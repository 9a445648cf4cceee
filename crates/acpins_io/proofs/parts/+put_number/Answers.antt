use Rattle.std.proofs.Common.{◌<◌, ◌^◌, arith}
use Rattle.std.proofs.lemmas.Fmt.{decimal_digit, decimal_step}
use Rattle.acpins_io.proofs.Telling.{tells_more}
use Rattle.acpins_io.proofs.parts.+put_number.Goals as goal

pub returns-then-n-ge10 : goal.returns-then-n-ge10
returns-then-n-ge10 g t c =
    let small : c.args.n < 2 ^ 64 = omega arith in
    rw (decimal_step c.args.n c.if-n-ge10.true small) (tells_more _ _ _ _ _ _ _ _ c.put_number.ensures c.write_part.ensures)

pub returns-else-n-ge10 : goal.returns-else-n-ge10
returns-else-n-ge10 g t c = rw (decimal_digit c.args.n c.if-n-ge10.false) c.write_part-else-n-ge10.ensures
