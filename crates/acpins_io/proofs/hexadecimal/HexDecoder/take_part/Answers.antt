use Rattle.std.proofs.Common.{sym, ◌∙◌, ap, Err}
use Rattle.std.proofs.lemmas.Result.{err_from_is_err_and}
use Rattle.acpins_io.proofs.Decoding.{part_spells_nothing}
use Rattle.acpins_io.proofs.hexadecimal.HexDecoder.take_part.Goals as goal

pub returns-in_err-take-clause-bad : goal.returns-in_err-take-clause-bad
returns-in_err-take-clause-bad c =
    let p = err_from_is_err_and c.from_residual.result c.from_residual.ensures.1 in
    λ e. part_spells_nothing c.args.part.now c.loop-c.c-index c.loop-c-test.true (c.in_err-take.ensures.bad (ap Err (sym p.2) ∙ sym p.1 ∙ e))
