use Rattle.std.proofs.Common.{◌≡◌, sym, ◌∙◌, ap, Err, [], append-nil}
use Rattle.std.proofs.lemmas.Result.{err_from_is_err_and}
use Rattle.acpins_io.specs.declared.hexadecimal.HexFault.TheVariants.{BadHex}
use Rattle.acpins_io.proofs.hexadecimal.from_hex.Goals as goal

pub returns-in_err-take_part-clause-none : goal.returns-in_err-take_part-clause-none
returns-in_err-take_part-clause-none c =
    let p = err_from_is_err_and c.from_residual.result c.from_residual.ensures.1 in
    λ e bytes h.
    let fault : p.0 ≡ BadHex = cc (sym p.1 ∙ e) in
    c.in_err-take_part.ensures.bad (ap Err (sym p.2 ∙ fault)) [] [] bytes (rw append-nil h)
