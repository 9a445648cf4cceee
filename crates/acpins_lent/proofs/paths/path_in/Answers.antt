use Rattle.acpins_lent.proofs.Ascii.{path_is_text}
use Rattle.acpins_lent.proofs.paths.path_in.Goals as goal

pub returns-in-Err-clause-bad : goal.returns-in-Err-clause-bad
returns-in-Err-clause-bad c is spelled = c.in-Err.ensures.cases.0 (path_is_text c.args.bytes.now spelled)
