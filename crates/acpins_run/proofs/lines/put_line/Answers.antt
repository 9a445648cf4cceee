use Rattle.acpins_io.proofs.Telling.{tells_more}
use Rattle.acpins_run.proofs.lines.put_line.Goals as goal

pub returns : goal.returns
returns g c = tells_more _ _ _ _ _ _ _ _ (tells_more _ _ _ _ _ _ _ _ c.put_text.ensures c.put_failure.ensures) c.put_text-2.ensures
