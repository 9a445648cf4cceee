use Rattle.acpins_io.proofs.Telling.{tells_more}
use Rattle.acpins_survey_run.proofs.lines.put_about.Goals as goal

pub returns : goal.returns
returns g c = tells_more _ _ _ _ _ _ _ _ (rw c.as_slice.ensures.value at c.write_part.ensures) c.put_text.ensures
