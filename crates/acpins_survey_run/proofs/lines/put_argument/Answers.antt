use Rattle.acpins_io.proofs.Telling.{tells_more}
use Rattle.acpins_survey_run.proofs.lines.put_argument.Goals as goal

pub returns-in-Some : goal.returns-in-Some
returns-in-Some g c = rw c.in-Some.is (tells_more _ _ _ _ _ _ _ _ c.put_text.ensures c.put_number.ensures)

pub returns-in-None : goal.returns-in-None
returns-in-None g c = rw c.in-None.is c.put_text-in-None.ensures
