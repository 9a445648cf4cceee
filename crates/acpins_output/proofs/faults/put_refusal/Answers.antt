use Rattle.acpins_io.proofs.Telling.{tells_more}
use Rattle.acpins_output.proofs.faults.put_refusal.Goals as goal

pub returns : goal.returns
returns g c = tells_more _ _ _ _ _ _ _ _ (tells_more _ _ _ _ _ _ _ _ (rw c.refusal_word.ensures at c.put_text.ensures) c.put_text-2.ensures) c.put_path.ensures
